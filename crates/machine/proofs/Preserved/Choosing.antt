-- Choosing makes a Mid state Sound.
use Prim.Native.Nat.{ℕ, ◌≤◌, ◌<◌}
use mathlib.Core.Path.{◌≡◌, refl, subst}
use mathlib.Core.Logic.{inl}
use mathlib.Core.Option.{Option, none, some}
use mathlib.Core.List.{List, [], ◌∷◌}
use native.Mathlib.Omega.{arith}
use Rattle.machine.specs.Lists.{put, Mem}
use Rattle.machine.specs.State.{State, set_runs, set_level}
use Rattle.machine.specs.Scheduling.{enqueue_first, stand_back, choose}
use Rattle.machine.specs.Sound.{Sound, Chosen, Ready}
use Rattle.machine.specs.Mid.{Mid}
use Rattle.machine.proofs.Lists.{put_same}
use Rattle.machine.proofs.Running.{Dispatched, idle, head, Choice, nobody, displaced, goes_on, choice, empty}
use Rattle.machine.proofs.Running.{back_other}
use Rattle.machine.proofs.Preserved.Mid.{sound_mid}
use Rattle.machine.proofs.Preserved.Parts.{Levels, parts, whole}
use Rattle.machine.proofs.Preserved.Ready.{put_else, none_some, some_one, levels_run}
use Rattle.machine.proofs.Preserved.Sites.{differ}
use Rattle.machine.proofs.Preserved.Waking.{mid_stand_back}

module _ (s : State) (M : Mid s) where
  -- A ready thread is at most at a level above which all are empty.
  -- The level of a ready thread is one of the 256, and not empty.
  occupied :
      (u : ℕ) → Ready s u → ((s.threads u).priority ≤ 255) × (s.levels (s.threads u).priority ≡ [] → ⊥)
  occupied u r =
      let k = (s.threads u).priority in
      ((M.ranges.numbers u (λ e. differ r.0 e refl)).priority, λ e. empty u e ((M.queues.ready u k).1 (r, refl)))

  ready_under :
      (p u : ℕ) → ((k : ℕ) → k ≤ 255 → p < k → s.levels k ≡ []) → Ready s u → (s.threads u).priority ≤ p
  ready_under p u h r =
      let k = (s.threads u).priority in
      let there = occupied u r in
      let not_above : p < k → ⊥ = λ l. there.1 (h k there.0 l) in
      omega (arith, not_above)

  none_ready : (u : ℕ) → ((p : ℕ) → p ≤ 255 → s.levels p ≡ []) → Ready s u → ⊥
  none_ready u h r = let there = occupied u r in there.1 (h (s.threads u).priority there.0)

  -- The head of a queue is ready, at that level.
  head_ready : (p t : ℕ) (q : List ℕ) → s.levels p ≡ t ∷ q → Ready s t × ((s.threads t).priority ≡ p)
  head_ready p t q e = (M.queues.ready t p).0 (rw e (inl refl))

chosen_sound : {s : State} → Mid s → Chosen s → Sound s
chosen_sound M C =
    record {
      ranges = M.ranges;
      queues = M.queues;
      chosen = C;
      statuses = M.statuses;
      marks = M.marks;
      members = M.members;
      outcomes = M.outcomes;
    }

-- The head t of level p runs.
mid_head :
    (s : State) (p t : ℕ) (q : List ℕ) → Mid s → s.runs ≡ none → s.levels p ≡ t ∷ q
    → Mid (set_runs (some t) (set_level p q s))
mid_head s p t q M r e =
    let P = parts M in
    whole
    (record {
      entry = P.entry;
      site = P.site;
      levels =
          levels_run (put s.levels p q) p t q
          (subst (λ (o : Option ℕ). Levels s.threads o s.levels) r P.levels) e (put_same s.levels p q)
          (put_else s.levels p q);
      lines = P.lines;
      sets = P.sets;
    })

dispatched_sound : {s r : State} → Mid s → s.runs ≡ none → Dispatched s r → Sound r
dispatched_sound {s} M r (idle h) =
    chosen_sound M
    (record { none_above = λ t u k. absurd (none_some r k); none_ready = λ _ u. none_ready s M u h })
dispatched_sound {s} M r (head p t q b e h) =
    let t_at = (head_ready s M p t q e).1 in
    chosen_sound (mid_head s p t q M r e)
    (record {
      none_above =
          λ v u i k. let j : v ≡ t = some_one i refl in
          rw (j, t_at) (ready_under s M p u h (k.0, λ y. none_some r y));
      none_ready = λ i. absurd (none_some i refl);
    })

-- The running thread t, with no level above it occupied, goes on.
stay_chosen :
    (s : State) (t : ℕ) → s.runs ≡ some t → ((u : ℕ) → Ready s u → (s.threads u).priority ≤ (s.threads t).priority)
    → Chosen s
stay_chosen s t r top =
    record {
      none_above = λ v u h k. let i : v ≡ t = some_one h r in rw i (top u k);
      none_ready = λ h. absurd (none_some h r);
    }

stood : (s : State) (t : ℕ) → (stand_back t s).runs ≡ none
unfolding stand_back enqueue_first
stood s t = refl

-- After each accepted call: if nobody runs, or a level above the running thread's is occupied, the head of the highest
-- queue runs.
pub choose_sound : (s : State) → Mid s → Sound (choose s)
choose_sound s M = go s.runs refl (choice s)
  where
    go : {r : State} (o : Option ℕ) → s.runs ≡ o → Choice s o r → Sound r
    go none e (nobody D) = dispatched_sound M e D
    go (some t) e (displaced u p b l m D) = dispatched_sound (mid_stand_back s t M e) (stood s t) D
    go (some t) e (goes_on h) =
        chosen_sound M (stay_chosen s t e (λ u k. ready_under s M (s.threads t).priority u h k))

-- Nobody ready is above the running thread; none is ready if none runs.
pub choose_chosen : (s : State) → Mid s → Chosen (choose s)
choose_chosen s M = (choose_sound s M).chosen

-- Only a level strictly above displaces.
pub only_above :
    (s : State) (t u : ℕ) → Mid s → s.runs ≡ some t → (choose s).runs ≡ some u → (u ≡ t → ⊥)
    → (s.threads t).priority < (s.threads u).priority
unfolding stand_back enqueue_first
only_above s t u M runs h n = go (subst (λ (o : Option ℕ). Choice s o (choose s)) runs (choice s)) h
  where
    -- Level p, above t, is occupied when the displaced t has stood back.
    above :
        {r : State} (v p : ℕ) → p ≤ 255 → (s.threads t).priority < p → Mem v (s.levels p)
        → Dispatched (stand_back t s) r → r.runs ≡ some u → (s.threads t).priority < (s.threads u).priority
    above v p b l m (idle e) k = absurd (none_some refl k)
    above v p b l m (head q x y c f g) k =
        let i : x ≡ u = some_one refl k in
        let at_q = (head_ready (stand_back t s) (mid_stand_back s t M runs) q x y f).1 in
        let stays = back_other t p s (omega arith) in
        let z : q < p → ⊥ = λ j. empty v (g p b j) (rw stays m) in
        let y : (s.threads t).priority < (s.threads x).priority = omega (arith, at_q) in
        rw i at y

    go : {r : State} → Choice s (some t) r → r.runs ≡ some u → (s.threads t).priority < (s.threads u).priority
    go (displaced v p b l m D) k = above v p b l m D k
    go (goes_on e) k = absurd (n (some_one k runs))

-- A sound state is chosen already.
pub choose_same : (s : State) → Sound s → choose s ≡ s
choose_same s S = go s.runs refl (choice s)
  where
    M : Mid s
    M = sound_mid S

    quiet : {r : State} → s.runs ≡ none → Dispatched s r → r ≡ s
    quiet e (idle h) = refl
    quiet e (head p t q b f h) = absurd (S.chosen.none_ready e t (head_ready s M p t q f).0)

    go : {r : State} (o : Option ℕ) → s.runs ≡ o → Choice s o r → r ≡ s
    go none e (nobody D) = quiet e D
    go (some t) e (displaced u p b l m D) =
        let k = (M.queues.ready u p).0 m in
        absurd (omega (arith, S.chosen.none_above t u e k.0, k.1))
    go (some t) e (goes_on h) = refl
