-- The chooser, which runs after each accepted call, in every state: who runs then, who goes on, and where a displaced
-- thread stands.
use Prim.Native.Nat.{ℕ, zero, suc, ◌≤◌, ◌<◌}
use mathlib.Core.Path.{◌≡◌, refl, sym, ◌∙◌, ap, subst}
use mathlib.Core.Logic.{inl, ◌↔◌}
use mathlib.Core.Bool.{Bool, true, false}
use mathlib.Core.Option.{Option, none, some}
use mathlib.Core.List.{List, [], ◌∷◌}
use native.Mathlib.Omega.{arith}
use lib.Dec.{ltb}
use lib.ListN.{length}
use borrow.Author.Tests.{ltb-true, ltb-false}
use Rattle.machine.specs.Lists.{pick, Mem}
use Rattle.machine.specs.State.{State, set_runs, set_level}
use Rattle.machine.specs.Scheduling.{enqueue_first, stand_back, occupied, highest_below, highest, dispatch_head}
use Rattle.machine.specs.Scheduling.{dispatch_at, dispatch, above, displace, choose_for, choose}
use Rattle.machine.proofs.Lists.{same, other, same?, put_same, put_other}

-- The highest occupied level below n: none, or one above which all are empty.
abbrev pub Highest : ℕ → (ℕ → List ℕ) → Option ℕ → Type 0
Highest n levels none = (q : ℕ) → q < n → levels q ≡ []
Highest n levels (some p) = (p < n) × (levels p ≡ [] → ⊥) × ((q : ℕ) → p < q → q < n → levels q ≡ [])

cons_nil : {t : ℕ} {q : List ℕ} → t ∷ q ≡ [] → ⊥
cons_nil {t} {q} h = let z : ◌≡◌ {A = ℕ} 0 1 = cc in omega arith

highest_below_lem : (n : ℕ) (levels : ℕ → List ℕ) → Highest n levels (highest_below n levels)
unfolding highest_below
highest_below_lem zero levels = λ q h. absurd (omega arith)
highest_below_lem (suc n) levels = go (levels n) refl (highest_below n levels) (highest_below_lem n levels)
  where
    at_top : (q : ℕ) → q < suc n → levels n ≡ [] → (q < n → levels q ≡ []) → levels q ≡ []
    at_top q h e below = elim (same? q n) [ same i _ ↦ ap levels i ∙ e | other k _ ↦ below (omega arith) ]

    go :
        (l : List ℕ) → levels n ≡ l → (o : Option ℕ) → Highest n levels o
        → Highest (suc n) levels (pick (occupied (levels n)) (some n) o)
    go [] e none H = rw e (λ q h. at_top q h e (H q))
    go [] e (some p) H = rw e (omega arith, H.1, λ q k h. at_top q h e (H.2 q k))
    go (t ∷ q) e o H = rw e (omega arith, λ h. cons_nil (sym e ∙ h), λ r k h. absurd (omega arith))

pub highest_is : (levels : ℕ → List ℕ) → Highest 256 levels (highest levels)
unfolding highest
highest_is levels = highest_below_lem 256 levels

-- "The head of the highest queue runs"; with nobody ready nothing changes.
pub data Dispatched (s : State) : State → Type 0 where
  idle : ((p : ℕ) → p ≤ 255 → s.levels p ≡ []) → Dispatched s s
  head :
      (p t : ℕ) (q : List ℕ) → p ≤ 255 → s.levels p ≡ t ∷ q → ((k : ℕ) → k ≤ 255 → p < k → s.levels k ≡ [])
      → Dispatched s (set_runs (some t) (set_level p q s))

pub dispatched : (s : State) → Dispatched s (dispatch s)
unfolding dispatch dispatch_at dispatch_head
dispatched s = go (highest s.levels) (highest_is s.levels)
  where
    first : (p : ℕ) → Highest 256 s.levels (some p) → (l : List ℕ) → s.levels p ≡ l
        → Dispatched s (dispatch_head l p s)
    first p H [] e = absurd (H.1 e)
    first p H (t ∷ q) e = head p t q (omega arith) e (λ k l z. H.2 k z (omega arith))

    go : (o : Option ℕ) → Highest 256 s.levels o → Dispatched s (dispatch_at o s)
    go none H = idle (λ p l. H p (omega arith))
    go (some p) H = first p H (s.levels p) refl

-- "If nobody runs, or a level above the running thread's is occupied, the head of the highest queue runs": what the
-- choice in state s comes to, by who ran before.
pub data Choice (s : State) : Option ℕ → State → Type 0 where
  nobody : {r : State} → Dispatched s r → Choice s none r
  displaced :
      {t : ℕ} {r : State} (u p : ℕ) → p ≤ 255 → (s.threads t).priority < p → Mem u (s.levels p)
      → Dispatched (stand_back t s) r → Choice s (some t) r
  goes_on : {t : ℕ} → ((k : ℕ) → k ≤ 255 → (s.threads t).priority < k → s.levels k ≡ []) → Choice s (some t) s

occupant : (l : List ℕ) → (l ≡ [] → ⊥) → (u : ℕ) × Mem u l
occupant [] n = absurd (n refl)
occupant (u ∷ l) n = (u, inl refl)

pub choice : (s : State) → Choice s s.runs (choose s)
unfolding choose choose_for displace
choice s = go s.runs
  where
    test : (t : ℕ) (o : Option ℕ) → Highest 256 s.levels o
        → Choice s (some t) (displace (above (s.threads t).priority o) t s)
    test t none H = goes_on {t = t} (λ k l z. H k (omega arith))
    test t (some p) H = on (ltb (s.threads t).priority p) refl
      where
        on : (b : Bool) → ltb (s.threads t).priority p ≡ b → Choice s (some t) (displace b t s)
        on true f =
            let u = occupant (s.levels p) H.1 in
            displaced u.0 p (omega arith) (ltb-true _ _ f) u.1 (dispatched (stand_back t s))
        on false f = goes_on {t = t} (λ k m z. H.2 k (omega (arith, ltb-false)) (omega arith))

    go : (o : Option ℕ) → Choice s o (choose_for o s)
    go none = nobody (dispatched s)
    go (some t) = test t (highest s.levels) (highest_is s.levels)

-- The chooser changes who runs and the ready queues, and nothing else: r has the threads, endpoints and lines of s.
pub record OnlyRunning (s r : State) : Type 0 where
  pub threads : r.threads ≡ s.threads
  pub endpoints : r.endpoints ≡ s.endpoints
  pub lines : r.lines ≡ s.lines

dispatch_keeps : {s r : State} → Dispatched s r → OnlyRunning s r
dispatch_keeps (idle h) = record { threads = refl; endpoints = refl; lines = refl }
dispatch_keeps (head p t q b e h) = record { threads = refl; endpoints = refl; lines = refl }

pub choose_keeps : (s : State) → OnlyRunning s (choose s)
unfolding stand_back enqueue_first
choose_keeps s = go (choice s)
  where
    go : {o : Option ℕ} {r : State} → Choice s o r → OnlyRunning s r
    go (nobody D) = dispatch_keeps D
    go (displaced u p b l m D) =
        let K = dispatch_keeps D in record { threads = K.threads; endpoints = K.endpoints; lines = K.lines }
    go (goes_on h) = record { threads = refl; endpoints = refl; lines = refl }

pub empty : (u : ℕ) {l : List ℕ} → l ≡ [] → Mem u l → ⊥
empty u e m = subst (λ (k : List ℕ). Mem u k) e m

-- The levels below an occupied one are left alone.
dispatch_below :
    {s r : State} → Dispatched s r → (u p k : ℕ) → p ≤ 255 → Mem u (s.levels p) → k < p → r.levels k ≡ s.levels k
dispatch_below (idle h) u p k b m l = refl
dispatch_below {s} (head q x r i g h) u p k b m l =
    let z : q < p → ⊥ = λ y. empty u (h p b y) m in
    put_other s.levels q k r (omega arith)

-- t, standing back, joins the head of its own level and leaves the others alone.
back_own :
    (t : ℕ) (s : State) → (stand_back t s).levels (s.threads t).priority ≡ t ∷ s.levels (s.threads t).priority
unfolding stand_back enqueue_first
back_own t s = put_same s.levels (s.threads t).priority _

pub back_other : (t p : ℕ) (s : State) → (p ≡ (s.threads t).priority → ⊥) → (stand_back t s).levels p ≡ s.levels p
unfolding stand_back enqueue_first
back_other t p s n = put_other s.levels (s.threads t).priority p _ n

not_longer : (l : List ℕ) (t : ℕ) → t ∷ l ≡ l → ⊥
not_longer l t e = omega (arith, ap length e)

module _ (s : State) (t : ℕ) (runs : s.runs ≡ some t) where
  chosen : Choice s (some t) (choose s)
  chosen = subst (λ (o : Option ℕ). Choice s o (choose s)) runs (choice s)

  -- "A displaced thread keeps its turn": it is the first of its level, before all who stood there.
  pub displaced_head :
      (u p : ℕ) → p ≤ 255 → Mem u (s.levels p) → (s.threads t).priority < p
      → (choose s).levels (s.threads t).priority ≡ t ∷ s.levels (s.threads t).priority
  displaced_head u p b m l = go chosen
    where
      go : {r : State} → Choice s (some t) r
          → r.levels (s.threads t).priority ≡ t ∷ s.levels (s.threads t).priority
      go (displaced v q i j n D) =
          dispatch_below D u p _ b (rw (back_other t p s (omega arith)) m) l ∙ back_own t s
      go (goes_on h) = absurd (empty u (h p b l) m)

  -- The running thread goes on, and nothing changes, exactly if no level above its own is occupied.
  pub goes_on_exactly :
      (choose s ≡ s) ↔ ((u p : ℕ) → p ≤ 255 → Mem u (s.levels p) → p ≤ (s.threads t).priority)
  goes_on_exactly = (down, λ h. up h chosen)
    where
      down : choose s ≡ s → (u p : ℕ) → p ≤ 255 → Mem u (s.levels p) → p ≤ (s.threads t).priority
      down e u p b m =
          let z : (s.threads t).priority < p → ⊥ = λ l. not_longer _ t (sym (rw e at (displaced_head u p b m l))) in
          omega arith

      up : {r : State} → ((u p : ℕ) → p ≤ 255 → Mem u (s.levels p) → p ≤ (s.threads t).priority)
          → Choice s (some t) r → r ≡ s
      up h (displaced u p b l m D) = let z = h u p b m in absurd (omega arith)
      up h (goes_on k) = refl
