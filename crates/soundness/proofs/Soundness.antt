-- What is left of the tests of a memory that is read as a neat state is what Sound asks beyond neatness, and that
-- threads in no queue have links 0.
use Prim.Native.Nat.{ℕ, ◌^◌, ◌≤◌, ◌<◌}
use mathlib.Core.Path.{◌≡◌, refl, sym, ◌∙◌, ap, subst}
use mathlib.Core.Logic.{◌⊎◌, inl, inr, ◌↔◌, ⊎_elim}
use mathlib.Core.Option.{Option, none, some}
use mathlib.Core.List.{List, [], ◌∷◌, ◌++◌}
use native.Mathlib.Omega.{arith}
use Rattle.machine.specs.Lists.{Mem, Distinct}
use Rattle.machine.specs.State.{State, Thread, Place, able, sending, receiving, works, Abort, Endpoint, awaited}
use Rattle.machine.specs.Endpoints.{pending_of}
use Rattle.machine.specs.Sound.{Ready, Queued, Queues, Chosen, Marks, Sound}
use Rattle.layout.specs.Addresses.{endpoint_queue}
use Rattle.layout.specs.Words.{place_code, debt_code, line_code, badge_code, queues_of}
use Rattle.layout.specs.Shows.{Linked}
use Rattle.layout.proofs.Addresses.{below?}
use Rattle.layout.proofs.Blocks.{beyond_absent}
use Rattle.layout.proofs.Standing.{Queue, level, endpoint, queue?, queues_level, queues_endpoint, each_queue}
use Rattle.layout.proofs.Standing.{queue_small, queue_distinct, queue_apart}
use Rattle.layout.proofs.Neat.{NeatState, nobody}
use Rattle.layout.proofs.Neat.{seated, seat_small}
use Rattle.soundness.proofs.Tests.{decided}
use Rattle.soundness.proofs.Following.{chain_distinct}
use Rattle.soundness.proofs.Cursors.{part_in}
use Rattle.soundness.proofs.Reading.{Reads, level_joined, end_joined}
use Rattle.soundness.proofs.Waiters.{AllAlike}
use Rattle.soundness.proofs.Lines.{NoneAbove}
use Rattle.soundness.proofs.Placed.{InQueue, Belongs, tells_belongs}
use Rattle.soundness.proofs.Tried.{Untried}

-- A thread is in one place.
one_place : {x p q : Place} → x ≡ p → x ≡ q → (place_code p ≡ place_code q → ⊥) → ⊥
one_place {x} {p} {q} e f n = n (ap place_code (sym e ∙ f))

-- A thread waits at one endpoint.
one_end : {x : Place} {e f : ℕ} → (x ≡ sending e) ⊎ (x ≡ receiving e) → (x ≡ sending f) ⊎ (x ≡ receiving f) → f ≡ e
one_end {x} {e} {f} (inl i) (inl k) = let z : sending f ≡ sending e = sym k ∙ i in cc
one_end {x} {e} {f} (inl i) (inr k) = absurd (let z : ◌≡◌ {A = ℕ} 0 1 = cc in omega arith)
one_end {x} {e} {f} (inr i) (inl k) = absurd (let z : ◌≡◌ {A = ℕ} 0 1 = cc in omega arith)
one_end {x} {e} {f} (inr i) (inr k) = let z : receiving f ≡ receiving e = sym k ∙ i in cc

able_queued : {x : Place} {e : ℕ} → x ≡ able → (x ≡ sending e) ⊎ (x ≡ receiving e) → ⊥
able_queued i = ⊎_elim (λ k. one_place i k (λ z. omega arith)) (λ k. one_place i k (λ z. omega arith))

queued_in : (m : List ℕ) (s : State) (R : Reads m s) (t e : ℕ) → Queued s t e → (t < 256) × (e < 64)
queued_in m s R t e (inl i) =
    (omega (arith, seated s R.neat t i (omega arith)), omega (arith, seat_small s R.neat t i))
queued_in m s R t e (inr i) =
    (omega (arith, seated s R.neat t i (omega arith)), omega (arith, seat_small s R.neat t i))

-- From what is left of the tests to Sound

module _ (m : List ℕ) (s : State) (R : Reads m s) (L : Untried m s) where
  N : NeatState s
  N = R.neat

  -- A level or an endpoint in which somebody stands is in range, and so is a line with a waiter.

  level_in : (t p : ℕ) → Mem t (s.levels p) → p < 256
  level_in t p k = ⊎_elim (λ h. h) (λ h. absurd (subst (Mem t) (N.unused_level p h) k)) (below? p 256)

  end_in : (t e : ℕ) → Mem t (s.endpoints e).waiters → e < 64
  end_in t e k =
      ⊎_elim (λ h. h)
      (λ h. absurd (subst (Mem t) (ap (λ (x : Endpoint). x.waiters) (N.unused_endpoint e h)) k)) (below? e 64)

  line_in_lem : (l t : ℕ) → s.lines l ≡ awaited t → l < 32
  line_in_lem l t i =
      ⊎_elim (λ h. h) (λ h. absurd (omega (arith, ap line_code (sym (N.unused_line l h) ∙ i)))) (below? l 32)

  debt_in_lem : (t e : ℕ) → (s.threads t).debt ≡ works e → t < 256
  debt_in_lem t e i =
      ⊎_elim (λ h. h)
      (λ h.
      let z = beyond_absent t (s.threads t) (N.threads t) h in
      absurd (omega (arith, ap (λ (x : Thread). debt_code x.debt) (sym z) ∙ ap debt_code i)))
      (below? t 256)

  -- Queues

  waits_there : (t e : ℕ) → Mem t (s.endpoints e).waiters → Queued s t e
  waits_there t e k = ⊎_elim (λ f. inl (f t k)) (λ f. inr (f.0 t k)) (L.waiters e (end_in t e k)).0

  ready_there : (t p : ℕ) → Mem t (s.levels p) → Ready s t × ((s.threads t).priority ≡ p)
  ready_there t p k = let r = L.levels p (level_in t p k) t k in ((r.0.0, r.1), r.0.1)

  in_level : (t : ℕ) → Ready s t → Mem t (s.levels (s.threads t).priority)
  in_level t r = go ((L.placed t (omega (arith, seated s R.neat t r.0 (omega arith)))).0.1 (inl r))
    where
      go : InQueue s t → Mem t (s.levels (s.threads t).priority)
      go (q, k, i) = at_queue (queue? q (omega arith))
        where
          at_queue : Queue q → Mem t (s.levels (s.threads t).priority)
          at_queue (level g) =
              let j = subst (Mem t) (queues_level s q g) i in
              subst (λ (p : ℕ). Mem t (s.levels p)) (sym (ready_there t q j).1) j
          at_queue (endpoint e g z) =
              absurd (able_queued r.0 (waits_there t e (subst (Mem t) (ap (queues_of s) z ∙ queues_endpoint s e) i)))

  in_queue_lem : (t e : ℕ) → Queued s t e → Mem t (s.endpoints e).waiters
  in_queue_lem t e r = go ((L.placed t (queued_in m s R t e r).0).0.1 (inr (e, r)))
    where
      go : InQueue s t → Mem t (s.endpoints e).waiters
      go (q, k, i) = at_queue (queue? q (omega arith))
        where
          at_queue : Queue q → Mem t (s.endpoints e).waiters
          at_queue (level g) =
              absurd (able_queued (ready_there t q (subst (Mem t) (queues_level s q g) i)).0.0 r)
          at_queue (endpoint f g z) =
              let j = subst (Mem t) (ap (queues_of s) z ∙ queues_endpoint s f) i in
              subst (λ (n : ℕ). Mem t (s.endpoints n).waiters) (one_end r (waits_there t f j)) j

  level_once : (p : ℕ) → Distinct (s.levels p)
  level_once p =
      ⊎_elim (λ h. chain_distinct m p (s.levels p) (level_joined m s R p (omega arith)))
      (λ h. rw (N.unused_level p h) tt) (below? p 256)

  end_once : (e : ℕ) → Distinct (s.endpoints e).waiters
  end_once e =
      ⊎_elim (λ h. chain_distinct m (endpoint_queue e) (s.endpoints e).waiters (end_joined m s R e (omega arith)))
      (λ h. rw (N.unused_endpoint e h) tt) (below? e 64)

  queues : Queues s
  queues =
      record {
        running = λ t i. (subst (NoneAbove s) i L.running).0;
        ready = λ t p. (
          ready_there t p,
          λ r. subst (λ (n : ℕ). Mem t (s.levels n)) r.1 (in_level t r.0),
        );
        ready_once = level_once;
        queued = λ t e. (waits_there t e, in_queue_lem t e);
        queued_once = end_once;
        one_kind = λ e t u i k.
            ⊎_elim (λ f. one_place (f u (in_queue_lem u e (inr k))) k (λ z. omega arith))
            (λ f. one_place i (f.0 t (in_queue_lem t e (inl i))) (λ z. omega arith))
            (L.waiters e (queued_in m s R t e (inl i)).1).0;
        on_line = λ t l. (
          λ i. L.lines l (line_in_lem l t i) t i,
          λ i. (L.threads t (omega (arith, seated s R.neat t i (omega arith)))).0 l i,
        );
      }

  chosen : Chosen s
  chosen =
      record {
        none_above = λ t u i r.
            let k = in_level u r in
            let p = (s.threads u).priority in
            ⊎_elim (λ h. h) (λ z. absurd (subst (Mem u) z k))
            ((subst (NoneAbove s) i L.running).1 p (level_in u p k));
        none_ready = λ i u r.
            let k = in_level u r in
            let p = (s.threads u).priority in
            subst (Mem u) (subst (NoneAbove s) i L.running p (level_in u p k)) k;
      }

  sends : (e t : ℕ) → Mem t (pending_of (s.endpoints e).abort) → (s.threads t).place ≡ sending e
  sends e t k =
      let there = part_in (N.endpoints e).neat.part t k in
      ⊎_elim (λ f. f t there) (λ f. absurd (subst (Mem t) f.1 k)) (L.waiters e (end_in t e there)).0

  marks : Marks s
  marks =
      record {
        part = λ e a i.
            let w = (N.endpoints e).neat.part in
            record {
              before = w.before;
              behind = w.behind;
              within = w.within ∙ ap (λ (o : Option Abort). w.before ++ (pending_of o ++ w.behind)) i;
              sends = λ t k. sends e t (rw i k);
            };
        none_outside = λ e t a i p b.
            subst (λ (o : Option Abort). Mem t (pending_of o)) i
            ((L.waiters e (queued_in m s R t e (inl p)).1).1 a t i p (in_queue_lem t e (inl p)) b);
      }

  pub left_sound : Sound s
  left_sound =
      record {
        ranges =
            record {
              numbers = λ t. (N.threads t).numbers;
              unused_thread = λ t. (N.threads t).unused;
              unused_endpoint = N.unused_endpoint;
              unused_line = N.unused_line;
              abort_badge = λ e a i. subst (λ (o : Option Abort). badge_code o < 2 ^ 28) i (N.endpoints e).neat.badge;
            };
        queues = queues;
        chosen = chosen;
        statuses = record { empty = λ e. (N.endpoints e).empty; no_abort = λ e. (N.endpoints e).no_abort };
        marks = marks;
        members = record { stands = λ e t d. (L.threads t (debt_in_lem t e d)).1 e d };
        outcomes = record { blocked = λ t. (N.threads t).blocked; stored = λ t. (N.threads t).stored };
      }

  pub left_linked : Linked m (queues_of s)
  left_linked =
      record {
        chains = R.chains;
        small = queue_small s left_sound.ranges left_sound.queues;
        once = queue_distinct s left_sound.ranges left_sound.queues;
        apart = queue_apart s left_sound.ranges left_sound.queues;
        bare = λ t h n.
            ⊎_elim (λ i. absurd (n i.0 (omega (arith, i.1)) i.2)) (λ z. z) (L.placed t (omega arith)).1;
      }

-- From Sound to what is left of the tests

module _ (m : List ℕ) (s : State) (R : Reads m s) (S : Sound s) (K : Linked m (queues_of s)) where
  pending_sends :
      (e t : ℕ) (o : Option Abort) → (s.endpoints e).abort ≡ o → Mem t (pending_of o) → (s.threads t).place ≡ sending e
  pending_sends e t none i k = absurd k
  pending_sends e t (some a) i k = (S.marks.part e a i).sends t k

  alike : (e : ℕ) (l : List ℕ) → (s.endpoints e).waiters ≡ l → AllAlike s e
  alike e [] z = inl (λ t k. absurd (subst (Mem t) z k))
  alike e (t ∷ l) z = ⊎_elim senders receivers ((S.queues.queued t e).0 (rw z (inl refl)))
    where
      senders : (s.threads t).place ≡ sending e → AllAlike s e
      senders p =
          inl (λ u k. ⊎_elim (λ i. i) (λ i. absurd (S.queues.one_kind e t u p i)) ((S.queues.queued u e).0 k))

      receivers : (s.threads t).place ≡ receiving e → AllAlike s e
      receivers p =
          inr (
            λ u k. ⊎_elim (λ i. absurd (S.queues.one_kind e u t i p)) (λ i. i) ((S.queues.queued u e).0 k),
            nobody (pending_of (s.endpoints e).abort) (λ u k.
                S.queues.one_kind e u t (pending_sends e u (s.endpoints e).abort refl k) p),
          )

  highest : (o : Option ℕ) → s.runs ≡ o → NoneAbove s o
  highest none i = λ p h. nobody (s.levels p) (λ t k. S.chosen.none_ready i t ((S.queues.ready t p).0 k).0)
  highest (some t) i = (S.queues.running t i, λ p h. go p (s.levels p) refl)
    where
      go : (p : ℕ) (l : List ℕ) → s.levels p ≡ l → (p ≤ (s.threads t).priority) ⊎ (s.levels p ≡ [])
      go p [] z = inr z
      go p (u ∷ l) z =
          let r = (S.queues.ready u p).0 (rw z (inl refl)) in
          inl (subst (λ (n : ℕ). n ≤ (s.threads t).priority) r.1 (S.chosen.none_above t u i r.0))

  placed : (t : ℕ) → t ≤ 255 → InQueue s t ↔ Belongs s t
  placed t h = (
    λ i.
        each_queue s (λ l. Mem t l → Belongs s t) (λ p k. inl ((S.queues.ready t p).0 k).0)
        (λ e k. inr (e, (S.queues.queued t e).0 k)) i.0 (omega (arith, i.1)) i.2,
    ⊎_elim ready queued,
  )
    where
      ready : Ready s t → InQueue s t
      ready r =
          let p = (s.threads t).priority in
          let small : p ≤ 255 = (S.ranges.numbers t (λ z. one_place z r.0 (λ e. omega arith))).priority in
          (p, omega arith, rw (queues_level s p small) ((S.queues.ready t p).1 (r, refl)))

      queued : (e : ℕ) × Queued s t e → InQueue s t
      queued (e, r) = (
        endpoint_queue e,
        omega (arith, (queued_in m s R t e r).1),
        rw (queues_endpoint s e) ((S.queues.queued t e).1 r),
      )

  pub sound_left : Untried m s
  sound_left =
      record {
        threads = λ t h. (λ l. (S.queues.on_line t l).1, λ e. S.members.stands e t);
        levels = λ p h t k. let r = (S.queues.ready t p).0 k in ((r.0.0, r.1), r.0.1);
        waiters = λ e h. (
          alike e (s.endpoints e).waiters refl,
          λ a t i p k b. rw i (S.marks.none_outside e t a i p b),
        );
        lines = λ l h t. (S.queues.on_line t l).0;
        running = highest s.runs refl;
        placed = λ t h. (
          placed t (omega arith),
          ⊎_elim (λ b. inl ((placed t (omega arith)).1 b))
              (λ n. inr (K.bare t (omega arith) (λ q k i. n ((placed t (omega arith)).0 (q, omega arith, i)))))
              (decided (tells_belongs m s R t (omega arith))),
        );
      }
