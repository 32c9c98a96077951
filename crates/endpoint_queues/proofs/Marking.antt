-- The marks of an abort are passed on where a waiter leaves.
use Prim.Native.Nat.{ℕ, ◌+◌}
use mathlib.Core.Path.{◌≡◌, refl, sym, ◌∙◌, ap}
use mathlib.Core.Option.{Option, none, some}
use mathlib.Core.List.{List, [], ◌∷◌, ◌++◌, append_assoc}
use native.Mathlib.Omega.{arith}
use Rattle.machine.specs.Lists.{without, Distinct}
use Rattle.machine.specs.State.{State, Endpoint, Abort}
use Rattle.machine.specs.Endpoints.{passing}
use Rattle.machine.proofs.Lists.{distinct_left, distinct_right}
use Rattle.layout.specs.declared.Part.{Part}
use Rattle.layout.specs.Addresses.{endpoint_queue}
use Rattle.layout.specs.Words.{first_of, last_of, queues_of}
use Rattle.layout.specs.Shows.{Shows}
use Rattle.layout.proofs.Standing.{queues_endpoint}
use Rattle.links.specs.Links.{Next, Prev}
use Rattle.store.specs.Steps.{Does, Tells}
use Rattle.store.specs.Store.{IsEndpoint, SetsPending}
use Rattle.store.specs.Readings.{endpoint_in}
use Rattle.store.proofs.Sites.{parts, site_shows, site_start}
use Rattle.queues.specs.Queues.{InEndpoint, passing_at}
use Rattle.endpoint_queues.proofs.Passing.{pass_both, pass_cursor, pass_end, pass_neither}

-- What is to look at is a part of the queue, so nobody stands twice in it.
module _ {m : List ℕ} {t e : ℕ} (s : State) (M : Shows m s) (h : InEndpoint t e s) (a : Abort)
    (z : (s.endpoints e).abort ≡ some a) where
  part_once : Distinct a.pending
  part_once =
      let p = h.part a z in
      let d : Distinct (queues_of s (endpoint_queue e)) = M.links.once (endpoint_queue e) (omega (arith, h.endpoint)) in
      distinct_left a.pending p.1
      (distinct_right p.0 (a.pending ++ p.1) (rw (queues_endpoint s e, p.2) at d))

  -- The whole queue around a waiter that is to look at.
  around :
      (x y : List ℕ) → a.pending ≡ x ++ (t ∷ y)
      → queues_of s (endpoint_queue e) ≡ ((h.part a z).0 ++ x) ++ (t ∷ (y ++ (h.part a z).1))
  around x y k =
      let p = h.part a z in
      queues_endpoint s e ∙ p.2 ∙ ap (λ (l : List ℕ). p.0 ++ (l ++ p.1)) k ∙ simp append_assoc

  behind_is : {r : ℕ} → Next m t r → (x y : List ℕ) → a.pending ≡ x ++ (t ∷ y) → r ≡ first_of (y ++ (h.part a z).1)
  behind_is N x y k =
      N.next (queues_of s) M.links (endpoint_queue e) ((h.part a z).0 ++ x) (y ++ (h.part a z).1)
      (omega (arith, h.endpoint)) (around x y k)

  before_is : {r : ℕ} → Prev m t r → (x y : List ℕ) → a.pending ≡ x ++ (t ∷ y) → r ≡ last_of 0 ((h.part a z).0 ++ x)
  before_is N x y k =
      N.prev (queues_of s) M.links (endpoint_queue e) ((h.part a z).0 ++ x) (y ++ (h.part a z).1)
      (omega (arith, h.endpoint)) (around x y k)

-- Endpoint e once its abort has passed t by.
abbrev passed : ℕ → ℕ → State → Endpoint
passed t e s =
    record {
      status = (s.endpoints e).status;
      waiters = (s.endpoints e).waiters;
      abort = passing t (s.endpoints e).abort;
    }

-- The abort at e passes t by: marks x and y are stored that are the first and the last of those left, or none is.
module _ {m : List ℕ} {t e : ℕ} where
  stored :
      {n : List ℕ} (x y : ℕ) → SetsPending m e x y n
      → ((s : State) → Shows m s → InEndpoint t e s → (s.endpoints e).abort ≡ none → ⊥)
      → ((s : State) → Shows m s → InEndpoint t e s → (a : Abort) → (s.endpoints e).abort ≡ some a
      → (first_of (without t a.pending) ≡ x) × (last_of 0 (without t a.pending) ≡ y))
      → Does m n (InEndpoint t e) (passing_at t e)
  stored {n} x y S stands is = record { shows = λ s M h. go s M h (s.endpoints e).abort refl }
    where
      go :
          (s : State) → Shows m s → InEndpoint t e s → (o : Option Abort) → (s.endpoints e).abort ≡ o
          → Shows n (passing_at t e s)
      go s M h none z = absurd (stands s M h z)
      go s M h (some a) z =
          let k = is s M h a z in
          rw z (rw z at ((S.does (without t a.pending) k.0 k.1).shows s M (h.endpoint, (a, z))))

  unstored :
      ((s : State) → Shows m s → InEndpoint t e s → (a : Abort) → (s.endpoints e).abort ≡ some a
      → (first_of (without t a.pending) ≡ first_of a.pending)
      × (last_of 0 (without t a.pending) ≡ last_of 0 a.pending))
      → Does m m (InEndpoint t e) (passing_at t e)
  unstored is = record { shows = λ s M h. go s M h (s.endpoints e).abort refl }
    where
      go :
          (s : State) → Shows m s → InEndpoint t e s → (o : Option Abort) → (s.endpoints e).abort ≡ o
          → Shows m (passing_at t e s)
      go s M h none z =
          site_shows e h.endpoint m m _ s _ M (site_start e h.endpoint m s M) refl
          (parts _ (passed t e s) refl (rw z) (rw z) (rw z) (rw z))
      go s M h (some a) z =
          let k = is s M h a z in
          site_shows e h.endpoint m m _ s _ M (site_start e h.endpoint m s M) refl
          (parts _ (passed t e s) refl (rw z) (rw z) (rw z (sym k.0)) (rw z (sym k.1)))

-- The four ways, by whether t is the cursor c and the end mark d.
module _ {m : List ℕ} {t e c d : ℕ} (C : Tells m (IsEndpoint e) c (endpoint_in Part.Cursor e))
    (E : Tells m (IsEndpoint e) d (endpoint_in Part.End e))
  where
    module _ (s : State) (M : Shows m s) (h : InEndpoint t e s) where
      cursor_none : (s.endpoints e).abort ≡ none → c ≡ 0
      cursor_none z = rw z at (C.tells s M h.endpoint)

      end_none : (s.endpoints e).abort ≡ none → d ≡ 0
      end_none z = rw z at (E.tells s M h.endpoint)

      cursor_some : (a : Abort) → (s.endpoints e).abort ≡ some a → c ≡ first_of a.pending
      cursor_some a z = rw z at (C.tells s M h.endpoint)

      end_some : (a : Abort) → (s.endpoints e).abort ≡ some a → d ≡ last_of 0 a.pending
      end_some a z = rw z at (E.tells s M h.endpoint)

    pub passed_both :
        {n : List ℕ} → SetsPending m e 0 0 n → c ≡ t + 1 → d ≡ t + 1 → Does m n (InEndpoint t e) (passing_at t e)
    passed_both S f g =
        stored 0 0 S (λ s M h z. omega (arith, cursor_none s M h z))
        (λ s M h a z.
        let w : without t a.pending ≡ [] =
        pass_both t a.pending (part_once s M h a z) (omega (arith, cursor_some s M h a z))
        (omega (arith, end_some s M h a z)) in
        (ap first_of w, ap (last_of 0) w))

    pub passed_cursor :
        {n : List ℕ} {r : ℕ} → Next m t r → SetsPending m e r d n → c ≡ t + 1 → (d ≡ t + 1 → ⊥)
        → Does m n (InEndpoint t e) (passing_at t e)
    passed_cursor {r = r} N S f g =
        stored r d S (λ s M h z. omega (arith, cursor_none s M h z))
        (λ s M h a z.
        let k = pass_cursor t a.pending (part_once s M h a z) (h.part a z).1 r (behind_is s M h a z N)
        (omega (arith, cursor_some s M h a z)) (λ i. g (omega (arith, end_some s M h a z))) in
        (k.0, k.1 ∙ sym (end_some s M h a z)))

    pub passed_end :
        {n : List ℕ} {r : ℕ} → Prev m t r → SetsPending m e c r n → (c ≡ t + 1 → ⊥) → d ≡ t + 1
        → Does m n (InEndpoint t e) (passing_at t e)
    passed_end {r = r} N S f g =
        stored c r S (λ s M h z. omega (arith, end_none s M h z))
        (λ s M h a z.
        let k = pass_end t a.pending (part_once s M h a z) (h.part a z).0 r (before_is s M h a z N)
        (λ i. f (omega (arith, cursor_some s M h a z))) (omega (arith, end_some s M h a z)) in
        (k.0 ∙ sym (cursor_some s M h a z), k.1))

    pub passed_neither : (c ≡ t + 1 → ⊥) → (d ≡ t + 1 → ⊥) → Does m m (InEndpoint t e) (passing_at t e)
    passed_neither f g =
        unstored (λ s M h a z.
        pass_neither t a.pending (part_once s M h a z) (λ i. f (omega (arith, cursor_some s M h a z)))
        (λ i. g (omega (arith, end_some s M h a z))))
