-- Each thread stands in a queue exactly if its place says so: what the test of it tells.
use Prim.Native.Nat.{ℕ, zero, suc, ◌≤◌, ◌<◌}
use mathlib.Core.Path.{◌≡◌, refl, ap, subst}
use mathlib.Core.Logic.{◌⊎◌, inl, inr, ◌↔◌, ⊎_elim}
use mathlib.Core.List.{List}
use native.Mathlib.Omega.{arith}
use Rattle.machine.specs.Lists.{Mem}
use Rattle.machine.specs.State.{State, Place, absent, able, sending, receiving, waiting}
use Rattle.machine.specs.Sound.{Ready, Queued}
use Rattle.machine.proofs.Lists.{Same, same, other, same?}
use Rattle.layout.specs.declared.Field.{Field}
use Rattle.layout.specs.declared.Slot.{Slot}
use Rattle.layout.specs.declared.Link.{Link}
use Rattle.layout.specs.Addresses.{link_at, word}
use Rattle.layout.specs.Words.{place_code, queues_of}
use Rattle.layout.specs.Tests.{member}
use Rattle.layout.proofs.RoundTrip.{PlaceSmall}
use Rattle.layout.proofs.Standing.{each_queue}
use Rattle.layout.proofs.Neat.{seat_small}
use Rattle.layout.proofs.Tests.{Decides, tells_false, tells_map, tells_and, tells_or, tells_not, tells_agree, tells_eqb}
use Rattle.layout.proofs.Tests.{tells_leb, tells_member}
use Rattle.soundness.specs.Checks.{met, met_below, queued_test, placed_test}
use Rattle.soundness.proofs.Tests.{tells_ltb}
use Rattle.soundness.proofs.Following.{met_along}
use Rattle.soundness.proofs.Reading.{Reads, tells_seat, tells_runs}

-- The thread stands in a queue; its place says that it does.
abbrev pub InQueue : State → ℕ → Type 0
InQueue s t = (q : ℕ) × (q < 320) × Mem t (queues_of s q)

abbrev pub Belongs : State → ℕ → Type 0
Belongs s t = Ready s t ⊎ ((e : ℕ) × Queued s t e)

queued_code :
    (p : Place) → PlaceSmall p → 2 ≤ place_code p → place_code p < 130
    → (e : ℕ) × ((p ≡ sending e) ⊎ (p ≡ receiving e))
queued_code absent s h g = absurd (omega arith)
queued_code able s h g = absurd (omega arith)
queued_code (sending e) s h g = (e, inl refl)
queued_code (receiving e) s h g = (e, inr refl)
queued_code (waiting l) s h g = absurd (omega arith)

module _ (m : List ℕ) (s : State) (R : Reads m s) (t : ℕ) (h : t ≤ 255) where
  met_there : (q : ℕ) → q < 320 → met m q ≡ queues_of s q
  met_there q k =
      met_along m q (queues_of s q) (R.chains q (omega arith))
      (λ u. each_queue s (λ l. Mem u l → u ≤ 255) (λ p. R.neat.ready_small p u) (λ e. (R.neat.endpoints e).small u) q
      (omega arith))

  tells_below :
      (n : ℕ) → n ≤ 320 → Decides (met_below n m t) ((q : ℕ) × (q < n) × Mem t (queues_of s q))
  unfolding met_below
  tells_below zero k = tells_false (λ r. omega (arith, r.1))
  tells_below (suc n) k =
      let here : Decides (member t (met m n)) (Mem t (queues_of s n))
      = rw (met_there n (omega arith)) (tells_member t (queues_of s n)) in
      tells_map (⊎_elim (λ i. (n, omega arith, i)) (λ r. (r.0, omega (arith, r.1), r.2))) last
      (tells_or here (tells_below n (omega arith)))
    where
      last : (q : ℕ) × (q < suc n) × Mem t (queues_of s q)
          → Mem t (queues_of s n) ⊎ ((q : ℕ) × (q < n) × Mem t (queues_of s q))
      last r = go (same? r.0 n)
        where
          go : Same r.0 n → Mem t (queues_of s n) ⊎ ((q : ℕ) × (q < n) × Mem t (queues_of s q))
          go (same e _) = inl (subst (λ (q : ℕ). Mem t (queues_of s q)) e r.2)
          go (other o _) = inr (r.0, omega (arith, r.1, o), r.2)

  pub tells_belongs : Decides (queued_test m t) (Belongs s t)
  unfolding queued_test
  tells_belongs =
      tells_map (⊎_elim inl (λ r. inr (from r))) (⊎_elim inl (λ r. inr (to r)))
      (tells_or (tells_and (tells_seat m s R t able h tt) (tells_not (tells_runs m s R t)))
      (rw (R.slots (Slot.Thread Field.Place t) h)
      (tells_and (tells_leb 2 (place_code (s.threads t).place)) (tells_ltb (place_code (s.threads t).place) 130))))
    where
      from : (2 ≤ place_code (s.threads t).place) × (place_code (s.threads t).place < 130) → (e : ℕ) × Queued s t e
      from r = queued_code (s.threads t).place (R.neat.threads t).place_small r.0 r.1

      to : ((e : ℕ) × Queued s t e) → (2 ≤ place_code (s.threads t).place) × (place_code (s.threads t).place < 130)
      to r =
          ⊎_elim
          (λ i. (omega (arith, ap place_code i), omega (arith, ap place_code i, seat_small s R.neat t i)))
          (λ i. (omega (arith, ap place_code i), omega (arith, ap place_code i, seat_small s R.neat t i))) r.1

  pub tells_placed :
      Decides (placed_test m t)
      ((InQueue s t ↔ Belongs s t)
      × (InQueue s t ⊎ ((word m (link_at (Link.Next t)) ≡ 0) × (word m (link_at (Link.Prev t)) ≡ 0))))
  unfolding placed_test
  tells_placed =
      tells_and (tells_agree (tells_below 320 (omega arith)) tells_belongs)
      (tells_or (tells_below 320 (omega arith)) (tells_and (tells_eqb _ 0) (tells_eqb _ 0)))
