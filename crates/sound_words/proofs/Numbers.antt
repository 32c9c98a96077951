-- The tests of a thread's block, as the code takes them: by the values read.
use Prim.Native.Nat.{ℕ, zero, suc, ◌-◌, ◌≤◌, ◌<◌, ◌^◌}
use mathlib.Core.Bool.{Bool, true, false, ◌&&◌}
use mathlib.Core.List.{List}
use mathlib.Core.Path.{◌≡◌, refl, ap, sym, ◌∙◌}
use native.Mathlib.Omega.{arith}
use lib.Dec.{eqb, leb, ltb}
use borrow.Author.Tests.{lt-ltb, le-ltb, leb-true}
use Rattle.layout.specs.declared.Field.{Field}
use Rattle.layout.specs.declared.Part.{Part}
use Rattle.soundness.specs.Checks.{thread_at, endpoint_at, numbers_test, owes_test}

module _ (m : List ℕ) (t : ℕ) {n : ℕ} (noted : n ≡ thread_at m Field.Note t) where
  owes_zero : (w : ℕ) → w ≡ 0 → eqb n 0 ≡ owes_test w m t
  unfolding owes_test
  owes_zero zero h = rw noted
  owes_zero (suc w) h = absurd (omega arith)

  owes_work :
      (w : ℕ) {o : ℕ} → (w ≡ 0 → ⊥) → w ≤ 64 → o ≡ endpoint_at m Part.Aborting (w - 1)
      → (eqb n 0 && eqb o 1) ≡ owes_test w m t
  unfolding owes_test
  owes_work zero z h e = absurd (z refl)
  owes_work (suc w) z h e =
      let q : suc w - 1 ≡ w = omega arith in
      rw (lt-ltb w 64 h, ← noted) (ap (λ (k : ℕ). eqb n 0 && eqb k 1) (rw q at e))

  owes_badge : (w : ℕ) → (w ≡ 0 → ⊥) → 64 < w → (leb w 128 && ltb n (2 ^ 28)) ≡ owes_test w m t
  unfolding owes_test
  owes_badge zero z h = absurd (z refl)
  owes_badge (suc w) z h = rw (le-ltb w 64 (omega arith), noted)

  module _ {w : ℕ} (is : w ≡ thread_at m Field.Owes t) where
    pub owing_nothing : w ≡ 0 → eqb n 0 ≡ owes_test (thread_at m Field.Owes t) m t
    owing_nothing h = rw (← is) (owes_zero w h)

    pub owing_work :
        {o : ℕ} → (w ≡ 0 → ⊥) → w ≤ 64 → o ≡ endpoint_at m Part.Aborting (w - 1)
        → (eqb n 0 && eqb o 1) ≡ owes_test (thread_at m Field.Owes t) m t
    owing_work z h e = rw (← is) (owes_work w z h e)

    pub owing_note :
        (w ≡ 0 → ⊥) → 64 < w → (leb w 128 && ltb n (2 ^ 28)) ≡ owes_test (thread_at m Field.Owes t) m t
    owing_note z h = rw (← is) (owes_badge w z h)

and_left : (a b : Bool) → (a && b) ≡ true → a ≡ true
and_left true b e = refl
and_left false b e = e

module _ (m : List ℕ) (t : ℕ) {n : Bool} (numbers : n ≡ numbers_test m t) where
  pub place_small : n ≡ true → thread_at m Field.Place t ≤ 161
  unfolding numbers_test
  place_small h =
      leb-true (thread_at m Field.Place t) 161
      (and_left _ _ (and_left _ _ (and_left _ _ (and_left _ _ (and_left _ _ (sym numbers ∙ h))))))
