-- The tests of an endpoint's words, as the code takes them: by the values read.
use Prim.Native.Nat.{ℕ, zero, suc, ◌+◌, ◌-◌, ◌≤◌, ◌<◌, ◌^◌}
use mathlib.Core.Bool.{Bool, true, false, ◌&&◌, beq}
use mathlib.Core.List.{List}
use mathlib.Core.Path.{◌≡◌, refl, ap, sym, ◌∙◌}
use native.Mathlib.Omega.{arith}
use lib.Dec.{eqb, ltb}
use borrow.Author.Tests.{le-leb, lt-leb, ne_eqb}
use Rattle.machine.specs.Lists.{pick}
use Rattle.layout.specs.declared.Field.{Field}
use Rattle.layout.specs.declared.Part.{Part}
use Rattle.layout.specs.declared.Link.{Link}
use Rattle.layout.specs.Addresses.{link_at, word, endpoint_queue}
use Rattle.layout.specs.Tests.{same}
use Rattle.soundness.specs.Checks.{thread_at, endpoint_at, kind_of, banned_of, abort_test, status_test}

pub beq_same : (a b : Bool) → beq a b ≡ same a b
beq_same true true = refl
beq_same true false = refl
beq_same false true = refl
beq_same false false = refl

module _ (m : List ℕ) (e : ℕ) where
  -- Status s, where an abort stands if a is not 0.
  module _ (s : ℕ) {a : ℕ} (aborts : a ≡ endpoint_at m Part.Aborting e) where
    pub status_absent :
        {h : ℕ} → s ≡ 0 → h ≡ word m (link_at (Link.Head (endpoint_queue e))) → (eqb h 0 && eqb a 0) ≡ status_test s m e
    unfolding status_test
    status_absent z f = rw (z, f, aborts)

    pub status_live : s ≡ 1 → true ≡ status_test s m e
    unfolding status_test
    status_live z = rw z

  pub status_closing :
      (s : ℕ) {a : ℕ} → a ≡ endpoint_at m Part.Aborting e → (s ≡ 0 → ⊥) → (s ≡ 1 → ⊥)
      → (eqb s 2 && eqb a 0) ≡ status_test s m e
  unfolding status_test
  status_closing zero f n o = absurd (n refl)
  status_closing (suc zero) f n o = absurd (o refl)
  status_closing (suc (suc zero)) f n o = rw f
  status_closing (suc (suc (suc s))) f n o = rw (ne_eqb (suc (suc (suc s))) 2 (λ q. omega arith))

  -- An abort's words: badge b, cursor c and end d.
  module _
      {b c d : ℕ} (badge : b ≡ endpoint_at m Part.Aborted e) (first : c ≡ endpoint_at m Part.Cursor e)
      (last : d ≡ endpoint_at m Part.End e)
    where
      pub abort_none : (a : ℕ) → a ≡ 0 → ((eqb b 0 && eqb c 0) && eqb d 0) ≡ abort_test a m e
      unfolding abort_test
      abort_none a z = rw (z, badge, first, last)

      pub abort_stands :
          (a : ℕ) → (a ≡ 0 → ⊥) → a ≤ 1 → (ltb b (2 ^ 28) && beq (eqb c 0) (eqb d 0)) ≡ abort_test a m e
      unfolding abort_test
      abort_stands zero n h = absurd (n refl)
      abort_stands (suc zero) n h = rw (badge, first, last, beq_same)
      abort_stands (suc (suc a)) n h = absurd (omega arith)

  pub abort_odd : (a : ℕ) → 1 < a → false ≡ abort_test a m e
  unfolding abort_test
  abort_odd zero h = absurd (omega arith)
  abort_odd (suc zero) h = absurd (omega arith)
  abort_odd (suc (suc a)) h = refl

  -- The link y to the first of the queue.
  pub kind_none : (y : ℕ) → y ≡ 0 → 2 + e ≡ kind_of y m e
  unfolding kind_of
  kind_none y z = rw z

  pub kind_far : (y : ℕ) → 256 < y → 0 ≡ kind_of y m e
  unfolding kind_of
  kind_far zero h = absurd (omega arith)
  kind_far (suc t) h = rw (lt-leb t 255 (omega arith))

  pub kind_first : (y : ℕ) {p : ℕ} → (y ≡ 0 → ⊥) → y ≤ 256 → p ≡ thread_at m Field.Place (y - 1) → p ≡ kind_of y m e
  unfolding kind_of
  kind_first zero n h f = absurd (n refl)
  kind_first (suc t) n h f = let q : suc t - 1 ≡ t = omega arith in rw (le-leb t 255 (omega arith)) (rw q at f)

  module _ (k : ℕ) {a : ℕ} (aborts : a ≡ endpoint_at m Part.Aborting e) where
    pub banned_some :
        {b : ℕ} → (eqb a 1 && eqb k (2 + e)) ≡ true → b ≡ endpoint_at m Part.Aborted e → b ≡ banned_of m e k
    unfolding banned_of
    banned_some t f = f ∙ sym (ap (λ (x : Bool). pick x (endpoint_at m Part.Aborted e) (2 ^ 28)) (rw aborts at t))

    pub banned_none : (eqb a 1 && eqb k (2 + e)) ≡ false → 2 ^ 28 ≡ banned_of m e k
    unfolding banned_of
    banned_none t = sym (ap (λ (x : Bool). pick x (endpoint_at m Part.Aborted e) (2 ^ 28)) (rw aborts at t))
