-- A test that holds for each number below a bound, and the loops that try it: all below i and i itself give all below
-- i + 1, and one that fails settles it.
use Prim.Native.Nat.{ℕ, zero, suc, ◌+◌, ◌<◌}
use mathlib.Core.Bool.{Bool, true, false, ◌&&◌}
use mathlib.Core.Logic.{⊎_elim}
use mathlib.Core.Path.{◌≡◌, ◌∙◌, ap, refl, sym, subst}
use native.Mathlib.Nat.{eq-or-lt_of_le, le_of_suc-le-suc}
use native.Mathlib.Omega.{arith}
use Rattle.std.specs.List.{list_all, range_with_len}
use Rattle.std.specs.Fn.{Called}
use Rattle.std.specs.Iterator.{ChecksAll}
use Rattle.std.specs.Prelude as code
use Rattle.std.proofs.lemmas.Iterator.{YieldsList}
use Rattle.std.proofs.lemmas.Iterator.Search.{all_from_yields_List}
use denote.Param.Members.{Mut}
use Rattle.layout.specs.Tests.{all}

pub and-false : (b : Bool) → (b && false) ≡ false
and-false true = refl
and-false false = refl

module _ (f : ℕ → Bool) where
  pub all_hold : (n : ℕ) → ((k : ℕ) → k < n → f k ≡ true) → true ≡ all n f
  unfolding all
  all_hold zero h = refl
  all_hold (suc n) h = rw (h n (omega arith)) (all_hold n (λ k l. h k (omega arith)))

  pub one_fails : (n k : ℕ) → k < n → f k ≡ false → false ≡ all n f
  unfolding all
  one_fails zero k l e = absurd (omega arith)
  one_fails (suc n) k l e = ⊎_elim here (λ h. there (one_fails n k h e)) (eq-or-lt_of_le (le_of_suc-le-suc l))
    where
      here : k ≡ n → false ≡ all (suc n) f
      here q = rw (subst (λ (i : ℕ). f i ≡ false) q e) refl

      there : false ≡ all n f → false ≡ all (suc n) f
      there h = rw (← h) (sym (and-false (f n)))

  -- The numbers below n as a list, as an iterator over them gives them.
  pub turned : (a n : ℕ) → list_all f (range_with_len a (suc n)) ≡ (f (a + n) && list_all f (range_with_len a n))
  turned a zero = let e : a + 0 ≡ a = omega arith in rw e
  turned a (suc n) =
      let e : a + suc n ≡ a + 1 + n = omega arith in
      rw (turned (a + 1) n, e) (swap (f a) (f (a + 1 + n)) (list_all f (range_with_len (a + 1) n)))
    where
      swap : (x y z : Bool) → (x && (y && z)) ≡ (y && (x && z))
      swap true y z = refl
      swap false y z = sym (and-false y)

  listed : (n : ℕ) → list_all f (range_with_len 0 n) ≡ all n f
  unfolding all
  listed zero = refl
  listed (suc n) =
      let e : 0 + n ≡ n = omega arith in
      rw e at (turned 0 n) ∙ ap (λ (b : Bool). f n && b) (listed n)

  -- What `all` answers over the numbers below n, by a closure that makes the test f.
  pub tried :
      {S F : Type 0} {steps : S → code.Option ℕ → S → Type 0} {g : Mut F (ℕ × Unit {0}) Bool} {s : S} (n : ℕ) (u : S)
      {c : F} (r : Bool) → ChecksAll steps g s c r u → YieldsList steps (λ x. x) s (range_with_len 0 n)
      → ((x : ℕ) (b : Bool) (q : F) → Called g c (x, tt) b q → (q ≡ c) × (b ≡ f x)) → r ≡ all n f
  tried n u {c} r ran gives calls = all_from_yields_List f u c r ran gives calls ∙ listed n
