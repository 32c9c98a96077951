-- Laws of `unused`, `given` and `number_in`: when they give a value, and when none.
use mathlib.Core.Path.{◌≡◌, refl, sym, ap, ◌∙◌}
use mathlib.Core.Bool.{Bool, true, false}
use mathlib.Core.List.{List, [], ◌∷◌}
use mathlib.Core.Logic.{◌⊎◌, inl, inr, ◌≢◌}
use mathlib.Core.Option.{Option, none, some, none-ne-some, some-injective}
use Prim.Native.Nat.{ℕ, zero, suc, ◌+◌, ◌*◌, ◌^◌, ◌%◌, ◌<◌}
use native.Mathlib.Omega.{arith}
use borrow.Author.Tests.{eqb-true, eq-eqb, ne_eqb}
use lib.Dec.{eqb}
use lib.ListN.{length, get_or, drop}
use Rattle.calls.specs.declared.Call.{Call}
use Rattle.machine.specs.Lists.{pick}
use Rattle.journal.specs.Words.{top_bits, unused, number_in, given}
use Rattle.journal.proofs.Parts.{number_top, number_below, number_word}

pub unused_some : (part : ℕ) (o : Option Call) (c : Call) → unused part o ≡ some c → (part ≡ 0) × (o ≡ some c)
unused_some zero o c e = (refl, e)
unused_some (suc part) o c e = absurd (none-ne-some c e)

pub unused_none : (part : ℕ) → unused part none ≡ none
unused_none zero = refl
unused_none (suc part) = refl

pub unused_both_none : (part other : ℕ) → unused part (unused other none) ≡ none
unused_both_none zero other = unused_none other
unused_both_none (suc part) other = refl

pub unused_not_0 : (part : ℕ) (o : Option Call) → part ≢ 0 → unused part o ≡ none
unused_not_0 zero o h = absurd (h refl)
unused_not_0 (suc part) o h = refl

pub unused_which : (part : ℕ) (o : Option Call) → unused part o ≡ none → (part ≢ 0) ⊎ (o ≡ none)
unused_which zero o e = inr e
unused_which (suc part) o e = inl (λ z. omega arith)

pub given_some :
    (o : Option ℕ) (call : ℕ → Option Call) (c : Call) → given o call ≡ some c →
    (n : ℕ) × (o ≡ some n) × (call n ≡ some c)
given_some none call c e = absurd (none-ne-some c e)
given_some (some n) call c e = (n, refl, e)

pub given_none : (o : Option ℕ) → given o (λ n. none) ≡ none
given_none none = refl
given_none (some n) = refl

pub given_which :
    (o : Option ℕ) (call : ℕ → Option Call) → given o call ≡ none →
    (o ≡ none) ⊎ ((n : ℕ) × (call n ≡ none))
given_which none call e = inl refl
given_which (some n) call e = inr (n, e)

-- a number is read from the word that has these top bits
pub number_read : (k x : ℕ) (rest : List ℕ) → x < 2 ^ 28 → number_in k ((k * 2 ^ 28 + x) ∷ rest) ≡ some x
number_read k x rest h = rw (number_top k x h, eq-eqb k k refl, number_below k x h)

-- a number that was read stands in the first word, with those top bits
pub number_some :
    (k : ℕ) (l : List ℕ) (n : ℕ) → number_in k l ≡ some n →
    (n < 2 ^ 28) × (l ≡ (k * 2 ^ 28 + n) ∷ drop 1 l)
number_some k [] n e = absurd (none-ne-some n e)
number_some k (w ∷ l) n e = go (eqb (top_bits w) k) refl e
  where
    go :
        (b : Bool) → eqb (top_bits w) k ≡ b → pick b (some (w % 2 ^ 28)) none ≡ some n →
        (n < 2 ^ 28) × (w ∷ l ≡ (k * 2 ^ 28 + n) ∷ l)
    go true t e' =
        let h : w % 2 ^ 28 ≡ n = some-injective _ _ e' in
        let whole = sym (number_word w k (eqb-true (top_bits w) k t)) in
        let is : w ≡ k * 2 ^ 28 + n = whole ∙ ap (λ (x : ℕ). k * 2 ^ 28 + x) h in
        (omega arith, ap (λ (x : ℕ). x ∷ l) is)
    go false t e' = absurd (none-ne-some n e')

pub number_other : (k : ℕ) (l : List ℕ) → top_bits (get_or l 0 0) ≢ k → number_in k l ≡ none
number_other k [] h = refl
number_other k (w ∷ l) h = rw (ne_eqb (top_bits w) k h)

pub number_which : (k : ℕ) (l : List ℕ) → number_in k l ≡ none → (length l ≡ 0) ⊎ (top_bits (get_or l 0 0) ≢ k)
number_which k [] e = inl refl
number_which k (w ∷ l) e = inr (λ t. none-ne-some (w % 2 ^ 28) (sym e ∙ rw (eq-eqb (top_bits w) k t)))
