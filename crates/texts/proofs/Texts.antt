-- Texts in a buffer: the laws of pasted, and a number's digits, the last stored first.
use Prim.Native.Nat.{ℕ, suc, ◌+◌, ◌/◌, ◌%◌, ◌≤◌, ◌<◌}
use mathlib.Core.Path.{◌≡◌, sym, ◌∙◌, ap}
use mathlib.Core.List.{List, [], ◌∷◌, ◌++◌, append_assoc, append-nil}
use native.Mathlib.Omega.{arith}
use native.Mathlib.Numerals.{add-one}
use native.Mathlib.Nat.{add_assoc, add-zero}
use lib.ListN.{length, take, drop, set, length-append, length-take, length-drop, length-set, take-append-drop}
use lib.Seq.{take_at, drop-append-add, drop-drop, set_split}
use lib.Seq.{append_snoc, take-set-le, drop-set-lt, drop-cons, get_or-set_same}
use Rattle.texts.specs.Decimal.{digit, decimal}
use Rattle.texts.specs.Buffer.{pasted}
use Rattle.texts.proofs.Digits.{decimal_one, decimal_more, length_one, length_more}

module _ (out : List ℕ) (at : ℕ) (s : List ℕ) (fits : at + length s ≤ length out) where
  -- The bytes up to the end of the text.
  length_upto : length (take at out ++ s) ≡ at + length s
  length_upto = simp (length-append, length-take) (omega arith)

  pub length_pasted : length (pasted out at s) ≡ length out
  unfolding pasted
  length_pasted = simp (length-append, length-take, length-drop) (omega arith)

  pub take_pasted : take (at + length s) (pasted out at s) ≡ take at out ++ s
  unfolding pasted
  take_pasted = take_at (take at out ++ s) (drop (at + length s) out) (at + length s) length_upto

  pub drop_pasted : (k : ℕ) → drop (at + length s + k) (pasted out at s) ≡ drop (at + length s + k) out
  unfolding pasted
  drop_pasted k =
      ap (λ (j : ℕ). drop (j + k) (take at out ++ s ++ drop (at + length s) out)) (sym length_upto)
      ∙ drop-append-add (take at out ++ s) (drop (at + length s) out) k
      ∙ drop-drop k (at + length s) out

  -- A text and then another, where the first ended, are the two as one.
  pub pasted_then : (t : List ℕ) → pasted (pasted out at s) (at + length s) t ≡ pasted out at (s ++ t)
  unfolding pasted
  pasted_then t = rw (take_pasted, drop_pasted (length t)) (simp (append_assoc, length-append, add_assoc))

-- Nothing written leaves the buffer.
pub pasted_nil : (out : List ℕ) (at : ℕ) → pasted out at [] ≡ out
unfolding pasted
pasted_nil out at = rw (add-zero, append-nil, take-append-drop)

-- One byte written is a text of one byte.
pub set_is : (out : List ℕ) (at d : ℕ) → at < length out → set out at d ≡ pasted out at (d ∷ [])
unfolding pasted
set_is out at d h = rw (add-one, append_snoc, set_split out at d)

drop_set : (l : List ℕ) (i d : ℕ) → i < length l → drop i (set l i d) ≡ d ∷ drop (suc i) l
drop_set l i d h =
    drop-cons (set l i d) i 0 (rw length-set h)
    ∙ rw (get_or-set_same l i d 0 h, drop-set-lt (suc i) l i d (omega arith))

-- A text whose last byte was stored first.
pub pasted_last :
    (out : List ℕ) (at : ℕ) (s : List ℕ) (d : ℕ) → at + length s < length out
    → pasted (set out (at + length s) d) at s ≡ pasted out at (s ++ (d ∷ []))
unfolding pasted
pasted_last out at s d h =
    rw (take-set-le at out (at + length s) d (omega arith), drop_set out (at + length s) d h)
    (simp (append_assoc, length-append, ← add_assoc, add-one))

-- A number's digits, the last stored first.

module _ (out : List ℕ) (at n i : ℕ) (place : i + 1 ≡ at + length (decimal n)) (room : i < length out) where
  pub digit_stored : 10 ≤ n → pasted (set out i (digit (n % 10))) at (decimal (n / 10)) ≡ pasted out at (decimal n)
  digit_stored h =
      let e : at + length (decimal (n / 10)) ≡ i = omega (arith, length_more n h) in
      ap (λ (k : ℕ). pasted (set out k (digit (n % 10))) at (decimal (n / 10))) (sym e)
      ∙ pasted_last out at (decimal (n / 10)) (digit (n % 10)) (omega arith)
      ∙ ap (λ (l : List ℕ). pasted out at l) (sym (decimal_more n h))

  pub digit_first : n < 10 → set out i (digit n) ≡ pasted out at (decimal n)
  digit_first h =
      let e : i ≡ at = omega (arith, length_one n h) in
      ap (λ (k : ℕ). set out k (digit n)) e
      ∙ set_is out at (digit n) (omega arith)
      ∙ ap (λ (l : List ℕ). pasted out at l) (sym (decimal_one n h))
