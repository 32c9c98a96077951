-- Numbers as sets of bits: `bits n f` is below 2 ^ n, is one for each set, and is changed at one bit by `|` and `& !`.
use Prim.Native.Nat.{ℕ, zero, suc, ◌+◌, ◌-◌, ◌*◌, ◌%◌, ◌^◌, ◌≤◌, ◌<◌}
use mathlib.Core.Path.{◌≡◌, refl, sym, ◌∙◌, ap, ap₂}
use mathlib.Core.Logic.{◌⊎◌, inl, inr, ⊎_elim}
use mathlib.Core.Bool.{Bool, true, false, not, ◌&&◌, ◌||◌}
use native.Mathlib.Nat.{pow-suc, zero-add, add-zero, zero-mul, one-mul, eq-or-lt_of_le}
use native.Mathlib.Omega.{arith}
use lib.Dec.{eqb, ltb, lit<}
use lib.Pow.{shl_exact}
use lib.Bits.{bit_and, bit_or, and_block, or_block}
use borrow.Author.Tests.{lt-ltb, le-ltb, ne_eqb}
use Rattle.machine.specs.Lists.{pick, put}
use Rattle.machine.proofs.Lists.{Same, same, other, same?}
use Rattle.summary.specs.Levels.{bits, no_level}

-- A number below n + 1 is n or below n.
pub last? : {k n : ℕ} → k < suc n → (k ≡ n) ⊎ (k < n)
last? {k} {n} h = eq-or-lt_of_le (omega arith)

pub bits_lt : (n : ℕ) (f : ℕ → Bool) → bits n f < 2 ^ n
unfolding bits
bits_lt zero f = lit< tt
bits_lt (suc n) f = go (f n) (bits_lt n f)
  where
    go : (b : Bool) → bits n f < 2 ^ n → pick b (2 ^ n) 0 + bits n f < 2 ^ suc n
    go true h = rw (pow-suc 2 n) (omega arith)
    go false h = rw (pow-suc 2 n) (omega arith)

-- equality

-- Sets that agree below n have one number.
pub bits_agree : (n : ℕ) (f g : ℕ → Bool) → ((k : ℕ) → k < n → f k ≡ g k) → bits n f ≡ bits n g
unfolding bits
bits_agree zero f g h = refl
bits_agree (suc n) f g h =
    ap₂ (λ (b : Bool) (m : ℕ). pick b (2 ^ n) 0 + m) (h n (omega arith)) (bits_agree n f g (λ k l. h k (omega arith)))

-- One bit more: two numbers are equal only if their highest bits and the rests are.
module _ (n : ℕ) (f g : ℕ → Bool) where
  parts : bits (suc n) f ≡ bits (suc n) g → (f n ≡ g n) × (bits n f ≡ bits n g)
  unfolding bits
  parts e = go (f n) (g n) refl refl e (bits_lt n f) (bits_lt n g)
    where
      go : (a b : Bool) → f n ≡ a → g n ≡ b
          → pick a (2 ^ n) 0 + bits n f ≡ pick b (2 ^ n) 0 + bits n g
          → bits n f < 2 ^ n → bits n g < 2 ^ n → (f n ≡ g n) × (bits n f ≡ bits n g)
      go true true p q e lf lg = (p ∙ sym q, omega arith)
      go true false p q e lf lg = absurd (omega arith)
      go false true p q e lf lg = absurd (omega arith)
      go false false p q e lf lg = (p ∙ sym q, omega arith)

-- Sets of one number agree below n.
pub bits_same : (n : ℕ) (f g : ℕ → Bool) → bits n f ≡ bits n g → (k : ℕ) → k < n → f k ≡ g k
bits_same zero f g e k h = absurd (omega arith)
bits_same (suc n) f g e k h =
    ⊎_elim
    (λ l. ap f l ∙ (parts n f g e).0 ∙ sym (ap g l))
    (λ l. bits_same n f g (parts n f g e).1 k l)
    (last? h)

pub bits_nobody : (n : ℕ) → bits n no_level ≡ 0
unfolding bits
bits_nobody zero = refl
bits_nobody (suc n) = rw (bits_nobody n)

-- The number is 0 exactly when nothing below n is in the set.
pub bits_none : (n : ℕ) (f : ℕ → Bool) → ((k : ℕ) → k < n → f k ≡ false) → bits n f ≡ 0
bits_none n f h = bits_agree n f no_level h ∙ bits_nobody n

pub bits_zero : (n : ℕ) (f : ℕ → Bool) → bits n f ≡ 0 → (k : ℕ) → k < n → f k ≡ false
bits_zero n f e = bits_same n f no_level (e ∙ sym (bits_nobody n))

-- the operations

abbrev digit : Bool → ℕ
digit b = pick b 1 0

bits_suc : (n : ℕ) (f : ℕ → Bool) → bits (suc n) f ≡ digit (f n) * 2 ^ n + bits n f
unfolding bits
bits_suc n f = ap (λ (x : ℕ). x + bits n f) (go (f n))
  where
    go : (b : Bool) → pick b (2 ^ n) 0 ≡ digit b * 2 ^ n
    go true = sym (one-mul (2 ^ n))
    go false = sym (zero-mul (2 ^ n))

-- An operation that works on each run of digits apart, and on two digits as `on` does, works on sets as `on` does.
module _ (op : ℕ → ℕ → ℕ) (on : Bool → Bool → Bool)
    (block : (k a b r s : ℕ) → r < 2 ^ k → s < 2 ^ k → op (a * 2 ^ k + r) (b * 2 ^ k + s) ≡ op a b * 2 ^ k + op r s)
    (digits : (a b : Bool) → op (digit a) (digit b) ≡ digit (on a b)) (nothing : op 0 0 ≡ 0) where
  bits_op : (n : ℕ) (f g : ℕ → Bool) → op (bits n f) (bits n g) ≡ bits n (λ k. on (f k) (g k))
  unfolding bits
  bits_op zero f g = nothing
  bits_op (suc n) f g =
      ap₂ op (bits_suc n f) (bits_suc n g)
      ∙ block n (digit (f n)) (digit (g n)) (bits n f) (bits n g) (bits_lt n f) (bits_lt n g)
      ∙ ap₂ (λ (x y : ℕ). x * 2 ^ n + y) (digits (f n) (g n)) (bits_op n f g)
      ∙ sym (bits_suc n (λ k. on (f k) (g k)))

digits_or : (a b : Bool) → bit_or (digit a) (digit b) ≡ digit (a || b)
digits_or true true = refl
digits_or true false = refl
digits_or false true = refl
digits_or false false = refl

digits_and : (a b : Bool) → bit_and (digit a) (digit b) ≡ digit (a && b)
digits_and true true = refl
digits_and true false = refl
digits_and false true = refl
digits_and false false = refl

bits_or : (n : ℕ) (f g : ℕ → Bool) → bit_or (bits n f) (bits n g) ≡ bits n (λ k. f k || g k)
bits_or = bits_op bit_or ◌||◌ or_block digits_or refl

bits_and : (n : ℕ) (f g : ℕ → Bool) → bit_and (bits n f) (bits n g) ≡ bits n (λ k. f k && g k)
bits_and = bits_op bit_and ◌&&◌ and_block digits_and refl

bits_sum : (n : ℕ) (f : ℕ → Bool) → bits n f + bits n (λ k. not (f k)) + 1 ≡ 2 ^ n
unfolding bits
bits_sum zero f = refl
bits_sum (suc n) f = go (f n) (bits_sum n f)
  where
    go : (b : Bool) → bits n f + bits n (λ k. not (f k)) + 1 ≡ 2 ^ n
        → (pick b (2 ^ n) 0 + bits n f) + (pick (not b) (2 ^ n) 0 + bits n (λ k. not (f k))) + 1 ≡ 2 ^ suc n
    go true e = rw (pow-suc 2 n) (omega arith)
    go false e = rw (pow-suc 2 n) (omega arith)

bits_not : (n : ℕ) (f : ℕ → Bool) → (2 ^ n - 1) - bits n f ≡ bits n (λ k. not (f k))
bits_not n f = omega (arith, bits_sum n f)

-- one bit

-- The set of k alone.
pub bits_one : (n k : ℕ) → k < n → bits n (λ j. eqb j k) ≡ 2 ^ k
unfolding bits
bits_one zero k h = absurd (omega arith)
bits_one (suc n) k h = go (same? n k) (bits_one n k)
  where
    rest : n ≡ k → bits n (λ j. eqb j k) ≡ 0
    rest e = bits_none n (λ j. eqb j k) (λ j l. ne_eqb j k (omega arith))

    go : Same n k → (k < n → bits n (λ j. eqb j k) ≡ 2 ^ k) → pick (eqb n k) (2 ^ n) 0 + bits n (λ j. eqb j k) ≡ 2 ^ k
    go (same e t) ih =
        ap₂ (λ (b : Bool) (m : ℕ). pick b (2 ^ n) 0 + m) t (rest e) ∙ add-zero (2 ^ n) ∙ ap (λ (m : ℕ). 2 ^ m) e
    go (other d t) ih = ap₂ (λ (b : Bool) (m : ℕ). pick b (2 ^ n) 0 + m) t (ih (omega arith)) ∙ zero-add (2 ^ k)

-- More bits than the set has change nothing.
bits_long : (m n : ℕ) (f : ℕ → Bool) → n ≤ m → ((k : ℕ) → n ≤ k → f k ≡ false) → bits m f ≡ bits n f
unfolding bits
bits_long zero n f h g = let e : zero ≡ n = omega arith in ap (λ (k : ℕ). bits k f) e
bits_long (suc m) n f h g = go (eq-or-lt_of_le h) (bits_long m n f)
  where
    go : (n ≡ suc m) ⊎ (n < suc m) → (n ≤ m → ((k : ℕ) → n ≤ k → f k ≡ false) → bits m f ≡ bits n f)
        → bits (suc m) f ≡ bits n f
    go (inl e) ih = ap (λ (k : ℕ). bits k f) (sym e)
    go (inr l) ih =
        ap₂ (λ (b : Bool) (x : ℕ). pick b (2 ^ m) 0 + x) (g m (omega arith)) (ih (omega arith) g) ∙ zero-add (bits n f)

-- The set without what is past n.
abbrev short : ℕ → (ℕ → Bool) → ℕ → Bool
short n f k = ltb k n && f k

bits_short : (m n : ℕ) (f : ℕ → Bool) → n ≤ m → bits m (short n f) ≡ bits n f
bits_short m n f h =
    bits_long m n (short n f) h (λ k l. ap (λ (b : Bool). b && f k) (le-ltb k n l))
    ∙ bits_agree n (short n f) f (λ k l. ap (λ (b : Bool). b && f k) (lt-ltb k n l))

-- `|` with 2 ^ k sets bit k.
pub set_bit : (n : ℕ) (f : ℕ → Bool) (k : ℕ) → k < n → bit_or (bits n f) (2 ^ k) ≡ bits n (put f k true)
unfolding put
set_bit n f k h =
    ap (bit_or (bits n f)) (sym (bits_one n k h))
    ∙ bits_or n f (λ j. eqb j k)
    ∙ bits_agree n (λ j. f j || eqb j k) (put f k true) (λ j l. go (f j) (eqb j k))
  where
    go : (a b : Bool) → (a || b) ≡ pick b true a
    go true true = refl
    go true false = refl
    go false true = refl
    go false false = refl

-- `&` with the complement of 2 ^ k, a word of m bits, clears bit k.
pub clear_bit :
    (m n : ℕ) (f : ℕ → Bool) (k : ℕ) → n ≤ m → k < n → bit_and (bits n f) ((2 ^ m - 1) - 2 ^ k) ≡ bits n (put f k false)
unfolding put
clear_bit m n f k l h =
    ap₂ bit_and (sym (bits_short m n f l))
    (ap (λ (x : ℕ). (2 ^ m - 1) - x) (sym (bits_one m k (omega arith))) ∙ bits_not m (λ j. eqb j k))
    ∙ bits_and m (short n f) (λ j. not (eqb j k))
    ∙ bits_agree m (λ j. short n f j && not (eqb j k)) (short n (put f k false)) (λ j _. go (ltb j n) (f j) (eqb j k))
    ∙ bits_short m n (put f k false) l
  where
    go : (a b c : Bool) → ((a && b) && not c) ≡ (a && pick c false b)
    go true true true = refl
    go true true false = refl
    go true false true = refl
    go true false false = refl
    go false b c = refl

-- 1 shifted left by k, in a word of 32 bits.
pub one_shifted : (k : ℕ) → k < 32 → (1 * 2 ^ k) % 2 ^ 32 ≡ 2 ^ k
one_shifted k h = shl_exact 1 k 32 (lit< tt) (omega arith) ∙ one-mul (2 ^ k)
