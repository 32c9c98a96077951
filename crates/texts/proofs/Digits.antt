-- Numbers in decimal: the recursive equation, and how many digits there are.
use Prim.Native.Nat.{ℕ, zero, suc, ◌+◌, ◌*◌, ◌/◌, ◌%◌, ◌^◌, ◌≤◌, ◌<◌}
use mathlib.Core.Path.{◌≡◌, refl, sym, ◌∙◌}
use mathlib.Core.Bool.{Bool, true, false}
use mathlib.Core.List.{[], ◌∷◌, ◌++◌}
use native.Mathlib.Omega.{arith}
use native.Mathlib.Nat.{pow-succ'}
use lib.Dec.{ltb}
use lib.ListN.{length, length-append}
use borrow.Author.Tests.{lt-ltb, le-ltb, ltb-true, ltb-false}
use Rattle.texts.specs.Decimal.{digit, last_digits, decimal, spaced}

-- Whether n has one digit or more.
pub data Digits (n : ℕ) : Type 0 where
  one : n < 10 → Digits n
  more : 10 ≤ n → Digits n

pub digits? : (n : ℕ) → Digits n
digits? n = go (ltb n 10) refl
  where
    go : (b : Bool) → ltb n 10 ≡ b → Digits n
    go true e = one (ltb-true n 10 e)
    go false e = more (ltb-false n 10 e)

last_one : (k n : ℕ) → n < 10 → last_digits (suc k) n ≡ digit n ∷ []
unfolding last_digits
last_one k n h = rw (lt-ltb n 10 h, last_digits)

last_more : (k n : ℕ) → 10 ≤ n → last_digits (suc k) n ≡ last_digits k (n / 10) ++ (digit (n % 10) ∷ [])
unfolding last_digits
last_more k n h = rw (le-ltb n 10 h, last_digits)

-- Enough places are as good as any more.
last_enough : (j k n : ℕ) → n < j → n < k → last_digits j n ≡ last_digits k n
last_enough zero k n h g = absurd (omega arith)
last_enough (suc j) zero n h g = absurd (omega arith)
last_enough (suc j) (suc k) n h g = go (digits? n) (last_enough j k (n / 10))
  where
    go :
        Digits n → (n / 10 < j → n / 10 < k → last_digits j (n / 10) ≡ last_digits k (n / 10))
        → last_digits (suc j) n ≡ last_digits (suc k) n
    go (one s) ih = last_one j n s ∙ sym (last_one k n s)
    go (more l) ih = rw (last_more j n l, last_more k n l, ih (omega arith) (omega arith))

pub decimal_one : (n : ℕ) → n < 10 → decimal n ≡ digit n ∷ []
unfolding decimal
decimal_one n h = last_one n n h

pub decimal_more : (n : ℕ) → 10 ≤ n → decimal n ≡ decimal (n / 10) ++ (digit (n % 10) ∷ [])
unfolding decimal
decimal_more n h = rw (last_more n n h, last_enough n (suc (n / 10)) (n / 10) (omega arith) (omega arith))

-- How many digits.

pub length_one : (n : ℕ) → n < 10 → length (decimal n) ≡ 1
length_one n h = rw (decimal_one n h)

pub length_more : (n : ℕ) → 10 ≤ n → length (decimal n) ≡ length (decimal (n / 10)) + 1
length_more n h = rw (decimal_more n h, length-append)

pub length_some : (n : ℕ) → 0 < length (decimal n)
length_some n = go (digits? n)
  where
    go : Digits n → 0 < length (decimal n)
    go (one s) = omega (arith, length_one n s)
    go (more l) = omega (arith, length_more n l)

-- A number below 10 ^ (k + 1) has at most k + 1 digits.
pub length_below : (k n : ℕ) → n < 10 ^ suc k → length (decimal n) ≤ suc k
length_below zero n h = omega (arith, length_one n (h))
length_below (suc k) n h = go (digits? n) (length_below k (n / 10))
  where
    go : Digits n → (n / 10 < 10 ^ suc k → length (decimal (n / 10)) ≤ suc k) → length (decimal n) ≤ suc (suc k)
    go (one s) ih = omega (arith, length_one n s)
    go (more l) ih =
        let g : n < 10 * 10 ^ suc k = rw (pow-succ' 10 (suc k)) at h in
        omega (arith, length_more n l, ih (omega arith))

pub length_spaced : (n : ℕ) → length (spaced n) ≡ length (decimal n) + 1
unfolding spaced
length_spaced n = rw length-append

-- A word of 64 bits has at most 20 digits.
pub length_word : (n : ℕ) → n < 2 ^ 64 → length (decimal n) ≤ 20
length_word n h = length_below 19 n (omega (arith, h))
