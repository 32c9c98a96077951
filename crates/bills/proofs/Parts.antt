-- The parts of a thread's line, in turn, and how long they are.
use Prim.Native.Nat.{ℕ, suc, ◌+◌, ◌*◌, ◌^◌, ◌≤◌, ◌<◌}
use mathlib.Core.Path.{◌≡◌}
use mathlib.Core.List.{List, [], ◌∷◌, ◌++◌, append_assoc}
use native.Mathlib.Omega.{arith}
use native.Mathlib.Nat.{mul-le-mul}
use lib.ListN.{length, length-append}
use Rattle.texts.specs.Decimal.{decimal, spaced}
use Rattle.texts.proofs.Digits.{length_below, length_spaced}
use Rattle.billing.specs.Cents.{rounded, cents}
use Rattle.billing.specs.Ticks.{most_words, most_rate}
use Rattle.billing.specs.Bills.{line_of, alone}
use Rattle.bills.specs.Lines.{line_room}

-- What the code multiplies stays far below 2 ^ 32.
pub product : (rate n : ℕ) → rate ≤ most_rate → n ≤ most_words → n * rate ≤ 160000000
product rate n r h = omega (arith, mul-le-mul h r)

pub cents_few : (rate n : ℕ) → rate ≤ most_rate → n ≤ most_words → cents rate n ≤ 160000
unfolding rounded
cents_few rate n r h = omega (arith, product rate n r h)

-- What follows the thread's number.
abbrev pub from_ticks : ℕ → ℕ → List ℕ
from_ticks rate n = spaced n ++ alone (cents rate n)

pub line_is : (rate t n : ℕ) → line_of rate t n ≡ spaced t ++ from_ticks rate n
line_is rate t n = simp append_assoc

-- A number below 10 ^ (k + 1), and the byte after it.
spaced_below : (k n : ℕ) → n < 10 ^ suc k → length (spaced n) ≤ suc k + 1
spaced_below k n h = omega (arith, length_spaced n, length_below k n h)

pub alone_below : (k n : ℕ) → n < 10 ^ suc k → length (alone n) ≤ suc k + 1
alone_below k n h = omega (arith, length-append (decimal n) (10 ∷ []), length_below k n h)

pub line_fits : (rate t n : ℕ) → rate ≤ most_rate → n ≤ most_words → t < 256 → length (line_of rate t n) ≤ line_room
line_fits rate t n r h s =
    rw (line_is rate t n)
    (omega (
      arith,
      length-append (spaced t) (from_ticks rate n),
      length-append (spaced n) (alone (cents rate n)),
      spaced_below 2 t (omega arith),
      spaced_below 4 n (omega arith),
      alone_below 5 (cents rate n) (omega (arith, cents_few rate n r h)),
    ))
