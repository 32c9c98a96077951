-- The charge is nearest, with the half upward, and nothing else is.
use Prim.Native.Nat.{ℕ}
use mathlib.Core.Path.{◌≡◌, refl}
use native.Mathlib.Omega.{arith}
use Rattle.billing.specs.Cents.{rounded, cents, Nearest}

pub cents_nearest : (x : ℕ) → Nearest x (rounded x)
unfolding rounded
cents_nearest x = record { low = omega arith; high = omega arith }

pub nearest_only : (x c d : ℕ) → Nearest x c → Nearest x d → c ≡ d
nearest_only x c d m n = omega (arith, m.low, m.high, n.low, n.high)

-- "500 ticks at rate 1 cost 1 cent"
pub half_a_cent : cents 1 500 ≡ 1
unfolding rounded
half_a_cent = refl

pub below_half_a_cent : cents 1 499 ≡ 0
unfolding rounded
below_half_a_cent = refl
