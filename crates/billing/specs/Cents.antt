-- What ticks cost.
use Rattle.std.specs.Prelude.{ℕ, ◌+◌, ◌*◌, ◌/◌, ◌≤◌}

-- So many thousandths of a cent in whole cents, "rounded to nearest, the half upward".
unfoldable pub rounded : ℕ → ℕ
rounded x = (x + 500) / 1000

-- "A rate of 0 to 10,000 cents for 1,000 ticks gives each thread's charge in whole cents"
abbrev pub cents : ℕ → ℕ → ℕ
cents rate ticks = rounded (ticks * rate)

-- c cents are nearest to x thousandths: no more than half a cent above them, and less than half a cent below.
pub record Nearest (x c : ℕ) : Type 0 where
  pub low : 1000 * c ≤ x + 500
  pub high : x + 500 ≤ 1000 * c + 999
