-- The number of who runs.
use Prim.Native.Nat.{ℕ, ◌≤◌}
use mathlib.Core.Path.{◌≡◌, refl}
use mathlib.Core.List.{List}
use mathlib.Core.Option.{some}
use native.Mathlib.Omega.{arith}
use Rattle.std.specs.Prelude.{None, Some}
use Rattle.std.specs.Prelude as code
use Rattle.calls.specs.Answers.{thread_of}
use Rattle.lent_tables.specs.Entries.{runner_in}
use Rattle.lent_tables.proofs.Runner.{running_within}
use Rattle.core_c.specs.Entries.{runner_number}

-- "The thread that runs, or 256", whatever the words are.
pub within : (m : List ℕ) → runner_number (runner_in m) ≤ 256
within m = go (runner_in m) (running_within m)
  where
    go : (r : code.Option ℕ) → ((t : ℕ) → thread_of r ≡ some t → t ≤ 255) → runner_number r ≤ 256
    go None h = omega arith
    go (Some t) h = omega (arith, h t refl)
