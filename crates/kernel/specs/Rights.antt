-- The refusal by 29 over two lent memories.
use Rattle.std.specs.Prelude.{ℕ, ◌≡◌, true}
use Rattle.std.proofs.Math.Option.{some}
use Rattle.calls.specs.declared.Call.{Call}
use Rattle.calls.specs.Calls.{in_range}
use Rattle.machine.specs.State.{State}
use Rattle.machine.specs.Grants.{Grants}
use Rattle.lent_tables.specs.Entries.{Lent}
use Rattle.kernel.specs.Kept.{Holds}

-- "once the earlier ones are passed": the memory holds a sound state and sound grants, the call's numbers are in range,
-- and thread t runs.
pub record Passed (l : Lent) (c : Call) (t : ℕ) : Type 0 where
  pub grants : Grants
  pub state : State
  pub held : Holds l grants state
  pub range : in_range c ≡ true
  pub runs : state.runs ≡ some t
