-- The call of a thread that is answered by no note.
use Rattle.std.specs.Prelude.{ℕ}
use Rattle.machine.specs.State.{State}
use Rattle.machine.specs.Results.{Result}
use Rattle.machine.specs.Aborts.{abort_at}

-- The call of a thread with no note of this endpoint and badge.
abbrev pub unnoted : ℕ → ℕ → ℕ → ℕ → State → Result
unnoted t e a b s = abort_at (s.endpoints e).status t e a b s
