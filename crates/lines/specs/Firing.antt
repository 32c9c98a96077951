-- What an interrupt does to its line.
use Rattle.std.specs.Prelude.{ℕ}
use Rattle.machine.specs.State.{State}
use Rattle.machine.specs.Machine.{fire}

-- What becomes of line l.
abbrev pub firing : ℕ → State → State
firing l s = fire (s.lines l) l s
