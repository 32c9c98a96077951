-- What a tick does.
use Rattle.machine.specs.State.{State}
use Rattle.machine.specs.Machine.{tick_for}

-- The tick of whoever runs.
abbrev pub ticking_for : State → State
ticking_for s = tick_for s.runs s
