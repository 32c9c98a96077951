-- Where nobody runs nothing changes.
use Rattle.time_slices.proofs.Ticking.{nobody_ticks}
use Rattle.time_slices.proofs.tick_running.Goals as goal

pub returns-in-0 : goal.returns-in-0
returns-in-0 c = nobody_ticks c.running.ensures c.in-0.is
