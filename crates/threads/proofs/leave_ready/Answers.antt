-- A ready thread leaves its level's queue; else it is the one that runs.
use Rattle.threads.proofs.Leaving.{left_level, left_running}
use Rattle.threads.proofs.leave_ready.Goals as goal

pub returns-then-ready : goal.returns-then-ready
returns-then-ready c = search left_level

pub returns : goal.returns
returns c = search left_running
