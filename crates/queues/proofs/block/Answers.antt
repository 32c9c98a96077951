-- Nobody runs, and the thread is at its place.
use Rattle.queues.proofs.Joining.{halted_shown, blocked}
use Rattle.queues.proofs.block.Goals as goal

pub set_place-requires : goal.set_place-requires
set_place-requires c =
    halted_shown c.set_running.ensures c.requires

pub returns : goal.returns
returns c =
    blocked c.set_running.ensures _ _ _ c.set_place.ensures
