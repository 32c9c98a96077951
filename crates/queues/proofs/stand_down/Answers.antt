-- Nobody runs, and the thread joins its level's queue.
use Rattle.queues.proofs.Joining.{stopped_shown, stood_down}
use Rattle.queues.proofs.stand_down.Goals as goal

pub enqueue-requires : goal.enqueue-requires
enqueue-requires c =
    stopped_shown c.requires c.set_running.ensures

pub returns : goal.returns
returns c =
    stood_down c.set_running.ensures c.enqueue.ensures
