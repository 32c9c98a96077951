-- The thread leaves the queue of its level.
use Rattle.queues.proofs.Leaving.{unqueued}
use Rattle.queues.proofs.unqueue.Goals as goal

pub returns : goal.returns
returns c =
    unqueued c.thread-p.ensures c.leave_level.ensures
