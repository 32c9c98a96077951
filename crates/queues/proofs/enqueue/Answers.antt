-- The thread joins its level's queue, and the level is set occupied.
use Rattle.queues.proofs.Joining.{enqueued}
use Rattle.queues.proofs.enqueue.Goals as goal

pub returns : goal.returns
returns c =
    enqueued c.thread-p.ensures c.push_tail.ensures c.set_occupied.ensures
