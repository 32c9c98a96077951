-- The thread joins its level's queue at the head, and the level is set occupied.
use Rattle.queues.proofs.Joining.{enqueued_first}
use Rattle.queues.proofs.enqueue_first.Goals as goal

pub returns : goal.returns
returns c =
    enqueued_first c.thread-p.ensures c.push_head.ensures
    c.set_occupied.ensures
