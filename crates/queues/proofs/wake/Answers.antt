-- The thread is able, and joins its level's queue.
use Rattle.queues.proofs.Joining.{roused_shown, woken}
use Rattle.queues.proofs.wake.Goals as goal

pub enqueue-requires : goal.enqueue-requires
enqueue-requires c =
    roused_shown _ _ _ c.requires c.set_place.ensures

pub returns : goal.returns
returns c =
    woken _ _ _ c.set_place.ensures c.enqueue.ensures
