-- A thread of a level's queue, by the words read.
use Rattle.sound_queues.proofs.Placing.{ready_is}
use Rattle.sound_queues.proofs.levels.ready.Goals as goal

pub returns : goal.returns
returns c =
    ready_is _ _ _ _ c.wide-prev.ensures c.thread-place.ensures c.thread-priority.ensures
    c.wide-running.ensures
