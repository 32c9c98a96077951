-- The thread leaves a level's queue, and the level is set empty where it then is.
use Rattle.queues.proofs.Leaving.{leavable_level, emptied, still_occupied}
use Rattle.queues.proofs.leave_level.Goals as goal

pub unlink-requires : goal.unlink-requires
unlink-requires c = leavable_level c.requires

pub returns-then-first-eq-NOBODY : goal.returns-then-first-eq-NOBODY
returns-then-first-eq-NOBODY c =
    emptied c.unlink.ensures c.first-first.ensures c.if-first-eq-NOBODY.true
    c.set_empty.ensures

pub returns-else-first-eq-NOBODY : goal.returns-else-first-eq-NOBODY
returns-else-first-eq-NOBODY c =
    still_occupied c.unlink.ensures c.first-first.ensures c.if-first-eq-NOBODY.false
