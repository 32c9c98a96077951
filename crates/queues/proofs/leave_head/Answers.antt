-- The first leaves a level's queue, and the level is set empty where it then is.
use Rattle.queues.proofs.Leaving.{leading_level, emptied, still_occupied}
use Rattle.queues.proofs.leave_head.Goals as goal

pub pop_head-next-requires : goal.pop_head-next-requires
pop_head-next-requires c = leading_level c.requires

pub returns-then-next-eq-NOBODY : goal.returns-then-next-eq-NOBODY
returns-then-next-eq-NOBODY c =
    emptied c.pop_head-next.ensures.0 c.pop_head-next.ensures.1 c.if-next-eq-NOBODY.true
    c.set_empty.ensures

pub returns-else-next-eq-NOBODY : goal.returns-else-next-eq-NOBODY
returns-else-next-eq-NOBODY c =
    still_occupied c.pop_head-next.ensures.0 c.pop_head-next.ensures.1 c.if-next-eq-NOBODY.false
