-- The place of the first waiter, by the link to it.
use Rattle.sound_queues.proofs.Aborting.{kind_none, kind_far, kind_first}
use Rattle.sound_queues.proofs.endpoints.kind.Goals as goal

pub returns-then-y-eq-NOBODY : goal.returns-then-y-eq-NOBODY
returns-then-y-eq-NOBODY c = rw (← c.wide-y.ensures) (kind_none _ _ _ c.if-y-eq-NOBODY.true)

pub returns-then-y-gt-LAST_LINK : goal.returns-then-y-gt-LAST_LINK
returns-then-y-gt-LAST_LINK c = rw (← c.wide-y.ensures) (kind_far _ _ _ c.if-y-gt-LAST_LINK.true)

pub returns : goal.returns
returns c =
    rw (← c.wide-y.ensures)
    (kind_first _ _ _ c.if-y-eq-NOBODY.false c.if-y-gt-LAST_LINK.false c.thread.ensures)
