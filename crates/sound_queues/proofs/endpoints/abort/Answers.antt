-- The words of an abort, by whether one stands.
use Rattle.sound_queues.proofs.Aborting.{abort_none, abort_odd, abort_stands}
use Rattle.sound_queues.proofs.endpoints.abort.Goals as goal

pub returns-then-aborting-eq-NO_ABORT : goal.returns-then-aborting-eq-NO_ABORT
returns-then-aborting-eq-NO_ABORT c =
    rw (← c.endpoint-aborting.ensures)
    (abort_none _ _ c.endpoint-badge.ensures
    c.endpoint-cursor.ensures
    c.endpoint-end.ensures _ c.if-aborting-eq-NO_ABORT.true)

pub returns-then-aborting-gt-ABORTING : goal.returns-then-aborting-gt-ABORTING
returns-then-aborting-gt-ABORTING c =
    rw (← c.endpoint-aborting.ensures) (abort_odd _ _ _ c.if-aborting-gt-ABORTING.true)

pub returns : goal.returns
returns c =
    rw (← c.endpoint-aborting.ensures)
    (abort_stands _ _ c.endpoint-badge.ensures
    c.endpoint-cursor.ensures c.endpoint-end.ensures _
    c.if-aborting-eq-NO_ABORT.false c.if-aborting-gt-ABORTING.false)
