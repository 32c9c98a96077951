-- The status of an endpoint, by its word.
use Rattle.sound_queues.proofs.Aborting.{status_absent, status_live, status_closing}
use Rattle.sound_queues.proofs.endpoints.status.Goals as goal

pub returns-then-status-eq-MISSING : goal.returns-then-status-eq-MISSING
returns-then-status-eq-MISSING c =
    rw (← c.endpoint-status.ensures)
    (status_absent _ _ _ c.endpoint-aborting.ensures c.if-status-eq-MISSING.true c.wide.ensures)

pub returns-then-status-eq-LIVE : goal.returns-then-status-eq-LIVE
returns-then-status-eq-LIVE c =
    rw (← c.endpoint-status.ensures)
    (status_live _ _ _ c.endpoint-aborting.ensures c.if-status-eq-LIVE.true)

pub returns : goal.returns
returns c =
    rw (← c.endpoint-status.ensures)
    (status_closing _ _ _ c.endpoint-aborting.ensures c.if-status-eq-MISSING.false c.if-status-eq-LIVE.false)
