-- The three ways into the work.
use Rattle.aborts.proofs.Opening.{opens_none, opens_same, opens_other}
use Rattle.aborts.proofs.abort_open.Goals as goal

pub returns-then-here-eq-NO_ABORT : goal.returns-then-here-eq-NO_ABORT
returns-then-here-eq-NO_ABORT c =
    opens_none _ c.endpoint-here.ensures c.if-here-eq-NO_ABORT.true _ c.begin_own.ensures

pub returns-then-same : goal.returns-then-same
returns-then-same c =
    opens_same _ c.under_abort-same.ensures c.if-same.true _ c.join_own.ensures

pub returns : goal.returns
returns c =
    opens_other _ c.under_abort-same.ensures c.if-same.false _ c.endpoint-here.ensures
    c.if-here-eq-NO_ABORT.false c.work_other.ensures
