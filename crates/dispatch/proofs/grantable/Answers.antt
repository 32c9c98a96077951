-- The thread's place, then the endpoint's status.
use Rattle.endings.proofs.Tests.{passed_on}
use Rattle.dispatch.proofs.Granting.{grant_absent, grant_missing, granted}
use Rattle.dispatch.proofs.grantable.Goals as goal

pub returns-in_err-thread_there : goal.returns-in_err-thread_there
returns-in_err-thread_there c =
    passed_on c.from_residual.result _ c.from_residual.ensures.1 (grant_absent c.in_err-thread_there.ensures)

pub returns-in_err-endpoint_there : goal.returns-in_err-endpoint_there
returns-in_err-endpoint_there c =
    passed_on c.from_residual-in_err-endpoint_there.result _ c.from_residual-in_err-endpoint_there.ensures.1
    (grant_missing c.in_ok-thread_there.ensures c.in_err-endpoint_there.ensures)

pub returns : goal.returns
returns c = granted c.in_ok-thread_there.ensures c.in_ok-endpoint_there.ensures
