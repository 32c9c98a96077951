-- Where it was accepted, the thread's row is cleared.
use borrow.Author.Rules.{rules}
use Rattle.machine.specs.Grants.{regranted}
use Rattle.endings.proofs.Tests.{passed_on}
use Rattle.dispatch.proofs.Granting.{accepted_regrants, refused_grants}
use Rattle.dispatch.proofs.create_thread.Goals as goal

pub returns-in_err-accepted-clause-performs : goal.returns-in_err-accepted-clause-performs
returns-in_err-accepted-clause-performs c =
    passed_on c.from_residual.result _ c.from_residual.ensures.1 c.in_err-accepted.ensures

pub returns-in_err-accepted-clause-regrants : goal.returns-in_err-accepted-clause-regrants
returns-in_err-accepted-clause-regrants c =
    refused_grants _ c.from_residual.result _ (search rules) c.from_residual.ensures.0

pub returns-clause-regrants : goal.returns-clause-regrants
unfolding regranted
returns-clause-regrants c = accepted_regrants _ _ c.clear_thread.ensures
