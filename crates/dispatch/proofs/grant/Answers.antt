-- What is granted is stored where thread and endpoint are there.
use borrow.Author.Rules.{rules}
use Rattle.endings.proofs.Tests.{passed_on}
use Rattle.dispatch.proofs.Granting.{for_grant, accepted_regrants, refused_grants}
use Rattle.dispatch.proofs.grant.Goals as goal

pub returns-in_err-accepted-clause-performs : goal.returns-in_err-accepted-clause-performs
returns-in_err-accepted-clause-performs c =
    passed_on c.from_residual.result _ c.from_residual.ensures.1 (for_grant c.in_err-accepted.ensures)

pub returns-in_err-accepted-clause-regrants : goal.returns-in_err-accepted-clause-regrants
returns-in_err-accepted-clause-regrants c =
    refused_grants _ c.from_residual.result _ (search rules) c.from_residual.ensures.0

pub returns-clause-performs : goal.returns-clause-performs
returns-clause-performs c = for_grant c.in_ok-accepted.ensures

pub returns-clause-regrants : goal.returns-clause-regrants
returns-clause-regrants c = accepted_regrants _ _ c.give.ensures
