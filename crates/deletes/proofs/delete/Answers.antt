-- The debt goes, then the abort; what is left is the removal from a closing endpoint.
use Rattle.endings.proofs.Tests.{passed_on}
use Rattle.deletes.proofs.Deleting.{no_endpoint, endpoint_asked, drop_asked, end_asked, from_asked, deletes}
use Rattle.deletes.proofs.delete.Goals as goal

pub endpoint_there-requires : goal.endpoint_there-requires
endpoint_there-requires c = endpoint_asked c.requires

pub returns-in_err-endpoint_there : goal.returns-in_err-endpoint_there
returns-in_err-endpoint_there c =
    passed_on c.from_residual.result _ c.from_residual.ensures.1 (no_endpoint _ c.in_err-endpoint_there.ensures)

pub drop_debt-requires : goal.drop_debt-requires
drop_debt-requires c = drop_asked c.in_ok-endpoint_there.ensures c.requires

pub end_abort-requires : goal.end_abort-requires
end_abort-requires c = end_asked c.in_ok-endpoint_there.ensures c.drop_debt.ensures c.requires

pub delete_from-requires : goal.delete_from-requires
delete_from-requires c =
    from_asked c.in_ok-endpoint_there.ensures c.drop_debt.ensures c.end_abort.ensures c.requires

pub returns : goal.returns
returns c =
    deletes c.in_ok-endpoint_there.ensures c.drop_debt.ensures c.end_abort.ensures _ c.delete_from.ensures
