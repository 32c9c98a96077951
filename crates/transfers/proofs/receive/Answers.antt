-- Refused by the status; else the debt goes and a message is taken or waited for.
use Rattle.endings.proofs.Tests.{passed_on}
use Rattle.waiting.proofs.Callers.{thread_asked, dropped_asked}
use Rattle.transfers.proofs.Taking.{receive_shut, receive_live}
use Rattle.transfers.proofs.receive.Goals as goal

pub returns-in_err-endpoint_open : goal.returns-in_err-endpoint_open
returns-in_err-endpoint_open c =
    passed_on c.from_residual.result _ c.from_residual.ensures.1 (receive_shut c.in_err-endpoint_open.ensures)

pub drop_debt-requires : goal.drop_debt-requires
drop_debt-requires c = thread_asked c.requires

pub take-requires : goal.take-requires
take-requires c =
    dropped_asked c.drop_debt.ensures c.requires

pub returns : goal.returns
returns c =
    receive_live c.in_ok-endpoint_open.ensures c.drop_debt.ensures c.take.ensures
