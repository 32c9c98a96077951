-- Refused by the status and by the abort, in that order; else the debt goes and the message is handed over.
use Rattle.endings.proofs.Tests.{passed_on}
use Rattle.waiting.proofs.Callers.{thread_asked, dropped_asked}
use Rattle.transfers.proofs.Handing.{send_shut, send_under, sent}
use Rattle.transfers.proofs.send.Goals as goal

pub returns-in_err-endpoint_open : goal.returns-in_err-endpoint_open
returns-in_err-endpoint_open c =
    passed_on c.from_residual.result _ c.from_residual.ensures.1 (send_shut c.in_err-endpoint_open.ensures)

pub returns-then-under : goal.returns-then-under
returns-then-under c =
    send_under c.in_ok-endpoint_open.ensures c.under_abort-under.ensures c.if-under.true

pub drop_debt-requires : goal.drop_debt-requires
drop_debt-requires c = thread_asked c.requires

pub hand-requires : goal.hand-requires
hand-requires c =
    dropped_asked c.drop_debt.ensures c.requires

pub returns : goal.returns
returns c =
    sent c.in_ok-endpoint_open.ensures c.under_abort-under.ensures c.if-under.false c.drop_debt.ensures
    c.hand.ensures
