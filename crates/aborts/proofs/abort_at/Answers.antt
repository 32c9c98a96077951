-- The refusals by status, and the work of a caller without other debts.
use native.Mathlib.Omega.{arith}
use Rattle.endings.proofs.Tests.{passed_on}
use Rattle.aborts.proofs.Opening.{endpoint_asked, note_asked, not_open, open_asked, opened}
use Rattle.aborts.proofs.abort_at.Goals as goal

pub endpoint_open-requires : goal.endpoint_open-requires
endpoint_open-requires c = endpoint_asked c.requires

pub returns-in_err-endpoint_open : goal.returns-in_err-endpoint_open
returns-in_err-endpoint_open c =
    passed_on c.from_residual.result _ c.from_residual.ensures.1 (not_open c.in_err-endpoint_open.ensures)

pub drop_debt-requires : goal.drop_debt-requires
drop_debt-requires c = note_asked c.requires

pub abort_open-requires : goal.abort_open-requires
abort_open-requires c = (
  open_asked c.in_ok-endpoint_open.ensures c.drop_debt.ensures c.requires,
  omega (arith, c.requires.holds.numbers.1),
  c.requires.holds.numbers.2,
)

pub returns : goal.returns
returns c = opened c.in_ok-endpoint_open.ensures c.drop_debt.ensures c.abort_open.ensures
