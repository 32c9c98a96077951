-- The notes, no abort and the status: three steps that are the machine's one.
use Rattle.debts.proofs.Ending.{ends}
use Rattle.debts.proofs.end_abort.Goals as goal

pub returns : goal.returns
returns c = search ends depth 9
