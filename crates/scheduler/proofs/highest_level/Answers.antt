-- The summary finds the machine's level.
use Rattle.scheduler.proofs.Choosing.{finds}
use Rattle.scheduler.proofs.highest_level.Goals as goal

pub returns : goal.returns
returns c = finds c.load_summary-summary.ensures c.highest.ensures
