-- The store sets the line.
use Rattle.store.proofs.Singles.{line_does}
use Rattle.store.proofs.set_line.Goals as goal

pub returns : goal.returns
returns c = line_does _ _ c.put.ensures
