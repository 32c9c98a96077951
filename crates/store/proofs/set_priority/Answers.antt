-- The store sets the priority.
use Rattle.store.proofs.Blocks.{priority_does}
use Rattle.store.proofs.set_priority.Goals as goal

pub returns : goal.returns
returns c = priority_does _ _ c.put.ensures
