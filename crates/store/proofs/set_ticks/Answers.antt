-- The store sets the ticks.
use Rattle.store.proofs.Blocks.{ticks_does}
use Rattle.store.proofs.set_ticks.Goals as goal

pub returns : goal.returns
returns c = ticks_does _ _ c.put.ensures
