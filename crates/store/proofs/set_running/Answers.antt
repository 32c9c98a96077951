-- The store sets who runs.
use Rattle.store.proofs.Singles.{running_does}
use Rattle.store.proofs.set_running.Goals as goal

pub returns : goal.returns
returns c = running_does _ c.put.ensures
