-- The store sets the status.
use Rattle.store.proofs.Sites.{status_does}
use Rattle.store.proofs.set_status.Goals as goal

pub returns : goal.returns
returns c = status_does _ _ c.put.ensures
