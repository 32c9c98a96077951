-- The two stores set what the thread has to do with aborts.
use Rattle.store.proofs.Blocks.{owes_does}
use Rattle.store.proofs.set_owes.Goals as goal

pub returns : goal.returns
returns c =
    owes_does _ _ _ c.put.ensures c.put-2.ensures
