-- The four stores set the abort.
use Rattle.store.proofs.Sites.{abort_does}
use Rattle.store.proofs.set_abort.Goals as goal

pub returns : goal.returns
returns c =
    abort_does _ _ _ _ _ c.put.ensures c.put-2.ensures c.put-3.ensures
    c.put-4.ensures
