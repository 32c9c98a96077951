-- Two stores, of the cursor and of the end mark.
use Rattle.store.proofs.Sites.{looks}
use Rattle.store.proofs.set_marks.Goals as goal

pub returns : goal.returns
returns c =
    looks _ _ _ c.put.ensures c.put-2.ensures
