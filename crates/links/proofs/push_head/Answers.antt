-- Thread t joins the head of queue q by three stores: what the calls ask, and the links after them.
use Rattle.links.proofs.Joining.{head_small, pushed_head}
use Rattle.links.proofs.push_head.Goals as goal

pub put-requires : goal.put-requires
put-requires c =
    (c.requires.queue, head_small c.requires c.get-first.ensures)

pub returns : goal.returns
returns c =
    pushed_head c.requires c.get-first.ensures c.put.ensures
    c.put-2.ensures c.put-3.ensures
