-- Thread t joins the tail of queue q by three stores: what the calls ask, and the links after them.
use Rattle.links.proofs.Joining.{tail_small, pushed_tail}
use Rattle.links.proofs.push_tail.Goals as goal

pub put-requires : goal.put-requires
put-requires c =
    (c.requires.queue, tail_small c.requires c.get-last.ensures)

pub returns : goal.returns
returns c =
    pushed_tail c.requires c.get-last.ensures c.put.ensures
    c.put-2.ensures c.put-3.ensures
