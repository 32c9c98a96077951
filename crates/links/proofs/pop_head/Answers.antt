-- The first of queue q leaves it by three stores: what the calls ask, and the links after them.
use borrow.Author.Rules.{rules}
use Rattle.links.proofs.Leaving.{leaver_small, first_neighbours, popped}
use Rattle.links.proofs.pop_head.Goals as goal

pub get-next-requires : goal.get-next-requires
get-next-requires c =
    leaver_small c.requires.leavable

pub put-requires : goal.put-requires
put-requires c =
    (c.requires.leavable.queue, (first_neighbours c.requires c.get-next.ensures).after_small)

pub put-requires-3 : goal.put-requires-3
put-requires-3 c =
    leaver_small c.requires.leavable

pub returns : goal.returns
returns c =
    popped c.requires c.get-next.ensures c.put.ensures
    c.put-2.ensures c.put-3.ensures
