-- Thread t leaves queue q by four stores: what the calls ask, and the links after them.
use borrow.Author.Rules.{rules}
use Rattle.links.proofs.Leaving.{leaver_small, neighbours, unlinked}
use Rattle.links.proofs.unlink.Goals as goal

pub get-next-requires : goal.get-next-requires
get-next-requires c =
    leaver_small c.requires

pub get-prev-requires : goal.get-prev-requires
get-prev-requires c =
    leaver_small c.requires

pub put-requires : goal.put-requires
put-requires c =
    let around = neighbours c.requires c.get-next.ensures c.get-prev.ensures in
    (c.requires.queue, around.before_small)

pub put-requires-2 : goal.put-requires-2
put-requires-2 c =
    let around = neighbours c.requires c.get-next.ensures c.get-prev.ensures in
    (c.requires.queue, around.after_small)

pub put-requires-3 : goal.put-requires-3
put-requires-3 c =
    leaver_small c.requires

pub put-requires-4 : goal.put-requires-4
put-requires-4 c =
    leaver_small c.requires

pub returns : goal.returns
returns c =
    let around = neighbours c.requires c.get-next.ensures c.get-prev.ensures in
    unlinked c.requires around c.put.ensures c.put-2.ensures
    c.put-3.ensures c.put-4.ensures
