-- With somebody left the delete is broken off; else the endpoint goes.
use Rattle.deletes.proofs.Deleting.{broken_asked, broken_off, gone_asked, deleted_all}
use Rattle.deletes.proofs.delete_from.Goals as goal

pub accept-requires : goal.accept-requires
accept-requires c = search broken_asked

pub returns-then-first-ne-NOBODY : goal.returns-then-first-ne-NOBODY
returns-then-first-ne-NOBODY c =
    broken_off c.remove-count.ensures c.first-first.ensures c.if-first-ne-NOBODY.true
    c.accept.ensures

pub accept-requires-2 : goal.accept-requires-2
accept-requires-2 c =
    gone_asked c.remove-count.ensures c.first-first.ensures c.if-first-ne-NOBODY.false
    c.set_status.ensures c.requires

pub returns : goal.returns
returns c =
    deleted_all c.remove-count.ensures c.first-first.ensures c.if-first-ne-NOBODY.false
    c.set_status.ensures c.accept-2.ensures
