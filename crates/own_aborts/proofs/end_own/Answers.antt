-- Broken off where a waiter is left, else ended.
use Rattle.own_aborts.proofs.Working.{chooses_asked, thread_asked, endable_asked, ended_asked, own_broken}
use Rattle.own_aborts.proofs.Working.{own_ended_lem}
use Rattle.own_aborts.proofs.end_own.Goals as goal

pub accept-requires : goal.accept-requires
accept-requires c = search chooses_asked

pub returns-then-cursor-ne-NOBODY : goal.returns-then-cursor-ne-NOBODY
returns-then-cursor-ne-NOBODY c =
    own_broken c.endpoint-cursor.ensures c.if-cursor-ne-NOBODY.true c.accept.ensures

pub drop_debt-requires : goal.drop_debt-requires
drop_debt-requires c =
    thread_asked c.requires

pub end_abort-requires : goal.end_abort-requires
end_abort-requires c = search endable_asked

pub accept-requires-2 : goal.accept-requires-2
accept-requires-2 c =
    ended_asked c.drop_debt.ensures c.end_abort.ensures c.requires

pub returns : goal.returns
returns c =
    own_ended_lem c.endpoint-cursor.ensures c.if-cursor-ne-NOBODY.false c.drop_debt.ensures
    c.end_abort.ensures c.accept-2.ensures
