-- Looks at the other badge's pending; with none left it ends, and the call's own begins.
use Rattle.own_aborts.proofs.Working.{within_asked, chooses_asked, over_asked}
use Rattle.own_aborts.proofs.Working.{looked_asked, looks_bound, rest_small, other_broken, other_ended}
use Rattle.other_aborts.proofs.work_other.Goals as goal

pub accept-requires : goal.accept-requires
accept-requires c =
    chooses_asked (looked_asked c.look_up_to-n.ensures c.requires.0)

pub returns-then-pending-ne-NOBODY : goal.returns-then-pending-ne-NOBODY
returns-then-pending-ne-NOBODY c =
    other_broken c.look_up_to-n.ensures c.endpoint-pending.ensures _ c.if-pending-ne-NOBODY.true
    c.accept.ensures

pub overflow_sub-rest : goal.overflow_sub-rest
overflow_sub-rest c =
    looks_bound c.look_up_to-n.ensures (within_asked c.requires.0)

pub begin_after-requires : goal.begin_after-requires
begin_after-requires c = (
  over_asked c.end_abort.ensures
      (looked_asked c.look_up_to-n.ensures c.requires.0),
  rest_small c.look_up_to-n.ensures (within_asked c.requires.0) c.requires.1,
  c.requires.2,
)

pub returns : goal.returns
returns c =
    other_ended c.look_up_to-n.ensures c.endpoint-pending.ensures _ c.if-pending-ne-NOBODY.false
    c.end_abort.ensures c.begin_after.ensures
