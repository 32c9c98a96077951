-- The head of the highest queue leaves it and runs.
use Rattle.scheduler.proofs.Choosing.{nobody_ready, readable, head_there, head_shown, head_left, dispatched}
use Rattle.scheduler.proofs.dispatch.Goals as goal

pub returns-in_default : goal.returns-in_default
returns-in_default c =
    nobody_ready c.highest_level.ensures c.in_default.is

pub first-link-requires : goal.first-link-requires
first-link-requires c =
    readable c.highest_level.ensures c.in-Some.p c.in-Some.is
    c.requires

pub overflow_sub-link : goal.overflow_sub-link
overflow_sub-link c =
    head_there c.highest_level.ensures c.in-Some.p c.in-Some.is
    c.first-link.ensures c.requires

pub leave_head-requires : goal.leave_head-requires
leave_head-requires c =
    head_shown c.highest_level.ensures c.in-Some.p c.in-Some.is
    c.first-link.ensures c.requires

pub set_running-requires : goal.set_running-requires
set_running-requires c =
    head_left c.highest_level.ensures c.in-Some.p c.in-Some.is
    c.first-link.ensures c.leave_head.ensures c.requires

pub returns : goal.returns
returns c =
    dispatched c.highest_level.ensures c.in-Some.p c.in-Some.is
    c.first-link.ensures c.leave_head.ensures c.set_running.ensures
