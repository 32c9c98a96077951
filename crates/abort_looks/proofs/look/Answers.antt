-- A waiter under the badge is woken, another passed.
use Rattle.abort_looks.proofs.Looks.{thread_asked, waits_asked, look_removed}
use Rattle.abort_looks.proofs.Looks.{look_kept}
use Rattle.abort_looks.proofs.look.Goals as goal

pub thread-badge-requires : goal.thread-badge-requires
thread-badge-requires c = search thread_asked

pub wake_from-requires : goal.wake_from-requires
wake_from-requires c = search waits_asked

pub returns-then-hit : goal.returns-then-hit
returns-then-hit c =
    look_removed c.thread-badge.ensures c.under_abort-hit.ensures c.if-hit.true
    c.wake_from.ensures

pub pass_marks-requires : goal.pass_marks-requires
pass_marks-requires c = search waits_asked

pub returns : goal.returns
returns c =
    look_kept c.thread-badge.ensures c.under_abort-hit.ensures c.if-hit.false
    c.pass_marks.ensures
