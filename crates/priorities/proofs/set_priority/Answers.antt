-- An absent thread is refused, the same priority changes nothing, another is a change.
use Rattle.endings.proofs.Tests.{passed_on}
use Rattle.priorities.proofs.Prioritising.{priority_refused, same_asked, priority_same}
use Rattle.priorities.proofs.Prioritising.{priority_chooses, priority_changed}
use Rattle.priorities.proofs.set_priority.Goals as goal

pub returns-in_err-thread_there : goal.returns-in_err-thread_there
returns-in_err-thread_there c =
    passed_on c.from_residual.result _ c.from_residual.ensures.1 (priority_refused _ c.in_err-thread_there.ensures)

pub done-requires : goal.done-requires
done-requires c =
    same_asked c.requires

pub returns-then-old-p : goal.returns-then-old-p
returns-then-old-p c =
    priority_same _ c.in_ok-thread_there.ensures c.thread-old.ensures c.if-old-p.true c.done.ensures

pub done-requires-2 : goal.done-requires-2
done-requires-2 c =
    priority_chooses _ c.in_ok-thread_there.ensures c.thread-old.ensures c.change.ensures c.requires

pub returns : goal.returns
returns c =
    priority_changed _ c.in_ok-thread_there.ensures c.thread-old.ensures c.change.ensures c.if-old-p.false
    c.done-2.ensures
