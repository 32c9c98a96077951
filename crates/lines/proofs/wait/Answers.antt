-- Refused where another waits; else the debt goes, and the interrupt is taken or waited for.
use native.Mathlib.Omega.{arith}
use Rattle.waiting.proofs.Callers.{calling_thread, thread_asked, dropped_asked}
use Rattle.lines.proofs.Awaiting.{awaited_refused, line_asked, taken_asked, waiter_asked}
use Rattle.lines.proofs.Awaiting.{waited_pending, waited_quiet}
use Rattle.lines.proofs.wait.Goals as goal

pub drop_debt-requires : goal.drop_debt-requires
drop_debt-requires c = thread_asked c.requires

pub overflow_cast-t : goal.overflow_cast-t
overflow_cast-t c = omega (arith, calling_thread c.requires.holds)

pub overflow_add-t : goal.overflow_add-t
overflow_add-t c = omega (arith, calling_thread c.requires.holds)

pub set_line-requires : goal.set_line-requires
set_line-requires c = line_asked (dropped_asked c.drop_debt.ensures c.requires)

pub suspend-requires : goal.suspend-requires
suspend-requires c =
    waiter_asked c.set_line.ensures (dropped_asked c.drop_debt.ensures c.requires)

pub returns-in-0 : goal.returns-in-0
returns-in-0 c =
    waited_quiet c.line.ensures c.drop_debt.ensures c.in-0.is c.set_line.ensures c.suspend.ensures

pub drop_debt-requires-in-1 : goal.drop_debt-requires-in-1
drop_debt-requires-in-1 c = thread_asked c.requires

pub set_line-requires-in-1 : goal.set_line-requires-in-1
set_line-requires-in-1 c = line_asked (dropped_asked c.drop_debt-in-1.ensures c.requires)

pub done-requires : goal.done-requires
done-requires c =
    taken_asked c.set_line-in-1.ensures (dropped_asked c.drop_debt-in-1.ensures c.requires)

pub returns-in-1 : goal.returns-in-1
returns-in-1 c =
    waited_pending c.line.ensures c.drop_debt-in-1.ensures c.in-1.is c.set_line-in-1.ensures c.done.ensures

pub returns-in_default : goal.returns-in_default
returns-in_default c = awaited_refused c.line.ensures (omega arith)
