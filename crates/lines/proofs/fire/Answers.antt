-- A quiet line becomes pending, a pending one stays so, and the waiter of one that has a waiter is woken.
use native.Mathlib.Omega.{arith}
use Rattle.lines.proofs.Firing.{fired_quiet, fired_pending, waiter_asked, fired_awaited}
use Rattle.lines.proofs.fire.Goals as goal

pub returns-in-0 : goal.returns-in-0
returns-in-0 c = fired_quiet c.line.ensures c.in-0.is c.set_line.ensures

pub returns-in-1 : goal.returns-in-1
returns-in-1 c = fired_pending c.line.ensures c.in-1.is

pub wake-requires : goal.wake-requires
wake-requires c = waiter_asked c.line.ensures (omega arith) c.set_line-in_default.ensures c.requires

pub returns-in_default : goal.returns-in_default
returns-in_default c =
    fired_awaited c.line.ensures (omega arith) c.set_line-in_default.ensures c.wake.ensures
