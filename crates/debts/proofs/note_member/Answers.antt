-- Where the thread is in the set, it gets the note.
use native.Mathlib.Omega.{arith}
use Rattle.debts.proofs.Noting.{note_other, note_one_lem}
use Rattle.debts.proofs.note_member.Goals as goal

pub returns-then-thread-e : goal.returns-then-thread-e
returns-then-thread-e c = note_one_lem _ c.thread.ensures (omega arith) c.set_owes.ensures

pub returns-else-thread-e : goal.returns-else-thread-e
returns-else-thread-e c = note_other _ c.thread.ensures (λ k. omega (arith, c.if-thread-e.false))
