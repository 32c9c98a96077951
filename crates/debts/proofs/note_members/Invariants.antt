-- The loop's invariant is NotedBelow.
use Rattle.debts.proofs.Noting.{NotedBelow}
use Rattle.debts.proofs.note_members.Given as goal

abbrev pub invariant-loop-t : goal.invariant-loop-t
invariant-loop-t l = NotedBelow l.initial.tables l.tables l.e l.badge l.t
