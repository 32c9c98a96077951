-- The loop's invariant.
use Rattle.deletes.proofs.Removing.{Removing}
use Rattle.deletes.proofs.remove.Given as goal

abbrev pub invariant-loop-count : goal.invariant-loop-count
invariant-loop-count l = Removing l.initial.tables l.tables l.e l.allowance l.count
