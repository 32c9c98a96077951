-- The invariant of the loop of looks.
use Rattle.abort_looks.proofs.Looks.{LooksMade}
use Rattle.abort_looks.proofs.look_up_to.Given as goal

abbrev pub invariant-loop-count : goal.invariant-loop-count
invariant-loop-count l = LooksMade l.initial.tables l.tables l.e l.allowance l.count
