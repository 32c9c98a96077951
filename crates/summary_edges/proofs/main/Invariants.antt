-- What is marked and written in each turn is a summary.
use Rattle.summary.specs.Levels.{IsSummary}
use Rattle.summary_edges.proofs.main.Given as goal

abbrev pub invariant-loop-mark : goal.invariant-loop-mark
invariant-loop-mark l = IsSummary l.s
