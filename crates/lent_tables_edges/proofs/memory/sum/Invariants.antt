-- The sum is a remainder.
use Rattle.std.proofs.Common.{◌<◌}
use Rattle.lent_tables_edges.proofs.memory.sum.Given as goal

abbrev pub invariant-loop-w : goal.invariant-loop-w
invariant-loop-w l = l.sum < 4294967291
