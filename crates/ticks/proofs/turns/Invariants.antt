-- Each turn counts one call more, and those left to count get fewer.
use Rattle.std.proofs.Common.{◌-◌, length}
use Rattle.rows.specs.Memory.{within}
use Rattle.ticks.specs.Counting.{Counting}
use Rattle.ticks.proofs.turns.Given as goal

abbrev pub invariant-loop-next : goal.invariant-loop-next
invariant-loop-next l = Counting l.journal l.p (within l.memory) l.counts

abbrev pub decreases-loop-next : goal.decreases-loop-next
decreases-loop-next l = length l.journal - l.p.at
