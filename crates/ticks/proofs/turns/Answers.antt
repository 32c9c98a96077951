use Rattle.ticks.proofs.Counting.{begun}
use Rattle.ticks.proofs.turns.Goals as goal

pub loop-next-init : goal.loop-next-init
loop-next-init c = begun c.requires.1 c.requires.2
