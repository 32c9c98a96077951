-- The line fires, and the call is done.
use Rattle.lines.proofs.Firing.{fired_asked, interrupted}
use Rattle.lines.proofs.interrupt.Goals as goal

pub done-requires : goal.done-requires
done-requires c = search fired_asked depth 9

pub returns : goal.returns
returns c = search interrupted depth 9
