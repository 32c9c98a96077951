-- The tick is taken before the choice.
use Rattle.time_slices.proofs.Ticking.{tick_chooses, ticked}
use Rattle.time_slices.proofs.tick.Goals as goal

pub done-requires : goal.done-requires
done-requires c = search tick_chooses

pub returns : goal.returns
returns c = search ticked
