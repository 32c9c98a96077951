-- The debt goes, the thread stands down, and somebody is chosen.
use Rattle.time_slices.proofs.Ticking.{yield_asked, down_asked, yield_chooses, yielded}
use Rattle.time_slices.proofs.yield_running.Goals as goal

pub drop_debt-requires : goal.drop_debt-requires
drop_debt-requires c =
    yield_asked c.requires

pub stand_down-requires : goal.stand_down-requires
stand_down-requires c =
    down_asked c.drop_debt.ensures c.requires

pub done-requires : goal.done-requires
done-requires c = search yield_chooses

pub returns : goal.returns
returns c = search yielded
