-- The block after the tick is stored back; at the last tick the thread stands down.
use Rattle.time_slices.proofs.Ticking.{caller_asked, store_asked, one_tick, stand_asked, last_tick}
use Rattle.time_slices.proofs.take_tick.Goals as goal

pub load-block-requires : goal.load-block-requires
load-block-requires c = search caller_asked

pub store-requires : goal.store-requires
store-requires c =
    store_asked c.load-block.ensures c.lend_to_tick-after.ensures c.requires

pub returns-then-block-ne1 : goal.returns-then-block-ne1
returns-then-block-ne1 c =
    one_tick c.load-block.ensures c.lend_to_tick-after.ensures c.store.ensures
    c.if-block-ne1.true

pub stand_down-requires : goal.stand_down-requires
stand_down-requires c = search stand_asked

pub returns : goal.returns
returns c = search last_tick
