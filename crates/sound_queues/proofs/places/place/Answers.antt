-- A thread stands where its place says, by its mark and the words read.
use Rattle.sound_queues.proofs.Placing.{placed_is}
use Rattle.sound_queues.proofs.places.place.Goals as goal

pub returns : goal.returns
returns c =
    placed_is _ _ (c.has_met-met.ensures.tells _ c.requires.0) c.thread-place.ensures
    c.wide-running.ensures c.wide.ensures c.wide-2.ensures
