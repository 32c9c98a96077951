-- The walk through the queue of a level. The invariant is LevelAt.
use Prim.Native.Nat.{◌-◌}
use Rattle.sound_queues.proofs.Queues.{LevelAt}
use Rattle.sound_queues.proofs.levels.level.Given as goal

abbrev pub invariant-loop : goal.invariant-loop
invariant-loop l = LevelAt l.tables l.p l.initial.scratch l.scratch l.x l.y (257 - l.counter)
