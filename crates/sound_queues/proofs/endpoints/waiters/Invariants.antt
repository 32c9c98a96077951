-- The walk through an endpoint's queue. The invariant is WaitersAt.
use Prim.Native.Nat.{◌-◌}
use Rattle.sound_queues.proofs.Waiting.{WaitersAt}
use Rattle.sound_queues.proofs.endpoints.waiters.Given as goal

abbrev pub invariant-loop : goal.invariant-loop
invariant-loop l =
    WaitersAt l.tables l.e l.k l.cursor l.end l.banned l.initial.scratch l.scratch l.f l.x l.y (257 - l.counter)
