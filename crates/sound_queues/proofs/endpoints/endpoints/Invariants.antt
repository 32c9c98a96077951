-- All endpoints. The loop's invariant: those below e pass, and whom they have was met.
use Prim.Native.Nat.{ℕ, ◌<◌}
use mathlib.Core.Bool.{true}
use mathlib.Core.Path.{◌≡◌}
use Rattle.layout.specs.Addresses.{endpoint_queue}
use Rattle.soundness.specs.Checks.{endpoint_test, met_below}
use Rattle.sound_queues.specs.Met.{met_in}
use Rattle.sound_queues.proofs.endpoints.endpoints.Given as goal

abbrev pub invariant-loop-e : goal.invariant-loop-e
invariant-loop-e l =
    (l.scratch ≡ met_in (met_below (endpoint_queue l.e) l.tables))
    × ((k : ℕ) → k < l.e → endpoint_test l.tables k ≡ true)
