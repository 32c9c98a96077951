-- All levels. The loop's invariant: those below p pass, and whom they have was met.
use Prim.Native.Nat.{ℕ, ◌<◌}
use mathlib.Core.Bool.{true}
use mathlib.Core.Path.{◌≡◌}
use Rattle.soundness.specs.Checks.{level_test, met_below}
use Rattle.sound_queues.specs.Met.{met_in}
use Rattle.sound_queues.proofs.levels.levels.Given as goal

abbrev pub invariant-loop-p : goal.invariant-loop-p
invariant-loop-p l =
    (l.scratch ≡ met_in (met_below l.p l.tables))
    × ((k : ℕ) → k < l.p → level_test l.tables k ≡ true)
