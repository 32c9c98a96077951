-- The tests of a thread's place, and of one met in a level's queue, as the code takes them: by the values read.
use Prim.Native.Nat.{ℕ, ◌+◌}
use mathlib.Core.Bool.{Bool, not, ◌&&◌, ◌||◌, beq}
use mathlib.Core.List.{List}
use mathlib.Core.Path.{◌≡◌}
use native.Mathlib.Numerals.{add-one}
use lib.Dec.{eqb, leb, ltb}
use Rattle.layout.specs.declared.Field.{Field}
use Rattle.layout.specs.declared.Slot.{Slot}
use Rattle.layout.specs.declared.Link.{Link}
use Rattle.layout.specs.Addresses.{at, link_at, word}
use Rattle.soundness.specs.Checks.{thread_at, met_below, queued_test, placed_test, ready_test}
use Rattle.sound_queues.specs.Steps.{ready_behind}
use Rattle.sound_queues.proofs.Aborting.{beq_same}

pub placed_is :
    (m : List ℕ) (t : ℕ) {b : Bool} {p r n v : ℕ} → b ≡ met_below 320 m t → p ≡ thread_at m Field.Place t
    → r ≡ word m (at Slot.Running) → n ≡ word m (link_at (Link.Next t)) → v ≡ word m (link_at (Link.Prev t))
    → (beq b ((eqb p 1 && not (eqb r (t + 1))) || (leb 2 p && ltb p 130)) && (b || (eqb n 0 && eqb v 0)))
    ≡ placed_test m t
unfolding placed_test queued_test
placed_is m t e f g h i = rw (beq_same, add-one, e, f, g, h, i)

pub ready_is :
    (m : List ℕ) (p x t : ℕ) {v k q r : ℕ} → v ≡ word m (link_at (Link.Prev t)) → k ≡ thread_at m Field.Place t
    → q ≡ thread_at m Field.Priority t → r ≡ word m (at Slot.Running)
    → (eqb v x && (eqb k 1 && eqb q p && not (eqb r (t + 1)))) ≡ ready_behind m p x t
unfolding ready_test
ready_is m p x t e f g h = rw (add-one, e, f, g, h)
