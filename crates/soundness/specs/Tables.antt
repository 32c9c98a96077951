-- The state that a memory shows, if it shows a sound one. Nothing of the tests has to be believed: state_of is known by
-- its theorem `state_exact`, that it is some s exactly when s is sound and the memory is its image.
use Rattle.std.specs.Prelude.{ℕ, ◌&&◌, List, eqb, length}
use Rattle.std.proofs.Math.Option.{Option, none, some}
use Rattle.machine.specs.Lists.{pick}
use Rattle.machine.specs.State.{State}
use Rattle.layout.specs.Addresses.{table_words}
use Rattle.layout.specs.Decode.{decode}
use Rattle.soundness.specs.Checks.{good_test}

unfoldable pub state_of : List ℕ → Option State
state_of m = pick (eqb (length m) table_words && good_test m) (some (decode m)) none
