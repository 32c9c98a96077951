-- The tests of the check hold exactly where the memory shows a sound state.
use Prim.Native.Nat.{ℕ}
use mathlib.Core.Path.{◌≡◌}
use mathlib.Core.Logic.{◌↔◌}
use mathlib.Core.Bool.{true}
use mathlib.Core.List.{List}
use lib.ListN.{length}
use Rattle.machine.specs.State.{State}
use Rattle.machine.specs.Sound.{Sound}
use Rattle.layout.specs.Addresses.{table_words}
use Rattle.layout.specs.Shows.{Shows}
use Rattle.layout.specs.Decode.{decode}
use Rattle.layout.proofs.Neat.{sound_neat}
use Rattle.soundness.specs.Checks.{good_test}
use Rattle.soundness.proofs.Reading.{Reads}
use Rattle.soundness.proofs.Tried.{tells_tried, left_of, tried_of}
use Rattle.soundness.proofs.Shown.{tried_reads}
use Rattle.soundness.proofs.Soundness.{left_sound, left_linked, sound_left}

-- The memory shows a sound state.
pub record SoundTables (m : List ℕ) : Type 0 where
  pub state : State
  pub sound : Sound state
  pub shows : Shows m state

-- Where all tests pass, the decoded state is sound and shown.
pub good_decoded : (m : List ℕ) → length m ≡ table_words → good_test m ≡ true → Sound (decode m) × Shows m (decode m)
good_decoded m size h =
    let T = (tells_tried m).holds h in
    let R = tried_reads m T in
    let L = left_of m (decode m) R T in (
      left_sound m (decode m) R L,
      record { size = size; links = left_linked m (decode m) R L; slots = R.slots },
    )

-- A memory that shows a sound state passes all tests.
pub sound_good : (m : List ℕ) (s : State) → Sound s → Shows m s → good_test m ≡ true
sound_good m s S M =
    let R : Reads m s = record { neat = sound_neat s S; slots = M.slots; chains = M.links.chains } in
    (tells_tried m).back (tried_of m s R (sound_left m s R S M.links))

-- All tests pass exactly where the memory shows a sound state.
pub good_exactly : (m : List ℕ) → length m ≡ table_words → (good_test m ≡ true) ↔ SoundTables m
good_exactly m size = (
  λ h. let r = good_decoded m size h in record { state = decode m; sound = r.0; shows = r.1 },
  λ r. sound_good m r.state r.sound r.shows,
)
