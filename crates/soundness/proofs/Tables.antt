-- Each sound memory shows one machine state and each state has one memory.
use Prim.Native.Nat.{ℕ}
use mathlib.Core.Path.{◌≡◌, refl, ap, subst}
use mathlib.Core.Logic.{◌↔◌}
use mathlib.Core.Bool.{Bool, true, false, ◌&&◌}
use mathlib.Core.Option.{Option, none, some}
use mathlib.Core.List.{List}
use lib.Dec.{eqb}
use lib.ListN.{length}
use borrow.Author.Tests.{eq-eqb}
use Rattle.machine.specs.Lists.{pick}
use Rattle.machine.specs.State.{State}
use Rattle.machine.specs.Sound.{Sound}
use Rattle.layout.specs.Addresses.{table_words}
use Rattle.layout.specs.Words.{image}
use Rattle.layout.specs.Shows.{Shows}
use Rattle.layout.specs.Decode.{decode}
use Rattle.layout.proofs.Ends.{none_some}
use Rattle.layout.proofs.Image.{shows_image}
use Rattle.layout.proofs.Decode.{shows_decode, image_stands}
use Rattle.layout.proofs.Tests.{tells_eqb}
use Rattle.soundness.specs.Checks.{good_test}
use Rattle.soundness.specs.Tables.{state_of}
use Rattle.soundness.proofs.Good.{good_decoded, sound_good}

-- A memory of which state_of gives a state is of 4,096 words, and passes all tests.
found :
    (m : List ℕ) (s : State) (a b : Bool) → pick (a && b) (some (decode m)) none ≡ some s
    → (a ≡ true) × (b ≡ true) × (decode m ≡ s)
found m s true true e = (refl, refl, cc)
found m s true false e = none_some e
found m s false b e = none_some e

state_sound : (m : List ℕ) (s : State) → state_of m ≡ some s → Sound s × (m ≡ image s)
unfolding state_of
state_sound m s e =
    let f = found m s (eqb (length m) table_words) (good_test m) e in
    let g = good_decoded m ((tells_eqb (length m) table_words).holds f.0) f.1 in
    let S = g.0 in
    subst (λ (z : State). Sound z × (m ≡ image z)) f.2
    (S, shows_image (decode m) S.ranges S.queues m g.1)

-- The state of a memory that shows a sound state is that state.
pub shows_state : (m : List ℕ) (s : State) → Sound s → Shows m s → state_of m ≡ some s
unfolding state_of
shows_state m s S M =
    rw (eq-eqb (length m) table_words M.size, sound_good m s S M) (ap {B = Option State} some (shows_decode m s S M))

-- state_of m is some s exactly when s is sound and m is its image.
pub state_exact : (m : List ℕ) (s : State) → (state_of m ≡ some s) ↔ (Sound s × (m ≡ image s))
state_exact m s = (state_sound m s, λ k. shows_state m s k.0 (image_stands m s k.0 k.1))

pub state_image : (s : State) → Sound s → state_of (image s) ≡ some s
state_image s S = (state_exact (image s) s).1 (S, refl)

-- A memory of which state_of gives a state shows it.
pub state_shows : (m : List ℕ) (s : State) → state_of m ≡ some s → Shows m s
state_shows m s e = let k = (state_exact m s).0 e in image_stands m s k.0 k.1

-- Of 4,096 words the tests alone decide.
pub good_state : (m : List ℕ) → length m ≡ table_words → state_of m ≡ pick (good_test m) (some (decode m)) none
unfolding state_of
good_state m size = rw (eq-eqb (length m) table_words size)
