-- Who runs, read from the tables.
use Rattle.std.proofs.Common.{◌≡◌, ℕ, zero, suc, ◌≤◌, Bool, true, false, eqb, leb, List, length, refl, arith, eq-eqb}
use Rattle.std.proofs.Common.{le-leb, leb-true}
use Rattle.std.specs.Prelude.{None}
use mathlib.Core.Option.{Option, none, some, some-injective}
use Rattle.machine.specs.Lists.{pick}
use Rattle.machine.specs.State.{State}
use Rattle.calls.specs.Answers.{thread_of}
use Rattle.machine.specs.Sound.{Sound}
use Rattle.layout.specs.declared.Slot.{Slot}
use Rattle.layout.specs.Addresses.{table_words, word, at, slot}
use Rattle.layout.specs.Words.{image, link_of}
use Rattle.layout.proofs.Ends.{none_some}
use Rattle.layout.proofs.Image.{length_image, image_name}
use Rattle.layout.proofs.Neat.{sound_neat}
use Rattle.lent_tables.specs.Entries.{runner_of, as_link, runner_in}

-- Whatever the words are, whoever runs is a thread.
pub running_within : (m : List ℕ) (t : ℕ) → thread_of (runner_in m) ≡ some t → t ≤ 255
unfolding runner_in
running_within m t = go (eqb (length m) table_words) (leb (word m (at Slot.Running)) 256) (word m (at Slot.Running))
    refl
  where
    small : (w : ℕ) → w ≤ 256 → thread_of (runner_of w) ≡ some t → t ≤ 255
    small zero k e = none_some e
    small (suc u) k e = let same = some-injective u t e in omega arith

    go : (a b : Bool) (w : ℕ) → leb w 256 ≡ b
        → thread_of (pick a (runner_of (pick b w 0)) None) ≡ some t → t ≤ 255
    go false b w k e = none_some e
    go true false w k e = none_some e
    go true true w k e = small w (leb-true w 256 k) e

-- In the memory of a sound state it is the thread that runs.
pub running_image : (s : State) → Sound s → thread_of (runner_in (image s)) ≡ s.runs
unfolding runner_in
running_image s S =
    rw (eq-eqb (length (image s)) table_words (length_image s), image_name s (slot Slot.Running) tt) (go s.runs refl)
  where
    go : (o : Option ℕ) → s.runs ≡ o → thread_of (runner_of (as_link (link_of o))) ≡ o
    go none k = refl
    go (some t) k = rw (le-leb (suc t) 256 (omega (arith, (sound_neat s S).runs_small t k)))
