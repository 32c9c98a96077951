-- What is longer than any bill takes needs no reading.
use Prim.Native.Nat.{ℕ, ◌%◌, ◌≤◌, ◌<◌}
use mathlib.Core.Path.{◌≡◌}
use mathlib.Core.List.{List}
use native.Mathlib.Omega.{arith}
use borrow.Author.Tests.{le-leb, lt-leb}
use lib.ListN.{length, drop, replicate, length-drop}
use Rattle.input.specs.Words.{little_endian, words_in}
use Rattle.input.proofs.Appended.{length_words}
use Rattle.billing.specs.Ticks.{count_for}
use Rattle.billing.specs.Bills.{alone, billed, printed}

too_many : (input : List ℕ) → 64008 ≤ length input → 16000 < length (words_in (drop 4 input))
too_many input h = omega (arith, h, length_words (drop 4 input), length-drop 4 input)

over :
    (journal : List ℕ) (rate odd : ℕ) (counts : List ℕ) → 16000 < length journal
    → billed (count_for journal rate counts) rate odd ≡ alone 30
unfolding count_for
over journal rate odd counts h = rw (lt-leb (length journal) 16000 h)

pub long_input : (input : List ℕ) → 64008 ≤ length input → printed input ≡ alone 30
unfolding printed
long_input input h =
    rw (le-leb 4 (length input) (omega (arith, h)))
    (over (words_in (drop 4 input)) (little_endian input 0) (length input % 4) (replicate 257 0) (too_many input h))
