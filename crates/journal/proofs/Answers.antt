-- What the calls above rest on: a number that is no one-word call's, and what a part of the journal holds.
use mathlib.Core.Path.{◌≡◌, refl}
use mathlib.Core.List.{List, []}
use mathlib.Core.Logic.{◌≢◌}
use mathlib.Core.Option.{Option, none}
use Prim.Native.Nat.{ℕ, ◌+◌, ◌-◌, ◌^◌, ◌/◌, ◌%◌, ◌<◌}
use native.Mathlib.Omega.{arith}
use native.Mathlib.Numerals.{add-one}
use lib.ListN.{length, get_or, take, drop, length-drop}
use lib.Seq.{drop-cons, take_all}
use Rattle.calls.specs.declared.Call.{Call}
use Rattle.journal.specs.Words.{top_byte, words_taken}
use Rattle.journal.specs.Words.{call_of, call_at, judged, read_from, read_at}
use Rattle.journal.proofs.Numbers.{by_number, taken_most}
use Rattle.journal.proofs.Refusals.{ends}
use Rattle.journal.proofs.Options.{unused_none, unused_both_none}

-- a number that is none of a one-word call, as the last arm of a match on them knows it
abbrev pub Other : ℕ → Type 0
Other n =
    (((((((((Unit {0} × n ≢ 1) × n ≢ 2) × n ≢ 3) × n ≢ 4) × n ≢ 5) × n ≢ 6) × n ≢ 8) × n ≢ 9) × n ≢ 10) × n ≢ 11

pub no_short : (s a n : ℕ) → Other n → call_of n s a [] ≡ none
unfolding call_of
no_short s a =
    by_number (λ n. Other n → call_of n s a [] ≡ none)
    (λ h. refl)
    (λ h. absurd (h.0.0.0.0.0.0.0.0.0.1 refl))
    (λ h. absurd (h.0.0.0.0.0.0.0.0.1 refl))
    (λ h. absurd (h.0.0.0.0.0.0.0.1 refl))
    (λ h. absurd (h.0.0.0.0.0.0.1 refl))
    (λ h. absurd (h.0.0.0.0.0.1 refl))
    (λ h. absurd (h.0.0.0.0.1 refl))
    (λ h. unused_none a)
    (λ h. absurd (h.0.0.0.1 refl))
    (λ h. absurd (h.0.0.1 refl))
    (λ h. absurd (h.0.1 refl))
    (λ h. absurd (h.1 refl))
    (λ h. refl)
    (λ h. unused_both_none (a / 2 ^ 6 % 2 ^ 2) (a / 2 ^ 12))
    (λ k h. refl)

-- the part of a list from a place on
pub part_is : (l : List ℕ) (n : ℕ) → take (length l - n) (drop n l) ≡ drop n l
part_is l n = take_all (length l - n) (drop n l) (omega (arith, length-drop n l))

-- reading at a word, with the rest of the journal as a part of it
pub read_word_at :
    (j : List ℕ) (at n : ℕ) (named : Option Call) → at < length j →
    named ≡ call_at (get_or j at 0) (take (length j - (at + 1)) (drop (at + 1) j)) →
    n ≡ words_taken (top_byte (get_or j at 0)) → judged at (at + n) named ≡ read_at j at
unfolding read_at read_from
read_word_at j at n named h e t = rw (e, part_is j (at + 1), drop-cons j at 0 h, t, add-one at)

-- What reading a call at a place goes by.
pub ruleset reads = (ends, read_word_at, taken_most)
