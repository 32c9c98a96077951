-- The parts of a line, in turn, and how long they are.
use Prim.Native.Nat.{ℕ, ◌^◌, ◌≤◌, ◌<◌}
use mathlib.Core.Path.{◌≡◌}
use mathlib.Core.Option.{Option, none, some}
use mathlib.Core.List.{List, [], ◌∷◌, ◌++◌, append_assoc}
use native.Mathlib.Omega.{arith}
use lib.ListN.{length, length-append}
use Rattle.calls.specs.declared.Answer.{Answer}
use Rattle.calls.proofs.Answers.{Words}
use Rattle.journal.specs.Rows.{Row}
use Rattle.texts.specs.Decimal.{spaced}
use Rattle.texts.proofs.Digits.{length_below, length_spaced}
use Rattle.listing.specs.Line.{answer_text, runner, line_of}
use Rattle.listing.specs.Buffer.{line_room}

-- What follows each part

abbrev pub newline : List ℕ
newline = 10 ∷ []

abbrev pub from_running : Row → List ℕ
from_running r = runner r.running ++ newline

abbrev pub from_answer : Row → List ℕ
from_answer r = answer_text r.answer ++ from_running r

abbrev pub from_call : Row → List ℕ
from_call r = spaced r.call ++ from_answer r

pub line_is : (r : Row) → line_of r ≡ spaced r.index ++ from_call r
unfolding line_of
line_is r = simp append_assoc

-- Lengths

narrow : (n : ℕ) → n < 2 ^ 32 → length (spaced n) ≤ 11
narrow n h = omega (arith, length_spaced n, length_below 9 n (omega arith))

wide : (n : ℕ) → n < 2 ^ 64 → length (spaced n) ≤ 21
wide n h = omega (arith, length_spaced n, length_below 19 n (omega arith))

-- The running thread's number is a word.
abbrev pub Word : Option ℕ → Type 0
Word none = Unit {0}
Word (some t) = t < 2 ^ 32

answer_short : (a : Answer) → Words a → length (answer_text a) ≤ 44
unfolding answer_text
answer_short a w =
    simp length-append
    (omega (arith, narrow _ w.code, narrow _ w.count, narrow _ w.badge, narrow _ w.message))

runner_short : (r : Option ℕ) → Word r → length (runner r) ≤ 10
unfolding runner
runner_short none h = omega arith
runner_short (some t) h = length_below 9 t (omega arith)

-- A row of the code's numbers: the index has 64 bits, the others have 32.
pub record Sized (r : Row) : Type 0 where
  pub index : r.index < 2 ^ 64
  pub call : r.call < 2 ^ 32
  pub answer : Words r.answer
  pub running : Word r.running

-- Every line of such numbers fits.
pub line_fits : (r : Row) → Sized r → length (line_of r) ≤ line_room
unfolding line_of
line_fits r s =
    simp length-append
    (omega (
      arith,
      wide r.index s.index,
      narrow r.call s.call,
      answer_short r.answer s.answer,
      runner_short r.running s.running,
    ))
