-- What the code of a bill goes by: a thread's part of it, and bounds that hold of every bill.
use Rattle.std.specs.Prelude.{ℕ, ◌≤◌, ◌≡◌, List, [], eqb, length, get_or}
use Rattle.machine.specs.Lists.{pick}
use Rattle.billing.specs.Ticks.{count_words, most_words}
use Rattle.billing.specs.Bills.{line_of}

-- A thread's line, if it has ticks.
unfoldable pub entry_of : ℕ → ℕ → ℕ → List ℕ
entry_of rate t n = pick (eqb n 0) [] (line_of rate t n)

-- 257 counts, none above the words of a journal that is billed.
pub record Few (counts : List ℕ) : Type 0 where
  pub all : length counts ≡ count_words
  pub each : (i : ℕ) → get_or counts i 0 ≤ most_words

-- Every line fits, by threads below 256: 3, 5 and 6 digits, two spaces and a newline.
abbrev pub line_room : ℕ
line_room = 17

-- The code's ROOM.
abbrev pub bill_room : ℕ
bill_room = 4608
