-- How much of standard input is looked at.
use Rattle.std.specs.Prelude.{ℕ}

-- The code's ROOM: the rate and 16,001 words, one more than is billed.
abbrev pub input_room : ℕ
input_room = 64008
