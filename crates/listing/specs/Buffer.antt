-- What the header or a line becomes in a lent buffer: whole at its front if the buffer has room for every line, else
-- nothing.
use Rattle.std.specs.Prelude.{ℕ, List, ◌++◌, leb, length, drop}
use Rattle.machine.specs.Lists.{pick}

-- The code's ROOM: every line fits, whatever its numbers.
abbrev pub line_room : ℕ
line_room = 96

-- How many bytes are written: the text's, into a buffer with room for every line, else none.
unfoldable pub line_length : List ℕ → List ℕ → ℕ
line_length text out = pick (leb line_room (length out)) (length text) 0

-- The buffer afterwards: the text at its front and the rest as it was or, without that room, all as it was.
unfoldable pub after_line : List ℕ → List ℕ → List ℕ
after_line text out = pick (leb line_room (length out)) (text ++ drop (length text) out) out
