-- What an entry that writes a line, file or journal answers and leaves.
use Rattle.std.specs.Prelude.{ℕ, List, ◌++◌, length, drop}

-- "answers 0 and the length written, and a refusal its number and 0", and the buffer afterwards
pub record Filed : Type 0 where
  pub code : ℕ
  pub used : ℕ
  pub out : List ℕ

-- The text at the buffer's front, what is behind it untouched.
abbrev pub filed : List ℕ → List ℕ → Filed
filed text out = record { code = 0; used = length text; out = text ++ drop (length text) out }

-- Refused: the buffer as it was.
abbrev pub unfiled : ℕ → List ℕ → Filed
unfiled code out = record { code = code; used = 0; out = out }
