-- The lister in lent memory: where its struct stands, and what a function of it writes.
use Rattle.std.specs.Prelude.{◌≡◌, ℕ, List, take}
use Rattle.texts.specs.Buffer.{Wrote}
use Rattle.lent_tables.specs.Entries.{Lent}
use Rattle.lister.specs.declared.Lister.{Lister}
use Rattle.lister.specs.Feeding.{Progress, Told}

-- The code's PER_BYTE: room for the text of a call, a quarter for each byte of its first word.
abbrev pub per_byte : ℕ
per_byte = 56

-- The bytes held are the first of the struct's twelve.
abbrev pub progress_of : Lister → Lent → Progress
progress_of l m = record { held = take l.held l.bytes; index = l.index; going = l.going; lent = m }

-- The lister afterwards stands where it is told, and the text stands in the buffer behind the bytes used, whose other
-- bytes are as they were; so many are used then.
pub record Feeds (t : Told) (out : List ℕ) (used : ℕ) (l : Lister) (n : ℕ) (m : Lent) (out' : List ℕ) : Type 0 where
  pub after : progress_of l m ≡ t.after
  pub text : Wrote out used t.text n out'
