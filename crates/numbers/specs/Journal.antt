-- A call as six plain numbers, read from a journal and written to it.
use Rattle.std.specs.Prelude.{ℕ, List, [], ◌∷◌}
use Rattle.std.proofs.Math.Option.{Option, none, some}
use Rattle.calls.specs.declared.Call.{Call}
use Rattle.journal.specs.declared.types.Read.{Read}
use Rattle.journal.specs.declared.types.Read.TheVariants.{Found, Refused, Ended}
use Rattle.journal.specs.Words.{Written, read_at, written}
use Rattle.numbers.specs.declared.types.Reading.{Reading}
use Rattle.numbers.specs.Numbers.{numbers_of}

-- Read: 0, the first word not yet read and the call's numbers; the reader's 18 or 19, its place and zeros; at the end
-- of the journal 255, the place as it was and zeros.
abbrev pub as_reading : ℕ → Read → Reading
as_reading at (Found c next) = record { code = 0; at = next; call = numbers_of c }
as_reading at (Refused code place) = record { code = code; at = place; call = 0 ∷ 0 ∷ 0 ∷ 0 ∷ 0 ∷ 0 ∷ [] }
as_reading at Ended = record { code = 255; at = at; call = 0 ∷ 0 ∷ 0 ∷ 0 ∷ 0 ∷ 0 ∷ [] }

unfoldable pub reading : List ℕ → ℕ → Reading
reading journal at = as_reading at (read_at journal at)

-- Write: as the journal's writer; 18 and zeros where no call is named.
abbrev pub written_for : Option Call → Written
written_for (some c) = written c
written_for none = record { code = 18; count = 0; words = 0 ∷ 0 ∷ 0 ∷ [] }
