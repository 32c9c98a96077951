-- The next row of a journal's listing: what the reader's answer comes to on the lent memory.
use Rattle.std.specs.Prelude.{ℕ}
use Rattle.journal.specs.declared.types.Read.{Read}
use Rattle.journal.specs.declared.types.Read.TheVariants.{Found, Refused, Ended}
use Rattle.lent_tables.specs.Entries.{Lent, called, runner_in}
use Rattle.rows.specs.declared.Turn.{Turn}
use Rattle.rows.specs.declared.Turn.TheVariants.{Took, Stopped, Over}

-- The turn, and the memory left.
pub record Turned : Type 0 where
  pub turn : Turn
  pub left : Lent

-- A call that was read is taken on the lent memory. Where none was, the memory stays as it is.
abbrev pub turned : Read → Lent → Turned
turned (Found c next) l =
    record {
      turn = Took c (called l c).answer (runner_in (called l c).left.tables) next;
      left = (called l c).left;
    }
turned (Refused code at) l = record { turn = Stopped code (runner_in l.tables); left = l }
turned Ended l = record { turn = Over; left = l }

-- The reader's number where a turn stopped, else 0.
abbrev pub code_of : Turn → ℕ
code_of (Took c a who next) = 0
code_of (Stopped code who) = code
code_of Over = 0
