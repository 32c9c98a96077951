-- The lister: it is fed the bytes of a journal one by one, and a part of them is their fold. How its text comes to be
-- `listing_of`, `telling_of` or `numbered_of` of all bytes is known by the theorems of proofs/Division; these
-- definitions are for reading contracts.
use Rattle.std.specs.Prelude.{ℕ, ◌+◌, ◌*◌, ◌%◌, ◌^◌, Bool, true, false, ◌&&◌, List, [], ◌∷◌, ◌++◌, length, nat_le}
use Rattle.machine.specs.Lists.{pick}
use Rattle.calls.specs.Answers.{thread_of}
use Rattle.journal.specs.Words.{top_byte, words_taken, read_at}
use Rattle.lent_tables.specs.Entries.{Lent, lent, freshened, runner_in}
use Rattle.input.specs.Words.{little_endian, words_in}
use Rattle.rows.specs.declared.Turn.{Turn}
use Rattle.rows.specs.declared.Turn.TheVariants.{Took, Stopped, Over}
use Rattle.rows.specs.Taking.{Turned, turned}
use Rattle.forms.specs.declared.Form.{Form}
use Rattle.forms.specs.Forms.{call_text, stop_text}

-- Between two bytes: those of a call that is not yet whole, the next call's index, whether the journal goes on, and the
-- lent memory.
pub record Progress : Type 0 where
  pub held : List ℕ
  pub index : ℕ
  pub going : Bool
  pub lent : Lent

-- Where it stands afterwards, and the bytes that are written.
pub record Told : Type 0 where
  pub after : Progress
  pub text : List ℕ

-- The bytes have all the words that their first word asks for.
abbrev pub ready : List ℕ → Bool
ready bytes = nat_le 4 (length bytes) && nat_le (words_taken (top_byte (little_endian bytes 0)) * 4) (length bytes)

-- Nothing is written; these bytes are held.
abbrev pub holding : List ℕ → Progress → Told
holding bytes s =
    record {
      after = record { held = bytes; index = s.index; going = s.going; lent = s.lent };
      text = [];
    }

-- The text of a call taken, before which whoever runs in the lent memory ran, or of what stops the journal. Bytes that
-- are ready are never over.
abbrev pub told_of : Form → Turn → Lent → Progress → Told
told_of f (Took c a who next) m s =
    record {
      after = record { held = []; index = (s.index + 1) % 2 ^ 64; going = s.going; lent = m };
      text = call_text f s.index (thread_of (runner_in s.lent.tables)) c a (thread_of who);
    }
told_of f (Stopped code who) m s =
    record {
      after = record { held = []; index = s.index; going = false; lent = m };
      text = stop_text f s.index code (thread_of who);
    }
told_of f Over m s = record {
  after = record { held = []; index = s.index; going = s.going; lent = m };
  text = [];
}

abbrev pub told_by : Form → Turned → Progress → Told
told_by f r s = told_of f r.turn r.left s

-- The bytes of a call are taken with its last one.
abbrev pub offered : Form → List ℕ → Progress → Told
offered f bytes s =
    pick (ready bytes) (told_by f (turned (read_at (words_in bytes) 0) s.lent) s) (holding bytes s)

-- One byte more; none is taken once the journal has stopped.
unfoldable pub byte_to : Form → ℕ → Progress → Told
byte_to f b s = pick s.going (offered f (s.held ++ (b ∷ [])) s) (holding s.held s)

-- A part of the bytes.
unfoldable pub fed : Form → List ℕ → Progress → Told
fed f [] s = holding s.held s
fed f (b ∷ part) s = record {
  after = (fed f part (byte_to f b s).after).after;
  text = (byte_to f b s).text ++ (fed f part (byte_to f b s).after).text;
}

-- The bytes have ended: those still held are odd bytes, or a call that lacks words, which both are 18.
abbrev pub ending_with : Form → List ℕ → Progress → List ℕ
ending_with f [] s = []
ending_with f (b ∷ held) s = stop_text f s.index 18 (thread_of (runner_in s.lent.tables))

unfoldable pub ending : Form → Progress → List ℕ
ending f s = pick s.going (ending_with f s.held s) []

-- Parts in turn.
unfoldable pub fed_parts : Form → List (List ℕ) → Progress → Told
fed_parts f [] s = holding s.held s
fed_parts f (part ∷ parts) s = record {
  after = (fed_parts f parts (fed f part s).after).after;
  text = (fed f part s).text ++ (fed_parts f parts (fed f part s).after).text;
}

-- The bytes of the parts, one behind the other.
unfoldable pub joined : List (List ℕ) → List ℕ
joined [] = []
joined (part ∷ parts) = part ++ joined parts

-- At the beginning nothing is held, and the first index is 0.
abbrev pub starting : Lent → Progress
starting m = record { held = []; index = 0; going = true; lent = m }

-- Tables and grants lent are made fresh before.
abbrev pub starting_fresh : Lent → Progress
starting_fresh m =
    starting
    (lent (freshened m.tables m.grants).tables (freshened m.tables m.grants).grants m.scratch)
