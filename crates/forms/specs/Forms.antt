-- The text of a call made, and of what stops a journal, in each form.
use Rattle.std.specs.Prelude.{ℕ, List}
use Rattle.std.proofs.Math.Option.{Option}
use Rattle.calls.specs.declared.Answer.{Answer}
use Rattle.calls.specs.declared.Call.{Call}
use Rattle.calls.specs.Calls.{number_of}
use Rattle.journal.specs.Rows.{last_row}
use Rattle.listing.specs.Line.{line_of}
use Rattle.wording.specs.Sentence.{sentence, stop_line}
use Rattle.numbered.specs.Numbered.{numbered_sentence, numbered_stop, numbered_room}
use Rattle.forms.specs.declared.Form.{Form}
use Rattle.forms.specs.declared.Form.TheVariants.{Lines, Sentences, Numbered}

-- Of a call with this index and answer, before which one thread ran and after which another runs. A line leaves out the
-- first, a sentence both and the index.
abbrev pub call_text : Form → ℕ → Option ℕ → Call → Answer → Option ℕ → List ℕ
call_text Lines i ran c a runs = line_of (record { index = i; call = number_of c; answer = a; running = runs })
call_text Sentences i ran c a runs = sentence c a
call_text Numbered i ran c a runs = numbered_sentence i ran c a runs

-- Of the reader's number, at this index, where this thread runs.
abbrev pub stop_text : Form → ℕ → ℕ → Option ℕ → List ℕ
stop_text Lines i code runs = line_of (last_row i code runs)
stop_text Sentences i code runs = stop_line code
stop_text Numbered i code runs = numbered_stop i code runs

-- The code's ROOM: the text of a call in range fits in each form.
abbrev pub text_room : ℕ
text_room = numbered_room
