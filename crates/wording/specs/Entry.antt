-- The sentence in a lent buffer, for all calls, answers and buffers.
use Rattle.std.specs.Prelude.{ℕ, List, Result, Ok, Err, leb, length}
use Rattle.calls.specs.declared.Answer.{Answer}
use Rattle.calls.specs.declared.Call.{Call}
use Rattle.calls.specs.declared.Refusal.{Refusal}
use Rattle.calls.specs.Answers.{code_of}
use Rattle.calls.specs.Calls.{in_range}
use Rattle.machine.specs.Lists.{pick}
use Rattle.texts.specs.Filed.{Filed, filed, unfiled}
use Rattle.wording.specs.Sentence.{sentence, stop_line}

-- The code's ROOM: "a lent buffer of 160 bytes or more"
abbrev pub sentence_room : ℕ
sentence_room = 160

-- "A buffer under 160 bytes is refused by 28 before anything else, then a call out of range by 19; both leave it
-- untouched."
unfoldable pub sentence_for : Call → Answer → List ℕ → Filed
sentence_for c a out =
    pick (leb sentence_room (length out)) (pick (in_range c) (filed (sentence c a) out) (unfiled 19 out))
    (unfiled 28 out)

-- The line that ends a journal's telling, in the same buffer.
unfoldable pub stop_for : ℕ → List ℕ → Filed
stop_for code out = pick (leb sentence_room (length out)) (filed (stop_line code) out) (unfiled 28 out)

-- What the code answers, with the buffer left: the length written, or why it refused.
abbrev pub told : Result ℕ Refusal → List ℕ → Filed
told (Ok used) out = record { code = 0; used = used; out = out }
told (Err why) out = record { code = code_of why; used = 0; out = out }
