-- What the tools for C come to, for all numbers and buffers.
use Rattle.std.specs.Prelude.{ℕ, List, leb, length}
use Rattle.std.proofs.Math.Option.{Option, none, some}
use Rattle.calls.specs.declared.Answer.{Answer}
use Rattle.calls.specs.declared.Call.{Call}
use Rattle.calls.specs.Numbers.{answer_in}
use Rattle.machine.specs.Lists.{pick}
use Rattle.texts.specs.Filed.{Filed, unfiled}
use Rattle.numbers.specs.Numbers.{call_in}
use Rattle.wording.specs.Entry.{sentence_room, sentence_for}

-- 28 before anything else, then 18 where no call is named, then 19
abbrev pub sentence_named : Option Call → Answer → List ℕ → Filed
sentence_named (some c) a out = sentence_for c a out
sentence_named none a out = unfiled (pick (leb sentence_room (length out)) 18 28) out

-- The sentence of a call that passes as six numbers and an answer that passes as four.
unfoldable pub sentence_in : List ℕ → List ℕ → List ℕ → Filed
sentence_in numbers answer out = sentence_named (call_in numbers) (answer_in answer) out
