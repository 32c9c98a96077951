-- A sentence with the call's place, as docs/SENTENCES.md words it: its index and who makes it before the sentence, who
-- runs then behind it. The sentence inside is the same, without its full stop.
use Rattle.std.specs.Prelude.{ℕ, ◌&&◌, List, ◌++◌, leb}
use Rattle.std.proofs.Math.Option.{Option, none, some}
use Rattle.calls.specs.declared.Answer.{Answer}
use Rattle.calls.specs.declared.Call.{Call}
use Rattle.calls.specs.Calls.{number_of}
use Rattle.machine.specs.Lists.{pick}
use Rattle.texts.specs.Text.{bytes}
use Rattle.texts.specs.Decimal.{decimal}
use Rattle.wording.specs.Sentence.{clause, stop_clause}

-- A thread by its number, or nobody.
unfoldable pub named : Option ℕ → List ℕ
named none = bytes "nobody"
named (some t) = bytes "thread " ++ decimal t

-- Who makes the call of this number: of calls 7 to 12 whoever ran before, of the others the host.
unfoldable pub caller : ℕ → Option ℕ → List ℕ
caller number ran = pick (leb 7 number && leb number 12) (named ran) (bytes "host")

-- The index and who makes the call.
unfoldable pub heading : ℕ → ℕ → Option ℕ → List ℕ
heading i number ran = decimal i ++ bytes ", " ++ caller number ran ++ bytes ": "

-- Who runs then, and the end of the line.
unfoldable pub closing : Option ℕ → List ℕ
closing runs = bytes "; " ++ named runs ++ bytes " runs.\n"

-- Of a call made: its index, who ran before it, the call, its answer, and who runs after it.
unfoldable pub numbered_sentence : ℕ → Option ℕ → Call → Answer → Option ℕ → List ℕ
numbered_sentence i ran c a runs = heading i (number_of c) ran ++ clause c a ++ closing runs

-- Of the reader's number, at this index, where this thread runs: nobody makes a word that is no call.
unfoldable pub numbered_stop : ℕ → ℕ → Option ℕ → List ℕ
numbered_stop i code runs = decimal i ++ bytes ": " ++ stop_clause code ++ closing runs

-- The code's ROOM: every line of a call in range fits.
abbrev pub numbered_room : ℕ
numbered_room = 224
