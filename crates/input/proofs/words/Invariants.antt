-- The words so far are those of the bytes.
use Rattle.input.proofs.Filling.{WordsOf}
use Rattle.input.proofs.words.Given as goal

abbrev pub invariant-loop-i : goal.invariant-loop-i
invariant-loop-i l = WordsOf l.bytes l.words l.i
