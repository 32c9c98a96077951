-- A word of the summary. The loop's invariant: the bits below k are summed.
use Rattle.sound_words.proofs.Summing.{Summed, levels_of}
use Rattle.sound_words.proofs.chosen.word.Given as goal

abbrev pub invariant-loop-k : goal.invariant-loop-k
invariant-loop-k l =
    Summed (levels_of l.tables l.w) l.k l.sum l.bit
