-- The words of the empty set compute to 0.
use mathlib.Core.Path.{refl}
use Rattle.summary.specs.Levels.{bits, word_of, top_of, level_words, summary_of}
use Rattle.summary.proofs.Summary.new.Goals as goal

pub returns : goal.returns
unfolding summary_of level_words top_of word_of bits
returns c = refl
