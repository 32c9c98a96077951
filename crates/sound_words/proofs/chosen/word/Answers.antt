use native.Mathlib.Omega.{arith}
use Rattle.sound_words.proofs.Summing.{share_of, summed_none, summed_more}
use Rattle.sound_words.proofs.Summing.{word_is}
use Rattle.sound_words.proofs.chosen.word.Goals as goal

pub loop-k-init : goal.loop-k-init
loop-k-init c = summed_none _

pub loop-k-preserved : goal.loop-k-preserved
loop-k-preserved c = summed_more _ _ c.loop-k.invariant (share_of c.loop-k.bit c.wide.ensures c.share-sum.ensures)

pub returns : goal.returns
returns c = word_is _ _ c.loop-k.k (omega arith) (omega arith) c.loop-k.invariant
