use borrow.Author.Count.{below_none, below_more}
use native.Mathlib.Omega.{arith}
use Rattle.sound_words.proofs.Summing.{summary_bad, summary_is, share_of, agree}
use Rattle.sound_words.proofs.Summing.{summed_none, summed_more}
use Rattle.sound_words.proofs.chosen.summary.Goals as goal

pub loop-w-init : goal.loop-w-init
loop-w-init c = (summed_none _, below_none _)

pub returns-then-wide-word : goal.returns-then-wide-word
returns-then-wide-word c =
    summary_bad _ c.loop-w.w (omega arith) c.word-word.ensures c.wide.ensures
    c.if-wide-word.true

pub loop-w-preserved : goal.loop-w-preserved
loop-w-preserved c = (
  summed_more _ _ c.loop-w.invariant.0
      (share_of c.loop-w.bit c.word-word.ensures c.share-sum.ensures),
  below_more _ _
      c.loop-w.invariant.1
      (agree _ _ c.word-word.ensures c.wide.ensures c.if-wide-word.false),
)

pub returns : goal.returns
returns c =
    summary_is _ c.loop-w.w (omega arith) (omega arith) c.loop-w.invariant.0
    c.loop-w.invariant.1 c.wide-2.ensures
