use mathlib.Core.Path.{sym, ◌∙◌}
use native.Mathlib.Omega.{arith}
use borrow.Author.Count.{below_more}
use Rattle.soundness.specs.Checks.{level_test}
use Rattle.soundness.proofs.Every.{all_hold, one_fails}
use Rattle.sound_queues.proofs.Waiting.{walked_more, walks_failed, walks_all}
use Rattle.sound_queues.proofs.levels.levels.Goals as goal

pub returns-then-not-level : goal.returns-then-not-level
returns-then-not-level c =
    walks_failed (one_fails (level_test _) 256 _ (omega arith)
    (sym c.level.ensures.is ∙ c.if-not-level.true))

pub loop-p-preserved : goal.loop-p-preserved
loop-p-preserved c = (
  walked_more _ _ c.level.ensures
      c.if-not-level.false c.loop-p.invariant.0,
  below_more _ _ c.loop-p.invariant.1
      (sym c.level.ensures.is ∙ c.if-not-level.false),
)

pub returns : goal.returns
returns c =
    walks_all _ _ 256 c.loop-p.invariant.0 (omega arith)
    (all_hold (level_test _) 256 (λ k l. c.loop-p.invariant.1 k (omega arith)))
