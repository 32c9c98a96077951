use mathlib.Core.Path.{sym, ◌∙◌}
use native.Mathlib.Omega.{arith}
use borrow.Author.Count.{below_more}
use Rattle.soundness.specs.Checks.{endpoint_test}
use Rattle.soundness.proofs.Every.{all_hold, one_fails}
use Rattle.sound_queues.proofs.Waiting.{endpoint_more, walks_failed, walks_all}
use Rattle.sound_queues.proofs.endpoints.endpoints.Goals as goal

pub returns-then-not-endpoint : goal.returns-then-not-endpoint
returns-then-not-endpoint c =
    walks_failed (one_fails (endpoint_test _) 64 _ (omega arith)
    (sym c.endpoint.ensures.is ∙ c.if-not-endpoint.true))

pub loop-e-preserved : goal.loop-e-preserved
loop-e-preserved c = (
  endpoint_more _ _
      c.endpoint.ensures c.if-not-endpoint.false c.loop-e.invariant.0,
  below_more _ _
      c.loop-e.invariant.1 (sym c.endpoint.ensures.is ∙ c.if-not-endpoint.false),
)

pub returns : goal.returns
returns c =
    walks_all _ _ 320 c.loop-e.invariant.0 (omega arith)
    (all_hold (endpoint_test _) 64 (λ k l. c.loop-e.invariant.1 k (omega arith)))
