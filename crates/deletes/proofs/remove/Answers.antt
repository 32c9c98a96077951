use native.Mathlib.Omega.{arith}
use Rattle.deletes.proofs.Removing.{removed_none, removed_all, removed_some, wake_asked, removing_more}
use Rattle.deletes.proofs.remove.Goals as goal

pub loop-count-init : goal.loop-count-init
loop-count-init c = removed_none c.requires

pub returns-then-first-eq-NOBODY : goal.returns-then-first-eq-NOBODY
returns-then-first-eq-NOBODY c =
    removed_some c.loop-count.invariant c.first-first.ensures c.if-first-eq-NOBODY.true

pub wake_from-requires : goal.wake_from-requires
wake_from-requires c = search wake_asked

pub loop-count-preserved : goal.loop-count-preserved
loop-count-preserved c =
    removing_more c.loop-count.invariant c.first-first.ensures c.if-first-eq-NOBODY.false c.loop-count-test.true
    c.wake_from.ensures

pub returns : goal.returns
returns c = removed_all c.loop-count.invariant (omega arith)
