use borrow.Author.Rules.{rules}
use Prim.Native.Nat.{◌+◌, ◌-◌}
use mathlib.Core.Path.{◌≡◌}
use native.Mathlib.Omega.{arith}
use Rattle.sound_queues.proofs.Queues.{level_holds, level_walked, level_out, level_bad, level_long}
use Rattle.sound_queues.proofs.Queues.{level_again}
use Rattle.sound_queues.proofs.Walking.{walk_failed}
use Rattle.sound_queues.proofs.levels.level.Goals as goal

pub loop-init : goal.loop-init
loop-init c = level_holds _ _ _ (search rules) c.wide-y.ensures

pub returns-then-y-eq-NOBODY : goal.returns-then-y-eq-NOBODY
returns-then-y-eq-NOBODY c =
    level_walked _ _ c.loop.invariant (omega arith) c.if-y-eq-NOBODY.true c.wide.ensures

pub returns-then-y-gt-LAST_LINK : goal.returns-then-y-gt-LAST_LINK
returns-then-y-gt-LAST_LINK c =
    walk_failed (level_out _ _ c.loop.invariant (omega arith) c.if-y-gt-LAST_LINK.true)

pub returns-then-not-ready : goal.returns-then-not-ready
returns-then-not-ready c =
    walk_failed (level_bad _ _ c.loop.invariant (omega arith) c.if-y-eq-NOBODY.false
    c.if-y-gt-LAST_LINK.false c.ready.ensures c.if-not-ready.true)

pub loop-preserved : goal.loop-preserved
loop-preserved c =
    let turn : 257 - c.loop.counter - 1 ≡ 257 - (c.loop.counter + 1) = omega arith in
    rw turn at
    (level_again _ _ c.loop.invariant (omega arith) c.if-y-eq-NOBODY.false c.if-y-gt-LAST_LINK.false
    c.ready.ensures c.if-not-ready.false c.meet.ensures (search rules)
    c.wide-y-in-loop.ensures)

pub returns : goal.returns
returns c = walk_failed (level_long _ _ c.loop.invariant (omega arith))
