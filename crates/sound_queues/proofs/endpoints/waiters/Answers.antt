use borrow.Author.Rules.{rules}
use Prim.Native.Nat.{◌+◌, ◌-◌}
use mathlib.Core.Path.{◌≡◌}
use native.Mathlib.Omega.{arith}
use Rattle.sound_queues.proofs.Waiting.{waiters_walked, waiters_out, waiters_bad}
use Rattle.sound_queues.proofs.Waiting.{waiters_long, waiters_again}
use Rattle.sound_queues.proofs.Walking.{walk_failed}
use Rattle.sound_queues.proofs.endpoints.waiters.Goals as goal

pub returns-then-y-eq-NOBODY : goal.returns-then-y-eq-NOBODY
returns-then-y-eq-NOBODY c =
    waiters_walked _ _ _ c.loop.invariant (omega arith) c.if-y-eq-NOBODY.true
    c.wide.ensures c.complete.ensures

pub returns-then-y-gt-LAST_LINK : goal.returns-then-y-gt-LAST_LINK
returns-then-y-gt-LAST_LINK c =
    walk_failed (waiters_out _ _ _ c.loop.invariant (omega arith) c.if-y-gt-LAST_LINK.true)

pub returns-then-not-stands : goal.returns-then-not-stands
returns-then-not-stands c =
    walk_failed (waiters_bad _ _ _ c.loop.invariant (omega arith) c.if-y-eq-NOBODY.false
    c.if-y-gt-LAST_LINK.false c.enter-here.ensures c.stands.ensures c.if-not-stands.true)

pub loop-preserved : goal.loop-preserved
loop-preserved c =
    let turn : 257 - c.loop.counter - 1 ≡ 257 - (c.loop.counter + 1) = omega arith in
    rw turn at
    (waiters_again _ _ _ c.loop.invariant (omega arith) c.if-y-eq-NOBODY.false c.if-y-gt-LAST_LINK.false
    c.enter-here.ensures c.stands.ensures c.if-not-stands.false
    c.leave-f.ensures c.meet.ensures (search rules) c.wide-y-in-loop.ensures)

pub returns : goal.returns
returns c = walk_failed (waiters_long _ _ _ c.loop.invariant (omega arith))
