use Prim.Native.Nat.{◌/◌}
use mathlib.Core.Path.{refl, ◌∙◌}
use native.Mathlib.Omega.{arith}
use lib.ListN.{length-set}
use Rattle.texts.proofs.Digits.{length_some, length_more}
use Rattle.texts.proofs.Texts.{digit_stored, digit_first}
use Rattle.texts.proofs.printing.number.Goals as goal

pub overflow_sub-i : goal.overflow_sub-i
overflow_sub-i c = omega (arith, length_some c.args.n)

pub loop-left-init : goal.loop-left-init
loop-left-init c = let some = length_some c.args.n in (omega arith, omega arith, refl, refl)

pub overflow_sub-i-in-loop-left : goal.overflow_sub-i-in-loop-left
overflow_sub-i-in-loop-left c =
    let left = c.loop-left.left in omega (arith, length_some (left / 10), length_more left c.loop-left-test.true)

pub loop-left-preserved : goal.loop-left-preserved
loop-left-preserved c =
    let loop = c.loop-left in
    let more = length_more loop.left c.loop-left-test.true in
    let some = length_some (loop.left / 10) in (
      omega arith,
      simp length-set (omega arith),
      simp length-set loop.invariant.2,
      digit_stored loop.out _ loop.left loop.i loop.invariant.0 loop.invariant.1 c.loop-left-test.true
          ∙ loop.invariant.3,
    )

pub returns : goal.returns
returns c =
    let loop = c.loop-left in
    record {
      next = omega arith;
      bytes =
          digit_first loop.out _ loop.left loop.i loop.invariant.0 loop.invariant.1 (omega arith) ∙ loop.invariant.3;
    }
