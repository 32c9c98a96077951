use native.Mathlib.Omega.{arith}
use Rattle.texts.proofs.Digits.{length_one, length_more, length_below}
use Rattle.texts.proofs.printing.width.Goals as goal

pub overflow_add-k : goal.overflow_add-k
overflow_add-k c = omega (arith, length_below 19 c.args.n (omega arith))

pub loop-left-preserved : goal.loop-left-preserved
loop-left-preserved c = omega (arith, length_more c.loop-left.left c.loop-left-test.true)

pub returns : goal.returns
returns c = omega (arith, length_one c.loop-left.left (omega arith))
