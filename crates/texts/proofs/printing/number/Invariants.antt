-- The invariant: i is the place of the last digit left, and the digits left, written to the buffer as it is, give
-- what n's give, written to it as it was. The measure is the number left.
use Prim.Native.Nat.{◌+◌, ◌<◌}
use mathlib.Core.Path.{◌≡◌}
use lib.ListN.{length}
use Rattle.texts.specs.Decimal.{decimal}
use Rattle.texts.specs.Buffer.{pasted}
use Rattle.texts.proofs.printing.number.Given as goal

abbrev pub invariant-loop-left : goal.invariant-loop-left
invariant-loop-left l =
    (l.i + 1 ≡ l.at + length (decimal l.left)) × (l.i < length l.out) × (length l.out ≡ length l.initial.out)
    × (pasted l.out l.at (decimal l.left) ≡ pasted l.initial.out l.at (decimal l.n))

abbrev pub decreases-loop-left : goal.decreases-loop-left
decreases-loop-left l = l.left
