-- Rounded as it is defined.
use native.Mathlib.Omega.{arith}
use Rattle.billing.specs.Cents.{rounded}
use Rattle.bills.proofs.cents.Goals as goal

pub returns : goal.returns
unfolding rounded
returns c = omega arith
