use native.Mathlib.Omega.{arith}
use borrow.Author.Rules.{rules}
use Rattle.grants.proofs.Stores.{cleared_more, column_cleared}
use Rattle.grants.proofs.clear_endpoint.Goals as goal

pub loop-t-preserved : goal.loop-t-preserved
loop-t-preserved c = cleared_more _ _ _ _ _ (omega arith) (search rules) c.loop-t.invariant

pub returns : goal.returns
returns c =
    column_cleared _ _ (search rules) _ _ (omega arith) (omega arith) c.loop-t.invariant
