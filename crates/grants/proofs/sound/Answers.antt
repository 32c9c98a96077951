use mathlib.Core.Path.{refl}
use native.Mathlib.Omega.{arith}
use Rattle.layout.specs.Addresses.{word}
use Rattle.grants.proofs.Passing.{pass_none, pass_more, pass_whole}
use Rattle.grants.proofs.sound.Goals as goal

pub loop-word-init : goal.loop-word-init
loop-word-init c = pass_none _

pub loop-word-preserved : goal.loop-word-preserved
unfolding word
loop-word-preserved c = pass_more _ _ _ _ _ refl refl c.loop-word.invariant

pub returns : goal.returns
returns c = pass_whole _ _ _ c.loop-word.invariant (omega arith) (omega arith)
