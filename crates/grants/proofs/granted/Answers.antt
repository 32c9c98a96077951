-- The word that is read is the thread's at the endpoint.
use mathlib.Core.Path.{refl}
use native.Mathlib.Omega.{arith}
use Rattle.layout.specs.Addresses.{word}
use Rattle.grants.proofs.Memory.{word_read}
use Rattle.grants.proofs.granted.Goals as goal

pub returns : goal.returns
unfolding word
returns c = word_read _ _ _ _ _ c.requires.0 c.requires.1 (omega arith) refl
