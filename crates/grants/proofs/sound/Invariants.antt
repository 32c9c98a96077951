-- The pass. The loop's invariant: the words before the next are sound or not, as the flag says.
use mathlib.Core.Path.{◌≡◌}
use Rattle.layout.specs.Tests.{all}
use Rattle.grants.specs.Memory.{sound_at}
use Rattle.grants.proofs.sound.Given as goal

abbrev pub invariant-loop-word : goal.invariant-loop-word
invariant-loop-word l = l.sound ≡ all l.word-index (sound_at l.grants)
