use mathlib.Core.List.{append_assoc}
use Rattle.texts.specs.Text.{bytes}
use Rattle.numbered.specs.Numbered.{closing}
use Rattle.numbered.proofs.close.Goals as goal

pub returns : goal.returns
unfolding bytes closing
returns g c = rw (c.say-2.ensures, c.named.ensures, c.say.ensures) (simp append_assoc)
