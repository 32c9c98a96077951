use mathlib.Core.List.{append_assoc}
use Rattle.texts.specs.Text.{bytes}
use Rattle.numbered.specs.Numbered.{heading}
use Rattle.numbered.proofs.heading.Goals as goal

pub returns : goal.returns
unfolding bytes heading
returns g c = rw (c.say-2.ensures, c.caller.ensures, c.say.ensures, c.number.ensures) (simp append_assoc)
