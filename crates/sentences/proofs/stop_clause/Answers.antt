use mathlib.Core.List.{append_assoc}
use Rattle.texts.specs.Text.{bytes}
use Rattle.sentences.proofs.stop_clause.Goals as goal

pub returns : goal.returns
unfolding bytes
returns g c = rw (c.outcome.ensures, c.say.ensures) (simp append_assoc)
