-- The parts are said one after the other.
use mathlib.Core.List.{append_assoc}
use Rattle.texts.specs.Text.{bytes}
use Rattle.sentences.proofs.clause.Goals as goal

pub returns : goal.returns
unfolding bytes
returns g c =
    rw (c.details.ensures, c.number.ensures, c.outcome.ensures, c.say.ensures, c.request.ensures) (simp append_assoc)
