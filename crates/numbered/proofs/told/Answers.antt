-- The parts are said one after the other.
use mathlib.Core.List.{append_assoc}
use Rattle.numbered.specs.Numbered.{numbered_sentence}
use Rattle.numbered.proofs.told.Goals as goal

pub returns : goal.returns
unfolding numbered_sentence
returns g c =
    rw (c.close.ensures, c.clause.ensures, c.heading.ensures, c.number.ensures) (simp append_assoc)
