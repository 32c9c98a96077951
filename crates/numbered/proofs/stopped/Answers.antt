-- The parts are said one after the other.
use mathlib.Core.List.{append_assoc}
use Rattle.texts.specs.Text.{bytes}
use Rattle.numbered.specs.Numbered.{numbered_stop}
use Rattle.numbered.proofs.stopped.Goals as goal

pub returns : goal.returns
unfolding numbered_stop bytes
returns g c =
    rw (c.close.ensures, c.stop_clause.ensures, c.say.ensures, c.number.ensures) (simp append_assoc)
