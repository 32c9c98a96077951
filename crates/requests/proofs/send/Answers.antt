use mathlib.Core.List.{append_assoc}
use Rattle.texts.specs.Text.{bytes}
use Rattle.wording.specs.Sentence.{request}
use Rattle.requests.proofs.send.Goals as goal

pub returns : goal.returns
unfolding request bytes
returns g c = rw (c.two.ensures, c.one.ensures) (simp append_assoc)
