use mathlib.Core.List.{append_assoc}
use Rattle.texts.specs.Text.{bytes}
use Rattle.wording.specs.Sentence.{request}
use Rattle.requests.proofs.grant.Goals as goal

pub returns : goal.returns
unfolding request bytes
returns g c = rw (c.two-2.ensures, c.two.ensures) (simp append_assoc)
