-- The line's bytes are a text, which is said at the place.
use mathlib.Core.Path.{subst, sym}
use Rattle.texts.specs.Buffer.{Room}
use Rattle.texts.proofs.Writing.{wrote_is}
use Rattle.texts.proofs.line.Line.put.Goals as goal

pub say-requires : goal.say-requires
say-requires g c = subst (λ t. Room c.args.out.now c.args.at t) (sym c.text-text.ensures) c.requires

pub returns : goal.returns
returns g c = wrote_is c.text-text.ensures c.say.ensures
