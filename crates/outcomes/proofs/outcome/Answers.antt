-- A refusal has its number and its cause.
use mathlib.Core.List.{append_assoc}
use borrow.Author.Rules.{rules}
use Rattle.texts.specs.Text.{bytes}
use Rattle.wording.proofs.Parts.{refused_is}
use Rattle.outcomes.proofs.outcome.Goals as goal

pub returns-in_default : goal.returns-in_default
unfolding bytes
returns-in_default g c =
    rw (c.cause.ensures, c.one.ensures, refused_is c.args.code (search rules))
    (simp append_assoc)
