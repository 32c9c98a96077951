-- The range is tried before anything else.
use mathlib.Core.Path.{refl}
use borrow.Author.Rules.{rules}
use Rattle.std.specs.Prelude.{Err}
use Rattle.calls.specs.declared.Refusal.TheVariants.{Range}
use Rattle.dispatch.proofs.Granting.{refused_grants}
use Rattle.dispatch.proofs.Cases.{out_of_range, range_done}
use Rattle.kernel.proofs.step.Goals as goal

pub returns-then-not-in_range-clause-performs : goal.returns-then-not-in_range-clause-performs
returns-then-not-in_range-clause-performs c = out_of_range _ c.in_range.ensures _ c.if-not-in_range.true

pub returns-then-not-in_range-clause-regrants : goal.returns-then-not-in_range-clause-regrants
returns-then-not-in_range-clause-regrants c = refused_grants _ (Err Range) _ (search rules) refl

pub returns-clause-performs : goal.returns-clause-performs
returns-clause-performs c =
    range_done c.args.c c.in_range.ensures _ c.if-not-in_range.false c.admit.ensures.performs
