-- The other numbers have no cause.
use mathlib.Core.Path.{sym}
use mathlib.Core.List.{append-nil}
use borrow.Author.Rules.{rules}
use Rattle.wording.proofs.Causes.{uncaused}
use Rattle.outcomes.proofs.cause.Goals as goal

pub returns-in_default : goal.returns-in_default
returns-in_default g c = rw (uncaused c.args.code (search rules)) (sym (append-nil _))
