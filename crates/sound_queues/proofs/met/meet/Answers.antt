-- The word of the thread becomes 1.
use Prim.Native.Nat.{ℕ}
use mathlib.Core.List.{List}
use mathlib.Core.Path.{ap, ◌∙◌}
use lib.ListN.{set}
use borrow.Author.Rules.{rules}
use Rattle.sound_queues.proofs.Meeting.{set_met}
use Rattle.sound_queues.proofs.met.meet.Goals as goal

pub returns : goal.returns
returns c =
    record { meets = λ f e. ap (λ (l : List ℕ). set l c.args.t 1) e ∙ set_met f c.args.t (search rules) }
