-- The thread's words are a part of the memory, which is filled.
use mathlib.Core.Path.{refl}
use native.Mathlib.Omega.{arith}
use borrow.Author.Rules.{rules}
use Rattle.grants.proofs.Stores.{row_filled}
use Rattle.grants.proofs.clear_thread.Goals as goal

pub returns : goal.returns
returns c =
    row_filled _ _ (search rules) c.args.thread c.requires (omega arith) (omega arith)
    (c.fill.ensures.after (λ y e. e)) refl
