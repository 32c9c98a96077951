-- The store is to the thread's word at the endpoint.
use mathlib.Core.Path.{refl}
use borrow.Author.Rules.{rules}
use Rattle.grants.proofs.Stores.{word_stored}
use Rattle.grants.proofs.store.Goals as goal

pub returns : goal.returns
returns c = word_stored _ _ (search rules) _ _ _ c.requires.0 c.requires.1 refl
