-- The two stores set the word of the level and the top word.
use borrow.Author.Rules.{rules}
use Rattle.store.proofs.Levels.{writes}
use Rattle.store.proofs.store_level.Goals as goal

pub returns : goal.returns
returns c =
    writes _ _ _ _ _ (search rules) c.requires c.put.ensures c.put-2.ensures
