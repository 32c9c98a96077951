use Rattle.std.proofs.Common.{rules, refl}
use Rattle.std.proofs.lemmas.Iterator.{YieldsList-from_range}
use Rattle.std.proofs.lemmas.Iterator.Search.{all_from_yields_List}
use Rattle.sound_words.proofs.Running.{empty, above_is}
use Rattle.sound_words.proofs.chosen.above.Goals as goal

pub returns : goal.returns
returns c =
    above_is _ c.args.p
    (all_from_yields_List (empty _ c.args.p) _ _ _ c.all.ensures.ran (YieldsList-from_range c.args.p 255 _ refl refl)
    (λ x b q k. search rules))
