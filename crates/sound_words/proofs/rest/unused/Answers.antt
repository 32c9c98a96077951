use Rattle.std.proofs.Common.{rules, arith, refl}
use Rattle.std.proofs.lemmas.Iterator.{YieldsList-from_range}
use Rattle.soundness.specs.Checks.{unused_test}
use Rattle.soundness.proofs.Every.{tried}
use Rattle.sound_words.proofs.rest.unused.Goals as goal

pub returns : goal.returns
unfolding unused_test
returns c = tried (unused_test _) 534 _ _ c.all.ensures.ran (YieldsList-from_range 0 534 534 refl (omega arith))
    (λ x b q k. search rules)
