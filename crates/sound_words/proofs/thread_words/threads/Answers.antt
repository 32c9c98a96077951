use Rattle.std.proofs.Common.{rules, arith, refl}
use Rattle.std.proofs.lemmas.Iterator.{YieldsList-from_range}
use Rattle.soundness.specs.Checks.{block_test}
use Rattle.soundness.proofs.Every.{tried}
use Rattle.sound_words.proofs.thread_words.threads.Goals as goal

pub returns : goal.returns
returns c = tried (block_test _) 256 _ _ c.all.ensures.ran (YieldsList-from_range 0 256 256 refl (omega arith))
    (λ x b q k. search rules)
