use Rattle.std.proofs.Common.{rules, arith, refl}
use Rattle.std.proofs.lemmas.Iterator.{YieldsList-from_range}
use Rattle.soundness.specs.Checks.{line_test}
use Rattle.soundness.proofs.Every.{tried}
use Rattle.sound_words.proofs.rest.lines.Goals as goal

pub returns : goal.returns
returns c = tried (line_test _) 32 _ _ c.all.ensures.ran (YieldsList-from_range 0 32 32 refl (omega arith))
    (λ x b q k. search rules)
