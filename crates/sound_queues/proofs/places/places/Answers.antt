use Rattle.std.proofs.Common.{rules, arith, refl}
use Rattle.std.proofs.lemmas.Iterator.{YieldsList-from_range}
use Rattle.soundness.specs.Checks.{placed_test}
use Rattle.soundness.proofs.Every.{tried}
use Rattle.sound_queues.proofs.places.places.Goals as goal

pub returns : goal.returns
returns c =
    tried (placed_test _) 256 _ _ c.all.ensures.ran (YieldsList-from_range 0 256 256 refl (omega arith))
    (λ x b q k. search rules)
