-- By whether a call was taken.
use Rattle.std.proofs.Common.{refl}
use Rattle.texts.proofs.Writing.{wrote_nothing}
use Rattle.rows.specs.declared.Turn.TheVariants.{Over}
use Rattle.lister.proofs.Taking.{taken_ranged, answered}
use Rattle.lister.proofs.Lister.answer.Goals as goal

pub call-requires : goal.call-requires
call-requires c =
    (c.requires.1, taken_ranged _ _ _ c.turn.result _ _ _ _ c.turn.ensures.taken c.in-Took.is)

pub returns-in-Over-clause-feeds : goal.returns-in-Over-clause-feeds
returns-in-Over-clause-feeds c =
    answered _ _ _ _ c.turn.result Over c.turn.ensures.taken c.in-Over.is _ _ _ _ _
    (record { after = refl; text = wrote_nothing _ _ })
