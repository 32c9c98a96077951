use Rattle.std.proofs.Common.{◌/◌, length, refl, rules, arith}
use Rattle.input.proofs.Filling.{taken_words}
use Rattle.input.proofs.words.Goals as goal

pub returns-clause-words_after : goal.returns-clause-words_after
returns-clause-words_after c =
    taken_words c.args.bytes.now c.loop-i.words (length c.args.bytes.now / 4) refl (search rules)
    (record { each = λ k h. c.loop-i.invariant.each k (omega arith) })
