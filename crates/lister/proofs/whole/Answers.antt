-- Its tests are those of the definition.
use Rattle.std.proofs.Common.{◌/◌, ◌^◌, arith}
use Rattle.journal.proofs.Numbers.{taken_most}
use Rattle.lister.proofs.whole.Goals as goal

pub overflow_mul-result : goal.overflow_mul-result
overflow_mul-result c = record { fits = omega (arith, c.words_taken.ensures, taken_most (c.word.result / 2 ^ 24)) }
