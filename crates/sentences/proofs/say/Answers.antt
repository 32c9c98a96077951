-- The clause, and its full stop behind it.
use Rattle.std.proofs.Common.{◌≡◌, ◌++◌, length-append, arith, rules}
use mathlib.Core.List.{append_assoc}
use Rattle.calls.proofs.Answers.{Words}
use Rattle.texts.specs.Text.{bytes}
use Rattle.wording.specs.Sentence.{sentence}
use Rattle.wording.proofs.Lengths.{clause_short, sentence_fits}
use Rattle.sentences.proofs.say.Goals as goal

pub clause-requires : goal.clause-requires
clause-requires g c =
    let words : Words c.args.answer =
    record { code = omega arith; count = omega arith; badge = omega arith; message = omega arith } in
    (search rules, omega (arith, c.requires.0, clause_short c.args.call c.args.answer c.requires.1 words))

pub finish-requires : goal.finish-requires
finish-requires g c =
    let words : Words c.args.answer =
    record { code = omega arith; count = omega arith; badge = omega arith; message = omega arith } in (
      search rules,
      rw (c.clause.ensures, length-append)
          (omega (arith, c.requires.0, clause_short c.args.call c.args.answer c.requires.1 words)),
    )

pub returns : goal.returns
unfolding sentence
returns g c =
    let words : Words c.args.answer =
    record { code = omega arith; count = omega arith; badge = omega arith; message = omega arith } in
    let said : c.finish.new.line ≡ c.args.line.now ++ sentence c.args.call c.args.answer =
    rw (c.finish.ensures, c.clause.ensures) (append_assoc _ _ (bytes ".\n")) in
    record {
      upper_bound =
          rw (said, length-append) (omega (arith, sentence_fits c.args.call c.args.answer c.requires.1 words));
      said = said;
    }
