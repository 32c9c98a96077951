-- There is room for every line.
use Rattle.std.proofs.Common.{length-append, arith, rules}
use Rattle.calls.specs.Answers.{thread_of}
use Rattle.calls.proofs.Answers.{Words}
use Rattle.numbered.proofs.Places.{word, sentence_fits}
use Rattle.numbered.proofs.sentence.Goals as goal

pub told-requires : goal.told-requires
told-requires g c =
    let args = c.args in
    let words : Words args.answer =
    record { code = omega arith; count = omega arith; badge = omega arith; message = omega arith } in
    let fits = sentence_fits args.index (thread_of args.ran) args.call args.answer (thread_of args.runs) (omega arith)
    (word args.ran _ c.well_formed.1.1.0) c.requires.1 words (word args.runs _ c.well_formed.1.1.1.1.1.0) in
    (search rules, omega (arith, c.requires.0, fits))

pub returns : goal.returns
returns g c =
    let args = c.args in
    let words : Words args.answer =
    record { code = omega arith; count = omega arith; badge = omega arith; message = omega arith } in
    let fits = sentence_fits args.index (thread_of args.ran) args.call args.answer (thread_of args.runs) (omega arith)
    (word args.ran _ c.well_formed.1.1.0) c.requires.1 words (word args.runs _ c.well_formed.1.1.1.1.1.0) in
    record { upper_bound = rw (c.told.ensures, length-append) (omega (arith, fits)); said = c.told.ensures }
