-- There is room for every line.
use Rattle.std.proofs.Common.{length-append, arith, rules}
use Rattle.calls.specs.Answers.{thread_of}
use Rattle.numbered.proofs.Places.{word, stop_fits_in}
use Rattle.numbered.proofs.stop.Goals as goal

pub stopped-requires : goal.stopped-requires
stopped-requires g c =
    let args = c.args in
    let fits = stop_fits_in args.index args.code (thread_of args.runs) (omega arith) (omega arith)
    (word args.runs _ c.well_formed.1.1.1.0) in
    (search rules, omega (arith, c.requires, fits))

pub returns : goal.returns
returns g c =
    let args = c.args in
    let fits = stop_fits_in args.index args.code (thread_of args.runs) (omega arith) (omega arith)
    (word args.runs _ c.well_formed.1.1.1.0) in
    record { upper_bound = rw (c.stopped.ensures, length-append) (omega (arith, fits)); said = c.stopped.ensures }
