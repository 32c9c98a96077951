-- There is room for every line.
use Rattle.std.proofs.Common.{ℕ, List, length-append, arith, rules}
use Rattle.std.specs.Prelude.{Option, None, Some}
use Rattle.std.specs.contracts.option.Option.{the_field}
use mir.Val.{Val}
use denote.Shadow.{shadow}
use denote.Builtin.{u32}
use Rattle.calls.specs.Answers.{thread_of}
use Rattle.listing.specs.Line.{row_of}
use Rattle.listing.proofs.Parts.{Word, Sized, line_fits}
use Rattle.listing.proofs.say.Goals as goal

-- A thread's number is a word.
word :
    (who : Option ℕ) (vs : List Val) → shadow ((the_field u32).row.own_val ((the_field u32).into who) vs)
    → Word (thread_of who)
word None vs h = tt
word (Some t) vs h = h.1.1.1.1.0.1

pub row-requires : goal.row-requires
row-requires g c =
    let sized : Sized (row_of c.args.l) =
    record {
      index = omega arith;
      call = omega arith;
      answer = record { code = omega arith; count = omega arith; badge = omega arith; message = omega arith };
      running = word c.args.l.running _ c.well_formed.1.0.1.1.1.1.1.0;
    } in
    (search rules, omega (arith, c.requires, line_fits (row_of c.args.l) sized))

pub returns : goal.returns
returns g c =
    let sized : Sized (row_of c.args.l) =
    record {
      index = omega arith;
      call = omega arith;
      answer = record { code = omega arith; count = omega arith; badge = omega arith; message = omega arith };
      running = word c.args.l.running _ c.well_formed.1.0.1.1.1.1.1.0;
    } in
    record {
      upper_bound = rw (c.row.ensures, length-append) (omega (arith, line_fits (row_of c.args.l) sized));
      said = c.row.ensures;
    }
