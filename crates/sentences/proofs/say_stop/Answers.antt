-- The clause, and its full stop behind it.
use Rattle.std.proofs.Common.{◌≡◌, ◌++◌, length-append, arith, rules}
use mathlib.Core.List.{append_assoc}
use Rattle.texts.specs.Text.{bytes}
use Rattle.wording.specs.Sentence.{stop_line}
use Rattle.wording.proofs.Lengths.{stop_short, stop_fits}
use Rattle.sentences.proofs.say_stop.Goals as goal

pub stop_clause-requires : goal.stop_clause-requires
stop_clause-requires g c = (search rules, omega (arith, c.requires, stop_short c.args.code (omega arith)))

pub finish-requires : goal.finish-requires
finish-requires g c = (
  search rules,
  rw (c.stop_clause.ensures, length-append) (omega (arith, c.requires, stop_short c.args.code (omega arith))),
)

pub returns : goal.returns
unfolding stop_line
returns g c =
    let said : c.finish.new.line ≡ c.args.line.now ++ stop_line c.args.code =
    rw (c.finish.ensures, c.stop_clause.ensures) (append_assoc _ _ (bytes ".\n")) in
    record {
      upper_bound = rw (said, length-append) (omega (arith, stop_fits c.args.code (omega arith)));
      said = said;
    }
