-- The threads' lines, and then the line of idle ticks.
use Rattle.std.proofs.Common.{◌≡◌, ◌+◌, ◌≤◌, ◌++◌, ℕ, take, get_or, length, length-append, arith, rules}
use mathlib.Core.List.{append_assoc}
use Rattle.texts.specs.Text.{bytes}
use Rattle.texts.specs.Buffer.{Room}
use Rattle.texts.proofs.Writing.{wrote_is}
use Rattle.billing.specs.Bills.{lines_from, bill_of, alone}
use Rattle.bills.proofs.Entries.{bill_is, bill_fits}
use Rattle.bills.proofs.write.Goals as goal

pub say-requires : goal.say-requires
say-requires c =
    let fits = bill_fits c.args.rate c.args.counts.now c.requires.0 c.requires.1 in
    (search rules, rw (c.lines.ensures, c.new-bill.ensures) (omega (arith, fits)))

pub say_alone-requires : goal.say_alone-requires
say_alone-requires c =
    let fits = bill_fits c.args.rate c.args.counts.now c.requires.0 c.requires.1 in
    (search rules, rw (c.say.ensures, c.lines.ensures, c.new-bill.ensures) (rw length-append (omega (arith, fits))))

pub put-requires : goal.put-requires
put-requires c =
    let fits = bill_fits c.args.rate c.args.counts.now c.requires.0 c.requires.1 in (
      search rules,
      record {
        fits =
            rw (c.say_alone.ensures, c.say.ensures, c.lines.ensures, c.new-bill.ensures)
            (rw (length-append, length-append) (omega (arith, fits, c.requires.2)));
      },
    )

pub returns : goal.returns
unfolding bytes bill_of
returns c =
    let said : c.say_alone.new.bill ≡ bill_of c.args.rate c.args.counts.now =
    rw (c.say_alone.ensures, c.say.ensures, c.lines.ensures, c.new-bill.ensures) (simp append_assoc) in
    wrote_is said c.put.ensures
