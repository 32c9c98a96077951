use Rattle.std.proofs.Common.{◌≡◌, ◌+◌, ◌≤◌, ◌<◌, ◌++◌, ℕ, take, get_or, length, length-append}
use Rattle.std.proofs.Common.{sym, ap, ◌∙◌, arith, rules}
use mathlib.Core.List.{append_assoc, append-nil}
use Rattle.billing.specs.Bills.{lines_from}
use Rattle.bills.specs.Lines.{entry_of, line_room}
use Rattle.bills.proofs.Entries.{lines_next, lines_short, entry_fits}
use Rattle.bills.proofs.lines.Goals as goal

pub loop-t-init : goal.loop-t-init
unfolding lines_from
loop-t-init g c = sym (append-nil c.args.bill.now)

pub entry-requires : goal.entry-requires
entry-requires g c =
    let pre = c.requires in
    let t = c.loop-t.t in
    let rate = c.args.rate in
    let counts = c.args.counts.now in
    let before = lines_short rate 0 t counts pre.0 pre.1.each (omega arith) in
    let more = entry_fits rate t (get_or counts t 0) pre.0 (pre.1.each t) (omega arith) in
    (search rules, (pre.0, pre.1.each t, rw (c.loop-t.invariant, length-append) (omega (arith, before, more, pre.2))))

pub loop-t-preserved : goal.loop-t-preserved
loop-t-preserved g c =
    rw (
      c.entry.ensures,
      c.loop-t.invariant,
      lines_next c.args.rate c.loop-t.t c.args.counts.now (omega (arith, c.requires.1.all)),
    )
    (append_assoc c.args.bill.now (lines_from c.args.rate 0 (take c.loop-t.t c.args.counts.now))
    (entry_of c.args.rate c.loop-t.t (get_or c.args.counts.now c.loop-t.t 0)))

pub returns : goal.returns
returns g c =
    let all : c.loop-t.t ≡ 256 = omega arith in
    c.loop-t.invariant ∙ ap (λ (k : ℕ). c.args.bill.now ++ lines_from c.args.rate 0 (take k c.args.counts.now)) all
