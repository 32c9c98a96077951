-- By the order of the refusals.
use Rattle.std.proofs.Common.{refl, arith, drop, replicate}
use Rattle.std.proofs.lemmas.Result.{err_from_is_err_and}
use Rattle.input.specs.Words.{words_in}
use Rattle.billing.specs.Ticks.{count_words}
use Rattle.biller.proofs.Cases.{short_printed, refused_printed, odd_printed, bill_printed, begun_with, within}
use Rattle.biller.proofs.counted.Goals as goal

pub returns-then-bytes-lt-RATE-clause-refused : goal.returns-then-bytes-lt-RATE-clause-refused
returns-then-bytes-lt-RATE-clause-refused c =
    short_printed c.args.bytes.now (omega (arith, c.if-bytes-lt-RATE.true))

pub returns-in_err-count-clause-refused : goal.returns-in_err-count-clause-refused
returns-in_err-count-clause-refused c =
    let p = err_from_is_err_and c.from_residual.result c.from_residual.ensures.1 in
    rw (p.1, p.2)
    (refused_printed c.args.bytes.now (omega (arith, c.if-bytes-lt-RATE.false)) c.word-rate.result c.count.new.counts
    c.word-rate.ensures c.in_err-count.field-0.0 (begun_with _ _ c.requires.1 _ _ c.in_err-count.ensures))

pub returns-then-bytes-ne0-clause-refused : goal.returns-then-bytes-ne0-clause-refused
returns-then-bytes-ne0-clause-refused c =
    odd_printed c.args.bytes.now (omega (arith, c.if-bytes-lt-RATE.false)) c.word-rate.result c.count.new.counts
    c.word-rate.ensures (begun_with _ _ c.requires.1 _ _ c.in_ok-count.ensures) (omega (arith, c.if-bytes-ne0.true))

pub returns-clause-billed : goal.returns-clause-billed
returns-clause-billed c =
    let e = begun_with _ _ c.requires.1 _ _ c.in_ok-count.ensures in
    let w =
    within (words_in (drop 4 c.args.bytes.now)) (replicate count_words 0) c.count.new.counts c.word-rate.result 0 refl e
    in (
      bill_printed c.args.bytes.now (omega (arith, c.if-bytes-lt-RATE.false)) c.word-rate.result c.count.new.counts
          c.word-rate.ensures e (omega (arith, c.if-bytes-ne0.false)),
      w.low,
      w.few,
    )
