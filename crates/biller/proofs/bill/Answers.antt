-- The bill has room.
use Rattle.std.proofs.Common.{length-append, arith}
use Rattle.texts.specs.Text.{bytes}
use Rattle.texts.specs.Buffer.{Room}
use Rattle.texts.proofs.Filing.{wrote_counts}
use Rattle.billing.specs.Bills.{bill_of}
use Rattle.bills.proofs.Entries.{bill_is, bill_fits}
use Rattle.biller.proofs.bill.Goals as goal

pub returns-in-Ok-clause-counts : goal.returns-in-Ok-clause-counts
unfolding bytes
returns-in-Ok-clause-counts c =
    let rate = c.in-Ok.rate in
    let counts = c.counted.new.counts in
    let fits = bill_fits rate counts c.in-Ok.ensures.billed.1 c.in-Ok.ensures.billed.2 in
    let room : Room c.args.out.now 0 (bill_of rate counts) =
    record { fits = rw (bill_is rate counts) (rw (length-append, length-append) (omega (arith, fits, c.requires.1))) }
    in
    wrote_counts room c.write.ensures
