-- The number of a refusal has ten digits at most.
use Rattle.std.proofs.Common.{arith}
use Rattle.texts.specs.Buffer.{Room}
use Rattle.texts.proofs.Filing.{wrote_counts}
use Rattle.billing.specs.Bills.{alone}
use Rattle.bills.proofs.Parts.{alone_below}
use Rattle.biller.proofs.refuse.Goals as goal

pub alone-requires : goal.alone-requires
alone-requires c =
    record { fits = omega (arith, c.requires, alone_below 9 c.into.result (omega arith)) }

pub returns-clause-counts : goal.returns-clause-counts
returns-clause-counts c =
    let room : Room c.args.out.now 0 (alone c.into.result) =
    record { fits = omega (arith, c.requires, alone_below 9 c.into.result (omega arith)) } in
    wrote_counts room c.alone.ensures
