use Rattle.std.proofs.Common.{◌+◌, ◌≤◌, ◌<◌, length, arith, rules}
use Rattle.bills.proofs.Parts.{alone_below}
use Rattle.bills.proofs.alone.Goals as goal

pub say_alone-requires : goal.say_alone-requires
say_alone-requires c = (search rules, rw c.new-line.ensures (omega (arith, alone_below 9 c.args.n (omega arith))))
