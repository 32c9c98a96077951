-- Each turn says the line of one thread more.
use Rattle.std.proofs.Common.{◌≡◌, ◌++◌, take}
use Rattle.billing.specs.Bills.{lines_from}
use Rattle.bills.proofs.lines.Given as goal

abbrev pub invariant-loop-t : goal.invariant-loop-t
invariant-loop-t g l = l.bill ≡ l.initial.bill ++ lines_from l.rate 0 (take l.t l.counts)
