-- The running thread goes to its head where a level above it is occupied.
use Rattle.scheduler.proofs.Choosing.{none_above, displaced, not_displaced}
use Rattle.scheduler.proofs.displace.Goals as goal

pub returns-in_default : goal.returns-in_default
returns-in_default c =
    none_above c.thread-p.ensures c.highest_level.ensures c.in_default.is

pub returns-then-p-highest : goal.returns-then-p-highest
returns-then-p-highest c =
    displaced c.thread-p.ensures c.highest_level.ensures c.in-Some.highest
    c.in-Some.is c.if-p-highest.true c.stand_back.ensures
    c.dispatch.ensures

pub returns-else-p-highest : goal.returns-else-p-highest
returns-else-p-highest c =
    not_displaced c.thread-p.ensures c.highest_level.ensures c.in-Some.highest
    c.in-Some.is c.if-p-highest.false
