-- Somebody is chosen where nobody runs or a higher level is occupied.
use borrow.Author.Rules.{rules}
use Rattle.scheduler.proofs.Choosing.{chosen_idle, runner_shown, chosen}
use Rattle.scheduler.proofs.choose.Goals as goal

pub displace-requires : goal.displace-requires
displace-requires c =
    runner_shown c.running.ensures (search rules) c.requires

pub returns-in-0 : goal.returns-in-0
returns-in-0 c =
    chosen_idle c.running.ensures c.in-0.is c.dispatch.ensures

pub returns-in_default : goal.returns-in_default
returns-in_default c =
    chosen c.running.ensures (search rules) c.displace.ensures
