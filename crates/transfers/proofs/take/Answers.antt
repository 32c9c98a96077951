-- Without a sender the caller joins the queue and blocks; else the first sender's message is taken.
use mathlib.Core.Path.{refl}
use Rattle.transfers.proofs.Queueing.{alike_asked, comes_asked, joined_asked}
use Rattle.transfers.proofs.Taking.{queued_receive, takes_asked, taken_first}
use Rattle.transfers.proofs.take.Goals as goal

pub first_waiter-requires : goal.first_waiter-requires
first_waiter-requires c = alike_asked (λ h. h) c.requires

pub join_endpoint-requires : goal.join_endpoint-requires
join_endpoint-requires c = comes_asked (λ h. h) c.requires

pub suspend-requires : goal.suspend-requires
suspend-requires c =
    joined_asked (λ h. h) c.join_endpoint.ensures c.requires

pub returns-in_default : goal.returns-in_default
returns-in_default c =
    queued_receive c.in_default.ensures refl c.join_endpoint.ensures c.suspend.ensures

pub take_from-requires : goal.take_from-requires
take_from-requires c = takes_asked c.in-Some.ensures refl c.requires

pub returns : goal.returns
returns c = taken_first c.in-Some.ensures refl c.take_from.ensures
