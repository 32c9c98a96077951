-- Without a receiver the caller joins the queue and blocks; else the first receiver is woken with the message.
use mathlib.Core.Path.{refl}
use Rattle.transfers.proofs.Queueing.{alike_asked, comes_asked, joined_asked}
use Rattle.transfers.proofs.Handing.{queued_send, receiver_asked, handed_asked, handed}
use Rattle.transfers.proofs.hand.Goals as goal

pub first_waiter-requires : goal.first_waiter-requires
first_waiter-requires c = alike_asked (λ h. h.0) c.requires

pub join_endpoint-requires : goal.join_endpoint-requires
join_endpoint-requires c = comes_asked (λ h. h.0) c.requires

pub suspend-requires : goal.suspend-requires
suspend-requires c =
    joined_asked (λ h. h.0) c.join_endpoint.ensures c.requires

pub returns-in_default : goal.returns-in_default
returns-in_default c =
    queued_send c.in_default.ensures refl c.join_endpoint.ensures c.suspend.ensures

pub wake_from-requires : goal.wake_from-requires
wake_from-requires c = receiver_asked c.in-Some.ensures refl c.requires

pub done-requires : goal.done-requires
done-requires c =
    handed_asked c.in-Some.ensures refl c.wake_from.ensures c.requires

pub returns : goal.returns
returns c =
    handed c.in-Some.ensures refl c.wake_from.ensures c.done.ensures
