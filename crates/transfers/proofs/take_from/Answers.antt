-- Badge and message are those of the sender before it is woken.
use Rattle.transfers.proofs.Taking.{sender_asked, waits_asked, taken_asked, taken}
use Rattle.transfers.proofs.take_from.Goals as goal

pub thread-badge-requires : goal.thread-badge-requires
thread-badge-requires c = search sender_asked depth 9

pub thread-message-requires : goal.thread-message-requires
thread-message-requires c = search sender_asked depth 9

pub wake_from-requires : goal.wake_from-requires
wake_from-requires c = search waits_asked depth 9

pub accept-requires : goal.accept-requires
accept-requires c =
    taken_asked c.wake_from.ensures c.requires

pub returns : goal.returns
returns c =
    taken c.wake_from.ensures c.thread-badge.ensures c.thread-message.ensures
    c.accept.ensures
