-- The thread leaves the endpoint's queue, and is woken.
use Rattle.queues.proofs.Leaving.{left_shown, woken_from}
use Rattle.endpoint_queues.proofs.wake_from.Goals as goal

pub wake-requires : goal.wake-requires
wake-requires c =
    left_shown c.leave_endpoint.ensures c.requires

pub returns : goal.returns
returns c =
    woken_from c.leave_endpoint.ensures _ _ _ c.wake.ensures
