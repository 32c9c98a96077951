-- The marks pass on, and the thread leaves the endpoint's queue.
use Rattle.queues.proofs.Leaving.{leavable_endpoint, left}
use Rattle.endpoint_queues.proofs.leave_endpoint.Goals as goal

pub unlink-requires : goal.unlink-requires
unlink-requires c =
    leavable_endpoint c.pass_marks.ensures c.requires

pub returns : goal.returns
returns c =
    left c.pass_marks.ensures c.unlink.ensures
