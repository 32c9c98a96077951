-- The thread joins the endpoint's queue.
use Rattle.queues.proofs.Joining.{joined}
use Rattle.endpoint_queues.proofs.join_endpoint.Goals as goal

pub returns : goal.returns
returns c = joined c.push_tail.ensures
