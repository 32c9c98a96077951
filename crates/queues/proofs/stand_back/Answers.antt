-- Nobody runs, and the thread joins its level's queue at the head.
use Rattle.queues.proofs.Joining.{stopped_shown, stood_back}
use Rattle.queues.proofs.stand_back.Goals as goal

pub enqueue_first-requires : goal.enqueue_first-requires
enqueue_first-requires c =
    stopped_shown c.requires c.set_running.ensures

pub returns : goal.returns
returns c =
    stood_back c.set_running.ensures c.enqueue_first.ensures
