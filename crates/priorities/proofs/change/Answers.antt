-- A ready thread leaves its queue, gets its priority and joins the new tail; another only gets it.
use Rattle.priorities.proofs.Prioritising.{tail_asked, changed_ready, changed_else}
use Rattle.priorities.proofs.change.Goals as goal

pub enqueue-requires : goal.enqueue-requires
enqueue-requires c =
    tail_asked _ c.is_ready-ready.ensures c.if-ready.true c.unqueue.ensures
    c.set_priority.ensures c.requires

pub returns-then-ready : goal.returns-then-ready
returns-then-ready c = search changed_ready

pub returns : goal.returns
returns c = search changed_else
