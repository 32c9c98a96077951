-- The badge that may not stand outside the marks.
use Rattle.sound_queues.proofs.Aborting.{banned_some, banned_none}
use Rattle.sound_queues.proofs.endpoints.banned.Goals as goal

pub returns-then-aborting-k : goal.returns-then-aborting-k
returns-then-aborting-k c =
    banned_some _ _ _ c.endpoint-aborting.ensures c.if-aborting-k.true c.endpoint.ensures

pub returns : goal.returns
returns c = banned_none _ _ _ c.endpoint-aborting.ensures c.if-aborting-k.false
