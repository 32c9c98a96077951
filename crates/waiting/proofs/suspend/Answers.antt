-- The caller blocks at the place, whichever it is, and code 1 is the answer.
use Rattle.waiting.proofs.Finishing.{blocked_asked, suspended}
use Rattle.waiting.proofs.suspend.Goals as goal

pub accept-requires : goal.accept-requires
accept-requires c =
    blocked_asked c.block.ensures c.requires

pub returns : goal.returns
returns c =
    suspended c.block.ensures c.accept.ensures
