-- Refused where the endpoint is present; else its status is set.
use Rattle.transfers.proofs.Creating.{present_refused, made_asked, created}
use Rattle.transfers.proofs.create_endpoint.Goals as goal

pub returns-then-status-ne-MISSING : goal.returns-then-status-ne-MISSING
returns-then-status-ne-MISSING c =
    present_refused c.endpoint-status.ensures c.if-status-ne-MISSING.true

pub done-requires : goal.done-requires
done-requires c =
    made_asked c.endpoint-status.ensures c.set_status.ensures c.requires

pub returns : goal.returns
returns c = search created depth 9
