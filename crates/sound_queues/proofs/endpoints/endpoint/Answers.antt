-- An endpoint: its words, then the walk.
use Rattle.sound_queues.proofs.Waiting.{endpoint_bad, endpoint_walked}
use Rattle.sound_queues.proofs.Walking.{walk_failed}
use Rattle.sound_queues.proofs.endpoints.endpoint.Goals as goal

pub returns-then-not-status-abort : goal.returns-then-not-status-abort
returns-then-not-status-abort c =
    walk_failed (endpoint_bad _ _ c.kind-k.ensures c.status.ensures c.abort.ensures
    c.fits.ensures c.if-not-status-abort.true)

pub returns : goal.returns
returns c =
    endpoint_walked _ _ c.kind-k.ensures c.status.ensures c.abort.ensures
    c.fits.ensures c.if-not-status-abort.false c.waiters.ensures
