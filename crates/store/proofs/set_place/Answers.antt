-- The four stores put the thread at its place.
use Rattle.store.proofs.Blocks.{place_does}
use Rattle.store.proofs.set_place.Goals as goal

pub returns : goal.returns
returns c =
    place_does _ _ _ _ _ c.put.ensures c.put-2.ensures c.put-3.ensures
    c.put-4.ensures
