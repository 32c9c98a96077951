-- The summary is loaded, changed, and stored where it changed.
use Rattle.store.proofs.Levels.{marks_in}
use Rattle.store.proofs.set_occupied.Goals as goal

pub returns : goal.returns
returns c = search marks_in depth 9
