-- The link to the one before a thread is the word at its prev link.
use Rattle.links.proofs.Readings.{reads_prev}
use Rattle.links.proofs.prev.Goals as goal

pub returns : goal.returns
returns c = reads_prev c.get.ensures
