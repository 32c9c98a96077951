-- The link to the one behind a thread is the word at its next link.
use Rattle.links.proofs.Readings.{reads_next}
use Rattle.links.proofs.next.Goals as goal

pub returns : goal.returns
returns c = reads_next c.get.ensures
