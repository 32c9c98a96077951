-- The link to the last of a queue is the word at its tail.
use Rattle.links.proofs.Readings.{reads_last}
use Rattle.links.proofs.last.Goals as goal

pub returns : goal.returns
returns c =
    reads_last c.requires c.get.ensures
