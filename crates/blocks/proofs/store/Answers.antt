-- The four steps make the thread of the block.
use Rattle.blocks.proofs.Moves.{stored}
use Rattle.blocks.proofs.store.Goals as goal

pub returns : goal.returns
returns c = search stored depth 9
