-- The two words of a link, of the queue itself or of a thread.
use Rattle.words.proofs.Around.{pair_queue, pair_thread}
use Rattle.words.proofs.pair_at.Goals as goal

pub returns-then-x-eq-NOBODY : goal.returns-then-x-eq-NOBODY
returns-then-x-eq-NOBODY c = pair_queue _ _ c.requires.0 c.if-x-eq-NOBODY.true

pub returns : goal.returns
returns c = pair_thread _ _ c.requires.1 c.if-x-eq-NOBODY.false
