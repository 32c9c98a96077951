-- A send reads on.
use Rattle.journal.specs.Words.{call_of}
use Rattle.decoding.proofs.call_of.Goals as goal

pub returns-in-7-eq0 : goal.returns-in-7-eq0
unfolding call_of
returns-in-7-eq0 c = rw (c.in-7-eq0.is-0, c.in-7-eq0.is-1) c.send.ensures
