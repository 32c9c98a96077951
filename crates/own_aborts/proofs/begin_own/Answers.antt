-- Begun, the abort is open to the work.
use Rattle.own_aborts.proofs.Working.{begins_asked, begun_asked, own_begins}
use Rattle.own_aborts.proofs.begin_own.Goals as goal

pub begin-requires : goal.begin-requires
begin-requires c = search begins_asked

pub work_own-requires : goal.work_own-requires
work_own-requires c =
    (begun_asked c.begin.ensures c.requires.2 c.requires.0, c.requires.1)

pub returns : goal.returns
returns c =
    own_begins c.begin.ensures c.requires.2 _ c.work_own.ensures
