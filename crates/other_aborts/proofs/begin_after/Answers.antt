-- Broken off where no allowance is left.
use Rattle.own_aborts.proofs.Working.{chooses_asked, after_broken, after_begins}
use Rattle.other_aborts.proofs.begin_after.Goals as goal

pub accept-requires : goal.accept-requires
accept-requires c = search chooses_asked

pub returns-then-left-eq0 : goal.returns-then-left-eq0
returns-then-left-eq0 c =
    after_broken _ c.if-left-eq0.true c.accept.ensures

pub returns : goal.returns
returns c =
    after_begins _ _ c.if-left-eq0.false c.begin_own.ensures
