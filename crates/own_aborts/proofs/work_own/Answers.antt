-- The looks, and the end.
use native.Mathlib.Omega.{arith}
use Rattle.own_aborts.proofs.Working.{looks_bound, within_asked, looked_asked, own_works}
use Rattle.own_aborts.proofs.work_own.Goals as goal

pub overflow_add-earlier : goal.overflow_add-earlier
overflow_add-earlier c =
    omega (arith, looks_bound c.look_up_to-n.ensures (within_asked c.requires.0))

pub end_own-requires : goal.end_own-requires
end_own-requires c =
    looked_asked c.look_up_to-n.ensures c.requires.0

pub returns : goal.returns
returns c =
    own_works c.look_up_to-n.ensures c.end_own.ensures
