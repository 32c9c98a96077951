use native.Mathlib.Omega.{arith}
use Rattle.debts.proofs.Noting.{noted_none, noted_more, noted_all}
use Rattle.debts.proofs.note_members.Goals as goal

pub loop-t-init : goal.loop-t-init
loop-t-init c = search noted_none

pub loop-t-preserved : goal.loop-t-preserved
loop-t-preserved c =
    noted_more c.loop-t.invariant (omega arith) c.note_member.ensures

pub returns : goal.returns
returns c = noted_all c.loop-t.invariant (omega arith)
