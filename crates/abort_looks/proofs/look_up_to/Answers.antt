use native.Mathlib.Omega.{arith}
use Rattle.abort_looks.proofs.Looks.{made_none, looks_done, looks_out, cursor_asked, looks_again}
use Rattle.abort_looks.proofs.look_up_to.Goals as goal

pub loop-count-init : goal.loop-count-init
loop-count-init c = made_none c.requires

pub returns-then-cursor-eq-NOBODY : goal.returns-then-cursor-eq-NOBODY
returns-then-cursor-eq-NOBODY c =
    looks_out c.loop-count.invariant c.endpoint-cursor.ensures c.if-cursor-eq-NOBODY.true

pub look-requires : goal.look-requires
look-requires c = search cursor_asked

pub loop-count-preserved : goal.loop-count-preserved
loop-count-preserved c =
    looks_again c.loop-count.invariant c.endpoint-cursor.ensures c.if-cursor-eq-NOBODY.false c.loop-count-test.true
    c.look.ensures

pub returns : goal.returns
returns c = looks_done c.loop-count.invariant (omega arith)
