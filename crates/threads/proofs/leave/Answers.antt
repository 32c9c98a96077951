-- The number of the place tells the queue or the line to leave.
use Prim.Native.Nat.{◌≤◌}
use native.Mathlib.Omega.{arith}
use Rattle.threads.proofs.Leaving.{leave_able, goes_somewhere}
use Rattle.threads.proofs.Leaving.{leave_sending, leave_receiving, leave_line}
use Rattle.threads.proofs.leave.Goals as goal
use Rattle.threads.proofs.leave.Goals.{in_default-via-then-place-lt1}
use Rattle.threads.proofs.leave.Goals.{in_default-via-else-place-lt1+else-place-lt66+else-place-lt130}

pub returns-in-1 : goal.returns-in-1
returns-in-1 c = leave_able c.in-1.is c.leave_ready.ensures

pub returns-in-2-to-65 : goal.returns-in-2-to-65
returns-in-2-to-65 c =
    let m = goes_somewhere c.requires.holds in leave_sending (omega arith) (omega arith) c.leave_endpoint.ensures

pub returns-in-66-to-129 : goal.returns-in-66-to-129
returns-in-66-to-129 c =
    leave_receiving (omega arith) (omega arith) c.leave_endpoint-in-66-to-129.ensures

pub returns-in_default : goal.returns-in_default
returns-in_default c =
    let h : 130 ≤ c.args.place =
    elim c.in_default.branch [
      | in_default-via-then-place-lt1 w ↦ omega (arith, goes_somewhere c.requires.holds)
      | in_default-via-else-place-lt1+else-place-lt66+else-place-lt130 w ↦ omega arith
    ] in
    leave_line h c.set_line.ensures
