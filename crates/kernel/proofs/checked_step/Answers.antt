-- The check first; the step where it passes.
use Rattle.kernel.proofs.Entry.{check_refuses, check_shown, step_taken}
use Rattle.kernel.proofs.checked_step.Goals as goal

pub returns-in_err-verify : goal.returns-in_err-verify
returns-in_err-verify c =
    check_refuses _ _ _ c.from_residual.result c.from_residual.ensures.1 c.in_err-verify.ensures

pub step-requires : goal.step-requires
step-requires c = check_shown _ c.in_ok-verify.ensures

pub returns : goal.returns
returns c = step_taken _ c.in_ok-verify.ensures c.args.c c.step.ensures.performs c.step.ensures.regrants
