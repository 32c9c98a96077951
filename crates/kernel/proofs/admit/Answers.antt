-- Who runs decides whether the call can be made, and its grants whether it may.
use mathlib.Core.Path.{◌∙◌, refl, sym, ap}
use mathlib.Core.Bool.{◌&&◌}
use Prim.Native.Nat.{ℕ}
use lib.Dec.{leb}
use borrow.Author.Rules.{rules}
use Rattle.std.specs.Prelude.{Err}
use Rattle.calls.specs.declared.Refusal.TheVariants.{NobodyRuns, NoRight}
use Rattle.grants.specs.Memory.{grants_of}
use Rattle.dispatch.proofs.Granting.{refused_grants}
use Rattle.dispatch.proofs.Cases.{May, own_may, host_may, thread_within, nobody_calls, lacking, served_done}
use Rattle.kernel.proofs.admit.Goals as goal
use Rattle.kernel.proofs.admit.Goals.{then-is_own+else-link-eq-NOBODY+else-lacks, else-is_own}

pub returns-then-link-eq-NOBODY-clause-performs : goal.returns-then-link-eq-NOBODY-clause-performs
returns-then-link-eq-NOBODY-clause-performs c =
    nobody_calls c.args.c c.running-link.ensures _
    (ap (λ (n : ℕ). leb 7 n && leb n 12) (sym c.number.ensures) ∙ sym c.is_own.ensures ∙ c.if-is_own.true)
    c.if-link-eq-NOBODY.true

pub returns-then-link-eq-NOBODY-clause-regrants : goal.returns-then-link-eq-NOBODY-clause-regrants
returns-then-link-eq-NOBODY-clause-regrants c = refused_grants _ (Err NobodyRuns) _ (search rules) refl

pub lacks-requires : goal.lacks-requires
lacks-requires c = (
  thread_within c.args.c c.running-link.ensures c.requires,
  c.requires.holds.numbers,
)

pub returns-then-lacks-clause-performs : goal.returns-then-lacks-clause-performs
returns-then-lacks-clause-performs c =
    lacking c.args.c c.running-link.ensures _ c.if-link-eq-NOBODY.false (sym c.lacks.ensures ∙ c.if-lacks.true)

pub returns-then-lacks-clause-regrants : goal.returns-then-lacks-clause-regrants
returns-then-lacks-clause-regrants c = refused_grants _ (Err NoRight) _ (search rules) refl

-- Where the two tests meet, the host calls, or the thread has its right.
pub returns-clause-performs : goal.returns-clause-performs
returns-clause-performs c =
    let may : May c.running-link.result (grants_of c.args.grants.now) c.args.c =
    elim c.if-is_own.branch [
      | then-is_own+else-link-eq-NOBODY+else-lacks w ↦
          own_may _ _ w.if-link-eq-NOBODY.false (sym w.lacks.ensures ∙ w.if-lacks.false)
      | else-is_own w ↦
          host_may _ _
          (ap (λ (n : ℕ). leb 7 n && leb n 12) (sym c.number.ensures) ∙ sym c.is_own.ensures ∙ w.if-is_own.false)
    ] in
    served_done c.args.c c.running-link.ensures _ may c.carry_out.ensures.performs
