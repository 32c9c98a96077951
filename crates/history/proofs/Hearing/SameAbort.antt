-- Whoever is broken off in its own abort and calls again begins no abort: for every list of calls.
use Prim.Native.Nat.{ℕ}
use mathlib.Core.Path.{◌≡◌, refl, sym, ◌∙◌, ap, subst}
use mathlib.Core.Bool.{Bool, true, false}
use mathlib.Core.Option.{Option, none, some}
use mathlib.Core.List.{List, [], ◌∷◌, ◌++◌}
use native.Mathlib.Omega.{arith}
use lib.Dec.{leb}
use borrow.Author.Tests.{eq-eqb, ne_eqb, eqb-true}
use Rattle.calls.specs.declared.Answer.{Answer}
use Rattle.calls.specs.declared.Call.{Call}
use Rattle.calls.specs.declared.Call.TheVariants.{Abort}
use Rattle.machine.specs.State.{State, Thread, Debt, nothing, works, noted}
use Rattle.machine.specs.Endpoints.{works_at}
use Rattle.machine.specs.Results.{Result}
use Rattle.calls.specs.Answers.{plain, is_accepted}
use Rattle.machine.specs.Grants.{Grants, lacks, barred}
use Rattle.machine.specs.Machine.{step}
use Rattle.history.specs.History.{Ended, Reported, AbortCall, Debts, is_in}
use Rattle.history.specs.Walk.{is_note_of, report_of}
use Rattle.history.specs.Recorded.{recorded, told, Run, result_in, next_run, run_from, fresh_run}
use Rattle.history.specs.Claim.{In, Claim}
use Rattle.history.specs.Tied.{note_in, note_from, Tied}
use Rattle.history.specs.Heard.{first_call, at_first, after_first, at_second, latest, OfAbort, SameAbort}
use Rattle.machine.proofs.Lists.{clash}
use Rattle.machine.proofs.Permits.{permitted}
use Rattle.history.proofs.Demand3.Invariant.{Inv, claim, Kept}
use Rattle.history.proofs.Demand3.Demand.{invariant, notes_first, holds as all_holds}
use Rattle.history.proofs.Hearing.Sets.{working, heard}
use Rattle.history.proofs.Hearing.Others.{Knows, knows_still}
use Rattle.history.proofs.Hearing.Broken.{stands_at, rests}
use Rattle.history.proofs.Hearing.Again.{Works, works as first_works, goes_on, from_note}

-- A thread in a set is in no other and has no note.
module _ {f : ℕ → Thread} {d : Debts} {ended : List Ended} (T : Tied f d ended) (t e : ℕ)
    (m : is_in t (d.members e) ≡ true) where
  owes : (f t).debt ≡ works e
  owes = go (f t).debt (sym (T.members e t) ∙ m)
    where
      go : (k : Debt) → works_at e k ≡ true → k ≡ works e
      go nothing i = absurd (clash i refl)
      go (works g) i = ap works (eqb-true g e i)
      go (noted g b) i = absurd (clash i refl)

  in_no_other : (g : ℕ) → (g ≡ e → ⊥) → is_in t (d.members g) ≡ false
  in_no_other g n = T.members g t ∙ ap (works_at g) owes ∙ ne_eqb e g (λ i. n (sym i))

  has_no_note : (g b : ℕ) → is_note_of g b (d.notes t) ≡ false
  has_no_note g b = go (d.notes t) (T.notes t ∙ ap note_in owes)
    where
      go : (o : Option Reported) → note_from o ≡ nothing → is_note_of g b o ≡ false
      go none i = refl
      go (some r) i = let z : ◌≡◌ {A = ℕ} 0 1 = cc in absurd (omega arith)

runs_then :
    (m : Grants → State → Call → Result) (k l : List Call) (x : Run)
    → run_from m (k ++ l) x ≡ run_from m l (run_from m k x)
unfolding run_from
runs_then m [] l x = refl
runs_then m (c ∷ k) l x = runs_then m k l (next_run m c x)

-- The run that a list of calls has come to.
record Reached (x : Run) : Type 0 where
  calls : List Call
  is : run_from step calls fresh_run ≡ x

reached_then : (l : List Call) {x : Run} → Reached x → Reached (run_from step l x)
reached_then l R =
    record {
      calls = R.calls ++ l;
      is = runs_then step R.calls l fresh_run ∙ ap (run_from step l) R.is;
    }

reached_next : (c : Call) {x : Run} → Reached x → Reached (next_run step c x)
unfolding run_from
reached_next c R = reached_then (c ∷ []) R

module _ (x : Run) (R : Reached x) where
  kept_too : Kept R.calls x.state x.history
  kept_too = subst (λ (y : Run). Kept R.calls y.state y.history) R.is (all_holds R.calls).kept

  holds : Inv R.calls x.state x.history
  holds = subst (λ (y : Run). Inv R.calls y.state y.history) R.is (invariant R.calls)

  claim_at : Claim R.calls x.history
  claim_at = claim R.calls x.state x.history holds kept_too

  -- Whoever has the note is answered from it.
  noted_answer :
      (t e a b : ℕ) → x.state.runs ≡ some t → is_note_of e b (x.history.aborts.debts.notes t) ≡ true
      → is_accepted (result_in step (Abort e a b) x).answer ≡ true
      → (result_in step (Abort e a b) x).answer ≡ plain 0
  noted_answer t e a b runs note accepted =
      let p = permitted x.grants x.state (Abort e a b) accepted in
      subst
      (λ (y : Run).
      y.state.runs ≡ some t → lacks (y.grants t e) (Abort e a b) ≡ false
      → is_note_of e b (y.history.aborts.debts.notes t) ≡ true
      → (result_in step (Abort e a b) y).answer ≡ plain 0)
      R.is (notes_first R.calls t e a b p.0) runs
      (ap (λ (o : Option ℕ). barred o x.grants (Abort e a b)) (sym runs) ∙ p.1) note

-- Broken off in its own abort r, t works on r.
broken_works :
    (x : Run) → Reached x → (t e a b : ℕ) (r : Reported) (z : AbortCall) → x.state.runs ≡ some t
    → (result_in step (Abort e a b) x).answer.code ≡ 2
    → latest (next_run step (Abort e a b) x).history.abort_calls ≡ some z → z.reports ≡ some r
    → Works t e b r (next_run step (Abort e a b) x).history
unfolding told recorded
broken_works x R t e a b r z runs broken last reports =
    go (is_note_of e b (x.history.aborts.debts.notes t)) refl
  where
    accepted : is_accepted (result_in step (Abort e a b) x).answer ≡ true
    accepted = ap (λ (n : ℕ). leb n 2) broken

    go : (n : Bool) → is_note_of e b (x.history.aborts.debts.notes t) ≡ n
        → Works t e b r (next_run step (Abort e a b) x).history
    go true i =
        let c = ap (λ (q : Answer). q.code) (noted_answer x R t e a b runs i accepted) in
        absurd (omega arith)
    go false i =
        first_works step t e a b x runs accepted i
        (rests R.calls x.state x.history (holds x R) t e a b runs x.grants broken) z r last reports

-- t works on r or has heard of its end, and calls again: its call is of r.
again :
    (x : Run) → Reached x → (t e a b : ℕ) (r : Reported) → x.state.runs ≡ some t
    → is_accepted (result_in step (Abort e a b) x).answer ≡ true → r.endpoint ≡ e → r.badge ≡ b
    → Knows t e r x.history.aborts → OfAbort (next_run step (Abort e a b) x).history r
again x R t e a b r runs accepted endpoint badge (working z i s m only) =
    subst (OfAbort (next_run step (Abort e a b) x).history) s
    (goes_on step t e a b x runs accepted N.calls (claim_at (next_run step (Abort e a b) x) N)
    (has_no_note (holds x R).tied t e m e b) z i (ap (λ (q : Reported). q.badge) s ∙ badge))
  where
    N : Reached (next_run step (Abort e a b) x)
    N = reached_next (Abort e a b) R
again x R t e a b r runs accepted endpoint badge (heard i out) =
    from_note step t e a b x runs accepted N.calls (claim_at (next_run step (Abort e a b) x) N) note r i Z.0
    Z.1 Z.2 (noted_answer x R t e a b runs note accepted)
  where
    N : Reached (next_run step (Abort e a b) x)
    N = reached_next (Abort e a b) R

    Z : (z : Ended) × In z x.history.aborts.ended × (report_of z.abort ≡ r)
    Z = (holds x R).tied.heard t r i

    note : is_note_of e b (x.history.aborts.debts.notes t) ≡ true
    note = rw (i, eq-eqb r.endpoint e endpoint, eq-eqb r.badge b badge)

-- "All who joined an abort hear its end": whoever is broken off in its own abort and calls again, with no accepted
-- other call of its own between, begins no abort: its call is of the same one.
pub same_abort : SameAbort step
same_abort w r A =
    again (at_second step w) S t e w.again b r A.same_caller A.accepted
    (ap (λ (q : Reported). q.endpoint) (sym W.report)
    ∙ stands_at F.calls N.state N.history (holds N F) e W.abort W.stands)
    (ap (λ (q : Reported). q.badge) (sym W.report) ∙ W.badge)
    (knows_still t e r step w.between N A.aside
    (working W.abort W.stands W.report W.member
    (in_no_other (holds N F).tied t e W.member)))
  where
    t : ℕ
    t = w.thread

    e : ℕ
    e = w.endpoint

    b : ℕ
    b = w.badge

    N : Run
    N = after_first step w

    B : Reached (at_first step w)
    B = record { calls = w.before; is = refl }

    F : Reached (after_first step w)
    F = reached_next (first_call w) B

    S : Reached (at_second step w)
    S = reached_then w.between F

    W : Works w.thread w.endpoint w.badge r (after_first step w).history
    W =
        broken_works (at_first step w) B t e w.once b r A.call A.caller A.broken_off A.recorded
        A.reports
