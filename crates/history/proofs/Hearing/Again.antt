-- The two calls 12 of one thread t, for any machine: the first, broken off, leaves t in the set of the abort that it
-- reports; the second goes on with that abort, or is answered from its note.
use Prim.Native.Nat.{ℕ}
use mathlib.Core.Path.{◌≡◌, sym, ◌∙◌, ap, subst, refl}
use mathlib.Core.Logic.{inl, inr, ⊎_elim}
use mathlib.Core.Bool.{Bool, true, false}
use mathlib.Core.Option.{Option, some}
use mathlib.Core.List.{List, [], ◌∷◌}
use native.Mathlib.Omega.{arith}
use lib.ListN.{length}
use borrow.Author.Tests.{eq-eqb}
use Rattle.calls.specs.declared.Answer.{Answer}
use Rattle.calls.specs.declared.Call.{Call}
use Rattle.calls.specs.declared.Call.TheVariants.{Abort}
use Rattle.machine.specs.State.{State}
use Rattle.machine.specs.Results.{Result}
use Rattle.calls.specs.Answers.{plain, is_accepted}
use Rattle.machine.specs.Grants.{Grants}
use Rattle.history.specs.Sorts.{looks}
use Rattle.history.specs.History.{Aborting, Ended, Reported, NamedLook, AbortCall, Debts, Aborts, History, is_in}
use Rattle.history.specs.History.{named, named_looks}
use Rattle.history.specs.Walk.{lets_go, is_note_of, report_of, Walk, Walker, walk, close, report_if}
use Rattle.history.specs.Outcomes.{Outcome, apart, walker_of, start_of, walks, outcome_if}
use Rattle.history.specs.Recorded.{abort_calls_of, recorded, told, Run, result_in, next_run}
use Rattle.history.specs.Claim.{In, IsAbort, Claim}
use Rattle.history.specs.Heard.{latest, OfAbort}
use Rattle.machine.proofs.Lists.{put_same}
use Rattle.machine.proofs.Preserved.Ready.{some_one}
use Rattle.history.proofs.Demand3.Recording.{abort_call_of}
use Rattle.history.proofs.Demand3.AbortOutcomes.{outcome_noted, outcome_walks}
use Rattle.history.proofs.Hearing.Own.{comes_in_lem, joined_walk, IsReported, reported, close_leaves, close_keeps}
use Rattle.history.proofs.Hearing.Own.{GoesOnWith, goes_on_with}

no_look : (v : NamedLook) (l : List NamedLook) → 0 ≡ length l → In v l → ⊥
no_look v [] i j = j
no_look v (x ∷ l) i j = omega arith

-- Where the looks of a call 12 of t have come to, if it is not answered from a note.
abbrev pub went_to : (Grants → State → Call → Result) → ℕ → ℕ → ℕ → ℕ → Run → Walk
went_to m t e a b x =
    walk (named_looks x.history.since (result_in m (Abort e a b) x).looks) a (walker_of t e b x.history)
    (start_of t e b x.history)

-- t works on the abort r of badge b at e.
pub record Works (t e b : ℕ) (r : Reported) (h : History) : Type 0 where
  pub abort : Aborting
  pub stands : h.aborts.standing e ≡ some abort
  pub badge : abort.badge ≡ b
  pub report : report_of abort ≡ r
  pub member : is_in t (h.aborts.debts.members e) ≡ true

module _ (m : Grants → State → Call → Result) (t e a b : ℕ) (x : Run) (runs : x.state.runs ≡ some t)
    (accepted : is_accepted (result_in m (Abort e a b) x).answer ≡ true) where
  abbrev y : Result
  y = result_in m (Abort e a b) x

  abbrev h : History
  h = x.history

  abbrev looks_named : List NamedLook
  looks_named = named_looks h.since y.looks

  abbrev walker : Walker
  walker = walker_of t e b h

  abbrev went : Walk
  went = went_to m t e a b x

  abbrev next : History
  next = (next_run m (Abort e a b) x).history

  abbrev Noted : Bool → Type 0
  Noted n = is_note_of e b (h.aborts.debts.notes t) ≡ n

  -- The record of the call, where it reports o.
  abbrev call : Option Reported → AbortCall
  call o = abort_call_of e a b y next.waiting o h

  -- The call comes to o.
  module _ (o : Outcome) (is : outcome_if (is_accepted y.answer) (looks e a b) x.state.runs y h ≡ o) where
    is_latest : latest next.abort_calls ≡ some (call o.reports)
    unfolding told recorded abort_calls_of named
    is_latest = ap (λ (k : Outcome). some (call k.reports)) is

    is_recorded : In (call o.reports) next.abort_calls
    unfolding told recorded abort_calls_of named
    is_recorded = inl (ap (λ (k : Outcome). call k.reports) (sym is))

    aborts_are : next.aborts ≡ o.aborts
    unfolding told recorded
    aborts_are = ap (λ (k : Outcome). k.aborts) is

  abbrev closed : Walk
  closed = close walker went

  walks_is : Noted false → outcome_if (is_accepted y.answer) (looks e a b) x.state.runs y h ≡ walks t e a b y h
  walks_is = outcome_walks t e a b x.state y h runs accepted

  standing_is : Noted false → next.aborts.standing e ≡ closed.standing
  unfolding walks
  standing_is p =
      ap (λ (k : Aborts). k.standing e) (aborts_are (walks t e a b y h) (walks_is p))
      ∙ put_same h.aborts.standing e closed.standing

  -- Not answered from a note, the call leaves standing what its looks have come to, and reports r: then t works on r.
  pub works :
      Noted false → next.aborts.standing e ≡ went.standing → (z : AbortCall) (r : Reported)
      → latest next.abort_calls ≡ some z → z.reports ≡ some r → Works t e b r next
  unfolding walks
  works p rests z r last reports =
      record {
        abort = R.abort;
        stands = rests ∙ R.stands;
        badge = R.badge;
        report = R.report;
        member =
            ap (is_in t)
            (ap (λ (k : Aborts). k.debts.members e) (aborts_are (walks t e a b y h) (walks_is p))
            ∙ ap (λ (d : Debts). d.members e)
            (close_leaves walker went R.abort R.stands (sym (standing_is p) ∙ rests ∙ R.stands)))
            ∙ joined_walk walker looks_named a (start_of t e b h)
            (comes_in_lem t e b (h.aborts.standing e) h.aborts.debts) R.abort R.stands R.badge;
      }
    where
      R : IsReported went.standing b r
      R =
          reported went.standing b r
          (ap (λ (c : AbortCall). c.reports) (some_one (is_latest (walks t e a b y h) (walks_is p)) last) ∙ reports)

  -- The abort that stands after the looks is known, ended by the call or not.
  known : Noted false → (z : Aborting) → went.standing ≡ some z → IsAbort next z
  unfolding walks
  known p z i =
      ⊎_elim (λ s. inl (e, standing_is p ∙ s))
      (λ q.
      inr (
        q.0,
        subst (λ (l : List Ended). In q.0 l)
            (sym (ap (λ (k : Aborts). k.ended) (aborts_are (walks t e a b y h) (walks_is p)))) q.1,
        q.2,
      ))
      (close_keeps walker went z i)

  -- A call that finds the abort z of its badge standing, not answered from a note, is of that abort.
  pub goes_on :
      (calls : List Call) → Claim calls next → Noted false → (z : Aborting) → h.aborts.standing e ≡ some z
      → z.badge ≡ b → OfAbort next (report_of z)
  unfolding walks
  goes_on calls C p z i j =
      record {
        call = call (report_if went.standing b);
        recorded = is_latest (walks t e a b y h) (walks_is p);
        reports = reports;
        abort = G.abort;
        known = known p G.abort G.stands;
        same = G.report;
        looks = λ v k. C.only_those G.abort (known p G.abort G.stands) v.waiter (G.looked v k);
      }
    where
      G : GoesOnWith looks_named z went.standing
      G = goes_on_with walker looks_named a (start_of t e b h) z i j

      reports : report_if went.standing b ≡ some (report_of z)
      reports =
          rw (G.stands, eq-eqb G.abort.badge b (ap (λ (r : Reported). r.badge) G.report ∙ j))
          (ap some G.report)

  -- A call answered from the note of r is of r.
  pub from_note :
      (calls : List Call) → Claim calls next → Noted true → (r : Reported) → h.aborts.debts.notes t ≡ some r
      → (z : Ended) → In z h.aborts.ended → report_of z.abort ≡ r → y.answer ≡ plain 0 → OfAbort next r
  from_note calls C p r i z j s answer =
      record {
        call = call (h.aborts.debts.notes t);
        recorded = is_latest o noted_is;
        reports = i;
        abort = z.abort;
        known =
            inr (
              z,
              subst (λ (l : List Ended). In z l) (sym (ap (λ (k : Aborts). k.ended) (aborts_are o noted_is))) j,
              refl,
            );
        same = s;
        looks =
            λ v k.
            absurd
            (no_look v looks_named
            (ap (λ (q : Answer). q.count) (sym answer) ∙ C.counted (call o.reports) (is_recorded o noted_is)) k);
      }
    where
      o : Outcome
      o = apart (lets_go t h.aborts.debts) (h.aborts.debts.notes t) y h

      noted_is : outcome_if (is_accepted y.answer) (looks e a b) x.state.runs y h ≡ o
      noted_is = outcome_noted t e a b x.state y h runs accepted p
