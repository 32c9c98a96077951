-- After any list of calls: an abort stands at its endpoint, and a call 12 that is broken off leaves standing what its
-- looks have come to.
use Prim.Native.Nat.{ℕ}
use mathlib.Core.Path.{◌≡◌, refl, sym, ◌∙◌, ap, subst}
use mathlib.Core.Bool.{Bool, true, false}
use mathlib.Core.Option.{Option, none, some}
use mathlib.Core.List.{List, map}
use native.Mathlib.Omega.{arith}
use Rattle.calls.specs.declared.Call.{Call}
use Rattle.calls.specs.declared.Call.TheVariants.{Abort}
use Rattle.calls.specs.Calls.{in_range}
use Rattle.machine.specs.State.{State, Abort as Standing, Status, missing, live, closing}
use Rattle.machine.specs.Endpoints.{senders, drop_debt}
use Rattle.machine.specs.Results.{Result}
use Rattle.calls.specs.Answers.{is_accepted}
use Rattle.machine.specs.Grants.{Grants, barred}
use Rattle.machine.specs.Aborts.{abort_open, abort_at, has_note, abort_unless, abort}
use Rattle.machine.specs.Machine.{by_caller, perform, perform_unless, perform_if, step}
use Rattle.history.specs.Sorts.{looks}
use Rattle.history.specs.History.{Aborting, Waiting, History, named_looks}
use Rattle.history.specs.Walk.{Walk, walk}
use Rattle.history.specs.Outcomes.{Outcome, walker_of, start_of, outcome_if}
use Rattle.machine.proofs.Lists.{put_same}
use Rattle.calls.proofs.Ranges.{bounds}
use Rattle.machine.proofs.Preserved.Mid.{sound_mid}
use Rattle.history.proofs.Demand3.Standing.{Both}
use Rattle.history.proofs.Demand3.OwnAbort.{Ran}
use Rattle.history.proofs.Demand3.Joining.{ran}
use Rattle.history.proofs.Demand3.Invariant.{stage_of, Inv}
use Rattle.history.proofs.Demand3.AbortOutcomes.{note_is, outcome_walks, gone_of, start_at, start_is, walks_from}

module _ (past : List Call) (s : State) (h : History) (I : Inv past s h) where
  pub stands_at : (e : ℕ) (z : Aborting) → h.aborts.standing e ≡ some z → z.endpoint ≡ e
  stands_at e z i = go (s.endpoints e).abort (rw i at (I.core.stands e))
    where
      go : (k : Option Standing) → Both (stage_of past h) s.threads e k (some z) → z.endpoint ≡ e
      go none B = absurd B
      go (some k) B = B.endpoint

  module _ (t e a b : ℕ) (runs : s.runs ≡ some t) where
    -- The result r of the call, if it is a break.
    abbrev Rests : Result → Type 0
    Rests r =
        r.answer.code ≡ 2
        → (outcome_if (is_accepted r.answer) (looks e a b) s.runs r h).aborts.standing e
        ≡ (walk (named_looks h.since r.looks) a (walker_of t e b h) (start_of t e b h)).standing

    rests_open :
        in_range (Abort e a b) ≡ true → has_note e b (s.threads t).debt ≡ false → (s.endpoints e).status ≡ live
        → Rests (abort_open t e a b (drop_debt t s))
    rests_open range unnoted lives i =
        ap (λ (o : Outcome). o.aborts.standing e)
        (outcome_walks t e a b s r h runs R.accepted
        (note_is e b (h.aborts.debts.notes t) (s.threads t).debt (I.tied.notes t) ∙ unnoted)
        ∙ walks_from t e a b s r h _ messages I.stray R.closes)
        ∙ put_same h.aborts.standing e R.stands ∙ R.rests i
        ∙ ap (λ (w : Walk). (walk (named_looks h.since r.looks) a (walker_of t e b h) w).standing)
        (sym (start_is t e b s h messages I.stray))
      where
        r : Result
        r = abort_open t e a b (drop_debt t s)

        R : Ran (stage_of past h) h.aborts.standing t e b s a (start_at t e b s h)
            (abort_open t e a b (drop_debt t s))
        R =
            let k = bounds (Abort e a b) range in
            ran (stage_of past h) h.aborts.standing (gone_of h) t e b I.now k.2 s a k.1.0
            (sound_mid I.sound) I.core I.tied runs lives

        messages : h.waiting.messages e ≡ map h.since (senders s.threads (s.endpoints e).waiters)
        messages = ap (λ (w : Waiting). w.messages e) I.waiting

    rests_at :
        in_range (Abort e a b) ≡ true → has_note e b (s.threads t).debt ≡ false → (x : Status)
        → (s.endpoints e).status ≡ x → Rests (abort_at x t e a b s)
    unfolding abort_at
    rests_at range unnoted missing lives i = absurd (omega arith)
    rests_at range unnoted closing lives i = absurd (omega arith)
    rests_at range unnoted live lives i = rests_open range unnoted lives i

    pub rests : (g : Grants) → Rests (step g s (Abort e a b))
    unfolding step perform_if perform_unless perform abort abort_unless
    rests g = go (in_range (Abort e a b)) refl
      where
        noted_or_not :
            in_range (Abort e a b) ≡ true → (x : Bool) → has_note e b (s.threads t).debt ≡ x
            → Rests (abort_unless x t e a b s)
        noted_or_not range true p i = absurd (omega arith)
        noted_or_not range false p i = rests_at range p (s.endpoints e).status refl i

        by : in_range (Abort e a b) ≡ true → Rests (by_caller s.runs (λ u. abort u e a b) s)
        by range =
            subst (λ (o : Option ℕ). Rests (by_caller o (λ u. abort u e a b) s)) (sym runs)
            (noted_or_not range (has_note e b (s.threads t).debt) refl)

        unless : in_range (Abort e a b) ≡ true → (x : Bool) → Rests (perform_unless x (Abort e a b) s)
        unless range true i = absurd (omega arith)
        unless range false i = by range i

        go : (x : Bool) → in_range (Abort e a b) ≡ x → Rests (perform_if x g (Abort e a b) s)
        go true p i = unless p (barred s.runs g (Abort e a b)) i
        go false p i = absurd (omega arith)
