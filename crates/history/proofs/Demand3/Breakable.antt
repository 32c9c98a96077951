-- Calls 11 and 12 carry what holds of the history from the list so far to the list with one more call.
use Prim.Native.Nat.{ℕ, ◌≤◌}
use mathlib.Core.Path.{◌≡◌, refl, sym, ◌∙◌, ap, subst}
use mathlib.Core.Logic.{◌⊎◌, inl, inr}
use mathlib.Core.Bool.{Bool, true, false}
use mathlib.Core.Option.{Option, none, some}
use mathlib.Core.List.{List, [], ◌∷◌, ◌++◌, map}
use native.Mathlib.Omega.{arith}
use Rattle.calls.specs.declared.Call.{Call}
use Rattle.calls.specs.declared.Call.TheVariants.{Delete}
use Rattle.calls.specs.Calls.{in_range}
use Rattle.machine.specs.Lists.{Rising}
use Rattle.machine.specs.State.{State, Status, missing, live, closing}
use Rattle.machine.specs.Endpoints.{drop_debt, end_abort}
use Rattle.machine.specs.Results.{Look, Result, refuse}
use Rattle.calls.specs.Answers.{plain, is_accepted}
use Rattle.machine.specs.Aborts.{delete_from, delete_at, delete, abort}
use Rattle.machine.specs.Grants.{Grants, barred}
use Rattle.machine.specs.Machine.{by_caller, perform, perform_unless, perform_if, step}
use Rattle.machine.specs.Sound.{Sound}
use Rattle.history.specs.Sorts.{removes, sort_of}
use Rattle.history.specs.History.{Books, Aborting, Ended, History, queues?, named}
use Rattle.history.specs.Walk.{lets_go}
use Rattle.history.specs.Outcomes.{Outcome, unchanged, deletes, outcome_of, outcome_if}
use Rattle.history.specs.Claim.{In}
use Rattle.machine.proofs.Preserved.Mid.{sound_mid}
use Rattle.history.proofs.Demand3.Standing.{within, core_grow}
use Rattle.history.proofs.Demand3.Leaving.{leaves_self}
use Rattle.history.proofs.Demand3.Deletions.{delete_accepted, delete_looks, delete_queues, delete_none}
use Rattle.history.proofs.Demand3.Deletions.{tied_none, delete_some, tied_some}
use Rattle.machine.proofs.Preserved.Steps.{step_sound}
use Rattle.history.proofs.Demand3.Invariant.{stage_of, Inv}
use Rattle.history.proofs.Demand3.Recording.{recorded_seen, told_seen, Goes, goes}
use Rattle.history.proofs.Demand3.OtherCalls.{fits, idle_core, idle_rising}

module _ (bk : Books) (past : List Call) (s : State) (h : History) (I : Inv past s h) where
  -- The history of a call that names no waiter, by what it comes to for the aborts.
  told_as :
      (c : Call) (r : Result) (o : Outcome) → queues? (sort_of c) r.answer.code ≡ false
      → outcome_if (is_accepted r.answer) (sort_of c) s.runs r h ≡ o
      → told_seen bk c s r h ≡ recorded_seen bk h.since o (sort_of c) r h
  unfolding named
  told_as c r o p q = rw (p, q)

  pub next :
      (c : Call) (r : Result) (o : Outcome) → queues? (sort_of c) r.answer.code ≡ false
      → outcome_if (is_accepted r.answer) (sort_of c) s.runs r h ≡ o → Goes bk past s h I c r h.since o
      → Inv (past ++ (c ∷ [])) r.state (told_seen bk c s r h)
  next c r o p q G =
      subst (Inv (past ++ (c ∷ [])) r.state) (sym (told_as c r o p q)) (goes bk past s h I c r h.since o G)

  -- Call 11

  module _ (e a : ℕ) where
    refused11 :
        (n : ℕ) → is_accepted (plain n) ≡ false
        → Inv (past ++ (Delete e a ∷ [])) s (told_seen bk (Delete e a) s (refuse n s) h)
    unfolding outcome_if
    refused11 n p =
        next (Delete e a) (refuse n s) (unchanged (refuse n s) h) refl (rw p)
        (record {
          sound = I.sound;
          core = idle_core bk past s h I (Delete e a) (refuse n s) (leaves_self s);
          tied = I.tied;
          rising = I.rising;
          stray = I.stray;
          new = λ z i. inl i;
          kept = λ z i. i;
          duty8 = tt;
          duty12 = tt;
        })

    module _ (t : ℕ) (runs : s.runs ≡ some t)
        (S : Sound (delete_from e a (end_abort closing e (drop_debt t s))).state) where
      abbrev r : Result
      r = delete_from e a (end_abort closing e (drop_debt t s))

      no_stray : map (λ (v : Look). h.since v.waiter) r.looks ++ h.aborts.stray ≡ []
      no_stray =
          ap (λ (l : List Look). map (λ (v : Look). h.since v.waiter) l ++ h.aborts.stray)
          (delete_looks e a (end_abort closing e (drop_debt t s))) ∙ I.stray

      rising : (f : ℕ) → Rising (map h.since (r.state.endpoints f).waiters)
      rising =
          idle_rising bk past s h I r.state
          (delete_queues (stage_of past h) t e a s (sound_mid I.sound) I.core I.tied)

      deletes_on :
          (k : Option Aborting) → h.aborts.standing e ≡ k
          → Goes bk past s h I (Delete e a) r h.since (deletes k e (some t) r h)
      unfolding deletes
      deletes_on none p =
          record {
            sound = S;
            core =
                core_grow (within (stage_of past h)) (Delete e a) _ (fits bk past s h I)
                (delete_none (stage_of past h) t e a s (sound_mid I.sound) I.core I.tied p);
            tied =
                tied_none (stage_of past h) t e a s (sound_mid I.sound) I.core I.tied p;
            rising = rising;
            stray = no_stray;
            new = λ z i. inl i;
            kept = λ z i. i;
            duty8 = tt;
            duty12 = tt;
          }
      deletes_on (some x) p =
          record {
            sound = S;
            core =
                core_grow (within (stage_of past h)) (Delete e a) _ (fits bk past s h I)
                (delete_some (stage_of past h) t e a s (sound_mid I.sound) I.core I.tied x p);
            tied =
                tied_some (stage_of past h) t e a s (sound_mid I.sound) I.core I.tied x p;
            rising = rising;
            stray = no_stray;
            new = new;
            kept = λ z i. inr i;
            duty8 = tt;
            duty12 = tt;
          }
        where
          new :
              (z : Ended)
              → In z
              (record { abort = x; by = h.now; members = (lets_go t h.aborts.debts).members e } ∷ h.aborts.ended)
              → In z h.aborts.ended ⊎ (h.now ≤ z.by)
          new z (inl i) = inr (rw i (omega arith))
          new z (inr i) = inl i

      outcome11 :
          outcome_if (is_accepted r.answer) (removes e) s.runs r h ≡ deletes (h.aborts.standing e) e (some t) r h
      unfolding outcome_if outcome_of
      outcome11 =
          ap (λ (b : Bool). outcome_if b (removes e) s.runs r h)
          (delete_accepted e a (end_abort closing e (drop_debt t s)))
          ∙ ap (λ (o : Option ℕ). deletes (h.aborts.standing e) e o r h) runs

      deletes_next : Inv (past ++ (Delete e a ∷ [])) r.state (told_seen bk (Delete e a) s r h)
      deletes_next =
          next (Delete e a) r (deletes (h.aborts.standing e) e (some t) r h) refl outcome11
          (deletes_on (h.aborts.standing e) refl)

    delete_at_lem :
        (t : ℕ) → s.runs ≡ some t → (x : Status) → Sound (delete_at x t e a s).state
        → Inv (past ++ (Delete e a ∷ [])) (delete_at x t e a s).state
        (told_seen bk (Delete e a) s (delete_at x t e a s) h)
    unfolding delete_at
    delete_at_lem t runs missing S = refused11 23 refl
    delete_at_lem t runs live S = deletes_next t runs S
    delete_at_lem t runs closing S = deletes_next t runs S

    pub advance11 :
        (g : Grants)
        → Inv (past ++ (Delete e a ∷ [])) (step g s (Delete e a)).state
        (told_seen bk (Delete e a) s (step g s (Delete e a)) h)
    unfolding step perform_if perform_unless perform delete
    advance11 g = go (in_range (Delete e a)) (step_sound g s (Delete e a) I.sound)
      where
        by : (k : Option ℕ) → s.runs ≡ k → Sound (by_caller k (λ t. delete t e a) s).state
            → Inv (past ++ (Delete e a ∷ [])) (by_caller k (λ t. delete t e a) s).state
            (told_seen bk (Delete e a) s (by_caller k (λ t. delete t e a) s) h)
        by none p S = refused11 20 refl
        by (some t) p S = delete_at_lem t p (s.endpoints e).status S

        unless : (b : Bool) → Sound (perform_unless b (Delete e a) s).state
            → Inv (past ++ (Delete e a ∷ [])) (perform_unless b (Delete e a) s).state
            (told_seen bk (Delete e a) s (perform_unless b (Delete e a) s) h)
        unless true S = refused11 29 refl
        unless false S = by s.runs refl S

        go : (b : Bool) → Sound (perform_if b g (Delete e a) s).state
            → Inv (past ++ (Delete e a ∷ [])) (perform_if b g (Delete e a) s).state
            (told_seen bk (Delete e a) s (perform_if b g (Delete e a) s) h)
        go true S = unless (barred s.runs g (Delete e a)) S
        go false S = refused11 19 refl
