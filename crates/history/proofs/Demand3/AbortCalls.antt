-- Call 12 carries what holds of the history on: refused, answered from a note, or worked on.
use Prim.Native.Nat.{ℕ, suc, ◌≤◌, ◌<◌, ◌^◌}
use mathlib.Core.Path.{◌≡◌, refl, sym, ◌∙◌, ap, subst}
use mathlib.Core.Logic.{inl}
use mathlib.Core.Bool.{Bool, true, false, and-eq-true_iff}
use mathlib.Core.Option.{Option, none, some}
use mathlib.Core.List.{List, [], ◌∷◌, ◌++◌, map}
use native.Mathlib.Omega.{arith}
use lib.Dec.{eqb}
use lib.ListN.{length, get_elem?}
use borrow.Author.Tests.{eqb-true, eq-eqb}
use Rattle.calls.specs.declared.Answer.{Answer}
use Rattle.calls.specs.declared.Call.{Call}
use Rattle.calls.specs.declared.Call.TheVariants.{Abort}
use Rattle.calls.specs.Calls.{in_range}
use Rattle.machine.specs.Lists.{put, Mem, Rising}
use Rattle.machine.specs.State.{State, Debt, nothing, works, noted, Status, missing, live, closing, Endpoint, Line}
use Rattle.machine.specs.Scheduling.{choose}
use Rattle.machine.specs.Endpoints.{drop_debt}
use Rattle.machine.specs.Results.{Look, Result, refuse, done}
use Rattle.calls.specs.Answers.{plain, counted, is_accepted}
use Rattle.machine.specs.Aborts.{abort_open, abort_at, has_note, abort_unless, abort}
use Rattle.machine.specs.Grants.{Grants, barred}
use Rattle.machine.specs.Machine.{by_caller, perform, perform_unless, perform_if, step}
use Rattle.machine.specs.Sound.{Sound}
use Rattle.history.specs.Sorts.{looks}
use Rattle.history.specs.History.{Books, Aborting, Ended, Waiting, History, named_looks, line_name, waiting_in}
use Rattle.history.specs.Walk.{lets_go, report_of, report_if, walk}
use Rattle.history.specs.Outcomes.{Outcome, apart, unchanged, walker_of, outcome_if}
use Rattle.history.specs.Recorded.{recorded}
use Rattle.history.specs.Claim.{less, removed_by, Reports}
use Rattle.history.specs.Tied.{note_in, Tied}
use Rattle.machine.proofs.Lists.{Same, same, other, same?, clash}
use Rattle.history.proofs.Sublists.{sub_only, rising_sub, entry_last}
use Rattle.machine.proofs.Preserved.Mid.{sound_mid}
use Rattle.machine.proofs.Preserved.Statuses.{keeps_self}
use Rattle.machine.proofs.Preserved.Debts.{drop_debt_drops}
use Rattle.calls.proofs.Ranges.{bounds}
use Rattle.history.proofs.Demand3.Standing.{Stage, within, Core, core_grow}
use Rattle.history.proofs.Demand3.Owing.{still_self, tied_still, tied_drop}
use Rattle.history.proofs.Demand3.Leaving.{leaves_self, leaves_drop_debt}
use Rattle.machine.proofs.Running.{choose_keeps}
use Rattle.history.proofs.Demand3.Blocking.{leaves_choose, still_choose}
use Rattle.history.proofs.Demand3.EachLook.{Frame, frame_keeps}
use Rattle.history.proofs.Demand3.OwnAbort.{Ran}
use Rattle.history.proofs.Demand3.Joining.{ran}
use Rattle.machine.proofs.Preserved.Steps.{step_sound}
use Rattle.history.proofs.Demand3.Invariant.{stage_of, CallClaims, Inv}
use Rattle.history.proofs.Demand3.Recording.{recorded_seen, told_seen, abort_call_of}
use Rattle.history.proofs.Demand3.OtherCalls.{fits, idle_core}
use Rattle.history.proofs.Demand3.Breakable.{next}
use Rattle.history.proofs.Demand3.AbortOutcomes.{note_is, Noted, noted_of, outcome_noted, outcome_walks, gone_of}
use Rattle.history.proofs.Demand3.AbortOutcomes.{start_at, walks_from}

length_named : (since : ℕ → ℕ) (l : List Look) → length (named_looks since l) ≡ length l
length_named since [] = refl
length_named since (v ∷ l) = ap suc (length_named since l)

-- The chooser leaves the queues.
frame_choose :
    (since : ℕ → ℕ) (e : ℕ) (s q : State) (l : List Look) → Frame since e s q l → Frame since e s (choose q) l
frame_choose since e s q l F =
    let T = choose_keeps q in
    record {
      others = λ f i. ap (λ (x : ℕ → Endpoint). (x f).waiters) T.endpoints ∙ F.others f i;
      own = ap (λ (x : ℕ → Endpoint). map since (x e).waiters) T.endpoints ∙ F.own;
      lines = λ i. ap (λ (x : ℕ → Line). x i) T.lines ∙ F.lines i;
      met = F.met;
    }

core_choose :
    {stage : Stage} {standing : ℕ → Option Aborting} {ended : List Ended} (s : State)
    → Core stage s.threads s.endpoints standing ended
    → Core stage (choose s).threads (choose s).endpoints standing ended
core_choose s C = rw ((choose_keeps s).threads, (choose_keeps s).endpoints) C

-- The queues ascend still where the looks have removed from them.
frame_rising :
    (since : ℕ → ℕ) (e : ℕ) (s r : State) (l : List Look) → Frame since e s r l
    → ((f : ℕ) → Rising (map since (s.endpoints f).waiters)) → (f : ℕ) → Rising (map since (r.endpoints f).waiters)
frame_rising since e s r l F R f = go (same? f e)
  where
    go : Same f e → Rising (map since (r.endpoints f).waiters)
    go (same i _) = rw (i, F.own) (rising_sub (sub_only _ (map since (s.endpoints e).waiters)) (R e))
    go (other i _) = rw (F.others f i) (R f)

-- The numbers of a call 12 in range.
range12 : (e a b : ℕ) → in_range (Abort e a b) ≡ true → (1 ≤ a) × (b < 2 ^ 28)
range12 e a b p = let k = bounds (Abort e a b) p in (k.1.0, k.2)

module _ (bk : Books) (past : List Call) (s : State) (h : History) (I : Inv past s h) (e a b : ℕ) where
  -- The record of a call 12, from what it left of the queues.
  called :
      (r : Result) (o : Outcome) → Frame h.since e s r.state r.looks
      → r.answer ≡ counted r.answer.code (length r.looks)
      → (r.answer.code ≡ 0
      → Reports (recorded_seen bk h.since o (looks e a b) r h)
      (abort_call_of e a b r (waiting_in h.since r.state) o.reports h))
      → CallClaims (recorded_seen bk h.since o (looks e a b) r h)
      (abort_call_of e a b r (waiting_in h.since r.state) o.reports h)
  unfolding recorded
  called r o F answer reports =
      record {
        reports = reports;
        others = λ f i. ap (map h.since) (F.others f i) ∙ sym (queue f);
        own = F.own ∙ ap (less (removed_by (named_looks h.since r.looks))) (sym (queue e));
        lines =
            λ l. ap (line_name h.since) (F.lines l) ∙ sym (ap (λ (w : Waiting). w.lines l) I.waiting);
        met = λ v i. subst (λ (l : List ℕ). Mem v.waiter l) (sym (queue e)) (F.met v i);
        counts = count ∙ sym (length_named h.since r.looks);
        answer =
            ap (get_elem? (h.answers ++ (r.answer ∷ []))) (I.now ∙ sym I.answered)
            ∙ entry_last h.answers r.answer
            ∙ ap some (answer ∙ ap (counted r.answer.code) (sym count));
      }
    where
      queue : (f : ℕ) → h.waiting.queues f ≡ map h.since (s.endpoints f).waiters
      queue f = ap (λ (w : Waiting). w.queues f) I.waiting

      count : r.answer.count ≡ length r.looks
      count = ap (λ (x : Answer). x.count) answer

  refused12 :
      (n : ℕ) → is_accepted (plain (suc n)) ≡ false
      → Inv (past ++ (Abort e a b ∷ [])) s (told_seen bk (Abort e a b) s (refuse (suc n) s) h)
  unfolding outcome_if
  refused12 n p =
      next bk past s h I (Abort e a b) (refuse (suc n) s) (unchanged (refuse (suc n) s) h) refl (rw p)
      (record {
        sound = I.sound;
        core = idle_core bk past s h I (Abort e a b) (refuse (suc n) s) (leaves_self s);
        tied = I.tied;
        rising = I.rising;
        stray = I.stray;
        new = λ z i. inl i;
        kept = λ z i. i;
        duty8 = tt;
        duty12 =
            called (refuse (suc n) s) (unchanged (refuse (suc n) s) h) (frame_keeps h.since e s s (keeps_self s))
            refl (λ i. absurd (omega arith));
      })

  -- Answered from a note.
  noted12 :
      (t : ℕ) → s.runs ≡ some t → (s.threads t).debt ≡ noted e b
      → Sound (done (drop_debt t s)).state
      → Inv (past ++ (Abort e a b ∷ [])) (done (drop_debt t s)).state
      (told_seen bk (Abort e a b) s (done (drop_debt t s)) h)
  unfolding recorded
  noted12 t runs debt S =
      next bk past s h I (Abort e a b) (done q) o refl outcome
      (record {
        sound = S;
        core = idle_core bk past s h I (Abort e a b) (done q) (leaves_choose s q (leaves_drop_debt t s));
        tied = tied_still (still_choose q q (still_self q)) (λ z i. i) (tied_drop s I.tied t);
        rising = frame_rising h.since e s (done q).state [] frame I.rising;
        stray = I.stray;
        new = λ z i. inl i;
        kept = λ z i. i;
        duty8 = tt;
        duty12 = called (done q) o frame refl reports;
      })
    where
      q : State
      q = drop_debt t s

      o : Outcome
      o = apart (lets_go t h.aborts.debts) (h.aborts.debts.notes t) (done q) h

      frame : Frame h.since e s (done q).state []
      frame = frame_choose h.since e s q [] (frame_keeps h.since e s q (drop_debt_drops s t).keeps)

      N : Noted (h.aborts.debts.notes t) e b
      N = noted_of (h.aborts.debts.notes t) e b (I.tied.notes t ∙ ap note_in debt)

      reports :
          ◌≡◌ {A = ℕ} 0 0
          → Reports (recorded_seen bk h.since o (looks e a b) (done q) h)
          (abort_call_of e a b (done q) (waiting_in h.since (done q).state) o.reports h)
      reports z =
          let F = I.tied.heard t N.of N.is in
          record {
            reported = N.of;
            is = N.is;
            of_endpoint = N.endpoint;
            of_badge = N.badge;
            ended =
                record {
                  ended = F.0;
                  found = F.1;
                  same = F.2;
                  by = omega (arith, (I.core.over F.0 F.1).by);
                };
          }

      outcome : outcome_if (is_accepted (plain 0)) (looks e a b) s.runs (done q) h ≡ o
      outcome =
          outcome_noted t e a b s (done q) h runs refl
          (note_is e b (h.aborts.debts.notes t) (s.threads t).debt (I.tied.notes t)
          ∙ ap (has_note e b) debt ∙ rw (eq-eqb e e refl, eq-eqb b b refl))

  -- Worked on.
  works12 :
      (t : ℕ) → s.runs ≡ some t → has_note e b (s.threads t).debt ≡ false → (s.endpoints e).status ≡ live
      → in_range (Abort e a b) ≡ true → Sound (abort_open t e a b (drop_debt t s)).state
      → Inv (past ++ (Abort e a b ∷ [])) (abort_open t e a b (drop_debt t s)).state
      (told_seen bk (Abort e a b) s (abort_open t e a b (drop_debt t s)) h)
  unfolding recorded
  works12 t runs unnoted lives range S =
      next bk past s h I (Abort e a b) r o refl outcome
      (record {
        sound = S;
        core =
            core_grow (within (stage_of past h)) (Abort e a b) r.answer (fits bk past s h I) core;
        tied = subst (λ (x : State). Tied x.threads R.gone.debts R.gone.ended)
            (sym R.chosen) (tied_still (still_choose R.state R.state (still_self R.state)) (λ z i. i)
            R.tied);
        rising = frame_rising h.since e s r.state r.looks frame I.rising;
        stray = refl;
        new = R.more.known;
        kept = R.more.kept;
        duty8 = tt;
        duty12 = called r o frame R.answer reports;
      })
    where
      r : Result
      r = abort_open t e a b (drop_debt t s)

      R : Ran (stage_of past h) h.aborts.standing t e b s a (start_at t e b s h)
          (abort_open t e a b (drop_debt t s))
      R =
          ran (stage_of past h) h.aborts.standing (gone_of h) t e b I.now (range12 e a b range).1 s a
          (range12 e a b range).0 (sound_mid I.sound) I.core I.tied runs lives

      o : Outcome
      o =
          record {
            aborts =
                record {
                  standing = put h.aborts.standing e R.stands;
                  ended = R.gone.ended;
                  debts = R.gone.debts;
                  stray = [];
                };
            reports =
                report_if
                (walk (named_looks h.since r.looks) a (walker_of t e b h) (start_at t e b s h)).standing b;
          }

      frame : Frame h.since e s r.state r.looks
      frame =
          subst (λ (x : State). Frame h.since e s x r.looks) (sym R.chosen)
          (frame_choose h.since e s R.state r.looks R.frame)

      outcome : outcome_if (is_accepted r.answer) (looks e a b) s.runs r h ≡ o
      outcome =
          outcome_walks t e a b s r h runs R.accepted
          (note_is e b (h.aborts.debts.notes t) (s.threads t).debt (I.tied.notes t) ∙ unnoted)
          ∙ walks_from t e a b s r h _ (ap (λ (w : Waiting). w.messages e) I.waiting) I.stray R.closes

      core :
          Core (within (stage_of past h)) r.state.threads r.state.endpoints
          (put h.aborts.standing e R.stands) R.gone.ended
      core =
          subst
          (λ (x : State).
          Core (within (stage_of past h)) x.threads x.endpoints
          (put h.aborts.standing e R.stands) R.gone.ended)
          (sym R.chosen)
          (core_choose R.state R.core)

      reports :
          r.answer.code ≡ 0
          → Reports (recorded_seen bk h.since o (looks e a b) r h)
          (abort_call_of e a b r (waiting_in h.since r.state) o.reports h)
      reports z =
          let F = R.reports z in
          record {
            reported = report_of F.0.abort;
            is = F.2;
            of_endpoint = F.3;
            of_badge = F.4;
            ended = record { ended = F.0; found = F.1; same = refl; by = F.5 };
          }

  at12 :
      (t : ℕ) → s.runs ≡ some t → has_note e b (s.threads t).debt ≡ false → in_range (Abort e a b) ≡ true
      → (x : Status)
      → (s.endpoints e).status ≡ x → Sound (abort_at x t e a b s).state
      → Inv (past ++ (Abort e a b ∷ [])) (abort_at x t e a b s).state
      (told_seen bk (Abort e a b) s (abort_at x t e a b s) h)
  unfolding abort_at
  at12 t runs unnoted range missing p S = refused12 22 refl
  at12 t runs unnoted range closing p S = refused12 24 refl
  at12 t runs unnoted range live p S = works12 t runs unnoted p range S

  noted_is : (d : Debt) → has_note e b d ≡ true → d ≡ noted e b
  noted_is nothing p = absurd (clash p refl)
  noted_is (works f) p = absurd (clash p refl)
  noted_is (noted f c) p =
      let r = (and-eq-true_iff (eqb f e) (eqb c b)).0 p in
      ap (λ (x : ℕ). noted x c) (eqb-true f e r.0) ∙ ap (noted e) (eqb-true c b r.1)

  pub advance12 :
      (g : Grants)
      → Inv (past ++ (Abort e a b ∷ [])) (step g s (Abort e a b)).state
      (told_seen bk (Abort e a b) s (step g s (Abort e a b)) h)
  unfolding step perform_if perform_unless perform abort abort_unless
  advance12 g = go (in_range (Abort e a b)) refl (step_sound g s (Abort e a b) I.sound)
    where
      noted_or_not :
          (t : ℕ) → s.runs ≡ some t → in_range (Abort e a b) ≡ true → (x : Bool)
          → has_note e b (s.threads t).debt ≡ x → Sound (abort_unless x t e a b s).state
          → Inv (past ++ (Abort e a b ∷ [])) (abort_unless x t e a b s).state
          (told_seen bk (Abort e a b) s (abort_unless x t e a b s) h)
      noted_or_not t runs range true p S = noted12 t runs (noted_is (s.threads t).debt p) S
      noted_or_not t runs range false p S = at12 t runs p range (s.endpoints e).status refl S

      by :
          in_range (Abort e a b) ≡ true → (k : Option ℕ) → s.runs ≡ k
          → Sound (by_caller k (λ t. abort t e a b) s).state
          → Inv (past ++ (Abort e a b ∷ [])) (by_caller k (λ t. abort t e a b) s).state
          (told_seen bk (Abort e a b) s (by_caller k (λ t. abort t e a b) s) h)
      by range none p S = refused12 19 refl
      by range (some t) p S = noted_or_not t p range (has_note e b (s.threads t).debt) refl S

      unless : in_range (Abort e a b) ≡ true → (x : Bool) → Sound (perform_unless x (Abort e a b) s).state
          → Inv (past ++ (Abort e a b ∷ [])) (perform_unless x (Abort e a b) s).state
          (told_seen bk (Abort e a b) s (perform_unless x (Abort e a b) s) h)
      unless range true S = refused12 28 refl
      unless range false S = by range s.runs refl S

      go : (x : Bool) → in_range (Abort e a b) ≡ x → Sound (perform_if x g (Abort e a b) s).state
          → Inv (past ++ (Abort e a b ∷ [])) (perform_if x g (Abort e a b) s).state
          (told_seen bk (Abort e a b) s (perform_if x g (Abort e a b) s) h)
      go true p S = unless p (barred s.runs g (Abort e a b)) S
      go false p S = refused12 18 refl
