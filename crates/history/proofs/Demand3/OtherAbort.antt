-- Another badge's abort in a call 12 is finished first, against the history's walk; then the call's own begins.
use Prim.Native.Nat.{ℕ, zero, suc, ◌≤◌, ◌<◌, ◌-◌, ◌^◌}
use mathlib.Core.Path.{◌≡◌, refl, sym, ◌∙◌, ap, subst}
use mathlib.Core.Bool.{false}
use mathlib.Core.Option.{Option, none, some}
use mathlib.Core.List.{List, [], ◌∷◌, ◌++◌, map, append-nil}
use native.Mathlib.Omega.{arith}
use lib.Dec.{eqb}
use lib.ListN.{length}
use Rattle.machine.specs.State.{State, nothing, Abort, live, Endpoint}
use Rattle.machine.specs.Endpoints.{senders, pending_of, works_at, end_abort}
use Rattle.machine.specs.Aborts.{Looked, pending_at, look_up_to, begin_after, finished, looked_other, work_other}
use Rattle.history.specs.History.{Aborting, Reported, NamedLook, named_looks}
use Rattle.history.specs.Walk.{Walk, Walker, lets_go, hears_by, report_of, begins, ends, passes, settles, settle}
use Rattle.history.specs.Walk.{walk}
use Rattle.history.specs.Walk.{closes, close}
use Rattle.machine.proofs.Lists.{put_same, put_again}
use Rattle.machine.proofs.Preserved.Debts.{live_present, mid_end_abort, end_abort_entry}
use Rattle.machine.proofs.Preserved.Debts.{end_abort_runs, end_abort_debt}
use Rattle.machine.proofs.Preserved.AbortSteps.{Steady, steady_look_up_to}
use Rattle.machine.proofs.Preserved.Aborts.{running_present}
use Rattle.history.proofs.Demand3.Standing.{Stage, within, Stood, Core}
use Rattle.history.proofs.Demand3.Ending.{core_end}
use Rattle.history.proofs.Demand3.Owing.{tied_free, tied_end}
use Rattle.history.proofs.Demand3.Together.{Gone, walk_at, Going, going_abort, left_some, left_none}
use Rattle.history.proofs.Demand3.Together.{settle_pending}
use Rattle.history.proofs.Demand3.EachLook.{Frame, frame_then, frame_keep, Walked, walked}
use Rattle.history.proofs.Demand3.OwnAbort.{More, more_cons, walk_keeps, keeps_end_abort, walk_settle, walk_nil}
use Rattle.history.proofs.Demand3.OwnAbort.{walker, Ran, own_begins}

module _
    (stage : Stage) (standing : ℕ → Option Aborting) (t e b : ℕ) (now : length stage.past ≤ stage.until)
    (here : stage.until ≤ length stage.past) (small : b < 2 ^ 28) (s : State) (a : ℕ) (start : Walk) where
  abbrev since : ℕ → ℕ
  since = stage.since

  abbrev place : ℕ
  place = stage.until

  abbrev c : Walker
  c = walker stage standing t e b

  -- The looks at another badge's abort have come to r, and nothing is left of it.
  module _
      (r : Looked) (x : Aborting) (d : Gone)
      (G : Going (within stage) standing e r.state (some x) d)
      (differs : eqb x.badge b ≡ false)
      (free : (r.state.threads t).debt ≡ nothing)
      (k : Abort) (was : (r.state.endpoints e).abort ≡ some k)
      (S : Stood (within stage) r.state.threads e k x) (lives : (r.state.endpoints e).status ≡ live)
      (F : Frame since e s r.state r.looks) (E : More place start.ended d.ended) where
    abbrev over : Gone
    over =
        record {
          ended = record { abort = x; by = place; members = (lets_go t d.debts).members e } ∷ d.ended;
          debts = hears_by t e (report_of x) d.debts;
        }

    going_over : k.pending ≡ []
        → Going (within stage) standing e (end_abort live e r.state) none over
    going_over h =
        record {
          mid = mid_end_abort live e r.state (live_present refl) (live_present lives) G.mid;
          core =
              subst
              (λ (f : ℕ → Option Aborting).
              Core (within stage) (end_abort live e r.state).threads
              (end_abort live e r.state).endpoints f over.ended)
              (put_again standing e (some x) none)
              (core_end (within stage) r.state G.core e G.mid live k x place _ was
              (put_same standing e (some x))
              (omega arith) (omega arith) (λ i. h) (λ i. lives));
          tied =
              tied_end r.state (tied_free r.state G.tied t free) e live k was x S.endpoint S.badge _
              refl;
        }

    settle_over :
        (m : ℕ) → k.pending ≡ []
        → settle m c (walk_at since e r.state (some x) d)
        ≡ begins m c (walk_at since e (end_abort live e r.state) none over)
    unfolding settle settles passes ends
    settle_over m h =
        rw (differs, left_none (within stage) standing e r.state x d G k was S h)
        (ap (begins m c)
        (sym (walk_keeps since e r.state (end_abort live e r.state) none over (keeps_end_abort live e r.state))))

    settle_begins : (m : ℕ) (w : Walk) → w.standing ≡ none → settle m c w ≡ begins m c w
    unfolding settle settles
    settle_begins m w h = rw h

    frame_over : Frame since e s (end_abort live e r.state) r.looks
    frame_over =
        frame_keep since e s r.state (end_abort live e r.state) r.looks F (keeps_end_abort live e r.state)

    more_over : More place start.ended over.ended
    more_over = more_cons place start.ended d.ended _ (omega arith) E

    -- The walk after the looks, with none to come.
    walk_looked :
        (m : ℕ)
        → ((l : List NamedLook)
        → walk (named_looks since r.looks ++ l) a c start ≡ walk l m c (walk_at since e r.state (some x) d))
        → walk (named_looks since r.looks) a c start ≡ settle m c (walk_at since e r.state (some x) d)
    walk_looked m W =
        ap (λ (l : List NamedLook). walk l a c start) (sym (append-nil (named_looks since r.looks))) ∙ W []
        ∙ walk_nil m c _

    finishes :
        (runs : r.state.runs ≡ some t) (m : ℕ)
        → ((l : List NamedLook)
        → walk (named_looks since r.looks ++ l) a c start ≡ walk l m c (walk_at since e r.state (some x) d))
        → k.pending ≡ []
        → Ran stage standing t e b s a start
        (begin_after m t e b r.looks (end_abort live e r.state))
    unfolding begin_after begins close closes
    finishes runs zero W h =
        record {
          state = end_abort live e r.state;
          chosen = refl;
          frame = frame_over;
          answer = refl;
          accepted = refl;
          stands = none;
          gone = over;
          core = (going_over h).core;
          tied = (going_over h).tied;
          more = more_over;
          queued =
              map since (senders (end_abort live e r.state).threads
              ((end_abort live e r.state).endpoints e).waiters);
          closes = ap (close c) (walk_looked 0 W ∙ settle_over 0 h);
          reports = λ i. absurd (omega arith);
          rests = λ i. ap (λ (w : Walk). w.standing) (sym (walk_looked 0 W ∙ settle_over 0 h));
        }
    finishes runs (suc m) W h =
        own_begins stage standing t e b now s a start m r.looks
        (end_abort live e r.state) over
        (going_over h) (ap (λ (y : Endpoint). y.abort) (end_abort_entry r.state e live))
        (end_abort_debt r.state e live t (ap (works_at e) free) ∙ free)
        (running_present (going_over h).mid (end_abort_runs r.state e live ∙ runs)) small here
        (ap (λ (y : Endpoint). y.status) (end_abort_entry r.state e live)) frame_over
        (λ l.
        W l
        ∙ walk_settle l (suc m) c (walk_at since e r.state (some x) d)
        (walk_at since e (end_abort live e r.state) none over)
        (settle_over (suc m) h
        ∙ sym (settle_begins (suc m) (walk_at since e (end_abort live e r.state) none over) refl))) more_over

    -- Something is left: the call is broken off.
    breaks :
        (u : ℕ) (l : List ℕ) (m : ℕ)
        → ((l : List NamedLook)
        → walk (named_looks since r.looks ++ l) a c start ≡ walk l m c (walk_at since e r.state (some x) d))
        → k.pending ≡ u ∷ l
        → Ran stage standing t e b s a start (finished (u ∷ l) t e a b r)
    unfolding finished close closes
    breaks u l m W h =
        record {
          state = r.state;
          chosen = refl;
          frame = F;
          answer = refl;
          accepted = refl;
          stands = some x;
          gone = d;
          core = G.core;
          tied = G.tied;
          more = E;
          queued = map since (senders r.state.threads (r.state.endpoints e).waiters);
          closes =
              ap (close c) looked_so ∙ rw (left_some (within stage) standing e r.state x d G k was S u l h);
          reports = λ i. absurd (omega arith);
          rests = λ i. ap (λ (w : Walk). w.standing) (sym looked_so);
        }
      where
        looked_so : walk (named_looks since r.looks) a c start ≡ walk_at since e r.state (some x) d
        looked_so = walk_looked m W ∙ settle_pending (within stage) standing e r.state x d G k was S u l m c h

  pub other_works :
      (q : State) (x : Aborting) (d : Gone) → Going (within stage) standing e q (some x) d
      → eqb x.badge b ≡ false
      → (q.threads t).debt ≡ nothing → q.runs ≡ some t → (q.endpoints e).status ≡ live → Frame since e s q []
      → start ≡ walk_at since e q (some x) d → More place start.ended d.ended
      → Ran stage standing t e b s a start (work_other t e a b q)
  unfolding work_other looked_other finished
  other_works q x d G differs free runs lives F W E = go (pending_at e r.state) refl
    where
      r : Looked
      r = look_up_to a (pending_at e q) e q

      H : Walked (within stage) standing e q x d a c (look_up_to a (pending_at e q) e q)
      H = walked (within stage) standing e a (pending_at e q) q x d c refl G

      T : Steady q (look_up_to a (pending_at e q) e q).state
      T = steady_look_up_to a (pending_at e q) e q

      A : (k : Abort) × ((r.state.endpoints e).abort ≡ some k) × Stood (within stage) r.state.threads e k
          H.abort
      A =
          going_abort (within stage) standing e r.state (some H.abort) d H.abort refl
          H.going

      other : eqb H.abort.badge b ≡ false
      other = ap (λ (y : Reported). eqb y.badge b) H.report ∙ differs

      frame : Frame since e s r.state r.looks
      frame = frame_then since e s q r.state [] r.looks F H.frame

      goes :
          (l : List NamedLook)
          → walk (named_looks since r.looks ++ l) a c start
          ≡ walk l (a - length r.looks) c (walk_at since e r.state (some H.abort) d)
      goes l = ap (walk (named_looks since r.looks ++ l) a c) W ∙ H.walks l

      go : (l : List ℕ) → pending_at e r.state ≡ l
          → Ran stage standing t e b s a start (finished l t e a b r)
      go [] h =
          finishes r H.abort d H.going other (T.debt t ∙ free) A.0 A.1 A.2
          ((T.entry e).status ∙ lives) frame E (T.runs ∙ runs) (a - length r.looks) goes
          (ap pending_of (sym A.1) ∙ h)
      go (u ∷ l) h =
          breaks r H.abort d H.going other (T.debt t ∙ free) A.0 A.1 A.2
          ((T.entry e).status ∙ lives) frame E u l
          (a - length r.looks) goes (ap pending_of (sym A.1) ∙ h)
