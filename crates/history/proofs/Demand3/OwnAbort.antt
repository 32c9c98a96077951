-- The call's own abort in a call 12, from its beginning to its end or the break, against the history's walk.
use Prim.Native.Nat.{ℕ, suc, ◌≤◌, ◌<◌, ◌-◌, ◌^◌}
use mathlib.Core.Path.{◌≡◌, refl, sym, ◌∙◌, ap, subst}
use mathlib.Core.Logic.{◌⊎◌, inl, inr}
use mathlib.Core.Bool.{true}
use mathlib.Core.Option.{Option, none, some}
use mathlib.Core.List.{List, [], ◌∷◌, ◌++◌, map, append-nil}
use native.Mathlib.Omega.{arith}
use lib.ListN.{length}
use borrow.Author.Tests.{eq-eqb}
use Rattle.machine.specs.Lists.{put}
use Rattle.machine.specs.State.{State, nothing, works, Abort, Status, live, Endpoint, set_endpoint}
use Rattle.machine.specs.Scheduling.{choose}
use Rattle.machine.specs.Endpoints.{is_aborting, is_sending, senders, pending_of, drop_debt, note_all}
use Rattle.machine.specs.Endpoints.{note, end_abort}
use Rattle.machine.specs.Results.{Look, Result}
use Rattle.calls.specs.Answers.{counted, is_accepted}
use Rattle.machine.specs.Aborts.{Looked, pending_at, look_up_to, join, begin, ended, looked_own, work_own}
use Rattle.machine.specs.Sound.{Present}
use Rattle.history.specs.History.{Aborting, Ended, Reported, NamedLook, named_looks}
use Rattle.history.specs.Walk.{Walk, Walker, takes_up, lets_go, hears_by, begins, ends, passes, settles, settle}
use Rattle.history.specs.Walk.{walk}
use Rattle.history.specs.Walk.{closes, close, report_of, report_if}
use Rattle.history.specs.Claim.{In}
use Rattle.history.specs.Tied.{Tied}
use Rattle.machine.proofs.Lists.{put_same, put_again}
use Rattle.history.proofs.Sublists.{only_agree}
use Rattle.machine.proofs.Preserved.Statuses.{Keeps, keeps_then, keeps_place, keeps_debt, keeps_entry}
use Rattle.machine.proofs.Preserved.Debts.{nobody_works, mid_drop_debt, drop_debt_drops, keeps_note_all}
use Rattle.machine.proofs.Preserved.AbortSteps.{mid_begin, Steady, steady_look_up_to}
use Rattle.machine.proofs.Preserved.Aborts.{begin_status}
use Rattle.history.proofs.Demand3.Standing.{Stage, within, Stood, Core}
use Rattle.history.proofs.Demand3.Leaving.{leaves_drop_debt, core_leaves}
use Rattle.history.proofs.Demand3.Ending.{begun_on, core_end, core_begin}
use Rattle.history.proofs.Demand3.Owing.{tied_drop, tied_begin, tied_end}
use Rattle.history.proofs.Demand3.Together.{Gone, walk_at, Going, going_abort, left_some, left_none}
use Rattle.history.proofs.Demand3.EachLook.{Frame, frame_then, frame_keep, Walked, walked}

-- The second list has the ended aborts of the first, and others that ended at the place or later.
pub record More (place : ℕ) (old new : List Ended) : Type 0 where
  pub known : (z : Ended) → In z new → In z old ⊎ (place ≤ z.by)
  pub kept : (z : Ended) → In z old → In z new

pub more_self : (place : ℕ) (l : List Ended) → More place l l
more_self place l = record { known = λ z i. inl i; kept = λ z i. i }

pub more_cons :
    (place : ℕ) (old new : List Ended) (z : Ended) → place ≤ z.by → More place old new → More place old (z ∷ new)
more_cons place old new z h M = record { known = known; kept = λ y i. inr (M.kept y i) }
  where
    known : (y : Ended) → In y (z ∷ new) → In y old ⊎ (place ≤ y.by)
    known y (inl i) = inr (rw i h)
    known y (inr i) = M.known y i

-- Steps that leave the queues leave the walk.
pub walk_keeps :
    (since : ℕ → ℕ) (e : ℕ) (s r : State) (o : Option Aborting) (d : Gone) → Keeps s r
    → walk_at since e r o d ≡ walk_at since e s o d
walk_keeps since e s r o d K =
    ap (λ (q : List ℕ). record { standing = o; queued = map since q; ended = d.ended; debts = d.debts; stray = [] })
    (ap (senders r.threads) (K.waiters e)
    ∙ only_agree _ _ (s.endpoints e).waiters (λ t m. ap is_sending (keeps_place K t)))

pub keeps_end_abort : (status : Status) (e : ℕ) (s : State) → Keeps s (end_abort status e s)
unfolding end_abort note
keeps_end_abort status e s = go (s.endpoints e).abort
  where
    closed : Endpoint
    closed = record { status = status; waiters = (s.endpoints e).waiters; abort = none }

    go : (k : Option Abort) → Keeps s (set_endpoint e closed (note k e s))
    go none = keeps_entry s e closed refl
    go (some a) =
        keeps_then (keeps_note_all s e a.badge)
        (keeps_entry (note_all e a.badge s) e closed (sym ((keeps_note_all s e a.badge).waiters e)))

pub keeps_join : (t e : ℕ) (s : State) → Keeps s (join t e s)
unfolding join
keeps_join t e s = keeps_debt s t (works e)

pub keeps_begin : (t e b : ℕ) (s : State) → Keeps s (begin t e b s)
unfolding begin
keeps_begin t e b s = keeps_then (keeps_entry s e _ refl) (keeps_join t e _)

-- Two walks of which the same is to settle go the same way.
pub walk_settle :
    (l : List NamedLook) (k : ℕ) (c : Walker) (v w : Walk) → settle k c v ≡ settle k c w → walk l k c v ≡ walk l k c w
unfolding walk
walk_settle [] k c v w h = h
walk_settle (x ∷ l) k c v w h = rw h

pub settle_own :
    (k : ℕ) (c : Walker) (w : Walk) (x : Aborting) → w.standing ≡ some x → x.badge ≡ c.badge → settle k c w ≡ w
unfolding settle settles passes
settle_own k c w x h b = rw (h, eq-eqb x.badge c.badge b)

pub walk_nil : (k : ℕ) (c : Walker) (w : Walk) → walk [] k c w ≡ settle k c w
unfolding walk
walk_nil k c w = refl

-- Where none stands, the call's own begins.
settle_none :
    (k : ℕ) (c : Walker) (w : Walk) → w.standing ≡ none
    → settle (suc k) c w
    ≡ record {
      standing =
          some (record {
            endpoint = c.endpoint;
            badge = c.badge;
            began = c.place;
            onto = w.queued;
            looked = [];
            removed = [];
          });
      queued = w.queued;
      ended = w.ended;
      debts = takes_up c.caller c.endpoint w.debts;
      stray = w.stray;
    }
unfolding settle settles begins
settle_none k c w h = rw h

named_append :
    (since : ℕ → ℕ) (k l : List Look) → named_looks since (k ++ l) ≡ named_looks since k ++ named_looks since l
named_append since [] l = refl
named_append since (v ∷ k) l =
    ap (λ (r : List NamedLook). record { waiter = since v.waiter; removed = v.removed } ∷ r)
    (named_append since k l)

-- A call 12 of t at the stage.
module _ (stage : Stage) (standing : ℕ → Option Aborting) (t e b : ℕ) where
  abbrev since : ℕ → ℕ
  since = stage.since

  abbrev place : ℕ
  place = stage.until

  abbrev pub walker : Walker
  walker = record { place = place; caller = t; endpoint = e; badge = b }

  -- What a call 12 with allowance a from s has come to.
  pub record Ran (s : State) (a : ℕ) (start : Walk) (r : Result) : Type 0 where
    pub state : State
    pub chosen : r.state ≡ choose state
    pub frame : Frame since e s state r.looks
    pub answer : r.answer ≡ counted r.answer.code (length r.looks)
    pub accepted : is_accepted r.answer ≡ true
    pub stands : Option Aborting
    pub gone : Gone
    pub core : Core (within stage) state.threads state.endpoints (put standing e stands) gone.ended
    pub tied : Tied state.threads gone.debts gone.ended
    pub more : More place start.ended gone.ended
    pub queued : List ℕ
    pub closes :
        close walker (walk (named_looks since r.looks) a walker start)
        ≡ record { standing = stands; queued = queued; ended = gone.ended; debts = gone.debts; stray = [] }
    pub reports :
        r.answer.code ≡ 0
        → (z : Ended) × In z gone.ended
        × (report_if (walk (named_looks since r.looks) a walker start).standing b ≡ some (report_of z.abort))
        × (z.abort.endpoint ≡ e) × (z.abort.badge ≡ b) × (z.by ≤ place)
    -- Broken off, the call leaves standing what its looks have come to.
    pub rests : r.answer.code ≡ 2 → stands ≡ (walk (named_looks since r.looks) a walker start).standing

  module _ (now : length stage.past ≤ stage.until) (s : State) (a : ℕ) (start : Walk) where
    -- The abort x of the call's badge, after the looks: it ends if nothing is left.
    own_ends :
        (q : State) (x : Aborting) (d : Gone) (looks : List Look)
        → Going (within stage) standing e q (some x) d → x.badge ≡ b
        → (q.endpoints e).status ≡ live → Frame since e s q looks
        → walk (named_looks since looks) a walker start ≡ walk_at since e q (some x) d
        → More place start.ended d.ended → Ran s a start (ended (pending_at e q) t e looks q)
    unfolding ended close closes ends
    own_ends q x d looks G badge lives F W E = go (pending_at e q) refl
      where
        A : (k : Abort) × ((q.endpoints e).abort ≡ some k) × Stood (within stage) q.threads e k x
        A = going_abort (within stage) standing e q (some x) d x refl G

        was : ((drop_debt t q).endpoints e).abort ≡ some A.0
        was = (drop_debt_drops q t).abort e ∙ A.1

        z : Ended
        z = record { abort = x; by = place; members = (lets_go t d.debts).members e }

        pending : (l : List ℕ) → pending_at e q ≡ l → A.0.pending ≡ l
        pending l h = ap pending_of (sym A.1) ∙ h

        over : A.0.pending ≡ []
            → Core (within stage) (end_abort live e (drop_debt t q)).threads
            (end_abort live e (drop_debt t q)).endpoints (put standing e none) (z ∷ d.ended)
        over h =
            subst
            (λ (f : ℕ → Option Aborting).
            Core (within stage) (end_abort live e (drop_debt t q)).threads
            (end_abort live e (drop_debt t q)).endpoints f (z ∷ d.ended))
            (put_again standing e (some x) none)
            (core_end (within stage) (drop_debt t q)
            (core_leaves (within stage) (suc place) (omega arith) (leaves_drop_debt t q) G.core) e
            (mid_drop_debt q t G.mid) live A.0 x place _ was (put_same standing e (some x)) (omega arith)
            (omega arith) (λ i. h)
            (λ i. (drop_debt_drops q t).status e ∙ lives))

        go : (l : List ℕ) → pending_at e q ≡ l → Ran s a start (ended l t e looks q)
        go [] h =
            record {
              state = end_abort live e (drop_debt t q);
              chosen = refl;
              frame =
                  frame_keep since e s (drop_debt t q) (end_abort live e (drop_debt t q)) looks
                  (frame_keep since e s q (drop_debt t q) looks F (drop_debt_drops q t).keeps)
                  (keeps_end_abort live e (drop_debt t q));
              answer = refl;
              accepted = refl;
              stands = none;
              gone =
                  record { ended = z ∷ d.ended; debts = hears_by t e (report_of x) d.debts };
              core = over (pending [] h);
              tied =
                  tied_end (drop_debt t q) (tied_drop q G.tied t) e live A.0 was x A.2.endpoint A.2.badge
                  z refl;
              more = more_cons place start.ended d.ended z (omega arith) E;
              queued = map since (senders q.threads (q.endpoints e).waiters);
              closes =
                  rw (
                    W,
                    left_none (within stage) standing e q x d G A.0 A.1 A.2 (pending [] h),
                  );
              reports =
                  λ i. (z, inl refl, rw (W, eq-eqb x.badge b badge), A.2.endpoint, badge, omega arith);
              rests = λ i. absurd (omega arith);
            }
        go (u ∷ l) h =
            record {
              state = q;
              chosen = refl;
              frame = F;
              answer = refl;
              accepted = refl;
              stands = some x;
              gone = d;
              core = G.core;
              tied = G.tied;
              more = E;
              queued = map since (senders q.threads (q.endpoints e).waiters);
              closes =
                  rw (
                    W,
                    left_some (within stage) standing e q x d G A.0 A.1 A.2 u l
                        (pending (u ∷ l) h),
                  );
              reports = λ i. absurd (omega arith);
              rests = λ i. ap (λ (w : Walk). w.standing) (sym W);
            }

    -- The abort x of the call's badge, with allowance k, after the looks made earlier in the call.
    pub own_works :
        (k : ℕ) (earlier : List Look) (q : State) (x : Aborting) (d : Gone)
        → Going (within stage) standing e q (some x) d → x.badge ≡ b
        → (q.endpoints e).status ≡ live → Frame since e s q earlier
        → ((l : List NamedLook)
        → walk (named_looks since earlier ++ l) a walker start ≡ walk l k walker (walk_at since e q (some x) d))
        → More place start.ended d.ended → Ran s a start (work_own t e k earlier q)
    unfolding work_own looked_own
    own_works k earlier q x d G badge lives F W E =
        own_ends r.state H.abort d (earlier ++ r.looks) H.going same ((T.entry e).status ∙ lives)
        (frame_then since e s q r.state earlier r.looks F H.frame)
        (ap (λ (l : List NamedLook). walk l a walker start) (named_append since earlier r.looks)
        ∙ W (named_looks since r.looks)
        ∙ ap (λ (l : List NamedLook). walk l k walker (walk_at since e q (some x) d))
        (sym (append-nil (named_looks since r.looks)))
        ∙ H.walks [] ∙ done) E
      where
        r : Looked
        r = look_up_to k (pending_at e q) e q

        H : Walked (within stage) standing e q x d k walker (look_up_to k (pending_at e q) e q)
        H = walked (within stage) standing e k (pending_at e q) q x d walker refl G

        T : Steady q (look_up_to k (pending_at e q) e q).state
        T = steady_look_up_to k (pending_at e q) e q

        same : H.abort.badge ≡ b
        same = ap (λ (y : Reported). y.badge) H.report ∙ badge

        done :
            walk [] (k - length r.looks) walker (walk_at since e r.state (some H.abort) d)
            ≡ walk_at since e r.state (some H.abort) d
        done =
            walk_nil (k - length r.looks) walker _ ∙ settle_own (k - length r.looks) walker _ H.abort refl same

    -- The call's own abort begins, where allowance remains.
    pub own_begins :
        (k : ℕ) (earlier : List Look) (q : State) (d : Gone)
        → Going (within stage) standing e q none d → (q.endpoints e).abort ≡ none
        → (q.threads t).debt ≡ nothing → Present q t → b < 2 ^ 28 → place ≤ length stage.past
        → (q.endpoints e).status ≡ live → Frame since e s q earlier
        → ((l : List NamedLook)
        → walk (named_looks since earlier ++ l) a walker start ≡ walk l (suc k) walker (walk_at since e q none d))
        → More place start.ended d.ended → Ran s a start (work_own t e (suc k) earlier (begin t e b q))
    own_begins k earlier q d G bare free present small here lives F W E =
        own_works (suc k) earlier (begin t e b q) (begun_on since q e b place) begun
        (record {
          mid = mid_begin t e b q G.mid present lives small;
          core =
              subst
              (λ (f : ℕ → Option Aborting).
              Core (within stage) (begin t e b q).threads (begin t e b q).endpoints f d.ended)
              (put_again standing e none (some (begun_on since q e b place)))
              (core_begin (within stage) q G.core e G.mid t b place now (omega arith));
          tied = tied_begin q G.tied t e b free (nobody_works G.mid e (ap is_aborting bare));
        })
        refl (begin_status t e b q ∙ lives)
        (frame_keep since e s q (begin t e b q) earlier F (keeps_begin t e b q))
        (λ l.
        W l
        ∙ walk_settle l (suc k) walker (walk_at since e q none d)
        (walk_at since e (begin t e b q) (some (begun_on since q e b place)) begun)
        (settles_begin
        ∙ sym
        (settle_own (suc k) walker (walk_at since e (begin t e b q) (some (begun_on since q e b place)) begun)
        (begun_on since q e b place) refl refl))) E
      where
        begun : Gone
        begun = record { ended = d.ended; debts = takes_up t e d.debts }

        settles_begin :
            settle (suc k) walker (walk_at since e q none d)
            ≡ walk_at since e (begin t e b q) (some (begun_on since q e b place)) begun
        settles_begin =
            settle_none k walker (walk_at since e q none d) refl
            ∙ sym (walk_keeps since e q (begin t e b q) (some (begun_on since q e b place)) begun (keeps_begin t e b q))
