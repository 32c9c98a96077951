-- The looks of a call 12 against the history's walk, and what they leave of the queues.
use Prim.Native.Nat.{ℕ, zero, suc, ◌-◌}
use mathlib.Core.Path.{◌≡◌, refl, sym, ◌∙◌, ap, subst}
use mathlib.Core.Logic.{◌⊎◌, inl, inr, ⊎_elim}
use mathlib.Core.Bool.{Bool, true, false}
use mathlib.Core.Option.{Option, some}
use mathlib.Core.List.{List, [], ◌∷◌, ◌++◌, map}
use native.Mathlib.Omega.{arith}
use lib.ListN.{length}
use Rattle.calls.specs.declared.Call.{Call}
use Rattle.calls.specs.declared.Call.TheVariants.{Receive}
use Rattle.machine.specs.Lists.{pick, without, Mem}
use Rattle.machine.specs.State.{State, Place, Abort, Endpoint}
use Rattle.machine.specs.Scheduling.{enqueue, wake}
use Rattle.machine.specs.Endpoints.{pending_of, leave_endpoint, wake_from}
use Rattle.machine.specs.Results.{Look}
use Rattle.machine.specs.Aborts.{Looked, hits, look_at, look, after_look, look_up_to, pending_at}
use Rattle.machine.specs.Sound.{Queued}
use Rattle.history.specs.History.{Aborting, NamedLook, named_looks}
use Rattle.history.specs.Walk.{Walk, Walker, report_of, settle, looked_at, take_look, walk}
use Rattle.history.specs.Claim.{In, removed_by, less}
use Rattle.machine.proofs.Lists.{put_same, put_other}
use Rattle.history.proofs.Sublists.{sub_mem, sub_only, less_none, less_more, less_append, mem_map, map_without}
use Rattle.machine.proofs.Preserved.Statuses.{Keeps, keeps_self}
use Rattle.history.proofs.Demand3.Standing.{Stage, waiter_call, call_made, sends_call, Stood}
use Rattle.history.proofs.Demand3.Together.{Gone, walk_at, Going, going_abort, settle_pending, going_look}
use Rattle.history.proofs.Demand3.Together.{walk_look}

walk_cons :
    (v : NamedLook) (l : List NamedLook) (k : ℕ) (c : Walker) (w : Walk)
    → walk (v ∷ l) k c w ≡ walk l (k - 1) c (take_look v (settle k c w))
unfolding walk
walk_cons v l k c w = refl

-- Whoever stands in a queue waits.
pub queued_call : (s : State) (e t : ℕ) → Queued s t e → (c : Call) × (call_made (s.threads t) ≡ some c)
queued_call s e t (inl p) = (_, sends_call (s.threads t) e p)
queued_call s e t (inr p) =
    (Receive e, ap (λ (q : Place). waiter_call q (s.threads t).badge (s.threads t).message) p)

-- From s to r the looks have removed from the queue of e whom they say, and nobody else has left or come anywhere.
pub record Frame (since : ℕ → ℕ) (e : ℕ) (s r : State) (looks : List Look) : Type 0 where
  pub others : (f : ℕ) → (f ≡ e → ⊥) → (r.endpoints f).waiters ≡ (s.endpoints f).waiters
  pub own :
      map since (r.endpoints e).waiters
      ≡ less (removed_by (named_looks since looks)) (map since (s.endpoints e).waiters)
  pub lines : (l : ℕ) → r.lines l ≡ s.lines l
  pub met : (v : NamedLook) → In v (named_looks since looks) → Mem v.waiter (map since (s.endpoints e).waiters)

pub frame_keeps : (since : ℕ → ℕ) (e : ℕ) (s r : State) → Keeps s r → Frame since e s r []
frame_keeps since e s r K =
    record {
      others = λ f i. K.waiters f;
      own = ap (map since) (K.waiters e) ∙ sym (less_none (map since (s.endpoints e).waiters));
      lines = K.line;
      met = λ v i. absurd i;
    }

-- A step after the looks that leaves the queues.
pub frame_keep :
    (since : ℕ → ℕ) (e : ℕ) (s r q : State) (l : List Look) → Frame since e s r l → Keeps r q → Frame since e s q l
frame_keep since e s r q l F K =
    record {
      others = λ f i. K.waiters f ∙ F.others f i;
      own = ap (map since) (K.waiters e) ∙ F.own;
      lines = λ i. K.line i ∙ F.lines i;
      met = F.met;
    }

removed_append :
    (since : ℕ → ℕ) (k l : List Look)
    → removed_by (named_looks since (k ++ l)) ≡ removed_by (named_looks since k) ++ removed_by (named_looks since l)
removed_append since [] l = refl
removed_append since (v ∷ k) l = go v.removed (removed_append since k l)
  where
    go : (b : Bool)
        → removed_by (named_looks since (k ++ l)) ≡ removed_by (named_looks since k) ++ removed_by (named_looks since l)
        → pick b (since v.waiter ∷ removed_by (named_looks since (k ++ l))) (removed_by (named_looks since (k ++ l)))
        ≡ pick b (since v.waiter ∷ removed_by (named_looks since k)) (removed_by (named_looks since k))
        ++ removed_by (named_looks since l)
    go true h = ap (λ (r : List ℕ). since v.waiter ∷ r) h
    go false h = h

-- A look among those of two parts of a call.
looks_split :
    (since : ℕ → ℕ) (v : NamedLook) (k l : List Look) → In v (named_looks since (k ++ l))
    → In v (named_looks since k) ⊎ In v (named_looks since l)
looks_split since v [] l i = inr i
looks_split since v (x ∷ k) l (inl i) = inl (inl i)
looks_split since v (x ∷ k) l (inr i) = ⊎_elim (λ j. inl (inr j)) inr (looks_split since v k l i)

pub frame_then :
    (since : ℕ → ℕ) (e : ℕ) (s r q : State) (k l : List Look) → Frame since e s r k → Frame since e r q l
    → Frame since e s q (k ++ l)
frame_then since e s r q k l F H =
    record {
      others = λ f i. H.others f i ∙ F.others f i;
      own =
          H.own ∙ ap (less (removed_by (named_looks since l))) F.own
          ∙ sym (rw (removed_append since k l)
          (less_append (removed_by (named_looks since k)) (removed_by (named_looks since l))
          (map since (s.endpoints e).waiters)));
      lines = λ i. H.lines i ∙ F.lines i;
      met = λ v i. ⊎_elim (F.met v) (λ j. before v (H.met v j)) (looks_split since v k l i);
    }
  where
    -- Who waits still waited before.
    before : (v : NamedLook) → Mem v.waiter (map since (r.endpoints e).waiters)
        → Mem v.waiter (map since (s.endpoints e).waiters)
    before v m = sub_mem (sub_only _ (map since (s.endpoints e).waiters)) v.waiter (rw F.own at m)

module _ (stage : Stage) (standing : ℕ → Option Aborting) (e : ℕ) where
  abbrev since : ℕ → ℕ
  since = stage.since

  frame_look :
      (s : State) (o : Option Aborting) (d : Gone) → Going stage standing e s o d → (u : ℕ)
      → Mem u (s.endpoints e).waiters → (b : Bool)
      → Frame since e s (look_at b e u s) (record { waiter = u; removed = b } ∷ [])
  unfolding look_at wake_from wake enqueue leave_endpoint
  frame_look s o d G u m true =
      record {
        others = λ f i. ap (λ (y : Endpoint). y.waiters) (put_other s.endpoints e f _ i);
        own =
            ap (λ (y : Endpoint). map since y.waiters) (put_same s.endpoints e _)
            ∙ map_without since u (s.endpoints e).waiters names
            ∙ sym (less_none (without (since u) (map since (s.endpoints e).waiters)))
            ∙ less_more (since u) [] (map since (s.endpoints e).waiters);
        lines = λ l. refl;
        met = λ v i. ⊎_elim (λ j. rw j (mem_map since u (s.endpoints e).waiters m)) (λ j. absurd j) i;
      }
    where
      call : (t : ℕ) → Mem t (s.endpoints e).waiters → (c : Call) × (call_made (s.threads t) ≡ some c)
      call t i = queued_call s e t ((G.mid.queues.queued t e).0 i)

      names : (t : ℕ) → Mem t (s.endpoints e).waiters → since t ≡ since u → t ≡ u
      names t i = G.core.apart t u (call t i).0 (call u m).0 (call t i).1 (call u m).1
  frame_look s o d G u m false =
      record {
        others = λ f i. ap (λ (y : Endpoint). y.waiters) (put_other s.endpoints e f _ i);
        own =
            ap (λ (y : Endpoint). map since y.waiters) (put_same s.endpoints e _)
            ∙ sym (less_none (map since (s.endpoints e).waiters));
        lines = λ l. refl;
        met = λ v i. ⊎_elim (λ j. rw j (mem_map since u (s.endpoints e).waiters m)) (λ j. absurd j) i;
      }

  frame_looked :
      (s : State) (o : Option Aborting) (d : Gone) → Going stage standing e s o d → (u : ℕ)
      → Mem u (s.endpoints e).waiters
      → Frame since e s (look e u s) (record { waiter = u; removed = hits e u s } ∷ [])
  unfolding look
  frame_looked s o d G u m = frame_look s o d G u m (hits e u s)

  -- What looks from s with x standing have come to, whatever looks come after them.
  pub record Walked (s : State) (x : Aborting) (d : Gone) (m : ℕ) (c : Walker) (r : Looked) : Type 0 where
    pub abort : Aborting
    pub going : Going stage standing e r.state (some abort) d
    pub report : report_of abort ≡ report_of x
    pub walks :
        (rest : List NamedLook)
        → walk (named_looks since r.looks ++ rest) m c (walk_at since e s (some x) d)
        ≡ walk rest (m - length r.looks) c (walk_at since e r.state (some abort) d)
    pub frame : Frame since e s r.state r.looks

  walked_none :
      (m : ℕ) (s : State) (x : Aborting) (d : Gone) (c : Walker)
      → Going stage standing e s (some x) d
      → Walked s x d m c (record { state = s; looks = [] })
  walked_none m s x d c G =
      let same : m - 0 ≡ m = omega arith in
      record {
        abort = x;
        going = G;
        report = refl;
        walks = λ rest. rw same;
        frame = frame_keeps since e s s (keeps_self s);
      }

  -- One more look, before those that come to r.
  walked_after :
      (m : ℕ) (s : State) (x : Aborting) (d : Gone) (c : Walker) (u : ℕ) (l : List ℕ)
      (r : Looked) → pending_at e s ≡ u ∷ l → Going stage standing e s (some x) d
      → Walked (look e u s) (looked_at (record { waiter = since u; removed = hits e u s }) x) d m c r
      → Walked s x d (suc m) c (after_look (record { waiter = u; removed = hits e u s }) r)
  unfolding after_look
  walked_after m s x d c u l r h G W =
      record {
        abort = W.abort;
        going = W.going;
        report = W.report;
        walks =
            λ rest.
            walk_cons _ (named_looks since r.looks ++ rest) (suc m) c (walk_at since e s (some x) d)
            ∙ rw (
              settle_pending stage standing e s x d G a was S u l (suc m) c first,
              walk_look stage standing e s x d G a was S u l first,
              less_one,
            )
            (W.walks rest ∙ ap (λ (k : ℕ). walk rest k c (walk_at since e r.state (some W.abort) d)) fewer);
        frame =
            frame_then since e s (look e u s) r.state (record { waiter = u; removed = hits e u s } ∷ []) r.looks
            looks W.frame;
      }
    where
      A : (a : Abort) × ((s.endpoints e).abort ≡ some a) × Stood stage s.threads e a x
      A = going_abort stage standing e s (some x) d x refl G

      a : Abort
      a = A.0

      was : (s.endpoints e).abort ≡ some A.0
      was = A.1

      S : Stood stage s.threads e A.0 x
      S = A.2

      first : A.0.pending ≡ u ∷ l
      first = ap pending_of (sym A.1) ∙ h

      less_one : suc m - 1 ≡ m
      less_one = omega arith

      fewer : m - length r.looks ≡ suc m - suc (length r.looks)
      fewer = omega arith

      looks : Frame since e s (look e u s) (record { waiter = u; removed = hits e u s } ∷ [])
      looks = frame_looked s (some x) d G u here
        where
          here : Mem u (s.endpoints e).waiters
          here =
              (G.mid.queues.queued u e).1
              (inl ((G.mid.marks.part e A.0 A.1).sends u
              (subst (λ (k : List ℕ). Mem u k) (sym first) (inl refl))))

  pub walked :
      (m : ℕ) (l : List ℕ) (s : State) (x : Aborting) (d : Gone) (c : Walker)
      → pending_at e s ≡ l → Going stage standing e s (some x) d
      → Walked s x d m c (look_up_to m l e s)
  unfolding look_up_to
  walked zero l s x d c h G = walked_none zero s x d c G
  walked (suc m) [] s x d c h G = walked_none (suc m) s x d c G
  walked (suc m) (u ∷ l) s x d c h G =
      let A = going_abort stage standing e s (some x) d x refl G in
      walked_after m s x d c u l (look_up_to m (pending_at e (look e u s)) e (look e u s)) h G
      (walked m (pending_at e (look e u s)) (look e u s)
      (looked_at (record { waiter = since u; removed = hits e u s }) x) d c refl
      (going_look stage standing e s x d G A.0 A.1 A.2 u l (ap pending_of (sym A.1) ∙ h)))
