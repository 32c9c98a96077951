-- What is claimed of a thread from call to call is a relation of states. One that holds of the small steps which calls
-- are made of holds of delete and abort.
use Prim.Native.Nat.{ℕ, zero, suc}
use mathlib.Core.Path.{◌≡◌, refl, ◌∙◌, ap}
use mathlib.Core.Bool.{Bool, true, false}
use mathlib.Core.Option.{Option, none, some}
use mathlib.Core.List.{List, [], ◌∷◌}
use Rattle.machine.specs.State.{State, Abort, Thread, Place, Debt, nothing, works, Status, missing, live, closing}
use Rattle.machine.specs.State.{Endpoint, missing_endpoint, set_thread, set_endpoint, with_debt}
use Rattle.machine.specs.Scheduling.{enqueue, wake, block, choose}
use Rattle.machine.specs.Endpoints.{under_abort, is_aborting, join_endpoint, leave_endpoint, wake_from, drop_debt}
use Rattle.machine.specs.Endpoints.{end_abort}
use Rattle.machine.specs.Results.{Look}
use Rattle.machine.specs.Aborts.{Removal, Looked, looked_own, looked_other, remove_up_to, deleted, delete_from}
use Rattle.machine.specs.Aborts.{delete_at, look_up_to, begin, join, ended, work_own, begin_after, finished, work_other}
use Rattle.machine.specs.Aborts.{under_badge, abort_from, abort_open, abort_at, abort_unless, pending_at}
use Rattle.machine.proofs.Lists.{put_all}
use Rattle.machine.proofs.Running.{choose_keeps}
use Rattle.machine.proofs.Preserved.Debts.{end_abort_entry}
use Rattle.machine.proofs.Preserved.AbortSteps.{Steady, passing_under, steady_wake_from, steady_look_up_to}
use Rattle.machine.proofs.Preserved.Deletes.{steady_removes}

-- No thread's ticks or debt have changed, and every abort stands that stood, of its badge.
pub record StillOf (f : ℕ → Thread) (k : ℕ → Endpoint) (f' : ℕ → Thread) (k' : ℕ → Endpoint) : Type 0 where
  pub ticks : (t : ℕ) → (f' t).ticks ≡ (f t).ticks
  pub debt : (t : ℕ) → (f' t).debt ≡ (f t).debt
  pub under : (e b : ℕ) → under_abort b (k' e).abort ≡ under_abort b (k e).abort

abbrev pub Still : State → State → Type 0
Still s r = StillOf s.threads s.endpoints r.threads r.endpoints

-- What is asked of the relation R, and of the threads C that may make calls, for a claim about thread u.
pub record Steps (u : ℕ) (C : ℕ → Type 0) (R : State → State → Type 0) : Type 0 where
  pub both : {s r q : State} → R s r → R r q → R s q
  pub still : {s r : State} → Still s r → R s r
  -- another thread changes
  pub other : (t : ℕ) (x : Thread) (s : State) → (u ≡ t → ⊥) → R s (set_thread t x s)
  -- whoever calls leaves or joins a set, or loses its note
  pub owes : (t : ℕ) (d : Debt) (s : State) → C t → R s (set_thread t (with_debt d (s.threads t)) s)
  -- an abort begins, or its endpoint goes, where none stands
  pub opens : (e : ℕ) (x : Endpoint) (s : State) → is_aborting (s.endpoints e).abort ≡ false → R s (set_endpoint e x s)
  pub ends : (x : Status) (e : ℕ) (s : State) → R s (end_abort x e s)

-- Steps that leave all still

module _ (s : State) where
  pub still_same : Still s s
  still_same = record { ticks = λ t. refl; debt = λ t. refl; under = λ e b. refl }

  pub still_choose : Still s (choose s)
  still_choose =
      let K = choose_keeps s in
      record {
        ticks = λ t. ap (λ (f : ℕ → Thread). (f t).ticks) K.threads;
        debt = λ t. ap (λ (f : ℕ → Thread). (f t).debt) K.threads;
        under = λ e b. ap (λ (f : ℕ → Endpoint). under_abort b (f e).abort) K.endpoints;
      }

  pub still_thread :
      (t : ℕ) (x : Thread) → x.ticks ≡ (s.threads t).ticks → x.debt ≡ (s.threads t).debt → Still s (set_thread t x s)
  still_thread t x h k =
      record {
        ticks = put_all (λ u y. y.ticks ≡ (s.threads u).ticks) s.threads t x h (λ u n. refl);
        debt = put_all (λ u y. y.debt ≡ (s.threads u).debt) s.threads t x k (λ u n. refl);
        under = λ e b. refl;
      }

  still_endpoint :
      (e : ℕ) (x : Endpoint) → ((b : ℕ) → under_abort b x.abort ≡ under_abort b (s.endpoints e).abort)
      → Still s (set_endpoint e x s)
  still_endpoint e x h =
      record {
        ticks = λ t. refl;
        debt = λ t. refl;
        under =
            λ f b.
            put_all (λ i y. under_abort b y.abort ≡ under_abort b (s.endpoints i).abort) s.endpoints e x (h b)
            (λ i n. refl) f;
      }

still_steady : {s r : State} → Steady s r → Still s r
still_steady S = record { ticks = S.ticks; debt = S.debt; under = λ e b. (S.entry e).under b }

pub still_leave : (t e : ℕ) (s : State) → Still s (leave_endpoint t e s)
unfolding leave_endpoint
still_leave t e s = still_endpoint s e _ (λ b. passing_under t b (s.endpoints e).abort)

module _ {u : ℕ} {C : ℕ → Type 0} {R : State → State → Type 0} (L : Steps u C R) where
  pub same_passes : (s : State) → R s s
  same_passes s = L.still (still_same s)

  pub chosen : {s r : State} → R s r → R s (choose r)
  chosen {s} {r} x = L.both x (L.still (still_choose r))

  -- The small steps

  pub wake_passes : (t o b m : ℕ) (s : State) → R s (wake t o b m s)
  unfolding wake enqueue
  wake_passes t o b m s = L.still (still_thread s t _ refl refl)

  pub wake_from_passes : (e t o b m : ℕ) (s : State) → R s (wake_from e t o b m s)
  wake_from_passes e t o b m s = L.still (still_steady (steady_wake_from e t s o b m))

  pub block_passes : (t : ℕ) (p : Place) (b m : ℕ) (s : State) → R s (block t p b m s)
  unfolding block
  block_passes t p b m s = L.still (still_thread s t _ refl refl)

  pub queue_passes : (t e : ℕ) (s : State) → R s (join_endpoint t e s)
  unfolding join_endpoint
  queue_passes t e s = L.still (still_endpoint s e _ (λ b. refl))

  pub drop_passes : (t : ℕ) (s : State) → C t → R s (drop_debt t s)
  unfolding drop_debt
  drop_passes t s c = L.owes t nothing s c

  -- Delete

  deleted_passes :
      (l : List ℕ) (e : ℕ) (r : Removal) → is_aborting (r.state.endpoints e).abort ≡ false
      → R r.state (deleted l e r).state
  unfolding deleted
  deleted_passes [] e r h = chosen (L.opens e missing_endpoint r.state h)
  deleted_passes (w ∷ l) e r h = chosen (same_passes r.state)

  delete_from_passes :
      (e a : ℕ) (s : State) → is_aborting (s.endpoints e).abort ≡ false → R s (delete_from e a s).state
  unfolding delete_from
  delete_from_passes e a s h =
      let S = steady_removes a (s.endpoints e).waiters e s in
      L.both (L.still (still_steady S))
      (deleted_passes _ e (remove_up_to a (s.endpoints e).waiters e s) ((S.entry e).aborting ∙ h))

  closes_passes :
      (t e a : ℕ) (s : State) → C t → R s (delete_from e a (end_abort closing e (drop_debt t s))).state
  closes_passes t e a s c =
      L.both (drop_passes t s c)
      (L.both (L.ends closing e (drop_debt t s))
      (delete_from_passes e a _
      (ap (λ (x : Endpoint). is_aborting x.abort) (end_abort_entry (drop_debt t s) e closing))))

  pub delete_passes : (x : Status) (t e a : ℕ) (s : State) → C t → R s (delete_at x t e a s).state
  unfolding delete_at
  delete_passes missing t e a s c = same_passes s
  delete_passes live t e a s c = closes_passes t e a s c
  delete_passes closing t e a s c = closes_passes t e a s c

  -- Abort

  looks_passes : (a e : ℕ) (s : State) → R s (look_up_to a (pending_at e s) e s).state
  looks_passes a e s = L.still (still_steady (steady_look_up_to a (pending_at e s) e s))

  join_passes : (t e : ℕ) (s : State) → C t → R s (join t e s)
  unfolding join
  join_passes t e s c = L.owes t (works e) s c

  begin_passes :
      (t e b : ℕ) (s : State) → is_aborting (s.endpoints e).abort ≡ false → C t → R s (begin t e b s)
  unfolding begin
  begin_passes t e b s h c = L.both (L.opens e _ s h) (join_passes t e _ c)

  ended_passes : (l : List ℕ) (t e : ℕ) (k : List Look) (s : State) → C t → R s (ended l t e k s).state
  unfolding ended
  ended_passes [] t e k s c = chosen (L.both (drop_passes t s c) (L.ends live e (drop_debt t s)))
  ended_passes (w ∷ l) t e k s c = chosen (same_passes s)

  own_passes : (t e a : ℕ) (k : List Look) (s : State) → C t → R s (work_own t e a k s).state
  unfolding work_own looked_own
  own_passes t e a k s c =
      L.both (looks_passes a e s) (ended_passes _ t e _ (look_up_to a (pending_at e s) e s).state c)

  after_passes :
      (n t e b : ℕ) (k : List Look) (s : State) → is_aborting (s.endpoints e).abort ≡ false → C t
      → R s (begin_after n t e b k s).state
  unfolding begin_after
  after_passes zero t e b k s h c = chosen (same_passes s)
  after_passes (suc n) t e b k s h c =
      L.both (begin_passes t e b s h c) (own_passes t e (suc n) k (begin t e b s) c)

  finished_passes : (l : List ℕ) (t e a b : ℕ) (r : Looked) → C t → R r.state (finished l t e a b r).state
  unfolding finished
  finished_passes [] t e a b r c =
      L.both (L.ends live e r.state)
      (after_passes _ t e b _ (end_abort live e r.state)
      (ap (λ (x : Endpoint). is_aborting x.abort) (end_abort_entry r.state e live)) c)
  finished_passes (w ∷ l) t e a b r c = chosen (same_passes r.state)

  badge_passes : (x : Bool) (t e a b : ℕ) (s : State) → C t → R s (under_badge x t e a b s).state
  unfolding under_badge work_other looked_other
  badge_passes true t e a b s c = L.both (join_passes t e s c) (own_passes t e a [] (join t e s) c)
  badge_passes false t e a b s c =
      L.both (looks_passes a e s) (finished_passes _ t e a b (look_up_to a (pending_at e s) e s) c)

  from_passes :
      (x : Option Abort) (t e a b : ℕ) (s : State) → (s.endpoints e).abort ≡ x → C t
      → R s (abort_from x t e a b s).state
  unfolding abort_from
  from_passes none t e a b s h c =
      L.both (begin_passes t e b s (ap is_aborting h) c) (own_passes t e a [] (begin t e b s) c)
  from_passes (some x) t e a b s h c = badge_passes _ t e a b s c

  abort_at_passes : (x : Status) (t e a b : ℕ) (s : State) → C t → R s (abort_at x t e a b s).state
  unfolding abort_at abort_open
  abort_at_passes missing t e a b s c = same_passes s
  abort_at_passes closing t e a b s c = same_passes s
  abort_at_passes live t e a b s c = L.both (drop_passes t s c) (from_passes _ t e a b (drop_debt t s) refl c)

  pub abort_passes : (x : Bool) (t e a b : ℕ) (s : State) → C t → R s (abort_unless x t e a b s).state
  unfolding abort_unless
  abort_passes true t e a b s c = chosen (drop_passes t s c)
  abort_passes false t e a b s c = abort_at_passes _ t e a b s c
