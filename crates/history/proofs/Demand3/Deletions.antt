-- Call 11 ends the abort of its endpoint and removes waiters, in the machine and in the history.
use Prim.Native.Nat.{ℕ, zero, suc}
use mathlib.Core.Path.{◌≡◌, refl, ◌∙◌, ap, subst}
use mathlib.Core.Bool.{true}
use mathlib.Core.Option.{Option, none, some}
use mathlib.Core.List.{List, [], ◌∷◌}
use native.Mathlib.Omega.{arith}
use Rattle.machine.specs.Lists.{put}
use Rattle.machine.specs.State.{State, Thread, Abort, closing, Endpoint, missing_endpoint, set_endpoint}
use Rattle.machine.specs.Endpoints.{wake_from, drop_debt, note, end_abort}
use Rattle.machine.specs.Aborts.{Removal, one_more, remove_up_to, deleted, delete_from}
use Rattle.calls.specs.Answers.{is_accepted}
use Rattle.history.specs.History.{Aborting, Ended, Debts}
use Rattle.history.specs.Walk.{lets_go, hears, report_of}
use Rattle.history.specs.Tied.{Tied}
use Rattle.machine.specs.Mid.{Mid}
use Rattle.machine.proofs.Preserved.Debts.{live_present, closing_live, mid_drop_debt, drop_debt_drops}
use Rattle.machine.proofs.Preserved.Debts.{end_abort_entry}
use Rattle.machine.proofs.Preserved.Ready.{none_some}
use Rattle.history.proofs.Sublists.{Sub, sub_refl, sub_none}
use Rattle.history.proofs.Demand3.Standing.{Stage, within, Both, Core}
use Rattle.history.proofs.Demand3.Leaving.{NobodyComes, Passes, leaves_self, leaves_then, leaves_endpoint}
use Rattle.history.proofs.Demand3.Leaving.{leaves_wake_from, leaves_drop_debt, core_leaves}
use Rattle.history.proofs.Demand3.Owing.{Still, still_self, still_then, still_wake_from}
use Rattle.history.proofs.Demand3.Owing.{tied_still, tied_drop, tied_end}
use Rattle.history.proofs.Demand3.Blocking.{leaves_choose, still_choose}
use Rattle.history.proofs.Demand3.Ending.{core_end}
use Rattle.history.proofs.Demand3.OwnAbort.{keeps_end_abort}

leaves_remove : (n : ℕ) (l : List ℕ) (e : ℕ) (s : State) → NobodyComes s (remove_up_to n l e s).state
unfolding remove_up_to one_more
leaves_remove zero l e s = leaves_self s
leaves_remove (suc n) [] e s = leaves_self s
leaves_remove (suc n) (w ∷ l) e s =
    let r = wake_from e w 4 0 0 s in
    leaves_then s r (remove_up_to n (r.endpoints e).waiters e r).state (leaves_wake_from s e w 4 0 0)
    (leaves_remove n (r.endpoints e).waiters e r)

-- Where no abort stood none stands.
passes_none : (g : ℕ → Thread) (e : ℕ) (o k : Option Abort) → o ≡ none → Passes g e o k → k ≡ none
passes_none g e none none h P = refl
passes_none g e none (some k) h P = absurd P
passes_none g e (some a) k h P = absurd (none_some h refl)

leaves_deleted :
    (l : List ℕ) (e : ℕ) (s : State) (r : Removal) → (s.endpoints e).abort ≡ none → NobodyComes s r.state
    → NobodyComes s (deleted l e r).state
unfolding deleted
leaves_deleted [] e s r h H =
    leaves_choose s (set_endpoint e missing_endpoint r.state)
    (leaves_then s r.state (set_endpoint e missing_endpoint r.state) H
    (leaves_endpoint r.state e missing_endpoint
    (rw (passes_none r.state.threads e (s.endpoints e).abort (r.state.endpoints e).abort h (H.aborts e)) tt)
    (sub_none (r.state.endpoints e).waiters) (λ t p k. absurd (live_present k refl))))
leaves_deleted (w ∷ l) e s r h H = leaves_choose s r.state H

leaves_delete : (e a : ℕ) (s : State) → (s.endpoints e).abort ≡ none → NobodyComes s (delete_from e a s).state
unfolding delete_from
leaves_delete e a s h =
    leaves_deleted ((remove_up_to a (s.endpoints e).waiters e s).state.endpoints e).waiters e s
    (remove_up_to a (s.endpoints e).waiters e s) h (leaves_remove a (s.endpoints e).waiters e s)

-- An endpoint without an abort becomes closing.
leaves_closing : (e : ℕ) (s : State) → (s.endpoints e).abort ≡ none → NobodyComes s (end_abort closing e s)
unfolding end_abort note
leaves_closing e s h =
    rw h
    (leaves_endpoint s e _ (rw h tt) (sub_refl (s.endpoints e).waiters) (λ t p k. absurd (closing_live refl k)))

-- Removing waiters leaves every debt.
still_remove : (n : ℕ) (l : List ℕ) (e : ℕ) (s : State) → Still s (remove_up_to n l e s).state
unfolding remove_up_to one_more
still_remove zero l e s = still_self s
still_remove (suc n) [] e s = still_self s
still_remove (suc n) (w ∷ l) e s =
    let r = wake_from e w 4 0 0 s in
    still_then s r (remove_up_to n (r.endpoints e).waiters e r).state (still_wake_from s e w 4 0 0)
    (still_remove n (r.endpoints e).waiters e r)

still_deleted :
    (l : List ℕ) (e : ℕ) (s : State) (r : Removal) → Still s r.state → Still s (deleted l e r).state
unfolding deleted
still_deleted [] e s r H =
    still_choose s (set_endpoint e missing_endpoint r.state) H
still_deleted (w ∷ l) e s r H = still_choose s r.state H

still_delete : (e a : ℕ) (s : State) → Still s (delete_from e a s).state
unfolding delete_from
still_delete e a s =
    still_deleted ((remove_up_to a (s.endpoints e).waiters e s).state.endpoints e).waiters e s
    (remove_up_to a (s.endpoints e).waiters e s) (still_remove a (s.endpoints e).waiters e s)

still_closing : (e : ℕ) (s : State) → (s.endpoints e).abort ≡ none → Still s (end_abort closing e s)
unfolding end_abort note
still_closing e s h = rw h (still_self s)

-- Whatever it removes, a delete that goes on is accepted.
pub delete_accepted : (e a : ℕ) (s : State) → is_accepted (delete_from e a s).answer ≡ true
unfolding delete_from deleted
delete_accepted e a s = go ((remove_up_to a (s.endpoints e).waiters e s).state.endpoints e).waiters
  where
    go : (l : List ℕ) → is_accepted (deleted l e (remove_up_to a (s.endpoints e).waiters e s)).answer ≡ true
    go [] = refl
    go (w ∷ l) = refl

-- It makes no look.
pub delete_looks : (e a : ℕ) (s : State) → (delete_from e a s).looks ≡ []
unfolding delete_from deleted
delete_looks e a s = go ((remove_up_to a (s.endpoints e).waiters e s).state.endpoints e).waiters
  where
    go : (l : List ℕ) → (deleted l e (remove_up_to a (s.endpoints e).waiters e s)).looks ≡ []
    go [] = refl
    go (w ∷ l) = refl

module _
    (stage : Stage) {standing : ℕ → Option Aborting} {d : List Ended} {owed : Debts} (t e a : ℕ) (s : State) (M : Mid s)
    (C : Core stage s.threads s.endpoints standing d) (T : Tied s.threads owed d) where
  abbrev place : ℕ
  place = stage.until

  abbrev q : State
  q = drop_debt t s

  abbrev r : State
  r = (delete_from e a (end_abort closing e q)).state

  bare_after : ((end_abort closing e q).endpoints e).abort ≡ none
  bare_after = ap (λ (y : Endpoint). y.abort) (end_abort_entry q e closing)

  -- Each queue is part of what it was.
  pub delete_queues : (f : ℕ) → Sub (r.endpoints f).waiters (s.endpoints f).waiters
  delete_queues f =
      subst (λ (l : List ℕ). Sub (r.endpoints f).waiters l)
      ((keeps_end_abort closing e q).waiters f ∙ (drop_debt_drops s t).keeps.waiters f)
      ((leaves_delete e a (end_abort closing e q) bare_after).queues f)

  dropped_tied : Tied q.threads (lets_go t owed) d
  dropped_tied = tied_drop s T t

  dropped_core : Core (within stage) q.threads q.endpoints standing d
  dropped_core =
      core_leaves stage (suc place) (omega arith) (leaves_drop_debt t s) C

  removes :
      (f : ℕ → Option Aborting) (more : List Ended)
      → Core (within stage) (end_abort closing e q).threads (end_abort closing e q).endpoints f more
      → Core (within stage) r.threads r.endpoints f more
  removes f more K =
      core_leaves (within stage) (suc place) (omega arith) (leaves_delete e a (end_abort closing e q) bare_after) K

  -- No abort stood.
  pub delete_none :
      standing e ≡ none
      → Core (within stage) r.threads r.endpoints standing d
  delete_none told = removes standing d (bare (q.endpoints e).abort refl (rw told at (dropped_core.stands e)))
    where
      bare : (k : Option Abort) → (q.endpoints e).abort ≡ k → Both (within stage) q.threads e k none
          → Core (within stage) (end_abort closing e q).threads (end_abort closing e q).endpoints standing d
      bare none h B =
          core_leaves (within stage) (suc place) (omega arith) (leaves_closing e q h) dropped_core
      bare (some k) h B = absurd B

  pub tied_none : standing e ≡ none → Tied r.threads (lets_go t owed) d
  tied_none told = go (q.endpoints e).abort refl (rw told at (dropped_core.stands e))
    where
      go : (k : Option Abort) → (q.endpoints e).abort ≡ k → Both (within stage) q.threads e k none
          → Tied r.threads (lets_go t owed) d
      go none h B =
          tied_still
          (still_then q (end_abort closing e q) r (still_closing e q h)
          (still_delete e a (end_abort closing e q))) (λ z i. i) dropped_tied
      go (some k) h B = absurd B

  -- The abort x stood, and ends.
  pub delete_some :
      (x : Aborting) → standing e ≡ some x
      → Core (within stage) r.threads r.endpoints (put standing e none)
      (record { abort = x; by = place; members = (lets_go t owed).members e } ∷ d)
  delete_some x told =
      removes (put standing e none) _ (over (q.endpoints e).abort refl (rw told at (dropped_core.stands e)))
    where
      over :
          (k : Option Abort) → (q.endpoints e).abort ≡ k → Both (within stage) q.threads e k (some x)
          → Core (within stage) (end_abort closing e q).threads (end_abort closing e q).endpoints
          (put standing e none) (record { abort = x; by = place; members = (lets_go t owed).members e } ∷ d)
      over none h B = absurd B
      over (some k) h B =
          core_end (within stage) q dropped_core e (mid_drop_debt s t M) closing k x place
          _ h told (omega arith) (omega arith) (λ i. absurd (closing_live refl i)) (λ i. absurd (closing_live refl i))

  pub tied_some :
      (x : Aborting) → standing e ≡ some x
      → Tied r.threads (hears e (report_of x) (lets_go t owed))
      (record { abort = x; by = place; members = (lets_go t owed).members e } ∷ d)
  tied_some x told = go (q.endpoints e).abort refl (rw told at (dropped_core.stands e))
    where
      go : (k : Option Abort) → (q.endpoints e).abort ≡ k → Both (within stage) q.threads e k (some x)
          → Tied r.threads (hears e (report_of x) (lets_go t owed))
          (record { abort = x; by = place; members = (lets_go t owed).members e } ∷ d)
      go none h B = absurd B
      go (some k) h B =
          tied_still (still_delete e a (end_abort closing e q)) (λ z i. i)
          (tied_end q dropped_tied e closing k h x B.endpoint B.badge
          (record { abort = x; by = place; members = (lets_go t owed).members e }) refl)
