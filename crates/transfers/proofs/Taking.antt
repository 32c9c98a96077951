-- Receiving: the message of the first sender is taken, or the receiver waits.
use Prim.Native.Nat.{ℕ, suc, ◌+◌, ◌≤◌}
use mathlib.Core.Path.{◌≡◌, refl, sym, ◌∙◌, ap}
use mathlib.Core.Option.{Option}
use mathlib.Core.List.{List, []}
use native.Mathlib.Omega.{arith}
use Rattle.std.specs.Prelude.{Ok, Err}
use Rattle.calls.specs.declared.Answer.{Answer}
use Rattle.calls.specs.declared.Refusal.{Refusal}
use Rattle.machine.specs.Lists.{first}
use Rattle.machine.specs.State.{State, Status, receiving}
use Rattle.machine.specs.Endpoints.{is_sending, senders, join_endpoint, wake_from, drop_debt}
use Rattle.calls.specs.Answers.{code_of, plain, receipt}
use Rattle.machine.specs.Machine.{receive_from, receive_at, receive}
use Rattle.machine.proofs.Preserved.Waking.{mid_wake_from}
use Rattle.layout.specs.declared.Field.{Field}
use Rattle.layout.specs.Shows.{Shows}
use Rattle.store.specs.Steps.{Shown, Does, Tells}
use Rattle.store.specs.Store.{IsThread, IsEndpoint}
use Rattle.store.specs.Readings.{thread_in}
use Rattle.queues.specs.Queues.{Chooses, ToEndpoint, InEndpoint}
use Rattle.debts.specs.Debts.{FirstAt, first_sender}
use Rattle.endings.specs.Tests.{Tests, endpoint_open}
use Rattle.endings.proofs.Tests.{shut_refused, open_live}
use Rattle.endings.specs.Results.{Calling, Performs, Accepts}
use Rattle.endings.proofs.Ends.{performs_as, performs_for, shown_for}
use Rattle.endings.proofs.Conditions.{mid_chooses, mid_alike, queued_waits, queued_present, present_thread_lem}
use Rattle.waiting.specs.Waiting.{Dropped, Suspends}
use Rattle.transfers.specs.Transfers.{TakesFrom, taking, taking_from}
use Rattle.queues.proofs.Joining.{shown_next}
use Rattle.waiting.proofs.Callers.{dropped_mid, dropped_first}
use Rattle.transfers.proofs.Firsts.{first_none, first_some, first_queued, kind_kept}
use Rattle.transfers.proofs.Queueing.{queued}

-- From a sender u.
module _ {u e : ℕ} where
  sender_thread : (s : State) → TakesFrom u e s → u ≤ 255
  sender_thread s h = present_thread_lem (dropped_mid h.dropped) (queued_present (dropped_mid h.dropped) h.waits)

  sender_waits : (s : State) → TakesFrom u e s → InEndpoint u e s
  sender_waits s h = queued_waits (dropped_mid h.dropped) h.waits h.dropped.calling.numbers

  chooses : (s : State) → TakesFrom u e s → Chooses (wake_from e u 1 0 0 s)
  chooses s h =
      mid_chooses
      (mid_wake_from s e u 1 0 0 (dropped_mid h.dropped) h.waits (omega arith) (omega arith) (omega arith)
      (λ k. (refl, refl)))

  pub sender_asked : {m : List ℕ} → Shown m (TakesFrom u e) → Shown m (IsThread u)
  sender_asked S = shown_for S sender_thread

  pub waits_asked : {m : List ℕ} → Shown m (TakesFrom u e) → Shown m (InEndpoint u e)
  waits_asked S = shown_for S sender_waits

  module _ {m n : List ℕ} (W : Does m n (InEndpoint u e) (wake_from e u 1 0 0)) where
    wakes : Does m n (TakesFrom u e) (wake_from e u 1 0 0)
    wakes = record { shows = λ s M h. W.shows s M (sender_waits s h) }

    pub taken_asked : Shown m (TakesFrom u e) → Shown n Chooses
    taken_asked S = shown_next wakes (λ s M h. chooses s h) S

    pub taken :
        {o : List ℕ} {a : Answer} {b x : ℕ} → Tells m (IsThread u) b (thread_in Field.Badge u)
        → Tells m (IsThread u) x (thread_in Field.Message u)
        → Accepts n (receipt b x) a Chooses o → Performs m o a (TakesFrom u e) (taking_from e u)
    taken {b = b} {x = x} B X A =
        record {
          answers = λ s M h.
              (A.performs []).answers (wake_from e u 1 0 0 s) (wakes.shows s M h) (chooses s h)
              ∙ ap (λ (k : ℕ). receipt k x) (B.tells s M (sender_thread s h))
              ∙ ap (λ (k : ℕ). receipt (s.threads u).badge k) (X.tells s M (sender_thread s h));
          shows = λ s M h. (A.performs []).shows (wake_from e u 1 0 0 s) (wakes.shows s M h) (chooses s h);
        }

-- The debt has gone.
module _ {m : List ℕ} {t e r : ℕ} (F : FirstAt m e (2 + e) r) where
  link_is : (s : State) → Shows m s → Dropped t (e ≤ 63) s → r ≡ first_sender e s
  link_is s M h = (F.sends refl).tells s M (mid_alike (dropped_mid h) h.calling.numbers)

  pub queued_receive :
      {n o : List ℕ} {a : Answer} → r ≡ 0 → Does m n (ToEndpoint t e) (join_endpoint t e)
      → Suspends n t (66 + e) 0 0 a o → Performs m o a (Dropped t (e ≤ 63)) (taking t e)
  unfolding receive_from
  queued_receive z J H =
      performs_as (queued (λ h. h) J (receiving e) refl H)
      (λ s M h.
      ap (λ (k : Option ℕ). receive_from k t e s)
      (sym (first_none (senders s.threads (s.endpoints e).waiters) (link_is s M h) z)))

  module _ {u : ℕ} (z : r ≡ suc u) where
    takes : (s : State) → Shows m s → Dropped t (e ≤ 63) s → TakesFrom u e s
    takes s M h =
        record { caller = t; dropped = h; waits = first_queued (dropped_mid h) is_sending e (link_is s M h) z }

    pub takes_asked : Shown m (Dropped t (e ≤ 63)) → Shown m (TakesFrom u e)
    takes_asked S =
        record { state = S.state; shows = S.shows; holds = takes S.state S.shows S.holds }

    pub taken_first :
        {o : List ℕ} {a : Answer} → Performs m o a (TakesFrom u e) (taking_from e u)
        → Performs m o a (Dropped t (e ≤ 63)) (taking t e)
    unfolding receive_from
    taken_first H =
        performs_as (performs_for H takes)
        (λ s M h.
        ap (λ (k : Option ℕ). receive_from k t e s)
        (sym (first_some (senders s.threads (s.endpoints e).waiters) (link_is s M h) z)))

-- The whole call.
module _ {m : List ℕ} {t e : ℕ} where
  pub receive_shut :
      {why : Refusal} → Tests m (IsEndpoint e) (Err why) (endpoint_open e)
      → Performs m m (plain (code_of why)) (Calling t (e ≤ 63)) (receive t e)
  unfolding receive receive_at
  receive_shut T = shut_refused (λ y. receive_at y t e) (λ s h. h.numbers) (λ s. refl) T (λ s. refl)

  pub receive_live :
      {n o : List ℕ} {a : Answer} → Tests m (IsEndpoint e) (Ok tt) (endpoint_open e)
      → Does m n (IsThread t) (drop_debt t) → Performs n o a (Dropped t (e ≤ 63)) (taking t e)
      → Performs m o a (Calling t (e ≤ 63)) (receive t e)
  unfolding receive receive_at
  receive_live T D H =
      performs_as (dropped_first D H)
      (λ s M h.
      ap (λ (l : List ℕ). receive_from (first l) t e (drop_debt t s)) (kind_kept is_sending e t s)
      ∙ ap (λ (v : Status). receive_at v t e s) (open_live T s M h.numbers))
