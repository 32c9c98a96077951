-- Sending: the message goes to the first receiver, or the sender waits.
use Prim.Native.Nat.{ℕ, suc, ◌+◌, ◌≤◌, ◌<◌, ◌^◌}
use mathlib.Core.Path.{◌≡◌, refl, sym, ◌∙◌, ap}
use mathlib.Core.Bool.{Bool, true, false}
use mathlib.Core.Option.{Option}
use mathlib.Core.List.{List}
use native.Mathlib.Omega.{arith}
use Rattle.std.specs.Prelude.{Ok, Err}
use Rattle.calls.specs.declared.Answer.{Answer}
use Rattle.calls.specs.declared.Refusal.{Refusal}
use Rattle.machine.specs.Lists.{first}
use Rattle.machine.specs.State.{State, Status, sending}
use Rattle.machine.specs.Endpoints.{is_receiving, receivers, join_endpoint, wake_from, drop_debt}
use Rattle.machine.specs.Results.{done}
use Rattle.calls.specs.Answers.{code_of, plain}
use Rattle.machine.specs.Machine.{send_to, send_unless, send_at, send}
use Rattle.machine.specs.Sound.{Queued}
use Rattle.machine.proofs.Preserved.Waking.{mid_wake_from}
use Rattle.layout.specs.Shows.{Shows}
use Rattle.store.specs.Steps.{Shown, Does}
use Rattle.store.specs.Store.{IsThread, IsEndpoint}
use Rattle.queues.specs.Queues.{Chooses, ToEndpoint, InEndpoint}
use Rattle.debts.specs.Debts.{Says, under_in, FirstAt, first_receiver}
use Rattle.endings.specs.Tests.{Tests, endpoint_open}
use Rattle.endings.proofs.Tests.{shut_refused, open_live}
use Rattle.endings.specs.Results.{Calling, Performs}
use Rattle.endings.proofs.Ends.{refused, performs_as, performs_after}
use Rattle.endings.proofs.Conditions.{mid_chooses, mid_alike, queued_waits}
use Rattle.waiting.specs.Waiting.{Dropped, Suspends}
use Rattle.transfers.specs.Transfers.{handing}
use Rattle.queues.proofs.Joining.{shown_next}
use Rattle.waiting.proofs.Callers.{dropped_mid, dropped_first}
use Rattle.transfers.proofs.Firsts.{first_none, first_some, first_queued, kind_kept}
use Rattle.transfers.proofs.Queueing.{queued}

-- The numbers of a send.
abbrev pub Sent : ℕ → ℕ → ℕ → Type 0
Sent e b x = (e ≤ 63) × (b < 2 ^ 28) × (x < 2 ^ 28)

-- The debt has gone.
module _ {m : List ℕ} {t e b x r : ℕ} (F : FirstAt m e (66 + e) r) where
  link_is : (s : State) → Shows m s → Dropped t (Sent e b x) s → r ≡ first_receiver e s
  link_is s M h = (F.receives refl).tells s M (mid_alike (dropped_mid h) h.calling.numbers.0)

  pub queued_send :
      {n o : List ℕ} {a : Answer} → r ≡ 0 → Does m n (ToEndpoint t e) (join_endpoint t e) → Suspends n t (2 + e) b x a o
      → Performs m o a (Dropped t (Sent e b x)) (handing t e b x)
  unfolding send_to
  queued_send z J H =
      performs_as (queued (λ h. h.0) J (sending e) refl H)
      (λ s M h.
      ap (λ (k : Option ℕ). send_to k t e b x s)
      (sym (first_none (receivers s.threads (s.endpoints e).waiters) (link_is s M h) z)))

  module _ {u : ℕ} (z : r ≡ suc u) where
    receiver : (s : State) → Shows m s → Dropped t (Sent e b x) s → Queued s u e
    receiver s M h = first_queued (dropped_mid h) is_receiving e (link_is s M h) z

    waits : (s : State) → Shows m s → Dropped t (Sent e b x) s → InEndpoint u e s
    waits s M h = queued_waits (dropped_mid h) (receiver s M h) h.calling.numbers.0

    pub receiver_asked : Shown m (Dropped t (Sent e b x)) → Shown m (InEndpoint u e)
    receiver_asked S =
        record { state = S.state; shows = S.shows; holds = waits S.state S.shows S.holds }

    module _ {n : List ℕ} (W : Does m n (InEndpoint u e) (wake_from e u 2 b x)) where
      wakes : Does m n (Dropped t (Sent e b x)) (wake_from e u 2 b x)
      wakes = record { shows = λ s M h. W.shows s M (waits s M h) }

      chooses : (s : State) → Shows m s → Dropped t (Sent e b x) s → Chooses (wake_from e u 2 b x s)
      chooses s M h =
          let N : Sent e b x = h.calling.numbers in
          mid_chooses
          (mid_wake_from s e u 2 b x (dropped_mid h) (receiver s M h) (omega arith) N.1 N.2
          (λ k. absurd (k refl)))

      pub handed_asked : Shown m (Dropped t (Sent e b x)) → Shown n Chooses
      handed_asked S = shown_next wakes chooses S

      pub handed :
          {o : List ℕ} {a : Answer} → Performs n o a Chooses done
          → Performs m o a (Dropped t (Sent e b x)) (handing t e b x)
      unfolding send_to
      handed D =
          performs_as (performs_after wakes chooses D)
          (λ s M h.
          ap (λ (k : Option ℕ). send_to k t e b x s)
          (sym (first_some (receivers s.threads (s.endpoints e).waiters) (link_is s M h) z)))

-- The whole call.
module _ {m : List ℕ} {t e b x : ℕ} where
  pub send_shut :
      {why : Refusal} → Tests m (IsEndpoint e) (Err why) (endpoint_open e)
      → Performs m m (plain (code_of why)) (Calling t (Sent e b x)) (send t e b x)
  unfolding send send_at
  send_shut T = shut_refused (λ y. send_at y t e b x) (λ s h. h.numbers.0) (λ s. refl) T (λ s. refl)

  module _ {u : Bool} (T : Tests m (IsEndpoint e) (Ok tt) (endpoint_open e))
      (U : Says m (IsEndpoint e) u (under_in e b)) where
    -- The endpoint is live, and u says whether the badge is under abort.
    send_is : (s : State) → Shows m s → Calling t (Sent e b x) s → send_unless u t e b x s ≡ send t e b x s
    unfolding send send_at
    send_is s M h =
        ap (λ (v : Bool). send_unless v t e b x s) (U.says s M h.numbers.0)
        ∙ ap (λ (v : Status). send_at v t e b x s) (open_live T s M h.numbers.0)

    pub send_under : u ≡ true → Performs m m (plain 26) (Calling t (Sent e b x)) (send t e b x)
    unfolding send_unless
    send_under w =
        performs_as (refused 26 refl) (λ s M h. ap (λ (v : Bool). send_unless v t e b x s) (sym w) ∙ send_is s M h)

    pub sent :
        {n o : List ℕ} {a : Answer} → u ≡ false → Does m n (IsThread t) (drop_debt t)
        → Performs n o a (Dropped t (Sent e b x)) (handing t e b x)
        → Performs m o a (Calling t (Sent e b x)) (send t e b x)
    unfolding send_unless
    sent w D H =
        performs_as (dropped_first D H)
        (λ s M h.
        ap (λ (l : List ℕ). send_to (first l) t e b x (drop_debt t s)) (kind_kept is_receiving e t s)
        ∙ ap (λ (v : Bool). send_unless v t e b x s) (sym w) ∙ send_is s M h)
