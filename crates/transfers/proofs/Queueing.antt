-- At an endpoint: the caller that waits there.
use Prim.Native.Nat.{ℕ, ◌≤◌}
use mathlib.Core.Path.{◌≡◌}
use mathlib.Core.List.{List}
use Rattle.calls.specs.declared.Answer.{Answer}
use Rattle.machine.specs.State.{State, Place}
use Rattle.machine.specs.Scheduling.{block}
use Rattle.machine.specs.Endpoints.{join_endpoint}
use Rattle.machine.specs.Results.{blocked}
use Rattle.layout.specs.Words.{place_code}
use Rattle.store.specs.Steps.{Shown, Does}
use Rattle.store.specs.Store.{IsThread}
use Rattle.queues.specs.Queues.{ToEndpoint}
use Rattle.debts.specs.Debts.{Alike}
use Rattle.endings.specs.Results.{Performs}
use Rattle.endings.proofs.Ends.{performs_after, shown_for}
use Rattle.endings.proofs.Conditions.{running_comes, mid_alike}
use Rattle.waiting.specs.Waiting.{Dropped, Suspends}
use Rattle.queues.proofs.Joining.{shown_next}
use Rattle.waiting.proofs.Callers.{calling_thread, dropped_mid, dropped_runs}

-- The caller comes to endpoint e, whose waiters are alike.
module _ {t e : ℕ} {N : Type 0} (n : N → e ≤ 63) where
  pub alike_asked : {m : List ℕ} → Shown m (Dropped t N) → Shown m (Alike e)
  alike_asked S = shown_for S (λ s h. mid_alike (dropped_mid h) (n h.calling.numbers))

  comes : (s : State) → Dropped t N s → ToEndpoint t e s
  comes s h = running_comes (dropped_mid h) (dropped_runs h) (n h.calling.numbers)

  pub comes_asked : {m : List ℕ} → Shown m (Dropped t N) → Shown m (ToEndpoint t e)
  comes_asked S = shown_for S comes

  module _ {m o : List ℕ} (J : Does m o (ToEndpoint t e) (join_endpoint t e)) where
    joins : Does m o (Dropped t N) (join_endpoint t e)
    joins = record { shows = λ s M h. J.shows s M (comes s h) }

    pub joined_asked : Shown m (Dropped t N) → Shown o (IsThread t)
    joined_asked S = shown_next joins (λ s M h. calling_thread h.calling) S

    pub queued :
        {code b x : ℕ} {a : Answer} {k : List ℕ} (p : Place) → place_code p ≡ code → Suspends o t code b x a k
        → Performs m k a (Dropped t N) (λ s. blocked (block t p b x (join_endpoint t e s)))
    queued p i H = performs_after joins (λ s M h. calling_thread h.calling) (H.performs p i)
