-- Call 8 answered 0: it takes the sender queued longest, and hands over that message alone.
use Prim.Native.Nat.{ℕ, suc}
use mathlib.Core.Path.{◌≡◌, refl, sym, ◌∙◌, ap}
use mathlib.Core.Bool.{Bool, true, false, not}
use mathlib.Core.Option.{Option, none, some}
use mathlib.Core.List.{List, [], ◌∷◌, map}
use native.Mathlib.Omega.{arith}
use Rattle.calls.specs.declared.Call.TheVariants.{Receive}
use Rattle.calls.specs.Calls.{in_range}
use Rattle.machine.specs.Lists.{first, without, only, Distinct}
use Rattle.machine.specs.State.{State, Thread, sending, Status, missing, live, closing, Endpoint}
use Rattle.machine.specs.Scheduling.{enqueue, wake}
use Rattle.machine.specs.Endpoints.{senders, leave_endpoint, wake_from, drop_debt}
use Rattle.machine.specs.Results.{Result}
use Rattle.machine.specs.Grants.{Grants, barred}
use Rattle.machine.specs.Machine.{receive_from, receive_at, receive, by_caller, perform, perform_unless, perform_if}
use Rattle.machine.specs.Machine.{step}
use Rattle.machine.specs.Sound.{Sound}
use Rattle.history.specs.History.{is_in}
use Rattle.machine.proofs.Lists.{put_same, without_first, only_hit, only_none, first_mem}
use Rattle.history.proofs.Sublists.{Apart, mem_is_in, not_is_in, distinct_map}
use Rattle.machine.proofs.Preserved.Statuses.{keeps_badge}
use Rattle.machine.proofs.Preserved.Debts.{drop_debt_drops}
use Rattle.history.proofs.Demand3.Queued.{first_sends, sender_longest}
use Rattle.machine.proofs.Running.{choose_keeps}

pub record TakesFirst (s : State) (e : ℕ) (r : Result) : Type 0 where
  pub sender : ℕ
  pub rest : List ℕ
  pub longest : (s.endpoints e).waiters ≡ sender ∷ rest
  pub sends : (s.threads sender).place ≡ sending e
  pub live : (s.endpoints e).status ≡ live
  pub badge : r.answer.badge ≡ (s.threads sender).badge
  pub message : r.answer.message ≡ (s.threads sender).message
  pub left : (r.state.endpoints e).waiters ≡ without sender (s.endpoints e).waiters

-- Of the names of a queue, those that are gone when the first has left.
pub handed_first :
    (since : ℕ → ℕ) (u : ℕ) (l : List ℕ) → Distinct (u ∷ l) → Apart since (u ∷ l)
    → only (λ w. not (is_in w (map since (without u (u ∷ l))))) (map since (u ∷ l)) ≡ since u ∷ []
handed_first since u l d apart =
    let n = (distinct_map since (u ∷ l) apart d).0 in
    rw (without_first u l d)
    (only_hit stays (since u) (map since l) (ap not (not_is_in (since u) (map since l) n))
    ∙ ap (λ (r : List ℕ). since u ∷ r)
    (only_none stays (map since l) (λ w m. ap not (mem_is_in w (map since l) m))))
  where
    stays : ℕ → Bool
    stays w = not (is_in w (map since l))

-- The first sender of a queue stands first in it.
first_sender_lem :
    (s : State) → Sound s → (e u : ℕ) → first (senders s.threads (s.endpoints e).waiters) ≡ some u
    → (rest : List ℕ) × ((s.endpoints e).waiters ≡ u ∷ rest) × ((s.threads u).place ≡ sending e)
first_sender_lem s S e u h = go (s.endpoints e).waiters refl (sender_longest s S e u h)
  where
    go : (l : List ℕ) → (s.endpoints e).waiters ≡ l → first (s.endpoints e).waiters ≡ some u
        → (rest : List ℕ) × ((s.endpoints e).waiters ≡ u ∷ rest) × ((s.threads u).place ≡ sending e)
    go [] p k = absurd (first_mem [] (ap first (sym p) ∙ k))
    go (x ∷ l) p k =
        let q : some x ≡ some u = ap first (sym p) ∙ k in
        let z : x ≡ u = cc in (l, p ∙ ap (λ (y : ℕ). y ∷ l) z, first_sends s S e u h)

no_code : {P : Type 0} (n : ℕ) → suc n ≡ 0 → P
no_code n h = absurd (omega arith)

module _ (s : State) (S : Sound s) (e : ℕ) where
  takes_from :
      (t : ℕ) (o : Option ℕ) → first (senders s.threads (s.endpoints e).waiters) ≡ o
      → (s.endpoints e).status ≡ live → (receive_from o t e (drop_debt t s)).answer.code ≡ 0
      → TakesFirst s e (receive_from o t e (drop_debt t s))
  unfolding receive_from wake_from wake enqueue leave_endpoint
  takes_from t none h l k = no_code 0 k
  takes_from t (some u) h l k =
      let F = first_sender_lem s S e u h in
      let K = (drop_debt_drops s t).keeps in
      record {
        sender = u;
        rest = F.0;
        longest = F.1;
        sends = F.2;
        live = l;
        badge = keeps_badge K u;
        message = ap (λ (x : Thread). x.message) (K.thread u);
        left =
            ap (λ (x : ℕ → Endpoint). (x e).waiters) (choose_keeps (wake_from e u 1 0 0 (drop_debt t s))).endpoints
            ∙ ap (λ (x : Endpoint). x.waiters) (put_same (drop_debt t s).endpoints e _)
            ∙ ap (without u) (K.waiters e);
      }

  takes_at :
      (t : ℕ) (x : Status) → (s.endpoints e).status ≡ x → (receive_at x t e s).answer.code ≡ 0
      → TakesFirst s e (receive_at x t e s)
  unfolding receive_at
  takes_at t missing h k = no_code 22 k
  takes_at t closing h k = no_code 24 k
  takes_at t live h k = takes_from t (first (senders s.threads (s.endpoints e).waiters)) refl h k

  takes_caller :
      (o : Option ℕ) → (by_caller o (λ t. receive t e) s).answer.code ≡ 0
      → TakesFirst s e (by_caller o (λ t. receive t e) s)
  unfolding receive
  takes_caller none k = no_code 19 k
  takes_caller (some t) k = takes_at t (s.endpoints e).status refl k

  pub takes : (g : Grants) → (step g s (Receive e)).answer.code ≡ 0 → TakesFirst s e (step g s (Receive e))
  unfolding step perform_if perform_unless perform
  takes g k = go (in_range (Receive e)) k
    where
      unless :
          (b : Bool) → (perform_unless b (Receive e) s).answer.code ≡ 0
          → TakesFirst s e (perform_unless b (Receive e) s)
      unless true h = no_code 28 h
      unless false h = takes_caller s.runs h

      go : (b : Bool) → (perform_if b g (Receive e) s).answer.code ≡ 0 → TakesFirst s e (perform_if b g (Receive e) s)
      go true h = unless (barred s.runs g (Receive e)) h
      go false h = no_code 18 h
