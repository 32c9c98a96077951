-- A closing endpoint in the middle of a call: it stays so while waiters leave, and empty it may be missing.
use Prim.Native.Nat.{ℕ, zero, suc, ◌≤◌}
use mathlib.Core.Path.{◌≡◌, refl, sym, ◌∙◌, ap, subst}
use mathlib.Core.Logic.{inl}
use mathlib.Core.Option.{none}
use mathlib.Core.List.{List, [], ◌∷◌}
use native.Mathlib.Omega.{arith}
use Rattle.machine.specs.Lists.{Mem}
use Rattle.machine.specs.State.{State, missing, closing, Endpoint, missing_endpoint, set_endpoint}
use Rattle.machine.specs.Endpoints.{wake_from, drop_debt, end_abort}
use Rattle.machine.specs.Aborts.{one_more, remove_up_to}
use Rattle.machine.specs.Mid.{Mid}
use Rattle.machine.proofs.Preserved.Deletes.{mid_missing}
use Rattle.machine.proofs.Preserved.Debts.{closing_present, closing_live, mid_drop_debt, drop_debt_drops, mid_end_abort}
use Rattle.machine.proofs.Preserved.Debts.{end_abort_entry}
use Rattle.machine.proofs.Preserved.Waking.{mid_wake_from}
use Rattle.machine.proofs.Preserved.AbortSteps.{steady_wake_from}
use Rattle.deletes.specs.Deletes.{Closes, removal}

-- The caller's debt and the endpoint's abort go.
pub closes_ended :
    {s : State} (t : ℕ) {e : ℕ} → Mid s → e ≤ 63 → ((s.endpoints e).status ≡ missing → ⊥)
    → Closes e (end_abort closing e (drop_debt t s))
closes_ended {s} t {e} M h n =
    record {
      mid =
          mid_end_abort closing e (drop_debt t s) (closing_present refl)
          (λ k. n (sym ((drop_debt_drops s t).status e) ∙ k))
          (mid_drop_debt s t M);
      endpoint = h;
      status = ap (λ (x : Endpoint). x.status) (end_abort_entry (drop_debt t s) e closing);
    }

-- The first waiter leaves.
pub closes_woken :
    {s : State} {e w : ℕ} {l : List ℕ} → Closes e s → (s.endpoints e).waiters ≡ w ∷ l
    → Closes e (wake_from e w 4 0 0 s)
closes_woken {s} {e} {w} {l} C k =
    record {
      mid =
          mid_wake_from s e w 4 0 0 C.mid
          ((C.mid.queues.queued w e).0 (subst (λ (x : List ℕ). Mem w x) (sym k) (inl refl))) (omega arith)
          (omega arith) (omega arith) (λ n. (refl, refl));
      endpoint = C.endpoint;
      status = ((steady_wake_from e w s 4 0 0).entry e).status ∙ C.status;
    }

-- As many leave as the allowance lets.
closes_removes :
    (a : ℕ) (l : List ℕ) (e : ℕ) (s : State) → (s.endpoints e).waiters ≡ l → Closes e s
    → Closes e (remove_up_to a l e s).state
unfolding remove_up_to one_more
closes_removes zero l e s k C = C
closes_removes (suc a) [] e s k C = C
closes_removes (suc a) (w ∷ l) e s k C =
    closes_removes a ((wake_from e w 4 0 0 s).endpoints e).waiters e (wake_from e w 4 0 0 s) refl (closes_woken C k)

pub closes_removal : {e : ℕ} (a : ℕ) {s : State} → Closes e s → Closes e (removal a e s).state
closes_removal {e} a {s} C = closes_removes a (s.endpoints e).waiters e s refl C

-- A closing endpoint has no abort.
pub closes_bare : {s : State} {e : ℕ} → Closes e s → (s.endpoints e).abort ≡ none
closes_bare {s} {e} C = C.mid.statuses.no_abort e (closing_live C.status)

-- With nobody left it may be missing.
pub closes_missing :
    {s : State} {e : ℕ} → Closes e s → (s.endpoints e).waiters ≡ [] → Mid (set_endpoint e missing_endpoint s)
closes_missing {s} {e} C w =
    mid_missing e s C.mid w (closes_bare C)
