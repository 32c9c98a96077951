-- Call 11: the removal of waiters keeps Mid, and the whole call keeps tables sound.
use Prim.Native.Nat.{ℕ, zero, suc, ◌≤◌}
use mathlib.Core.Path.{◌≡◌, refl, sym, ◌∙◌, ap}
use mathlib.Core.Logic.{inl}
use mathlib.Core.Option.{none, some}
use mathlib.Core.List.{List, [], ◌∷◌}
use native.Mathlib.Omega.{arith}
use Rattle.machine.specs.State.{State, Status, missing, live, closing, Endpoint, missing_endpoint, set_endpoint}
use Rattle.machine.specs.Endpoints.{is_aborting, wake_from, drop_debt, end_abort}
use Rattle.machine.specs.Aborts.{Removal, one_more, remove_up_to, deleted, delete_from, delete_at, delete}
use Rattle.machine.specs.Sound.{Sound}
use Rattle.machine.specs.Mid.{Mid}
use Rattle.machine.proofs.Preserved.Mid.{sound_mid}
use Rattle.machine.proofs.Preserved.Statuses.{mid_entry}
use Rattle.machine.proofs.Preserved.Debts.{live_present, closing_present, closing_live, mid_drop_debt}
use Rattle.machine.proofs.Preserved.Ready.{none_some}
use Rattle.machine.proofs.Preserved.Debts.{drop_debt_drops, mid_end_abort, end_abort_entry}
use Rattle.machine.proofs.Preserved.Waking.{mid_wake_from}
use Rattle.machine.proofs.Lists.{clash}
use Rattle.machine.proofs.Preserved.AbortSteps.{Steady, steady_self, steady_then, steady_wake_from}
use Rattle.machine.proofs.Preserved.Choosing.{choose_sound}

-- Waiters are removed from the head. The second argument is the queue as it is.

mid_removes :
    (n : ℕ) (l : List ℕ) (e : ℕ) (s : State) → (s.endpoints e).waiters ≡ l → Mid s → Mid (remove_up_to n l e s).state
unfolding remove_up_to one_more
mid_removes zero l e s h M = M
mid_removes (suc n) [] e s h M = M
mid_removes (suc n) (w ∷ l) e s h M =
    mid_removes n ((wake_from e w 4 0 0 s).endpoints e).waiters e (wake_from e w 4 0 0 s) refl
    (mid_wake_from s e w 4 0 0 M ((M.queues.queued w e).0 (rw h (inl refl))) (omega arith) (omega arith) (omega arith)
    (λ n. (refl, refl)))

pub steady_removes : (n : ℕ) (l : List ℕ) (e : ℕ) (s : State) → Steady s (remove_up_to n l e s).state
unfolding remove_up_to one_more
steady_removes zero l e s = steady_self s
steady_removes (suc n) [] e s = steady_self s
steady_removes (suc n) (w ∷ l) e s =
    steady_then (steady_wake_from e w s 4 0 0)
    (steady_removes n ((wake_from e w 4 0 0 s).endpoints e).waiters e (wake_from e w 4 0 0 s))

-- An empty endpoint without an abort may be absent.
pub mid_missing :
    (e : ℕ) (s : State) → Mid s → (s.endpoints e).waiters ≡ [] → (s.endpoints e).abort ≡ none
    → Mid (set_endpoint e missing_endpoint s)
mid_missing e s M w a =
    mid_entry s e missing_endpoint (sym w) M
    (record {
      unused = λ h. refl;
      empty = λ h. refl;
      no_abort = λ h. refl;
      badge = λ b h. absurd (none_some refl h);
      part = λ b h. absurd (none_some refl h);
      none_outside = λ t b h. absurd (none_some refl h);
    })
    (λ u h. absurd (clash (M.members.stands e u h) (ap is_aborting a)))

deleted_sound :
    (l : List ℕ) (e : ℕ) (r : Removal) → (r.state.endpoints e).waiters ≡ l → Mid r.state
    → (r.state.endpoints e).status ≡ closing → Sound (deleted l e r).state
unfolding deleted
deleted_sound [] e r h M c =
    choose_sound (set_endpoint e missing_endpoint r.state)
    (mid_missing e r.state M h (M.statuses.no_abort e (closing_live c)))
deleted_sound (w ∷ l) e r h M c = choose_sound r.state M

delete_from_sound :
    (e a : ℕ) (s : State) → Mid s → (s.endpoints e).status ≡ closing → Sound (delete_from e a s).state
unfolding delete_from
delete_from_sound e a s M c =
    deleted_sound ((remove_up_to a (s.endpoints e).waiters e s).state.endpoints e).waiters e
    (remove_up_to a (s.endpoints e).waiters e s) refl (mid_removes a (s.endpoints e).waiters e s refl M)
    (((steady_removes a (s.endpoints e).waiters e s).entry e).status ∙ c)

-- A present endpoint becomes closing, and the caller's debt and the endpoint's abort go.
closes_sound :
    (t e a : ℕ) (s : State) → Sound s → ((s.endpoints e).status ≡ missing → ⊥)
    → Sound (delete_from e a (end_abort closing e (drop_debt t s))).state
closes_sound t e a s S n =
    let d = drop_debt_drops s t in
    delete_from_sound e a (end_abort closing e (drop_debt t s))
    (mid_end_abort closing e (drop_debt t s) (closing_present refl) (λ h. n (sym (d.status e) ∙ h))
    (mid_drop_debt s t (sound_mid S)))
    (ap (λ (x : Endpoint). x.status) (end_abort_entry (drop_debt t s) e closing))

-- "Inner layers may rely on sound tables": a delete leaves sound tables sound.

pub delete_sound :
    (t e a : ℕ) (s : State) → Sound s → s.runs ≡ some t → e ≤ 63 → Sound (delete t e a s).state
unfolding delete delete_at
delete_sound t e a s S r b = go (s.endpoints e).status refl
  where
    go : (x : Status) → (s.endpoints e).status ≡ x → Sound (delete_at x t e a s).state
    go missing h = S
    go live h = closes_sound t e a s S (live_present h)
    go closing h = closes_sound t e a s S (closing_present h)
