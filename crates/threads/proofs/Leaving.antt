-- A thread leaves the place where it is: what each step asks, and that it is the machine's.
use Prim.Native.Nat.{ℕ, ◌-◌, ◌≤◌, ◌<◌}
use mathlib.Core.Path.{◌≡◌, refl, sym, ◌∙◌, ap, subst}
use mathlib.Core.Logic.{◌⊎◌, inl, inr}
use mathlib.Core.Bool.{Bool, true, false}
use mathlib.Core.Option.{none}
use mathlib.Core.List.{List}
use native.Mathlib.Omega.{arith}
use Rattle.machine.specs.Lists.{Mem}
use Rattle.machine.specs.State.{State, Place, absent, able, sending, receiving, waiting, quiet, Endpoint}
use Rattle.machine.specs.State.{missing_endpoint}
use Rattle.machine.specs.Scheduling.{unqueue}
use Rattle.machine.specs.Endpoints.{leave_endpoint}
use Rattle.machine.specs.Machine.{is_running, leave_ready, leave}
use Rattle.machine.specs.Sound.{Present, Queued}
use Rattle.machine.specs.Mid.{Mid}
use Rattle.machine.proofs.Preserved.Sites.{not_awaited}
use Rattle.machine.proofs.Preserved.Threads.{not_running}
use Rattle.layout.specs.declared.Field.{Field}
use Rattle.layout.specs.Words.{place_code}
use Rattle.layout.specs.Shows.{Shows}
use Rattle.layout.proofs.Addresses.{below?}
use Rattle.store.specs.Steps.{Does}
use Rattle.store.specs.Store.{IsThread, SetsRunning, SetsLine}
use Rattle.store.specs.Readings.{thread_in}
use Rattle.queues.specs.Queues.{InLevel, InEndpoint}
use Rattle.debts.specs.Debts.{Says}
use Rattle.endings.proofs.Conditions.{present_thread_lem, ready_stands, queued_waits}
use Rattle.priorities.specs.Priorities.{ready_in}
use Rattle.threads.specs.Threads.{Able, leaving_ready, CanLeave, Goes, leaving}
use Rattle.priorities.proofs.Places.{able_idle, able_runs}

-- An able thread leaves its level's queue, or stops running.
module _ {m : List ℕ} {t : ℕ} {b : Bool} (R : Says m (IsThread t) b (ready_in t)) where
  idle : (s : State) → Shows m s → Able t s → b ≡ true → is_running t s.runs ≡ false
  idle s M h z = able_idle t s h.place (sym (R.says s M h.thread) ∙ z)

  runs : (s : State) → Shows m s → Able t s → b ≡ false → is_running t s.runs ≡ true
  runs s M h z = able_runs t s h.place (sym (R.says s M h.thread) ∙ z)

  stands_there : (s : State) → Shows m s → Able t s → b ≡ true → InLevel t s
  stands_there s M h z = h.stands (not_running s.runs (idle s M h z))

  pub left_level : {n : List ℕ} → b ≡ true → Does m n (InLevel t) (unqueue t) → Does m n (Able t) (leaving_ready t)
  unfolding leave_ready
  left_level {n} z D =
      record {
        shows = λ s M h.
            subst (λ (x : Bool). Shows n (leave_ready x t s)) (sym (idle s M h z)) (D.shows s M (stands_there s M h z));
      }

  pub left_running : {n : List ℕ} → b ≡ false → SetsRunning m 0 n → Does m n (Able t) (leaving_ready t)
  unfolding leave_ready
  left_running {n} z D =
      record {
        shows = λ s M h.
            subst (λ (x : Bool). Shows n (leave_ready x t s)) (sym (runs s M h z)) ((D.does none refl).shows s M tt);
      }

-- The number of the place that the thread can leave tells which it is.
module _ {s : State} {t code : ℕ} (G : Goes t code s) where
  at_able : code ≡ 1 → (s.threads t).place ≡ able
  at_able z = go (s.threads t).place G.place G.can
    where
      go : (x : Place) → code ≡ place_code x → CanLeave x t s → x ≡ able
      go absent k h = absurd h
      go able k h = refl
      go (sending e) k h = absurd (omega arith)
      go (receiving e) k h = absurd (omega arith)
      go (waiting l) k h = absurd (omega arith)

  at_sending : 2 ≤ code → code < 66 → (s.threads t).place ≡ sending (code - 2)
  at_sending b c = go (s.threads t).place G.place G.can
    where
      go : (x : Place) → code ≡ place_code x → CanLeave x t s → x ≡ sending (code - 2)
      go absent k h = absurd h
      go able k h = absurd (omega arith)
      go (sending e) k h = ap sending (let j : e ≡ code - 2 = omega arith in j)
      go (receiving e) k h = absurd (omega arith)
      go (waiting l) k h = absurd (omega arith)

  at_receiving : 66 ≤ code → code < 130 → (s.threads t).place ≡ receiving (code - 66)
  at_receiving b c = go (s.threads t).place G.place G.can
    where
      go : (x : Place) → code ≡ place_code x → CanLeave x t s → x ≡ receiving (code - 66)
      go absent k h = absurd h
      go able k h = absurd (omega arith)
      go (sending e) k h = absurd (omega (arith, h.endpoint))
      go (receiving e) k h = ap receiving (let j : e ≡ code - 66 = omega arith in j)
      go (waiting l) k h = absurd (omega arith)

  at_line : 130 ≤ code → (s.threads t).place ≡ waiting (code - 130)
  at_line b = go (s.threads t).place G.place G.can
    where
      go : (x : Place) → code ≡ place_code x → CanLeave x t s → x ≡ waiting (code - 130)
      go absent k h = absurd h
      go able k h = absurd (omega arith)
      go (sending e) k h = absurd (omega (arith, h.endpoint))
      go (receiving e) k h = absurd (omega (arith, h.endpoint))
      go (waiting l) k h = ap waiting (let j : l ≡ code - 130 = omega arith in j)

  -- It is at some place.
  pub goes_somewhere : 1 ≤ code
  goes_somewhere = go (s.threads t).place G.place G.can
    where
      go : (x : Place) → code ≡ place_code x → CanLeave x t s → 1 ≤ code
      go absent k h = absurd h
      go able k h = omega arith
      go (sending e) k h = omega arith
      go (receiving e) k h = omega arith
      go (waiting l) k h = omega arith

  -- What leaving that place asks.
  can_leave : (x : Place) → (s.threads t).place ≡ x → CanLeave x t s
  can_leave x p = subst (λ (y : Place). CanLeave y t s) p G.can

-- The step for each place is the machine's.
module _ {m : List ℕ} {t code : ℕ} where
  pub leave_able :
      {n : List ℕ} → code ≡ 1 → Does m n (Able t) (leaving_ready t) → Does m n (Goes t code) (leaving t)
  unfolding leave
  leave_able {n} z D =
      record {
        shows = λ s M G.
            let p = at_able G z in
            subst (λ (x : Place). Shows n (leave x t s)) (sym p) (D.shows s M (can_leave G able p));
      }

  pub leave_sending :
      {n : List ℕ} → 2 ≤ code → code < 66 → Does m n (InEndpoint t (code - 2)) (leave_endpoint t (code - 2))
      → Does m n (Goes t code) (leaving t)
  unfolding leave
  leave_sending {n} b c D =
      record {
        shows = λ s M G.
            let p = at_sending G b c in
            subst (λ (x : Place). Shows n (leave x t s)) (sym p)
            (D.shows s M (can_leave G (sending (code - 2)) p));
      }

  pub leave_receiving :
      {n : List ℕ} → 66 ≤ code → code < 130 → Does m n (InEndpoint t (code - 66)) (leave_endpoint t (code - 66))
      → Does m n (Goes t code) (leaving t)
  unfolding leave
  leave_receiving {n} b c D =
      record {
        shows = λ s M G.
            let p = at_receiving G b c in
            subst (λ (x : Place). Shows n (leave x t s)) (sym p)
            (D.shows s M (can_leave G (receiving (code - 66)) p));
      }

  pub leave_line : {n : List ℕ} → 130 ≤ code → SetsLine m (code - 130) 0 n → Does m n (Goes t code) (leaving t)
  unfolding leave
  leave_line {n} b L =
      record {
        shows = λ s M G.
            let p = at_line G b in
            subst (λ (x : Place). Shows n (leave x t s)) (sym p)
            ((L.does quiet refl).shows s M (can_leave G (waiting (code - 130)) p));
      }

-- In the middle of a call every present thread can leave the place where it is.

no_waiter : {x : Endpoint} (t : ℕ) → x ≡ missing_endpoint → Mem t x.waiters → ⊥
no_waiter t h m = subst (λ (x : Endpoint). Mem t x.waiters) h m

module _ {s : State} (M : Mid s) where
  queued_small : {t e : ℕ} → Queued s t e → e ≤ 63
  queued_small {t} {e} q = go (below? e 64)
    where
      go : (e < 64) ⊎ (64 ≤ e) → e ≤ 63
      go (inl h) = omega arith
      go (inr h) = absurd (no_waiter t (M.ranges.unused_endpoint e h) ((M.queues.queued t e).1 q))

  line_small : {t l : ℕ} → (s.threads t).place ≡ waiting l → l ≤ 31
  line_small {t} {l} q = go (below? l 32)
    where
      go : (l < 32) ⊎ (32 ≤ l) → l ≤ 31
      go (inl h) = omega arith
      go (inr h) = absurd (not_awaited (M.ranges.unused_line l h) ((M.queues.on_line t l).1 q))

  pub mid_goes : {t code : ℕ} → Present s t → code ≡ thread_in Field.Place t s → Goes t code s
  mid_goes {t} {code} present k = record { place = k; can = go (s.threads t).place refl }
    where
      go : (x : Place) → (s.threads t).place ≡ x → CanLeave x t s
      go absent p = present p
      go able p =
          record { thread = present_thread_lem M present; place = p; stands = λ n. ready_stands M (p, n) }
      go (sending e) p = queued_waits M (inl p) (queued_small (inl p))
      go (receiving e) p = queued_waits M (inr p) (queued_small (inr p))
      go (waiting l) p = line_small p
