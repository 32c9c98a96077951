-- The running thread that calls, before and after its set or note has gone.
use Prim.Native.Nat.{ℕ, ◌≤◌}
use mathlib.Core.Path.{◌≡◌, refl, sym, ◌∙◌, subst}
use mathlib.Core.Option.{some}
use mathlib.Core.List.{List}
use Rattle.calls.specs.declared.Answer.{Answer}
use Rattle.machine.specs.State.{State}
use Rattle.machine.specs.Endpoints.{drop_debt}
use Rattle.machine.specs.Results.{Result}
use Rattle.machine.specs.Mid.{Mid}
use Rattle.machine.proofs.Preserved.Mid.{sound_mid}
use Rattle.machine.proofs.Preserved.Debts.{mid_drop_debt, drop_debt_drops}
use Rattle.store.specs.Steps.{Shown, Does}
use Rattle.store.specs.Store.{IsThread}
use Rattle.endings.specs.Results.{Calling, Performs}
use Rattle.endings.proofs.Ends.{performs_after, does_for, shown_for}
use Rattle.endings.proofs.Conditions.{running_thread}
use Rattle.waiting.specs.Waiting.{Dropped}
use Rattle.queues.proofs.Joining.{shown_next}

module _ {t : ℕ} {N : Type 0} {s : State} (C : Calling t N s) where
  pub calling_thread : t ≤ 255
  calling_thread = running_thread (sound_mid C.sound) C.runs

  calling_dropped : Dropped t N (drop_debt t s)
  calling_dropped = record { before = s; calling = C; is = refl }

module _ {t : ℕ} {N : Type 0} {s : State} (D : Dropped t N s) where
  pub dropped_mid : Mid s
  dropped_mid =
      subst (λ (x : State). Mid x) (sym D.is) (mid_drop_debt D.before t (sound_mid D.calling.sound))

  pub dropped_runs : s.runs ≡ some t
  dropped_runs =
      subst (λ (x : State). x.runs ≡ some t) (sym D.is)
      ((drop_debt_drops D.before t).keeps.runs ∙ D.calling.runs)

-- The debt goes, and the rest of the call follows.

pub thread_asked : {m : List ℕ} {t : ℕ} {N : Type 0} → Shown m (Calling t N) → Shown m (IsThread t)
thread_asked S = shown_for S (λ s h. calling_thread h)

module _ {m n : List ℕ} {t : ℕ} (D : Does m n (IsThread t) (drop_debt t)) where
  drops : {N : Type 0} → Does m n (Calling t N) (drop_debt t)
  drops = does_for D (λ s h. calling_thread h)

  pub dropped_asked : {N : Type 0} → Shown m (Calling t N) → Shown n (Dropped t N)
  dropped_asked S = shown_next drops (λ s M h. calling_dropped h) S

  pub dropped_first :
      {N : Type 0} {o : List ℕ} {a : Answer} {f : State → Result} → Performs n o a (Dropped t N) f
      → Performs m o a (Calling t N) (λ s. f (drop_debt t s))
  dropped_first F = performs_after drops (λ s M h. calling_dropped h) F
