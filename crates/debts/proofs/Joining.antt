-- Leaving a set, or losing a note, and joining a set: one step of the store each.
use Prim.Native.Nat.{ℕ, ◌+◌}
use mathlib.Core.Path.{refl}
use mathlib.Core.List.{List}
use Rattle.machine.specs.State.{nothing, works}
use Rattle.machine.specs.Endpoints.{drop_debt}
use Rattle.machine.specs.Aborts.{join}
use Rattle.store.specs.Steps.{Does}
use Rattle.store.specs.Store.{IsThread, SetsDebt}
use Rattle.debts.specs.Debts.{PairInRange}

module _ {m n : List ℕ} {t : ℕ} where
  pub leaves : SetsDebt m t 0 0 n → Does m n (IsThread t) (drop_debt t)
  unfolding drop_debt
  leaves W = W.does nothing refl refl

  pub joins : {e : ℕ} → SetsDebt m t (1 + e) 0 n → Does m n (PairInRange t e) (join t e)
  unfolding join
  joins {e} W = record { shows = λ s M R. (W.does (works e) refl refl).shows s M R.thread }
