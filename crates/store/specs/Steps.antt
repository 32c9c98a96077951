-- The form of the inner contracts: a function asks that the memory shows some state of which P holds, and does to each
-- such state what an operation of the machine does, or tells a number of it.
use Rattle.std.specs.Prelude.{ℕ, ◌≡◌, List}
use Rattle.machine.specs.State.{State}
use Rattle.layout.specs.Shows.{Shows}

pub record Shown (m : List ℕ) (P : State → Type 0) : Type 0 where
  pub state : State
  pub shows : Shows m state
  pub holds : P state

pub record Does (m m' : List ℕ) (P : State → Type 0) (op : State → State) : Type 0 where
  pub shows : (s : State) → Shows m s → P s → Shows m' (op s)

pub record Tells (m : List ℕ) (P : State → Type 0) (r : ℕ) (f : State → ℕ) : Type 0 where
  pub tells : (s : State) → Shows m s → P s → r ≡ f s
