-- The states in which an abort looks, and what its looks come to.
use Rattle.std.specs.Prelude.{ℕ, ◌≤◌, ◌≡◌, List, ◌∷◌, length}
use Rattle.machine.specs.State.{State}
use Rattle.machine.specs.Aborts.{Looked, pending_at, look_up_to}
use Rattle.machine.specs.Mid.{Mid}
use Rattle.layout.specs.Shows.{Shows}

-- w is the cursor's waiter at e.
pub record Cursor (e w : ℕ) (s : State) : Type 0 where
  pub mid : Mid s
  pub rest : List ℕ
  pub first : pending_at e s ≡ w ∷ rest

-- In the middle of a call, with an endpoint in range.
pub record InMid (e : ℕ) (s : State) : Type 0 where
  pub mid : Mid s
  pub endpoint : e ≤ 63

-- What as many looks as the allowance a lets come to.
abbrev pub looked : ℕ → ℕ → State → Looked
looked e a s = look_up_to a (pending_at e s) e s

-- The memory shows the state after the looks, and r is how many they were.
pub record LooksOn (m : List ℕ) (e a r : ℕ) (m' : List ℕ) : Type 0 where
  pub shows : (s : State) → Shows m s → InMid e s → Shows m' (looked e a s).state
  pub counts : (s : State) → Shows m s → InMid e s → r ≡ length (looked e a s).looks
