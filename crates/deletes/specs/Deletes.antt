-- The middle of a delete: the endpoint is closing, and waiters leave its queue from the head.
use Rattle.std.specs.Prelude.{ℕ, ◌≤◌, ◌≡◌, List}
use Rattle.machine.specs.State.{State, closing}
use Rattle.machine.specs.Aborts.{Removal, remove_up_to}
use Rattle.machine.specs.Mid.{Mid}
use Rattle.layout.specs.Shows.{Shows}

-- A state in the middle of a call, with e closing.
pub record Closes (e : ℕ) (s : State) : Type 0 where
  pub mid : Mid s
  pub endpoint : e ≤ 63
  pub status : (s.endpoints e).status ≡ closing

-- The waiters at e leave, as many as the allowance a lets.
abbrev pub removal : ℕ → ℕ → State → Removal
removal a e s = remove_up_to a (s.endpoints e).waiters e s

-- r is how many went, and the memory shows the state without them in the queue.
pub record Removes (m : List ℕ) (e a r : ℕ) (m' : List ℕ) : Type 0 where
  pub counts : (s : State) → Shows m s → Closes e s → r ≡ (removal a e s).count
  pub shows : (s : State) → Shows m s → Closes e s → Shows m' (removal a e s).state
