-- What a change of priority asks of the state that the memory shows, and what it does to it.
use Rattle.std.specs.Prelude.{ℕ, ◌≤◌, Bool, ◌&&◌, not}
use Rattle.machine.specs.State.{State}
use Rattle.machine.specs.Machine.{is_able, is_running, move_ready}
use Rattle.machine.specs.Sound.{Sound, Present}

-- The numbers of create and set priority: a thread and a priority.
abbrev pub PriorityInRange : ℕ → ℕ → Type 0
PriorityInRange t p = (t ≤ 255) × (p ≤ 255)

-- Whether t is ready: able, and not the one that runs.
abbrev pub ready_in : ℕ → State → Bool
ready_in t s = is_able (s.threads t).place && not (is_running t s.runs)

-- A present thread gets a priority in range.
pub record Changes (t p : ℕ) (s : State) : Type 0 where
  pub sound : Sound s
  pub present : Present s t
  pub level : p ≤ 255

abbrev pub changing : ℕ → ℕ → State → State
changing t p s = move_ready (ready_in t s) t p s
