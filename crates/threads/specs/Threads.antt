-- What leaving its place asks of the state that the memory shows, and what it does to it.
use Rattle.std.specs.Prelude.{ℕ, ◌≤◌, ◌≡◌}
use Rattle.std.proofs.Math.Option.{some}
use Rattle.machine.specs.State.{State, Place, absent, able, sending, receiving, waiting}
use Rattle.machine.specs.Machine.{is_running, leave_ready, leave}
use Rattle.layout.specs.declared.Field.{Field}
use Rattle.store.specs.Readings.{thread_in}
use Rattle.queues.specs.Queues.{InLevel, InEndpoint}

-- An able thread t runs, or stands in its level's queue.
pub record Able (t : ℕ) (s : State) : Type 0 where
  pub thread : t ≤ 255
  pub place : (s.threads t).place ≡ able
  pub stands : (s.runs ≡ some t → ⊥) → InLevel t s

abbrev pub leaving_ready : ℕ → State → State
leaving_ready t s = leave_ready (is_running t s.runs) t s

-- t can leave the place where it is: it runs or is ready, it waits at an endpoint, or its line is in range.
abbrev pub CanLeave : Place → ℕ → State → Type 0
CanLeave absent t s = ⊥
CanLeave able t s = Able t s
CanLeave (sending e) t s = InEndpoint t e s
CanLeave (receiving e) t s = InEndpoint t e s
CanLeave (waiting l) t s = l ≤ 31

-- t is at the place of a number, and can leave it.
pub record Goes (t code : ℕ) (s : State) : Type 0 where
  pub place : code ≡ thread_in Field.Place t s
  pub can : CanLeave (s.threads t).place t s

abbrev pub leaving : ℕ → State → State
leaving t s = leave (s.threads t).place t s
