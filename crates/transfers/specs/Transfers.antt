-- The inner steps of send and receive: what they ask, what they do, and who is first.
use Rattle.std.specs.Prelude.{ℕ, ◌≤◌, []}
use Rattle.machine.specs.Lists.{first}
use Rattle.machine.specs.State.{State, message_taken}
use Rattle.machine.specs.Endpoints.{senders, receivers, wake_from}
use Rattle.machine.specs.Results.{Result, accept}
use Rattle.calls.specs.Answers.{receipt}
use Rattle.machine.specs.Machine.{send_to, receive_from}
use Rattle.machine.specs.Sound.{Queued}
use Rattle.waiting.specs.Waiting.{Dropped}

-- In a call so far, u waits at endpoint e.
pub record TakesFrom (u e : ℕ) (s : State) : Type 0 where
  pub caller : ℕ
  pub dropped : Dropped caller (e ≤ 63) s
  pub waits : Queued s u e

-- The message goes to the first receiver, or t waits to send it.
abbrev pub handing : ℕ → ℕ → ℕ → ℕ → State → Result
handing t e b m s = send_to (first (receivers s.threads (s.endpoints e).waiters)) t e b m s

-- The first sender's message is taken, or t waits to receive one.
abbrev pub taking : ℕ → ℕ → State → Result
taking t e s = receive_from (first (senders s.threads (s.endpoints e).waiters)) t e s

-- The message of sender u is taken.
abbrev pub taking_from : ℕ → ℕ → State → Result
taking_from e u s =
    accept (receipt (s.threads u).badge (s.threads u).message) [] (wake_from e u message_taken 0 0 s)
