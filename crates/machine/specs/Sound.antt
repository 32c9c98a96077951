-- Sound tables, clause by clause, said of the machine's state. That links agree both ways and that the summary
-- shows the occupied levels is said of the memory, where links and summary stand.
use Rattle.std.specs.Prelude.{ℕ, ◌≤◌, ◌<◌, ◌^◌, ◌≡◌, ◌⊎◌, ◌↔◌, true, List, [], ◌++◌}
use Rattle.std.proofs.Math.Option.{none, some}
use Rattle.machine.specs.Lists.{Mem, Distinct}
use Rattle.machine.specs.State.{State, Thread, Place, absent, able, sending, receiving, waiting, Debt, nothing}
use Rattle.machine.specs.State.{works, noted, Abort, missing, live, quiet, awaited}
use Rattle.machine.specs.State.{absent_thread, missing_endpoint, no_outcome, message_received, line_fired, turn_ticks}
use Rattle.machine.specs.Endpoints.{is_aborting}

-- A thread is present.
abbrev pub Present : State → ℕ → Type 0
Present s t = (s.threads t).place ≡ absent → ⊥

-- A thread is ready: able, and not the one that runs.
abbrev pub Ready : State → ℕ → Type 0
Ready s t = ((s.threads t).place ≡ able) × (s.runs ≡ some t → ⊥)

-- A thread is queued at the endpoint.
abbrev pub Queued : State → ℕ → ℕ → Type 0
Queued s t e = ((s.threads t).place ≡ sending e) ⊎ ((s.threads t).place ≡ receiving e)

-- Only a blocked sender and a thread with outcome 2 store a badge and message.
abbrev pub Stores : Place → ℕ → Type 0
Stores absent outcome = ⊥
Stores able outcome = outcome ≡ message_received
Stores (sending e) outcome = Unit {0}
Stores (receiving e) outcome = ⊥
Stores (waiting l) outcome = ⊥

-- A note is of an endpoint and a badge in range.
abbrev pub DebtInRange : Debt → Type 0
DebtInRange nothing = Unit {0}
DebtInRange (works e) = Unit {0}
DebtInRange (noted e b) = (e ≤ 63) × (b < 2 ^ 28)

-- The numbers of a present thread.
pub record Numbers (t : ℕ) (x : Thread) : Type 0 where
  pub thread : t ≤ 255
  pub priority : x.priority ≤ 255
  pub ticks_least : 1 ≤ x.ticks
  pub ticks_most : x.ticks ≤ turn_ticks
  pub outcome : x.outcome ≤ line_fired
  pub badge : x.badge < 2 ^ 28
  pub message : x.message < 2 ^ 28
  pub debt : DebtInRange x.debt

-- Cursor and end, the first and the last pending, are both none, or senders of the queue in order: what is pending is
-- the part of the queue from the one to the other.
pub record Stretch (s : State) (e : ℕ) (pending : List ℕ) : Type 0 where
  pub before : List ℕ
  pub behind : List ℕ
  pub within : (s.endpoints e).waiters ≡ before ++ (pending ++ behind)
  pub sends : (t : ℕ) → Mem t pending → (s.threads t).place ≡ sending e

-- Numbers in range, ticks 1 to 5, unused words 0.
pub record Ranges (s : State) : Type 0 where
  pub numbers : (t : ℕ) → Present s t → Numbers t (s.threads t)
  pub unused_thread : (t : ℕ) → (s.threads t).place ≡ absent → s.threads t ≡ absent_thread
  pub unused_endpoint : (e : ℕ) → 63 < e → s.endpoints e ≡ missing_endpoint
  pub unused_line : (l : ℕ) → 31 < l → s.lines l ≡ quiet
  pub abort_badge : (e : ℕ) (a : Abort) → (s.endpoints e).abort ≡ some a → a.badge < 2 ^ 28

-- Queues are as above; a present thread has one place.
pub record Queues (s : State) : Type 0 where
  -- Ready threads stand in their level's queue exactly once; the running thread and blocked ones in none.
  pub running : (t : ℕ) → s.runs ≡ some t → (s.threads t).place ≡ able
  pub ready : (t p : ℕ) → Mem t (s.levels p) ↔ (Ready s t × ((s.threads t).priority ≡ p))
  pub ready_once : (p : ℕ) → Distinct (s.levels p)
  -- Waiters stand in the queue of their endpoint exactly once, and are all senders or all receivers.
  pub queued : (t e : ℕ) → Mem t (s.endpoints e).waiters ↔ Queued s t e
  pub queued_once : (e : ℕ) → Distinct (s.endpoints e).waiters
  pub one_kind : (e t u : ℕ) → (s.threads t).place ≡ sending e → (s.threads u).place ≡ receiving e → ⊥
  -- A line has one waiter at most, and then isn't pending: the three cases of Line.
  pub on_line : (t l : ℕ) → (s.lines l ≡ awaited t) ↔ ((s.threads t).place ≡ waiting l)

-- Nobody ready is above the running thread; none is ready if none runs.
pub record Chosen (s : State) : Type 0 where
  pub none_above : (t u : ℕ) → s.runs ≡ some t → Ready s u → (s.threads u).priority ≤ (s.threads t).priority
  pub none_ready : s.runs ≡ none → (u : ℕ) → Ready s u → ⊥

-- Absent endpoints are empty; absent and closing ones have no abort.
pub record Statuses (s : State) : Type 0 where
  pub empty : (e : ℕ) → (s.endpoints e).status ≡ missing → (s.endpoints e).waiters ≡ []
  pub no_abort : (e : ℕ) → ((s.endpoints e).status ≡ live → ⊥) → (s.endpoints e).abort ≡ none

-- Cursor and end are both none, or senders of that queue in order; no sender under the aborted badge stands outside
-- them.
pub record Marks (s : State) : Type 0 where
  pub part : (e : ℕ) (a : Abort) → (s.endpoints e).abort ≡ some a → Stretch s e a.pending
  pub none_outside :
      (e t : ℕ) (a : Abort) → (s.endpoints e).abort ≡ some a → (s.threads t).place ≡ sending e
      → (s.threads t).badge ≡ a.badge → Mem t a.pending

-- An abort stands wherever a thread is in the set; a thread is in one set, or has one note, or neither: the three cases
-- of Debt.
pub record Members (s : State) : Type 0 where
  pub stands : (e t : ℕ) → (s.threads t).debt ≡ works e → is_aborting (s.endpoints e).abort ≡ true

-- A blocked thread's outcome is 0, and badge and message stand only where a thread stores them.
pub record Outcomes (s : State) : Type 0 where
  pub blocked : (t : ℕ) → ((s.threads t).place ≡ able → ⊥) → (s.threads t).outcome ≡ no_outcome
  pub stored :
      (t : ℕ) → (Stores (s.threads t).place (s.threads t).outcome → ⊥)
      → ((s.threads t).badge ≡ 0) × ((s.threads t).message ≡ 0)

-- Sound tables: the sentences of the section, in its order.
pub record Sound (s : State) : Type 0 where
  pub ranges : Ranges s
  pub queues : Queues s
  pub chosen : Chosen s
  pub statuses : Statuses s
  pub marks : Marks s
  pub members : Members s
  pub outcomes : Outcomes s
