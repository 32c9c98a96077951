-- The state of the queue machine: what a thread, an endpoint and a line are, who runs, who is ready.
use Rattle.std.specs.Prelude.{ℕ, List, []}
use Rattle.std.proofs.Math.Option.{Option, none}
use Rattle.machine.specs.Lists.{put}

-- Where a thread is. An able thread runs or is ready; the others that are present are blocked.
pub data Place : Type 0 where
  absent : Place
  able : Place
  -- queued at an endpoint, to send or to receive
  sending : ℕ → Place
  receiving : ℕ → Place
  -- on an interrupt line
  waiting : ℕ → Place

-- What a thread has to do with aborts: it is in the set of those who work on the abort at an endpoint, or has a note
-- that the abort of an endpoint and badge ended by another's call, or neither. The set of an endpoint is kept here
-- alone: its members are the threads that work there.
pub data Debt : Type 0 where
  nothing : Debt
  works : ℕ → Debt
  noted : ℕ → ℕ → Debt

-- "Both parties that were blocked are woken with an outcome: 1 taken, 2 received (with badge and message), 3 aborted, 4
-- endpoint gone, 5 line fired. Blocking resets the outcome to 0."
abbrev pub no_outcome : ℕ
no_outcome = 0

abbrev pub message_taken : ℕ
message_taken = 1

abbrev pub message_received : ℕ
message_received = 2

abbrev pub message_aborted : ℕ
message_aborted = 3

abbrev pub endpoint_gone : ℕ
endpoint_gone = 4

abbrev pub line_fired : ℕ
line_fired = 5

-- The ticks of a turn.
abbrev pub turn_ticks : ℕ
turn_ticks = 5

pub record Thread : Type 0 where
  pub place : Place
  pub priority : ℕ
  pub ticks : ℕ
  pub outcome : ℕ
  pub badge : ℕ
  pub message : ℕ
  pub debt : Debt

-- An abort that stands at an endpoint. Pending are the waiters that it has still to look at, in the order of the queue:
-- the first is the cursor and the last the end mark; where pending is empty, nothing is left.
pub record Abort : Type 0 where
  pub badge : ℕ
  pub pending : List ℕ

pub data Status : Type 0 where
  missing : Status
  live : Status
  closing : Status

pub record Endpoint : Type 0 where
  pub status : Status
  -- in order of coming
  pub waiters : List ℕ
  pub abort : Option Abort

pub data Line : Type 0 where
  quiet : Line
  pending : Line
  -- with the thread that waits on it
  awaited : ℕ → Line

pub record State : Type 0 where
  pub threads : ℕ → Thread
  pub runs : Option ℕ
  -- the ready queue of each priority
  pub levels : ℕ → List ℕ
  pub endpoints : ℕ → Endpoint
  pub lines : ℕ → Line

abbrev pub absent_thread : Thread
absent_thread =
    record { place = absent; priority = 0; ticks = 0; outcome = 0; badge = 0; message = 0; debt = nothing }

abbrev pub missing_endpoint : Endpoint
missing_endpoint = record { status = missing; waiters = []; abort = none }

-- No thread, endpoint or pending line.
abbrev pub fresh_state : State
fresh_state =
    record {
      threads = λ t. absent_thread;
      runs = none;
      levels = λ p. [];
      endpoints = λ e. missing_endpoint;
      lines = λ l. quiet;
    }

-- The state with one entry changed.
abbrev pub set_thread : ℕ → Thread → State → State
set_thread t x s =
    record {
      threads = put s.threads t x;
      runs = s.runs;
      levels = s.levels;
      endpoints = s.endpoints;
      lines = s.lines;
    }

abbrev pub set_runs : Option ℕ → State → State
set_runs r s =
    record { threads = s.threads; runs = r; levels = s.levels; endpoints = s.endpoints; lines = s.lines }

abbrev pub set_level : ℕ → List ℕ → State → State
set_level p q s =
    record {
      threads = s.threads;
      runs = s.runs;
      levels = put s.levels p q;
      endpoints = s.endpoints;
      lines = s.lines;
    }

abbrev pub set_endpoint : ℕ → Endpoint → State → State
set_endpoint e x s =
    record {
      threads = s.threads;
      runs = s.runs;
      levels = s.levels;
      endpoints = put s.endpoints e x;
      lines = s.lines;
    }

abbrev pub set_line : ℕ → Line → State → State
set_line l x s =
    record {
      threads = s.threads;
      runs = s.runs;
      levels = s.levels;
      endpoints = s.endpoints;
      lines = put s.lines l x;
    }

-- The thread with some fields changed.
abbrev pub with_priority : ℕ → Thread → Thread
with_priority p x =
    record {
      place = x.place;
      priority = p;
      ticks = x.ticks;
      outcome = x.outcome;
      badge = x.badge;
      message = x.message;
      debt = x.debt;
    }

abbrev pub with_ticks : ℕ → Thread → Thread
with_ticks n x =
    record {
      place = x.place;
      priority = x.priority;
      ticks = n;
      outcome = x.outcome;
      badge = x.badge;
      message = x.message;
      debt = x.debt;
    }

abbrev pub with_debt : Debt → Thread → Thread
with_debt d x =
    record {
      place = x.place;
      priority = x.priority;
      ticks = x.ticks;
      outcome = x.outcome;
      badge = x.badge;
      message = x.message;
      debt = d;
    }

abbrev pub with_place : Place → ℕ → ℕ → ℕ → Thread → Thread
with_place p o b m x =
    record {
      place = p;
      priority = x.priority;
      ticks = x.ticks;
      outcome = o;
      badge = b;
      message = m;
      debt = x.debt;
    }
