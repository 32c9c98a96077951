-- The history of a list: one more call is recorded, from fresh tables on.
use Rattle.std.specs.Prelude.{ℕ, suc, Bool, true, false, not, List, [], ◌∷◌, ◌++◌, eqb}
use Rattle.std.proofs.Math.Option.{Option, none}
use Rattle.calls.specs.declared.Call.{Call}
use Rattle.machine.specs.Lists.{only}
use Rattle.machine.specs.State.{State, fresh_state}
use Rattle.machine.specs.Results.{Result}
use Rattle.calls.specs.Answers.{is_accepted}
use Rattle.machine.specs.Grants.{Grants, grants_after, fresh_grants}
use Rattle.machine.specs.Machine.{step}
use Rattle.history.specs.Sorts.{Sort, other, destroys, waits, receives, yields, removes, looks, sort_of}
use Rattle.history.specs.History.{Reported, Delivery, Waiting, AbortCall, History, is_in, queues?}
use Rattle.history.specs.History.{Step, Books, named, waiting_by, waiting_in, named_looks}
use Rattle.history.specs.Queues.{Queues, nobody_queued, queues_after, handed_to}
use Rattle.history.specs.Blocks.{Block, no_blocks, blocks_after, blocks_in}
use Rattle.history.specs.Outcomes.{Outcome, outcome_if}

-- Deliveries and calls 12

unfoldable pub delivered_if : Bool → ℕ → Result → Waiting → History → List Delivery
delivered_if false e r w h = h.deliveries
delivered_if true e r w h =
    record {
      place = h.now;
      endpoint = e;
      badge = r.answer.badge;
      message = r.answer.message;
      queue = h.waiting.queues e;
      handed = only (λ x. not (is_in x (w.queues e))) (h.waiting.queues e);
    } ∷ h.deliveries

unfoldable pub delivered : Sort → Result → Waiting → History → List Delivery
delivered other r w h = h.deliveries
delivered (destroys t) r w h = h.deliveries
delivered waits r w h = h.deliveries
delivered (receives e) r w h = delivered_if (eqb r.answer.code 0) e r w h
delivered yields r w h = h.deliveries
delivered (removes e) r w h = h.deliveries
delivered (looks e a b) r w h = h.deliveries

unfoldable pub abort_calls_of : Sort → Result → Waiting → Option Reported → History → List AbortCall
abort_calls_of other r w x h = h.abort_calls
abort_calls_of (destroys t) r w x h = h.abort_calls
abort_calls_of waits r w x h = h.abort_calls
abort_calls_of (receives e) r w x h = h.abort_calls
abort_calls_of yields r w x h = h.abort_calls
abort_calls_of (removes e) r w x h = h.abort_calls
abort_calls_of (looks e a b) r w x h =
    record {
      place = h.now;
      endpoint = e;
      allowance = a;
      badge = b;
      code = r.answer.code;
      count = r.answer.count;
      looks = named_looks h.since r.looks;
      reports = x;
      before = h.waiting;
      behind = w;
    } ∷ h.abort_calls

-- The list

-- The history with one more call of this sort, by the names, who waits and the books after it, what it came to and its
-- result.
unfoldable pub recorded : (ℕ → ℕ) → Waiting → Books → Outcome → Sort → Result → History → History
recorded since w b o k r h =
    record {
      now = suc h.now;
      answers = h.answers ++ (r.answer ∷ []);
      since = since;
      books = b;
      waiting = w;
      aborts = o.aborts;
      deliveries = delivered k r w h;
      abort_calls = abort_calls_of k r w o.reports h;
    }

abbrev pub names_after : Call → State → Result → History → ℕ → ℕ
names_after c s r h = named (queues? (sort_of c) r.answer.code) s.runs h.now h.since

-- The queues change by the call, who ran, its answer and its looks.
abbrev pub queued_after : Call → State → Result → History → Queues
queued_after c s r h = queues_after c s.runs r.answer r.looks h.books.queued

-- So does what the threads have been told, by who waited besides.
abbrev pub blocks_kept : Call → State → Result → History → ℕ → Block
blocks_kept c s r h = blocks_after c s.runs r.answer r.looks h.books.queued h.books.blocks

abbrev pub waiting_after : Call → State → Result → History → Waiting
waiting_after c s r h = waiting_by (names_after c s r h) (h.books.calls ++ (c ∷ [])) (queued_after c s r h)

abbrev pub step_of : Call → State → Result → History → Step
step_of c s r h =
    record {
      place = h.now;
      before = h.books.queued;
      was = h.waiting;
      kept = waiting_after c s r h;
      found = waiting_in (names_after c s r h) r.state;
      handed = λ t. handed_to (s.threads t) (r.state.threads t);
      kept_blocks = blocks_kept c s r h;
      found_blocks = blocks_in r.state;
    }

abbrev pub books_after : Call → State → Result → History → Books
books_after c s r h =
    record {
      calls = h.books.calls ++ (c ∷ []);
      queued = queued_after c s r h;
      blocks = blocks_kept c s r h;
      steps = step_of c s r h ∷ h.books.steps;
    }

-- The history with one more call: the state it found and the result it had.
unfoldable pub told : Call → State → Result → History → History
told c s r h =
    recorded (names_after c s r h) (waiting_after c s r h) (books_after c s r h)
    (outcome_if (is_accepted r.answer) (sort_of c) s.runs r h) (sort_of c) r h

abbrev pub fresh_books : Books
fresh_books = record { calls = []; queued = nobody_queued; blocks = no_blocks; steps = [] }

abbrev pub fresh_history : History
fresh_history =
    record {
      now = 0;
      answers = [];
      since = λ t. 0;
      books = fresh_books;
      waiting = waiting_by (λ t. 0) [] nobody_queued;
      aborts =
          record {
            standing = λ e. none;
            ended = [];
            debts = record { members = λ e. []; notes = λ t. none };
            stray = [];
          };
      deliveries = [];
      abort_calls = [];
    }

pub record Run : Type 0 where
  pub state : State
  pub grants : Grants
  pub history : History

-- What the call comes to in a run so far, and the run with it. The machine's step is a parameter, so that the claim can
-- be tried on machines that go wrong.
abbrev pub result_in : (Grants → State → Call → Result) → Call → Run → Result
result_in f c x = f x.grants x.state c

abbrev pub next_run : (Grants → State → Call → Result) → Call → Run → Run
next_run f c x =
    record {
      state = (result_in f c x).state;
      grants = grants_after (result_in f c x).answer c x.grants;
      history = told c x.state (result_in f c x) x.history;
    }

-- The first call gets fresh tables, each later one the tables that the one before it left; the grants "start fresh
-- and pass on as the tables do".
unfoldable pub run_from : (Grants → State → Call → Result) → List Call → Run → Run
run_from f [] x = x
run_from f (c ∷ l) x = run_from f l (next_run f c x)

abbrev pub fresh_run : Run
fresh_run = record { state = fresh_state; grants = fresh_grants; history = fresh_history }

abbrev pub history_by : (Grants → State → Call → Result) → List Call → History
history_by f calls = (run_from f calls fresh_run).history

abbrev pub history_of : List Call → History
history_of calls = history_by step calls
