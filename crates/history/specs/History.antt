-- Lists of calls: what has come of a list of calls made in turn from fresh tables, told in the terms of the section
-- of that name. It reads each call, its answer, who ran when it was made, and the log of looks; from these it keeps who
-- waits where and what each thread has been told. Of the machine's aborts, of their sets and pending waiters, and of
-- what a thread owes it reads nothing; the machine's queues and the threads' blocks it only sets beside its own, call
-- by call (Step), and nothing that it keeps depends on them. Here stand what it has and the names of waiters; Walk,
-- Outcomes and Recorded make it.
use Rattle.std.specs.Prelude.{ℕ, Bool, true, false, ◌||◌, List, [], ◌∷◌, map, eqb}
use Rattle.std.proofs.Math.Option.{Option, none, some}
use Rattle.std.proofs.Math.ListN.{get_elem?}
use Rattle.calls.specs.Calls.{number_of}
use Rattle.calls.specs.declared.Answer.{Answer}
use Rattle.calls.specs.declared.Call.{Call}
use Rattle.machine.specs.Lists.{put, only}
use Rattle.machine.specs.State.{State, Line, quiet, pending, awaited}
use Rattle.machine.specs.Endpoints.{senders}
use Rattle.machine.specs.Results.{Look}
use Rattle.history.specs.Queues.{Queues, Message}
use Rattle.history.specs.Blocks.{Block}
use Rattle.history.specs.Sorts.{Sort, other, destroys, waits, receives, yields, removes, looks}

-- A waiter's name is the place in the list of its call 7, 8 or 10 answered 1, counted from 0. A message is named as
-- its waiter.

-- An abort of an endpoint and badge: the place of the call that it began in, the senders queued there at that
-- moment, those that it has looked at and those that it has removed, each in order.
pub record Aborting : Type 0 where
  pub endpoint : ℕ
  pub badge : ℕ
  pub began : ℕ
  pub onto : List ℕ
  pub looked : List ℕ
  pub removed : List ℕ

-- An abort that has ended, the call that it ended in, and the members of its set then but that call's caller.
pub record Ended : Type 0 where
  pub abort : Aborting
  pub by : ℕ
  pub members : List ℕ

-- Which abort a call 12 reports, or a note tells of.
pub record Reported : Type 0 where
  pub endpoint : ℕ
  pub badge : ℕ
  pub began : ℕ

-- A call 8 answered 0: its place and endpoint, the badge and message of its answer, the names of those queued there
-- before it, and of those of them that are no longer queued after it.
pub record Delivery : Type 0 where
  pub place : ℕ
  pub endpoint : ℕ
  pub badge : ℕ
  pub message : ℕ
  pub queue : List ℕ
  pub handed : List ℕ

-- A look of a call 12: the waiter's name, and whether it was removed.
pub record NamedLook : Type 0 where
  pub waiter : ℕ
  pub removed : Bool

-- The names of those queued at each endpoint, those of them who send, and of who waits on each line.
pub record Waiting : Type 0 where
  pub queues : ℕ → List ℕ
  pub messages : ℕ → List ℕ
  pub lines : ℕ → Option ℕ

-- A call 12, refused or not: its place and numbers, code and count of its answer, its looks, the abort that it
-- began, found under its badge or was noted of, which it reports if it was answered 0, and who was waiting before
-- and after it.
pub record AbortCall : Type 0 where
  pub place : ℕ
  pub endpoint : ℕ
  pub allowance : ℕ
  pub badge : ℕ
  pub code : ℕ
  pub count : ℕ
  pub looks : List NamedLook
  pub reports : Option Reported
  pub before : Waiting
  pub behind : Waiting

-- Who has to do with which abort: "the set of all threads working on its abort" of each endpoint, in the order of their
-- coming; and the note that each thread has, of an abort that ended by another's call.
pub record Debts : Type 0 where
  pub members : ℕ → List ℕ
  pub notes : ℕ → Option Reported

-- The aborts of a list: the one that stands at each endpoint, those that have ended, the latest first, who has to do
-- with them, and the looks that belong to none.
pub record Aborts : Type 0 where
  pub standing : ℕ → Option Aborting
  pub ended : List Ended
  pub debts : Debts
  pub stray : List ℕ

-- What a call did: its place; who waited before it by the history, by thread and by name; who waits after it by the
-- history, and by the machine's own queues; whom it handed what; and what the threads' blocks tell after it, by the
-- history and by the machine.
pub record Step : Type 0 where
  pub place : ℕ
  pub before : Queues
  pub was : Waiting
  pub kept : Waiting
  pub found : Waiting
  pub handed : ℕ → Option Message
  pub kept_blocks : ℕ → Block
  pub found_blocks : ℕ → Block

-- What the history keeps of who waits: the calls in order, the queues that they make, what the threads have been told,
-- and each call's doing, the latest first.
pub record Books : Type 0 where
  pub calls : List Call
  pub queued : Queues
  pub blocks : ℕ → Block
  pub steps : List Step

pub record History : Type 0 where
  -- the number of calls made, which is the place of the next
  pub now : ℕ
  -- in order
  pub answers : List Answer
  -- the name of the waiter that each thread is, if it waits
  pub since : ℕ → ℕ
  pub books : Books
  pub waiting : Waiting
  pub aborts : Aborts
  -- the latest first
  pub deliveries : List Delivery
  pub abort_calls : List AbortCall

abbrev pub is_in : ℕ → List ℕ → Bool
is_in w [] = false
is_in w (x ∷ l) = eqb w x || is_in w l

-- Names

-- A call 7, 8 or 10 answered 1 makes its caller a waiter.
abbrev pub queues? : Sort → ℕ → Bool
queues? other code = false
queues? (destroys t) code = false
queues? waits code = eqb code 1
queues? (receives e) code = eqb code 1
queues? yields code = false
queues? (removes e) code = false
queues? (looks e a b) code = false

unfoldable pub named : Bool → Option ℕ → ℕ → (ℕ → ℕ) → ℕ → ℕ
named false caller n since = since
named true none n since = since
named true (some t) n since = put since t n

-- The call is a call 7.
abbrev pub is_send : Option Call → Bool
is_send none = false
is_send (some c) = eqb (number_of c) 7

abbrev pub name_of : (ℕ → ℕ) → Option ℕ → Option ℕ
name_of since none = none
name_of since (some t) = some (since t)

-- Who waits, by name: a message is queued by a call 7.
abbrev pub waiting_by : (ℕ → ℕ) → List Call → Queues → Waiting
waiting_by since calls k =
    record {
      queues = λ e. map since (k.queues e);
      messages = λ e. only (λ w. is_send (get_elem? calls w)) (map since (k.queues e));
      lines = λ l. name_of since (k.lines l);
    }

abbrev pub line_name : (ℕ → ℕ) → Line → Option ℕ
line_name since quiet = none
line_name since pending = none
line_name since (awaited t) = some (since t)

abbrev pub waiting_in : (ℕ → ℕ) → State → Waiting
waiting_in since s =
    record {
      queues = λ e. map since (s.endpoints e).waiters;
      messages = λ e. map since (senders s.threads (s.endpoints e).waiters);
      lines = λ l. line_name since (s.lines l);
    }

abbrev pub named_looks : (ℕ → ℕ) → List Look → List NamedLook
named_looks since [] = []
named_looks since (x ∷ l) = record { waiter = since x.waiter; removed = x.removed } ∷ named_looks since l
