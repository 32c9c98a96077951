-- Endpoint queues: who waits there, joining and leaving, and what ends an abort.
use Rattle.std.specs.Prelude.{ℕ, Bool, true, false, List, [], ◌∷◌, ◌++◌, eqb}
use Rattle.std.proofs.Math.Option.{Option, none, some}
use Rattle.machine.specs.Lists.{pick, below, without, only}
use Rattle.machine.specs.State.{State, Thread, Place, absent, able, sending, receiving, waiting, Debt, nothing}
use Rattle.machine.specs.State.{works, noted, Abort, Status, set_thread, set_endpoint, with_debt}
use Rattle.machine.specs.Scheduling.{wake}

abbrev pub is_sending : Place → Bool
is_sending absent = false
is_sending able = false
is_sending (sending e) = true
is_sending (receiving e) = false
is_sending (waiting l) = false

abbrev pub is_receiving : Place → Bool
is_receiving absent = false
is_receiving able = false
is_receiving (sending e) = false
is_receiving (receiving e) = true
is_receiving (waiting l) = false

-- The senders, and the receivers, among the waiters, in order of coming.
abbrev pub senders : (ℕ → Thread) → List ℕ → List ℕ
senders threads l = only (λ t. is_sending (threads t).place) l

abbrev pub receivers : (ℕ → Thread) → List ℕ → List ℕ
receivers threads l = only (λ t. is_receiving (threads t).place) l

-- The badge is under abort: the abort that stands is of this badge.
abbrev pub under_abort : ℕ → Option Abort → Bool
under_abort b none = false
under_abort b (some a) = eqb a.badge b

-- The waiters that the abort has still to look at.
abbrev pub pending_of : Option Abort → List ℕ
pending_of none = []
pending_of (some a) = a.pending

-- An abort stands.
abbrev pub is_aborting : Option Abort → Bool
is_aborting none = false
is_aborting (some a) = true

-- The debt is that of a member of the set at e.
abbrev pub works_at : ℕ → Debt → Bool
works_at e nothing = false
works_at e (works f) = eqb f e
works_at e (noted f b) = false

-- The members of the set at e, by their numbers.
abbrev pub members_of : ℕ → State → List ℕ
members_of e s = only (λ t. works_at e (s.threads t).debt) (below 256 [])

-- The abort without t to look at: if t was the cursor it passes to the next, if it was the end mark to the one before,
-- and if it was both nothing is left.
abbrev pub passing : ℕ → Option Abort → Option Abort
passing t none = none
passing t (some a) = some (record { badge = a.badge; pending = without t a.pending })

abbrev pub set_abort : ℕ → Option Abort → State → State
set_abort e a s =
    set_endpoint e
    (record { status = (s.endpoints e).status; waiters = (s.endpoints e).waiters; abort = a }) s

-- t joins the tail of the endpoint's queue.
unfoldable pub join_endpoint : ℕ → ℕ → State → State
join_endpoint t e s =
    set_endpoint e
    (record {
      status = (s.endpoints e).status;
      waiters = (s.endpoints e).waiters ++ (t ∷ []);
      abort = (s.endpoints e).abort;
    }) s

-- t leaves the endpoint's queue.
unfoldable pub leave_endpoint : ℕ → ℕ → State → State
leave_endpoint t e s =
    set_endpoint e
    (record {
      status = (s.endpoints e).status;
      waiters = without t (s.endpoints e).waiters;
      abort = passing t (s.endpoints e).abort;
    }) s

-- t leaves the endpoint's queue and is woken.
unfoldable pub wake_from : ℕ → ℕ → ℕ → ℕ → ℕ → State → State
wake_from e t outcome b m s = wake t outcome b m (leave_endpoint t e s)

-- t leaves the set that it is in, or its note goes.
unfoldable pub drop_debt : ℕ → State → State
drop_debt t s = set_thread t (with_debt nothing (s.threads t)) s

-- A member of the set at e gets the note that the abort of badge b ended there; whoever is none keeps what it has.
abbrev pub informed : ℕ → ℕ → Debt → Debt
informed e b nothing = nothing
informed e b (works f) = pick (eqb f e) (noted e b) (works f)
informed e b (noted f c) = noted f c

-- Each member of the set at e gets its note.
unfoldable pub note_all : ℕ → ℕ → State → State
note_all e b s =
    record {
      threads = λ t. with_debt (informed e b (s.threads t).debt) (s.threads t);
      runs = s.runs;
      levels = s.levels;
      endpoints = s.endpoints;
      lines = s.lines;
    }

unfoldable pub note : Option Abort → ℕ → State → State
note none e s = s
note (some a) e s = note_all e a.badge s

-- The abort at e, if one stands, ends, and the endpoint has the status given: one step, since a closing endpoint
-- has no abort.
unfoldable pub end_abort : Status → ℕ → State → State
end_abort status e s =
    set_endpoint e (record { status = status; waiters = (s.endpoints e).waiters; abort = none })
    (note (s.endpoints e).abort e s)
