-- The state read off any memory. Where a word makes no sense, anything in range stands for it: the image of the state
-- is then another memory. Nothing here has to be believed: state_of, for which it is, has its own theorem.
use Rattle.std.specs.Prelude.{ℕ, zero, suc, ◌-◌, ◌^◌, List, [], ◌∷◌, eqb, ltb, leb}
use Rattle.std.proofs.Math.Option.{Option, none, some}
use Rattle.machine.specs.Lists.{pick}
use Rattle.machine.specs.State.{State, Thread, Place, absent, able, sending, receiving, waiting, Debt, nothing, works}
use Rattle.machine.specs.State.{noted, Abort, live, closing, Endpoint, Line, quiet, pending, awaited, absent_thread}
use Rattle.machine.specs.State.{missing_endpoint, message_received}
use Rattle.layout.specs.declared.Field.{Field}
use Rattle.layout.specs.declared.Part.{Part}
use Rattle.layout.specs.declared.Slot.{Slot}
use Rattle.layout.specs.declared.Link.{Link}
use Rattle.layout.specs.Addresses.{at, link_at, word, endpoint_queue}
use Rattle.layout.specs.Words.{place_code, debt_code}

-- The number if it is at most the one given, otherwise 0.
unfoldable pub or_zero : ℕ → ℕ → ℕ
or_zero most w = pick (leb w most) w 0

-- The codes, read.
unfoldable pub linked : ℕ → Option ℕ
linked zero = none
linked (suc t) = pick (leb t 255) (some t) none

unfoldable pub ticks_of : ℕ → ℕ
ticks_of zero = 1
ticks_of (suc n) = suc (or_zero 4 n)

unfoldable pub place_of : ℕ → Place
place_of w =
    pick (eqb w (place_code absent)) absent
    (pick (eqb w (place_code able)) able
    (pick (ltb w (place_code (receiving 0))) (sending (or_zero 63 (w - place_code (sending 0))))
    (pick (ltb w (place_code (waiting 0))) (receiving (or_zero 63 (w - place_code (receiving 0))))
    (waiting (or_zero 31 (w - place_code (waiting 0)))))))

unfoldable pub debt_of : ℕ → ℕ → Debt
debt_of w b =
    pick (eqb w (debt_code nothing)) nothing
    (pick (ltb w (debt_code (noted 0 0))) (works (or_zero 63 (w - debt_code (works 0))))
    (noted (or_zero 63 (w - debt_code (noted 0 0))) (or_zero (2 ^ 28 - 1) b)))

unfoldable pub line_by : ℕ → Line
line_by zero = quiet
line_by (suc zero) = pending
line_by (suc (suc t)) = pick (leb t 255) (awaited t) quiet

-- A blocked thread's outcome is 0; badge and message stand only where a thread stores them.
unfoldable pub outcome_in : Place → ℕ → ℕ
outcome_in absent w = 0
outcome_in able w = or_zero 5 w
outcome_in (sending e) w = 0
outcome_in (receiving e) w = 0
outcome_in (waiting l) w = 0

unfoldable pub stored_in : Place → ℕ → ℕ → ℕ
stored_in absent o w = 0
stored_in able o w = pick (eqb o message_received) (or_zero (2 ^ 28 - 1) w) 0
stored_in (sending e) o w = or_zero (2 ^ 28 - 1) w
stored_in (receiving e) o w = 0
stored_in (waiting l) o w = 0

-- A thread from its words.
abbrev pub present_thread : Place → (Field → ℕ) → Thread
present_thread p w =
    record {
      place = p;
      priority = or_zero 255 (w Field.Priority);
      ticks = ticks_of (w Field.Ticks);
      outcome = outcome_in p (w Field.Outcome);
      badge = stored_in p (outcome_in p (w Field.Outcome)) (w Field.Badge);
      message = stored_in p (outcome_in p (w Field.Outcome)) (w Field.Message);
      debt = debt_of (w Field.Owes) (w Field.Note);
    }

abbrev pub thread_by : Place → (Field → ℕ) → Thread
thread_by absent w = absent_thread
thread_by able w = present_thread able w
thread_by (sending e) w = present_thread (sending e) w
thread_by (receiving e) w = present_thread (receiving e) w
thread_by (waiting l) w = present_thread (waiting l) w

unfoldable pub thread_from : (Field → ℕ) → Thread
thread_from w = thread_by (place_of (w Field.Place)) w

-- The threads of a queue from a link on, by their next words, n at most.
unfoldable pub followed : List ℕ → ℕ → ℕ → List ℕ
followed m zero x = []
followed m (suc n) zero = []
followed m (suc n) (suc t) = pick (leb t 255) (t ∷ followed m n (word m (link_at (Link.Next t)))) []

-- The part of a list from one link on, up to one link, and from the one to the other.
unfoldable pub since : ℕ → List ℕ → List ℕ
since x [] = []
since x (t ∷ l) = pick (eqb (suc t) x) (t ∷ l) (since x l)

unfoldable pub up_to : ℕ → List ℕ → List ℕ
up_to y [] = []
up_to y (t ∷ l) = t ∷ pick (eqb (suc t) y) [] (up_to y l)

unfoldable pub between : ℕ → ℕ → List ℕ → List ℕ
between x y l = up_to y (since x l)

-- An endpoint from its words and its queue.
unfoldable pub abort_by : ℕ → (Part → ℕ) → List ℕ → Option Abort
abort_by zero w l = none
abort_by (suc n) w l =
    some (record {
      badge = or_zero (2 ^ 28 - 1) (w Part.Aborted);
      pending = between (w Part.Cursor) (w Part.End) l;
    })

abbrev pub endpoint_by : ℕ → (Part → ℕ) → List ℕ → Endpoint
endpoint_by zero w l = missing_endpoint
endpoint_by (suc zero) w l = record { status = live; waiters = l; abort = abort_by (w Part.Aborting) w l }
endpoint_by (suc (suc n)) w l = record { status = closing; waiters = l; abort = none }

unfoldable pub endpoint_from : (Part → ℕ) → List ℕ → Endpoint
endpoint_from w l = endpoint_by (w Part.Status) w l

-- The queue whose head stands at an address.
abbrev pub queue_from : List ℕ → ℕ → List ℕ
queue_from m q = followed m 256 (word m (link_at (Link.Head q)))

-- Past the last index stand the empty entries.
unfoldable pub decode : List ℕ → State
decode m =
    record {
      threads = λ t. pick (leb t 255) (thread_from (λ f. word m (at (Slot.Thread f t)))) absent_thread;
      runs = linked (word m (at Slot.Running));
      levels = λ p. pick (leb p 255) (queue_from m p) [];
      endpoints = λ e.
          pick (leb e 63) (endpoint_from (λ p. word m (at (Slot.Endpoint p e))) (queue_from m (endpoint_queue e)))
          missing_endpoint;
      lines = λ l. pick (leb l 31) (line_by (word m (at (Slot.Line l)))) quiet;
    }
