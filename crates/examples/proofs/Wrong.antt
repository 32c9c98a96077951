-- Machines that go wrong, each in one thing, for the claim and other statements to be tried on.
use Prim.Native.Nat.{ℕ}
use mathlib.Core.Bool.{true}
use mathlib.Core.Option.{Option, none, some}
use mathlib.Core.List.{List, [], ◌∷◌}
use lib.Dec.{eqb}
use Rattle.calls.specs.declared.Answer.{Answer}
use Rattle.calls.specs.declared.Call.{Call}
use Rattle.calls.specs.declared.Call.TheVariants.{CreateThread, DestroyThread, SetPriority, CreateEndpoint}
use Rattle.calls.specs.declared.Call.TheVariants.{Interrupt, Tick, Send, Receive, Yield, Wait, Delete, Abort}
use Rattle.calls.specs.declared.Call.TheVariants.{Grant}
use Rattle.calls.specs.Calls.{number_of}
use Rattle.machine.specs.Lists.{pick, first}
use Rattle.machine.specs.State.{State, Place, absent, able, sending, receiving, waiting, noted, Status, missing}
use Rattle.machine.specs.State.{live, closing, Abort as Standing, Endpoint, set_thread, with_ticks, with_debt}
use Rattle.machine.specs.State.{with_place}
use Rattle.machine.specs.Endpoints.{senders, under_abort, pending_of, set_abort, leave_endpoint, drop_debt}
use Rattle.machine.specs.Results.{Look, Result, refuse}
use Rattle.calls.specs.Answers.{counted, is_accepted}
use Rattle.machine.specs.Grants.{Grants, barred}
use Rattle.machine.specs.Aborts.{abort}
use Rattle.machine.specs.Machine.{receive_from, receive_at, by_caller, step}

-- Another result for a call 12, a call 8 or a call 2; the result given for the others.
abbrev pub instead12 : (ℕ → ℕ → ℕ → Result) → Call → Result → Result
instead12 f (CreateThread t p) r = r
instead12 f (DestroyThread t) r = r
instead12 f (SetPriority t p) r = r
instead12 f (CreateEndpoint e) r = r
instead12 f (Interrupt l) r = r
instead12 f Tick r = r
instead12 f (Send e b m) r = r
instead12 f (Receive e) r = r
instead12 f Yield r = r
instead12 f (Wait l) r = r
instead12 f (Delete e a) r = r
instead12 f (Abort e a b) r = f e a b
instead12 f (Grant t e k b) r = r

abbrev instead8 : (ℕ → Result) → Call → Result → Result
instead8 f (CreateThread t p) r = r
instead8 f (DestroyThread t) r = r
instead8 f (SetPriority t p) r = r
instead8 f (CreateEndpoint e) r = r
instead8 f (Interrupt l) r = r
instead8 f Tick r = r
instead8 f (Send e b m) r = r
instead8 f (Receive e) r = f e
instead8 f Yield r = r
instead8 f (Wait l) r = r
instead8 f (Delete e a) r = r
instead8 f (Abort e a b) r = r
instead8 f (Grant t e k b) r = r

abbrev instead2 : (ℕ → Result) → Call → Result → Result
instead2 f (CreateThread t p) r = r
instead2 f (DestroyThread t) r = f t
instead2 f (SetPriority t p) r = r
instead2 f (CreateEndpoint e) r = r
instead2 f (Interrupt l) r = r
instead2 f Tick r = r
instead2 f (Send e b m) r = r
instead2 f (Receive e) r = r
instead2 f Yield r = r
instead2 f (Wait l) r = r
instead2 f (Delete e a) r = r
instead2 f (Abort e a b) r = r
instead2 f (Grant t e k b) r = r

-- 29 all the same.
abbrev unless_barred : Grants → Call → (State → Result) → State → Result
unless_barred g c f s = pick (barred s.runs g c) (refuse 29 s) (f s)

-- The state or the answer of a result changed.
abbrev pub with_state : State → Result → Result
with_state s r = record { state = s; answer = r.answer; looks = r.looks }

abbrev with_answer : Answer → Result → Result
with_answer a r = record { state = r.state; answer = a; looks = r.looks }

abbrev with_pending : List ℕ → Option Standing → Option Standing
with_pending l none = none
with_pending l (some a) = some (record { badge = a.badge; pending = l })

-- It works in an abort's first call and afterwards only answers 0.
unfoldable pub idler : Grants → State → Call → Result
idler g s c =
    instead12
    (λ e a b.
    pick (under_abort b (s.endpoints e).abort) (record { state = s; answer = counted 0 0; looks = [] })
    (step g s (Abort e a b)))
    c (step g s c)

-- It removes whoever it looks at, as if all sent under the aborted badge.
unfoldable pub remover : Grants → State → Call → Result
remover g s c =
    instead12
    (λ e a b.
    step g
    (record {
      threads = λ t. with_place (s.threads t).place (s.threads t).outcome b (s.threads t).message (s.threads t);
      runs = s.runs;
      levels = s.levels;
      endpoints = s.endpoints;
      lines = s.lines;
    })
    (Abort e a b))
    c (step g s c)

-- Its count, where it accepts, is the allowance.
abbrev copied : ℕ → Result → Result
copied a r = with_answer (pick (is_accepted r.answer) (counted r.answer.code a) r.answer) r

unfoldable pub copier : Grants → State → Call → Result
copier g s c = instead12 (λ e a b. copied a (step g s (Abort e a b))) c (step g s c)

-- It answers 0 where it should answer 2: with work left.
abbrev boasted : Result → Result
boasted r = with_answer (pick (eqb r.answer.code 2) (counted 0 r.answer.count) r.answer) r

unfoldable pub boaster : Grants → State → Call → Result
boaster g s c = instead12 (λ e a b. boasted (step g s (Abort e a b))) c (step g s c)

-- It receives from an endpoint that is closing as from a live one.
unfoldable pub taker : Grants → State → Call → Result
taker g s c = instead8 (λ e. unless_barred g c (by_caller s.runs (λ t. receive_at live t e)) s) c (step g s c)

-- A destroyed thread stays the end mark, and an abort goes on from its cursor to wherever the mark then stands.
abbrev from : ℕ → List ℕ → List ℕ
from t [] = []
from t (x ∷ l) = pick (eqb x t) (x ∷ l) (from t l)

abbrev through : ℕ → List ℕ → List ℕ
through t [] = []
through t (x ∷ l) = pick (eqb x t) (x ∷ []) (x ∷ through t l)

abbrev last_of : ℕ → List ℕ → ℕ
last_of t [] = t
last_of t (x ∷ l) = last_of x l

abbrev span : List ℕ → List ℕ → List ℕ
span [] waiters = []
span (x ∷ l) waiters = through (last_of x l) (from x waiters)

abbrev marked : (ℕ → Endpoint) → (ℕ → Endpoint) → ℕ → Endpoint
marked f g e =
    record {
      status = (g e).status;
      waiters = (g e).waiters;
      abort = with_pending (pending_of (f e).abort) (g e).abort;
    }

abbrev with_marks : State → State → State
with_marks s r =
    record {
      threads = r.threads;
      runs = r.runs;
      levels = r.levels;
      endpoints = marked s.endpoints r.endpoints;
      lines = r.lines;
    }

-- Its abort goes on to look at a destroyed thread.
unfoldable pub ghost : Grants → State → Call → Result
ghost g s c =
    instead2 (λ t. with_state (with_marks s (step g s (DestroyThread t)).state) (step g s (DestroyThread t))) c
    (step g s c)

unfoldable pub marker : Grants → State → Call → Result
marker g s c =
    instead12
    (λ e a b.
    step g
    (set_abort e
    (with_pending (span (pending_of (s.endpoints e).abort) (s.endpoints e).waiters) (s.endpoints e).abort) s)
    (Abort e a b))
    c
    (ghost g s c)

-- The cursor does not move from a kept waiter at which the call is broken off.
abbrev again : List Look → List ℕ → List ℕ
again [] l = l
again (v ∷ []) l = pick v.removed l (v.waiter ∷ l)
again (v ∷ (u ∷ k)) l = again (u ∷ k) l

abbrev unmoved : ℕ → Result → Result
unmoved e r =
    pick (eqb r.answer.code 2)
    (with_state
    (set_abort e
    (with_pending (again r.looks (pending_of (r.state.endpoints e).abort)) (r.state.endpoints e).abort)
    r.state) r) r

unfoldable pub repeater : Grants → State → Call → Result
repeater g s c = instead12 (λ e a b. unmoved e (step g s (Abort e a b))) c (step g s c)

-- Its call 12, refused because nobody runs, takes the first waiter from the queue, whatever its badge, and logs a look
-- that removed it.
abbrev stolen : ℕ → List ℕ → State → Result
stolen e [] s = refuse 20 s
stolen e (w ∷ l) s =
    record {
      state = leave_endpoint w e s;
      answer = counted 20 1;
      looks = record { waiter = w; removed = true } ∷ [];
    }

abbrev stealing : Option ℕ → ℕ → ℕ → ℕ → Grants → State → Result
stealing none e a b g s = stolen e (s.endpoints e).waiters s
stealing (some t) e a b g s = step g s (Abort e a b)

unfoldable pub thief : Grants → State → Call → Result
thief g s c = instead12 (λ e a b. stealing s.runs e a b g s) c (step g s c)

-- Broken off, it gives the caller a note, and so answers 0 at the next call, with work left.
abbrev pub note_for : Option ℕ → ℕ → ℕ → State → State
note_for none e b s = s
note_for (some t) e b s = set_thread t (with_debt (noted e b) (s.threads t)) s

unfoldable pub noter : Grants → State → Call → Result
noter g s c =
    instead12
    (λ e a b.
    pick (eqb (step g s (Abort e a b)).answer.code 2)
    (with_state (note_for s.runs e b (step g s (Abort e a b)).state) (step g s (Abort e a b)))
    (step g s (Abort e a b)))
    c (step g s c)

-- A receive takes the sender who came last.
abbrev reversed : List ℕ → List ℕ → List ℕ
reversed [] k = k
reversed (x ∷ l) k = reversed l (x ∷ k)

abbrev receive_last : ℕ → ℕ → State → Result
receive_last e t s =
    receive_from (first (reversed (senders s.threads (s.endpoints e).waiters) [])) t e (drop_debt t s)

unfoldable pub lifo : Grants → State → Call → Result
lifo g s c = instead8 (λ e. unless_barred g c (by_caller s.runs (receive_last e)) s) c (step g s c)

-- Its senders stand in the queue as receivers: no abort finds them.
abbrev hidden : Place → Place
hidden absent = absent
hidden able = able
hidden (sending e) = receiving e
hidden (receiving e) = receiving e
hidden (waiting l) = waiting l

abbrev hiding : State → State
hiding s =
    record {
      threads =
          λ t.
          with_place (hidden (s.threads t).place) (s.threads t).outcome (s.threads t).badge (s.threads t).message
          (s.threads t);
      runs = s.runs;
      levels = s.levels;
      endpoints = s.endpoints;
      lines = s.lines;
    }

unfoldable pub hider : Grants → State → Call → Result
hider g s c = with_state (hiding (step g s c).state) (step g s c)

-- It tries 23 and 25 before the note.
abbrev late : Status → ℕ → ℕ → ℕ → ℕ → State → Result
late missing e a b t s = refuse 23 s
late closing e a b t s = refuse 25 s
late live e a b t s = abort t e a b s

unfoldable pub latecomer : Grants → State → Call → Result
latecomer g s c =
    instead12 (λ e a b. unless_barred g c (by_caller s.runs (late (s.endpoints e).status e a b)) s) c (step g s c)

-- A yield gives its caller 5 ticks.
abbrev refilled : Option ℕ → State → State
refilled none s = s
refilled (some t) s = set_thread t (with_ticks 5 (s.threads t)) s

unfoldable pub refiller : Grants → State → Call → Result
refiller g s c =
    pick (eqb (number_of c) 9) (with_state (refilled s.runs (step g s c).state) (step g s c)) (step g s c)
