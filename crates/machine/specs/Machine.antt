-- The queue machine: what each of the thirteen calls does to a state, and what it answers.
use Rattle.std.specs.Prelude.{ℕ, zero, suc, ◌-◌, Bool, true, false, ◌&&◌, not, [], eqb}
use Rattle.std.proofs.Math.Option.{Option, none, some}
use Rattle.calls.specs.declared.Call.{Call}
use Rattle.calls.specs.declared.Call.TheVariants.{CreateThread, DestroyThread, SetPriority, CreateEndpoint}
use Rattle.calls.specs.declared.Call.TheVariants.{Interrupt, Tick, Send, Receive, Yield, Wait, Delete, Abort}
use Rattle.calls.specs.declared.Call.TheVariants.{Grant}
use Rattle.calls.specs.Calls.{in_range}
use Rattle.machine.specs.Lists.{first}
use Rattle.machine.specs.State.{State, Place, absent, able, sending, receiving, waiting, nothing, Status}
use Rattle.machine.specs.State.{missing, live, closing, Line, quiet, pending, awaited, absent_thread, set_thread}
use Rattle.machine.specs.State.{set_runs, set_endpoint, set_line, with_priority, with_ticks, message_taken}
use Rattle.machine.specs.State.{message_received, line_fired, turn_ticks}
use Rattle.machine.specs.Scheduling.{enqueue, unqueue, stand_down, wake, block}
use Rattle.machine.specs.Endpoints.{senders, receivers, under_abort, join_endpoint, leave_endpoint, wake_from}
use Rattle.machine.specs.Endpoints.{drop_debt}
use Rattle.machine.specs.Results.{Result, accept, done, blocked, refuse}
use Rattle.calls.specs.Answers.{receipt}
use Rattle.machine.specs.Grants.{Grants, barred, grants_after}
use Rattle.machine.specs.Aborts.{delete, abort}

abbrev pub is_absent : Place → Bool
is_absent absent = true
is_absent able = false
is_absent (sending e) = false
is_absent (receiving e) = false
is_absent (waiting l) = false

abbrev pub is_able : Place → Bool
is_able absent = false
is_able able = true
is_able (sending e) = false
is_able (receiving e) = false
is_able (waiting l) = false

abbrev pub is_running : ℕ → Option ℕ → Bool
is_running t none = false
is_running t (some u) = eqb u t

-- 1: a thread starts with 5 ticks and outcome 0, and joins its tail.
unfoldable pub create_if : Bool → ℕ → ℕ → State → Result
create_if false t p s = refuse 22 s
create_if true t p s =
    done (enqueue t
    (set_thread t
    (record { place = able; priority = p; ticks = turn_ticks; outcome = 0; badge = 0; message = 0; debt = nothing }) s))

unfoldable pub create_thread : ℕ → ℕ → State → Result
create_thread t p s = create_if (is_absent (s.threads t).place) t p s

-- 2: a destroyed thread leaves any queue or line.
unfoldable pub leave_ready : Bool → ℕ → State → State
leave_ready true t s = set_runs none s
leave_ready false t s = unqueue t s

unfoldable pub leave : Place → ℕ → State → State
leave absent t s = s
leave able t s = leave_ready (is_running t s.runs) t s
leave (sending e) t s = leave_endpoint t e s
leave (receiving e) t s = leave_endpoint t e s
leave (waiting l) t s = set_line l quiet s

unfoldable pub destroy_if : Bool → ℕ → State → Result
destroy_if true t s = refuse 21 s
destroy_if false t s = done (set_thread t absent_thread (leave (s.threads t).place t (drop_debt t s)))

unfoldable pub destroy_thread : ℕ → State → Result
destroy_thread t s = destroy_if (is_absent (s.threads t).place) t s

-- 3: a changed priority moves a ready thread to the new tail; the same priority changes nothing.
unfoldable pub move_ready : Bool → ℕ → ℕ → State → State
move_ready true t p s = enqueue t (set_thread t (with_priority p (s.threads t)) (unqueue t s))
move_ready false t p s = set_thread t (with_priority p (s.threads t)) s

unfoldable pub change_unless : Bool → ℕ → ℕ → State → State
change_unless true t p s = s
change_unless false t p s = move_ready (is_able (s.threads t).place && not (is_running t s.runs)) t p s

unfoldable pub priority_if : Bool → ℕ → ℕ → State → Result
priority_if true t p s = refuse 21 s
priority_if false t p s = done (change_unless (eqb (s.threads t).priority p) t p s)

unfoldable pub set_priority : ℕ → ℕ → State → Result
set_priority t p s = priority_if (is_absent (s.threads t).place) t p s

-- 4: an endpoint that is absent is made, with nobody queued.
unfoldable pub create_at : Status → ℕ → State → Result
create_at missing e s = done (set_endpoint e (record { status = live; waiters = []; abort = none }) s)
create_at live e s = refuse 24 s
create_at closing e s = refuse 24 s

unfoldable pub create_endpoint : ℕ → State → Result
create_endpoint e s = create_at (s.endpoints e).status e s

-- 5: a waiter on the line is woken, with outcome 5; otherwise the line is pending.
unfoldable pub fire : Line → ℕ → State → State
fire quiet l s = set_line l pending s
fire pending l s = s
fire (awaited t) l s = wake t line_fired 0 0 (set_line l quiet s)

unfoldable pub interrupt : ℕ → State → Result
interrupt l s = done (fire (s.lines l) l s)

-- 6: a tick takes one from the running thread; at 0 it has 5 again and goes to its tail.
unfoldable pub leave_ticks : ℕ → ℕ → State → State
leave_ticks zero t s = stand_down t (set_thread t (with_ticks turn_ticks (s.threads t)) s)
leave_ticks (suc n) t s = set_thread t (with_ticks (suc n) (s.threads t)) s

unfoldable pub tick_for : Option ℕ → State → State
tick_for none s = s
tick_for (some t) s = leave_ticks ((s.threads t).ticks - 1) t s

unfoldable pub tick : State → Result
tick s = done (tick_for s.runs s)

-- 7: send hands to the first receiver, which is woken with outcome 2, else the caller t blocks at the tail.
unfoldable pub send_to : Option ℕ → ℕ → ℕ → ℕ → ℕ → State → Result
send_to none t e b m s = blocked (block t (sending e) b m (join_endpoint t e s))
send_to (some r) t e b m s = done (wake_from e r message_received b m s)

unfoldable pub send_unless : Bool → ℕ → ℕ → ℕ → ℕ → State → Result
send_unless true t e b m s = refuse 26 s
send_unless false t e b m s =
    send_to (first (receivers s.threads (s.endpoints e).waiters)) t e b m (drop_debt t s)

unfoldable pub send_at : Status → ℕ → ℕ → ℕ → ℕ → State → Result
send_at missing t e b m s = refuse 23 s
send_at closing t e b m s = refuse 25 s
send_at live t e b m s = send_unless (under_abort b (s.endpoints e).abort) t e b m s

unfoldable pub send : ℕ → ℕ → ℕ → ℕ → State → Result
send t e b m s = send_at (s.endpoints e).status t e b m s

-- 8: receive takes the first sender, which is woken with outcome 1, else the caller t blocks.
unfoldable pub receive_from : Option ℕ → ℕ → ℕ → State → Result
receive_from none t e s = blocked (block t (receiving e) 0 0 (join_endpoint t e s))
receive_from (some u) t e s =
    accept (receipt (s.threads u).badge (s.threads u).message) []
    (wake_from e u message_taken 0 0 s)

unfoldable pub receive_at : Status → ℕ → ℕ → State → Result
receive_at missing t e s = refuse 23 s
receive_at closing t e s = refuse 25 s
receive_at live t e s = receive_from (first (senders s.threads (s.endpoints e).waiters)) t e (drop_debt t s)

unfoldable pub receive : ℕ → ℕ → State → Result
receive t e s = receive_at (s.endpoints e).status t e s

-- 9: yield puts the caller t at its tail.
unfoldable pub yield : ℕ → State → Result
yield t s = done (stand_down t (drop_debt t s))

-- 10: pending is cleared and the answer is 0; else the caller t blocks.
unfoldable pub wait_at : Line → ℕ → ℕ → State → Result
wait_at quiet t l s = blocked (block t (waiting l) 0 0 (set_line l (awaited t) (drop_debt t s)))
wait_at pending t l s = done (set_line l quiet (drop_debt t s))
wait_at (awaited u) t l s = refuse 27 s

unfoldable pub wait : ℕ → ℕ → State → Result
wait t l s = wait_at (s.lines l) t l s

-- 13: thread and endpoint must be there; what is granted stands in the grants.
unfoldable pub grant_at : Status → State → Result
grant_at missing s = refuse 23 s
grant_at live s = done s
grant_at closing s = done s

unfoldable pub grant_if : Bool → ℕ → State → Result
grant_if true e s = refuse 21 s
grant_if false e s = grant_at (s.endpoints e).status s

unfoldable pub grant : ℕ → ℕ → State → Result
grant t e s = grant_if (is_absent (s.threads t).place) e s

-- The running thread makes calls 7 to 12.
abbrev pub by_caller : Option ℕ → (ℕ → State → Result) → State → Result
by_caller none f s = refuse 20 s
by_caller (some t) f s = f t s

-- A call whose numbers are in range.
unfoldable pub perform : Call → State → Result
perform (CreateThread t p) s = create_thread t p s
perform (DestroyThread t) s = destroy_thread t s
perform (SetPriority t p) s = set_priority t p s
perform (CreateEndpoint e) s = create_endpoint e s
perform (Interrupt l) s = interrupt l s
perform Tick s = tick s
perform (Send e b m) s = by_caller s.runs (λ t. send t e b m) s
perform (Receive e) s = by_caller s.runs (λ t. receive t e) s
perform Yield s = by_caller s.runs (λ t. yield t) s
perform (Wait l) s = by_caller s.runs (λ t. wait t l) s
perform (Delete e a) s = by_caller s.runs (λ t. delete t e a) s
perform (Abort e a b) s = by_caller s.runs (λ t. abort t e a b) s
perform (Grant t e r b) s = grant t e s

-- A missing right or wrong badge: 29, "tried right after 20".
unfoldable pub perform_unless : Bool → Call → State → Result
perform_unless true c s = refuse 29 s
perform_unless false c s = perform c s

unfoldable pub perform_if : Bool → Grants → Call → State → Result
perform_if true g c s = perform_unless (barred s.runs g c) c s
perform_if false g c s = refuse 19 s

-- The machine's step, under the grants.
unfoldable pub step : Grants → State → Call → Result
step g s c = perform_if (in_range c) g c s

-- The grants that it leaves.
abbrev pub grants_by : Grants → State → Call → Grants
grants_by g s c = grants_after (step g s c).answer c g
