-- Who waits where, kept from calls, answers, callers and looks alone: "queued by a call 7 answered 1 … until a receive
-- takes it, an abort or delete removes its waiter or its thread is destroyed".
use Rattle.std.specs.Prelude.{ℕ, zero, suc, ◌≡◌, Bool, true, false, ◌&&◌, not, List, [], ◌∷◌, ◌++◌, eqb, drop}
use Rattle.std.proofs.Math.Option.{Option, none, some}
use Rattle.calls.specs.declared.Answer.{Answer}
use Rattle.calls.specs.declared.Call.{Call}
use Rattle.calls.specs.declared.Call.TheVariants.{CreateThread, DestroyThread, SetPriority, CreateEndpoint}
use Rattle.calls.specs.declared.Call.TheVariants.{Interrupt, Tick, Send, Receive, Yield, Wait, Delete, Abort}
use Rattle.calls.specs.declared.Call.TheVariants.{Grant}
use Rattle.machine.specs.Lists.{pick, put, without, first}
use Rattle.machine.specs.State.{State, Thread, Line, quiet, pending, awaited, message_received}
use Rattle.machine.specs.Results.{Look}
use Rattle.calls.specs.Answers.{plain, is_accepted}
use Rattle.machine.specs.Machine.{is_able}

-- The threads queued at each endpoint, in order of coming, and who waits on each line.
pub record Queues : Type 0 where
  pub queues : ℕ → List ℕ
  pub lines : ℕ → Option ℕ

abbrev pub nobody_queued : Queues
nobody_queued = record { queues = λ e. []; lines = λ l. none }

-- With this queue at e; with this one waiting on line l.
abbrev pub queue_at : ℕ → List ℕ → Queues → Queues
queue_at e q k = record { queues = put k.queues e q; lines = k.lines }

abbrev pub line_at : ℕ → Option ℕ → Queues → Queues
line_at l o k = record { queues = k.queues; lines = put k.lines l o }

-- The caller comes behind the others.
abbrev pub joined : Option ℕ → List ℕ → List ℕ
joined none q = q
joined (some t) q = q ++ (t ∷ [])

-- A call 7 or 8 answered 0 takes the first, answered 1 its caller joins; answered otherwise it does neither.
abbrev pub met : ℕ → Option ℕ → List ℕ → List ℕ
met zero o q = drop 1 q
met (suc zero) o q = joined o q
met (suc (suc n)) o q = q

-- A call 10 answered 1: its caller waits.
abbrev pub awaits : ℕ → Option ℕ → Option ℕ → Option ℕ
awaits zero o was = was
awaits (suc zero) o was = o
awaits (suc (suc n)) o was = was

-- The queue without those whom the looks removed.
abbrev pub looked_out : List Look → List ℕ → List ℕ
looked_out [] q = q
looked_out (x ∷ l) q = looked_out l (pick x.removed (without x.waiter q) q)

-- Thread t is destroyed: it waits nowhere.
abbrev pub unless : ℕ → Option ℕ → Option ℕ
unless t none = none
unless t (some u) = pick (eqb u t) none (some u)

abbrev pub gone : ℕ → Queues → Queues
gone t k = record { queues = λ e. without t (k.queues e); lines = λ l. unless t (k.lines l) }

-- An accepted call by this caller, with its answer and looks. Calls 2, 5, 7, 8, 10, 11 and 12 alone change who waits.
unfoldable pub queues_by : Call → Option ℕ → Answer → List Look → Queues → Queues
queues_by (CreateThread t p) o a looks k = k
queues_by (DestroyThread t) o a looks k = gone t k
queues_by (SetPriority t p) o a looks k = k
queues_by (CreateEndpoint e) o a looks k = k
queues_by (Interrupt l) o a looks k = line_at l none k
queues_by Tick o a looks k = k
queues_by (Send e b m) o a looks k = queue_at e (met a.code o (k.queues e)) k
queues_by (Receive e) o a looks k = queue_at e (met a.code o (k.queues e)) k
queues_by Yield o a looks k = k
queues_by (Wait l) o a looks k = line_at l (awaits a.code o (k.lines l)) k
queues_by (Delete e n) o a looks k = queue_at e (drop a.count (k.queues e)) k
queues_by (Abort e n b) o a looks k = queue_at e (looked_out looks (k.queues e)) k
queues_by (Grant t e r b) o a looks k = k

-- A refused call changes nothing.
unfoldable pub queues_if : Bool → Call → Option ℕ → Answer → List Look → Queues → Queues
queues_if true c o a looks k = queues_by c o a looks k
queues_if false c o a looks k = k

abbrev pub queues_after : Call → Option ℕ → Answer → List Look → Queues → Queues
queues_after c o a looks k = queues_if (is_accepted a) c o a looks k

-- The machine's own.
abbrev pub waiter_on : Line → Option ℕ
waiter_on quiet = none
waiter_on pending = none
waiter_on (awaited t) = some t

abbrev pub queues_in : State → Queues
queues_in s = record { queues = λ e. (s.endpoints e).waiters; lines = λ l. waiter_on (s.lines l) }

-- A message in a thread's block, with its badge.
pub record Message : Type 0 where
  pub badge : ℕ
  pub message : ℕ

-- The block has a message: outcome 2, and the thread is not blocked.
abbrev pub has_message : Thread → Bool
has_message x = is_able x.place && eqb x.outcome message_received

-- What a thread is handed by a call, by its blocks before and after it: whoever has outcome 2 after it, and before it
-- was blocked or did not have outcome, badge and message so.
abbrev pub handed_to : Thread → Thread → Option Message
handed_to x y =
    pick
    (eqb y.outcome message_received
    && not (has_message x && (eqb x.badge y.badge && eqb x.message y.message)))
    (some (record { badge = y.badge; message = y.message })) none

-- The call hands thread t the message: it is a call 7 answered 0, the message and badge are its own, and t is the one
-- that was queued longest there.
pub record Gives (c : Call) (a : Answer) (k : Queues) (t : ℕ) (n : Message) : Type 0 where
  pub endpoint : ℕ
  pub own : c ≡ Send endpoint n.badge n.message
  pub done : a ≡ plain 0
  pub longest : first (k.queues endpoint) ≡ some t
