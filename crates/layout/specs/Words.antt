-- The memory that shows a state: what each word holds.
use Rattle.std.specs.Prelude.{ℕ, zero, suc, ◌+◌, ◌-◌, Bool, List, [], ◌∷◌, eqb, ltb}
use Rattle.std.proofs.Math.Option.{Option, none, some}
use Rattle.machine.specs.Lists.{pick}
use Rattle.machine.specs.State.{State, Thread, Place, absent, able, sending, receiving, waiting, Debt, nothing, works}
use Rattle.machine.specs.State.{noted, Abort, Status, missing, live, closing, Endpoint, Line, quiet, pending, awaited}
use Rattle.machine.specs.Scheduling.{occupied}
use Rattle.machine.specs.Endpoints.{pending_of}
use Rattle.summary.specs.Levels.{word_of, top_of}
use Rattle.layout.specs.declared.Field.{Field}
use Rattle.layout.specs.declared.Part.{Part}
use Rattle.layout.specs.declared.Slot.{Slot}
use Rattle.layout.specs.declared.Link.{Link}
use Rattle.layout.specs.Addresses.{Name, slot, link, name_of, table_words, endpoint_queue}

-- None is 0, and thread t is t + 1.
abbrev pub link_of : Option ℕ → ℕ
link_of none = 0
link_of (some t) = suc t

-- The link to the first of a queue; the link to the last of a queue that begins behind link x.
abbrev pub first_of : List ℕ → ℕ
first_of [] = 0
first_of (t ∷ l) = suc t

abbrev pub last_of : ℕ → List ℕ → ℕ
last_of x [] = x
last_of x (t ∷ l) = last_of (suc t) l

-- The link to the one after t, and to the one before t in a queue that begins behind link x; 0 for none.
unfoldable pub after_in : ℕ → List ℕ → ℕ
after_in t [] = 0
after_in t (u ∷ l) = pick (eqb u t) (first_of l) (after_in t l)

unfoldable pub before_in : ℕ → ℕ → List ℕ → ℕ
before_in x t [] = 0
before_in x t (u ∷ l) = pick (eqb u t) x (before_in (suc u) t l)

-- 0 absent, 1 able, 2 + e sending, 66 + e receiving, 130 + l waiting.
abbrev pub place_code : Place → ℕ
place_code absent = 0
place_code able = 1
place_code (sending e) = 2 + e
place_code (receiving e) = 66 + e
place_code (waiting l) = 130 + l

-- 0 nothing, 1 + e member, 65 + e note.
abbrev pub debt_code : Debt → ℕ
debt_code nothing = 0
debt_code (works e) = 1 + e
debt_code (noted e b) = 65 + e

abbrev pub note_code : Debt → ℕ
note_code nothing = 0
note_code (works e) = 0
note_code (noted e b) = b

-- 0 missing, 1 live, 2 closing.
abbrev pub status_code : Status → ℕ
status_code missing = 0
status_code live = 1
status_code closing = 2

-- 0 quiet, 1 pending, 2 + t awaited.
abbrev pub line_code : Line → ℕ
line_code quiet = 0
line_code pending = 1
line_code (awaited t) = suc (suc t)

abbrev pub abort_code : Option Abort → ℕ
abort_code none = 0
abort_code (some a) = 1

abbrev pub badge_code : Option Abort → ℕ
badge_code none = 0
badge_code (some a) = a.badge

abbrev pub thread_word : Thread → Field → ℕ
thread_word x Field.Place = place_code x.place
thread_word x Field.Priority = x.priority
thread_word x Field.Ticks = x.ticks
thread_word x Field.Outcome = x.outcome
thread_word x Field.Badge = x.badge
thread_word x Field.Message = x.message
thread_word x Field.Owes = debt_code x.debt
thread_word x Field.Note = note_code x.debt

abbrev pub endpoint_word : Endpoint → Part → ℕ
endpoint_word x Part.Status = status_code x.status
endpoint_word x Part.Aborting = abort_code x.abort
endpoint_word x Part.Aborted = badge_code x.abort
endpoint_word x Part.Cursor = first_of (pending_of x.abort)
endpoint_word x Part.End = last_of 0 (pending_of x.abort)

-- The levels with a ready thread.
abbrev pub occupied_in : State → ℕ → Bool
occupied_in s p = occupied (s.levels p)

-- What a word that is no link holds.
abbrev pub content : State → Slot → ℕ
content s (Slot.Thread f t) = thread_word (s.threads t) f
content s (Slot.Endpoint p e) = endpoint_word (s.endpoints e) p
content s (Slot.Line l) = line_code (s.lines l)
content s (Slot.Summary w) = word_of (occupied_in s) w
content s Slot.Top = top_of (occupied_in s)
content s Slot.Running = link_of s.runs
content s (Slot.Unused i) = 0

-- The queues of a state: those of the levels, then those of the endpoints.
unfoldable pub queues_of : State → ℕ → List ℕ
queues_of s q = pick (ltb q (endpoint_queue 0)) (s.levels q) (s.endpoints (q - endpoint_queue 0)).waiters

-- The queue that a thread's place and priority name, in which it stands if it stands in one.
abbrev pub queue_at : State → Place → ℕ → List ℕ
queue_at s absent p = []
queue_at s able p = s.levels p
queue_at s (sending e) p = (s.endpoints e).waiters
queue_at s (receiving e) p = (s.endpoints e).waiters
queue_at s (waiting l) p = []

unfoldable pub queue_of : State → ℕ → List ℕ
queue_of s t = queue_at s (s.threads t).place (s.threads t).priority

-- What a link holds; a thread in no queue has links 0.
abbrev pub link_word : State → Link → ℕ
link_word s (Link.Next t) = after_in t (queue_of s t)
link_word s (Link.Prev t) = before_in 0 t (queue_of s t)
link_word s (Link.Head q) = first_of (queues_of s q)
link_word s (Link.Tail q) = last_of 0 (queues_of s q)

abbrev pub word_at : State → Name → ℕ
word_at s (slot a) = content s a
word_at s (link k) = link_word s k

-- f 0, f 1 and so on, n numbers.
unfoldable pub tabulate : ℕ → (ℕ → ℕ) → List ℕ
tabulate zero f = []
tabulate (suc n) f = f 0 ∷ tabulate n (λ i. f (suc i))

-- The memory of a state.
unfoldable pub image : State → List ℕ
image s = tabulate table_words (λ i. word_at s (name_of i))
