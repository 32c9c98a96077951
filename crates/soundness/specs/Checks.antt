-- What the check tries of the words, test by test, as it goes through them. Nothing here has to be believed: that all
-- tests hold exactly where the memory shows a sound state is a theorem, and the check's promise speaks of that alone.
use Rattle.std.specs.Prelude.{ℕ, zero, suc, ◌-◌, ◌^◌, Bool, true, false, not, ◌&&◌, ◌||◌, List, [], ◌∷◌, eqb, leb, ltb}
use Rattle.machine.specs.Lists.{pick}
use Rattle.machine.specs.State.{absent, able, sending, receiving, waiting, works, noted, awaited, no_outcome}
use Rattle.machine.specs.State.{message_received, line_fired, turn_ticks}
use Rattle.summary.specs.Levels.{word_of, top_of}
use Rattle.layout.specs.declared.Field.{Field}
use Rattle.layout.specs.declared.Part.{Part}
use Rattle.layout.specs.declared.Slot.{Slot}
use Rattle.layout.specs.declared.Link.{Link}
use Rattle.layout.specs.Addresses.{at, link_at, word, after_at, before_at, endpoint_queue}
use Rattle.layout.specs.Words.{place_code, debt_code, line_code}
use Rattle.layout.specs.Tests.{all, member, same}
use Rattle.soundness.specs.declared.Phase.{Phase}

-- The words by name.
abbrev pub thread_at : List ℕ → Field → ℕ → ℕ
thread_at m f t = word m (at (Slot.Thread f t))

abbrev pub endpoint_at : List ℕ → Part → ℕ → ℕ
endpoint_at m p e = word m (at (Slot.Endpoint p e))

-- Blocks

-- An absent thread's words are 0.
unfoldable pub absent_test : List ℕ → ℕ → Bool
absent_test m t =
    eqb (thread_at m Field.Priority t) 0 && eqb (thread_at m Field.Ticks t) 0 && eqb (thread_at m Field.Outcome t) 0
    && eqb (thread_at m Field.Badge t) 0 && eqb (thread_at m Field.Message t) 0 && eqb (thread_at m Field.Owes t) 0
    && eqb (thread_at m Field.Note t) 0

-- A present thread's numbers are in range.
unfoldable pub numbers_test : List ℕ → ℕ → Bool
numbers_test m t =
    leb (thread_at m Field.Place t) (place_code (waiting 31)) && leb (thread_at m Field.Priority t) 255
    && (leb 1 (thread_at m Field.Ticks t) && leb (thread_at m Field.Ticks t) turn_ticks)
    && leb (thread_at m Field.Outcome t) line_fired && ltb (thread_at m Field.Badge t) (2 ^ 28)
    && ltb (thread_at m Field.Message t) (2 ^ 28)

-- A blocked thread's outcome is 0, and badge and message stand only where a thread stores them.
unfoldable pub stored_test : List ℕ → ℕ → Bool
stored_test m t =
    (eqb (thread_at m Field.Place t) (place_code able) || eqb (thread_at m Field.Outcome t) no_outcome)
    && (eqb (thread_at m Field.Outcome t) message_received
    || (leb (place_code (sending 0)) (thread_at m Field.Place t)
    && ltb (thread_at m Field.Place t) (place_code (receiving 0)))
    || (eqb (thread_at m Field.Badge t) 0 && eqb (thread_at m Field.Message t) 0))

-- A thread on a line is the line's waiter.
unfoldable pub waits_test : List ℕ → ℕ → Bool
waits_test m t =
    ltb (thread_at m Field.Place t) (place_code (waiting 0))
    || eqb (word m (at (Slot.Line (thread_at m Field.Place t - place_code (waiting 0))))) (line_code (awaited t))

-- What a thread owes: nothing, work on an abort that stands, or a note of a badge in range.
unfoldable pub owes_test : ℕ → List ℕ → ℕ → Bool
owes_test zero m t = eqb (thread_at m Field.Note t) 0
owes_test (suc w) m t =
    pick (leb (suc w) (debt_code (works 63)))
    (eqb (thread_at m Field.Note t) 0 && eqb (endpoint_at m Part.Aborting w) 1)
    (leb (suc w) (debt_code (noted 63 0)) && ltb (thread_at m Field.Note t) (2 ^ 28))

unfoldable pub present_test : List ℕ → ℕ → Bool
present_test m t = numbers_test m t && stored_test m t && waits_test m t && owes_test (thread_at m Field.Owes t) m t

unfoldable pub block_test : List ℕ → ℕ → Bool
block_test m t = pick (eqb (thread_at m Field.Place t) (place_code absent)) (absent_test m t) (present_test m t)

-- Queues of the levels

-- A thread ready at level p.
unfoldable pub ready_test : List ℕ → ℕ → ℕ → Bool
ready_test m p t =
    eqb (thread_at m Field.Place t) (place_code able) && eqb (thread_at m Field.Priority t) p
    && not (eqb (word m (at Slot.Running)) (suc t))

-- The queue of level p from link x on, n - 1 threads at most: each is linked back to the one before it and ready at p.
unfoldable pub level_from : ℕ → ℕ → List ℕ → ℕ → ℕ → Bool
level_from zero y m p x = false
level_from (suc n) zero m p x = eqb (word m (before_at p 0)) x
level_from (suc n) (suc t) m p x =
    (leb t 255 && eqb (word m (before_at p (suc t))) x && ready_test m p t)
    && level_from n (word m (after_at p (suc t))) m p (suc t)

unfoldable pub level_test : List ℕ → ℕ → Bool
level_test m p = level_from 257 (word m (after_at p 0)) m p 0

-- Queues of the endpoints

-- The phase of a walk through an abort's queue at link y, and behind it.
unfoldable pub phase_at : Phase → ℕ → ℕ → Phase
phase_at Phase.Ahead c y = pick (eqb y c) Phase.Inside Phase.Ahead
phase_at Phase.Inside c y = Phase.Inside
phase_at Phase.Past c y = Phase.Past

unfoldable pub phase_behind : Phase → ℕ → ℕ → Phase
phase_behind Phase.Ahead d y = Phase.Ahead
phase_behind Phase.Inside d y = pick (eqb y d) Phase.Past Phase.Inside
phase_behind Phase.Past d y = Phase.Past

-- No sender under the aborted badge stands outside; b is 2 ^ 28 where there is none.
unfoldable pub allowed : Phase → ℕ → ℕ → Bool
allowed Phase.Ahead b w = not (eqb w b)
allowed Phase.Inside b w = true
allowed Phase.Past b w = not (eqb w b)

-- At the end of the queue both marks have been met, or there are none.
unfoldable pub complete : Phase → ℕ → Bool
complete Phase.Ahead c = eqb c 0
complete Phase.Inside c = false
complete Phase.Past c = true

-- The queue q of an endpoint from link x on, whose threads have place k: with the phase behind x, the marks c and d,
-- and the badge b that may not stand outside them.
unfoldable pub waiters_from : ℕ → ℕ → Phase → List ℕ → ℕ → ℕ → ℕ → ℕ → ℕ → ℕ → Bool
waiters_from zero y f m q k c d b x = false
waiters_from (suc n) zero f m q k c d b x = eqb (word m (before_at q 0)) x && complete f c
waiters_from (suc n) (suc t) f m q k c d b x =
    (leb t 255 && eqb (word m (before_at q (suc t))) x && eqb (thread_at m Field.Place t) k
    && allowed (phase_at f c (suc t)) b (thread_at m Field.Badge t))
    && waiters_from n (word m (after_at q (suc t))) (phase_behind (phase_at f c (suc t)) d (suc t)) m q k c d b (suc t)

-- The place that all in the queue of endpoint e must have: that of its first, to send or to receive there.
unfoldable pub kind_of : ℕ → List ℕ → ℕ → ℕ
kind_of zero m e = place_code (sending e)
kind_of (suc t) m e = pick (leb t 255) (thread_at m Field.Place t) 0

unfoldable pub banned_of : List ℕ → ℕ → ℕ → ℕ
banned_of m e k =
    pick (eqb (endpoint_at m Part.Aborting e) 1 && eqb k (place_code (sending e))) (endpoint_at m Part.Aborted e)
    (2 ^ 28)

abbrev pub kind_in : List ℕ → ℕ → ℕ
kind_in m e = kind_of (word m (link_at (Link.Head (endpoint_queue e)))) m e

unfoldable pub waiters_test : List ℕ → ℕ → Bool
waiters_test m e =
    (eqb (kind_in m e) (place_code (sending e))
    || (eqb (kind_in m e) (place_code (receiving e)) && eqb (endpoint_at m Part.Cursor e) 0))
    && waiters_from 257 (word m (after_at (endpoint_queue e) 0)) Phase.Ahead m (endpoint_queue e) (kind_in m e)
    (endpoint_at m Part.Cursor e) (endpoint_at m Part.End e) (banned_of m e (kind_in m e)) 0

-- No abort, or one of a badge in range.
unfoldable pub abort_test : ℕ → List ℕ → ℕ → Bool
abort_test zero m e =
    eqb (endpoint_at m Part.Aborted e) 0 && eqb (endpoint_at m Part.Cursor e) 0 && eqb (endpoint_at m Part.End e) 0
abort_test (suc zero) m e =
    ltb (endpoint_at m Part.Aborted e) (2 ^ 28)
    && same (eqb (endpoint_at m Part.Cursor e) 0) (eqb (endpoint_at m Part.End e) 0)
abort_test (suc (suc n)) m e = false

-- An absent endpoint is empty; an absent or closing one has no abort.
unfoldable pub status_test : ℕ → List ℕ → ℕ → Bool
status_test zero m e = eqb (word m (link_at (Link.Head (endpoint_queue e)))) 0 && eqb (endpoint_at m Part.Aborting e) 0
status_test (suc zero) m e = true
status_test (suc (suc zero)) m e = eqb (endpoint_at m Part.Aborting e) 0
status_test (suc (suc (suc n))) m e = false

unfoldable pub endpoint_test : List ℕ → ℕ → Bool
endpoint_test m e =
    status_test (endpoint_at m Part.Status e) m e && abort_test (endpoint_at m Part.Aborting e) m e && waiters_test m e

-- Lines, summary, running thread, unused words

-- A line's waiter waits on it.
unfoldable pub line_from : ℕ → List ℕ → ℕ → Bool
line_from zero m l = true
line_from (suc zero) m l = true
line_from (suc (suc t)) m l = leb t 255 && eqb (thread_at m Field.Place t) (place_code (waiting l))

unfoldable pub line_test : List ℕ → ℕ → Bool
line_test m l = line_from (word m (at (Slot.Line l))) m l

-- Level p is occupied: its queue has a first.
abbrev pub occupied_at : List ℕ → ℕ → Bool
occupied_at m p = not (eqb (word m (link_at (Link.Head p))) 0)

unfoldable pub summary_test : List ℕ → Bool
summary_test m =
    all 8 (λ w. eqb (word m (at (Slot.Summary w))) (word_of (occupied_at m) w))
    && eqb (word m (at Slot.Top)) (top_of (occupied_at m))

-- Nobody ready is above the running thread; none is ready if none runs.
unfoldable pub running_from : ℕ → List ℕ → Bool
running_from zero m = all 256 (λ p. not (occupied_at m p))
running_from (suc t) m =
    leb t 255 && eqb (thread_at m Field.Place t) (place_code able)
    && all 256 (λ p. leb p (thread_at m Field.Priority t) || not (occupied_at m p))

unfoldable pub running_test : List ℕ → Bool
running_test m = running_from (word m (at Slot.Running)) m

unfoldable pub unused_test : List ℕ → ℕ → Bool
unused_test m i = eqb (word m (at (Slot.Unused i))) 0

-- Each thread stands where its place says

-- The threads met in queue q from a link on, n at most.
unfoldable pub met_from : ℕ → ℕ → List ℕ → List ℕ
met_from zero y m = []
met_from (suc n) zero m = []
met_from (suc n) (suc t) m = t ∷ met_from n (word m (link_at (Link.Next t))) m

unfoldable pub met : List ℕ → ℕ → List ℕ
met m q = met_from 256 (word m (link_at (Link.Head q))) m

-- Met in one of the first n queues.
unfoldable pub met_below : ℕ → List ℕ → ℕ → Bool
met_below zero m t = false
met_below (suc q) m t = member t (met m q) || met_below q m t

-- A thread that is ready, sends or receives is in a queue.
unfoldable pub queued_test : List ℕ → ℕ → Bool
queued_test m t =
    (eqb (thread_at m Field.Place t) (place_code able) && not (eqb (word m (at Slot.Running)) (suc t)))
    || (leb (place_code (sending 0)) (thread_at m Field.Place t)
    && ltb (thread_at m Field.Place t) (place_code (waiting 0)))

-- It was met exactly if it is in a queue; whoever was not met has links 0.
unfoldable pub placed_test : List ℕ → ℕ → Bool
placed_test m t =
    same (met_below 320 m t) (queued_test m t)
    && (met_below 320 m t || (eqb (word m (link_at (Link.Next t))) 0 && eqb (word m (link_at (Link.Prev t))) 0))

-- All tests.
unfoldable pub good_test : List ℕ → Bool
good_test m =
    all 256 (block_test m) && all 256 (level_test m) && all 64 (endpoint_test m) && all 32 (line_test m)
    && summary_test m
    && running_test m && all 534 (unused_test m) && all 256 (placed_test m)
