-- The parts of the tests that the code takes as one step each.
use Rattle.std.specs.Prelude.{ℕ, Bool, ◌&&◌, ◌||◌, List, eqb}
use Rattle.machine.specs.State.{sending, receiving}
use Rattle.layout.specs.declared.Field.{Field}
use Rattle.layout.specs.declared.Part.{Part}
use Rattle.layout.specs.declared.Link.{Link}
use Rattle.layout.specs.Addresses.{link_at, word, after_at, endpoint_queue}
use Rattle.layout.specs.Words.{place_code}
use Rattle.soundness.specs.declared.Phase.{Phase}
use Rattle.soundness.specs.Checks.{thread_at, endpoint_at, ready_test, allowed}
use Rattle.soundness.specs.Checks.{waiters_from, banned_of}

-- Thread t behind link x of a level's queue: linked back, and ready at p.
abbrev pub ready_behind : List ℕ → ℕ → ℕ → ℕ → Bool
ready_behind m p x t = eqb (word m (link_at (Link.Prev t))) x && ready_test m p t

-- Thread t behind link x of an endpoint's queue, in phase f: linked back, of place k, and allowed where b is banned.
abbrev pub stands_behind : List ℕ → ℕ → ℕ → Phase → ℕ → ℕ → Bool
stands_behind m k b f x t =
    eqb (word m (link_at (Link.Prev t))) x && eqb (thread_at m Field.Place t) k
    && allowed f b (thread_at m Field.Badge t)

-- The queue of endpoint e, whose threads have place k.
abbrev pub waiters_as : List ℕ → ℕ → ℕ → Bool
waiters_as m e k =
    waiters_from 257 (word m (after_at (endpoint_queue e) 0)) Phase.Ahead m (endpoint_queue e) k
    (endpoint_at m Part.Cursor e) (endpoint_at m Part.End e) (banned_of m e k) 0

-- The place k is that of its senders, or of its receivers where there are no marks.
abbrev pub kind_fits : List ℕ → ℕ → ℕ → Bool
kind_fits m e k =
    eqb k (place_code (sending e)) || (eqb k (place_code (receiving e)) && eqb (endpoint_at m Part.Cursor e) 0)
