-- What joining and leaving a queue asks, and the steps of which the machine's operations are made: where the thread
-- stands, the level's queue without it, and the marks of an abort that passes it by.
use Rattle.std.specs.Prelude.{ℕ, suc, ◌≤◌, ◌≡◌, List, ◌++◌}
use Rattle.std.specs.Prelude as code
use Rattle.std.proofs.Math.Option.{some}
use Rattle.calls.specs.Answers.{maybe_of}
use Rattle.machine.specs.Lists.{without, Mem}
use Rattle.machine.specs.State.{State, Place, Abort, set_level}
use Rattle.machine.specs.Scheduling.{block, highest}
use Rattle.machine.specs.Endpoints.{passing, set_abort}
use Rattle.layout.specs.Words.{place_code, first_of, queues_of}
use Rattle.layout.specs.Shows.{Shows}
use Rattle.links.specs.Links.{Free}
use Rattle.store.specs.Steps.{Does}
use Rattle.store.specs.Store.{IsThread}

-- t stands in no queue, and its level is in range.
pub record Loose (t : ℕ) (s : State) : Type 0 where
  pub thread : t ≤ 255
  pub level : (s.threads t).priority ≤ 255
  pub free : Free (queues_of s) t

-- t stands in its level's queue.
pub record InLevel (t : ℕ) (s : State) : Type 0 where
  pub thread : t ≤ 255
  pub level : (s.threads t).priority ≤ 255
  pub stands : Mem t (s.levels (s.threads t).priority)

-- t stands in the queue of level p.
pub record InLevelAt (p t : ℕ) (s : State) : Type 0 where
  pub level : p ≤ 255
  pub stands : Mem t (s.levels p)

-- t is the first in the queue of level p.
pub record HeadAt (p t : ℕ) (s : State) : Type 0 where
  pub level : p ≤ 255
  pub first : first_of (s.levels p) ≡ suc t

-- Whoever runs stands in no queue.
pub record Chooses (s : State) : Type 0 where
  pub running : (t : ℕ) → s.runs ≡ some t → Loose t s

-- t, in no queue, comes to an endpoint.
pub record ToEndpoint (t e : ℕ) (s : State) : Type 0 where
  pub thread : t ≤ 255
  pub endpoint : e ≤ 63
  pub free : Free (queues_of s) t

-- t waits at endpoint e, and what is pending there is a part of its queue.
pub record InEndpoint (t e : ℕ) (s : State) : Type 0 where
  pub thread : t ≤ 255
  pub level : (s.threads t).priority ≤ 255
  pub endpoint : e ≤ 63
  pub stands : Mem t (s.endpoints e).waiters
  pub part :
      (a : Abort) → (s.endpoints e).abort ≡ some a
      → (before : List ℕ) × (behind : List ℕ) × ((s.endpoints e).waiters ≡ before ++ (a.pending ++ behind))

-- A place enters the code as its number; the thread blocks at whatever place it is the number of.
pub record BlocksAt (m : List ℕ) (t code badge message : ℕ) (m' : List ℕ) : Type 0 where
  pub does : (p : Place) → place_code p ≡ code → Does m m' (IsThread t) (block t p badge message)

-- t leaves the queue of level p.
abbrev pub leave_level : ℕ → ℕ → State → State
leave_level p t s = set_level p (without t (s.levels p)) s

-- l is the highest occupied level of whatever state the memory shows.
pub record FindsLevel (m : List ℕ) (l : code.Option ℕ) : Type 0 where
  pub found : (s : State) → Shows m s → maybe_of l ≡ highest s.levels

-- The abort at endpoint e has not to look at t any more.
abbrev pub passing_at : ℕ → ℕ → State → State
passing_at t e s = set_abort e (passing t (s.endpoints e).abort) s
