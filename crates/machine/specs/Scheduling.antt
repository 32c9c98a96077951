-- Running and ready: the ready queues, and the choice of the thread that runs after an accepted call.
use Rattle.std.specs.Prelude.{ℕ, zero, suc, Bool, true, false, List, [], ◌∷◌, ◌++◌, ltb}
use Rattle.std.proofs.Math.Option.{Option, none, some}
use Rattle.machine.specs.Lists.{pick, without}
use Rattle.machine.specs.State.{State, Place, able, set_thread, set_runs, set_level, with_place, no_outcome}

-- t joins the tail of its level's queue.
unfoldable pub enqueue : ℕ → State → State
enqueue t s = set_level (s.threads t).priority (s.levels (s.threads t).priority ++ (t ∷ [])) s

-- t joins the head of its level's queue.
unfoldable pub enqueue_first : ℕ → State → State
enqueue_first t s = set_level (s.threads t).priority (t ∷ s.levels (s.threads t).priority) s

-- t leaves its level's queue.
unfoldable pub unqueue : ℕ → State → State
unqueue t s = set_level (s.threads t).priority (without t (s.levels (s.threads t).priority)) s

-- The running thread t goes to its tail, and nobody runs.
unfoldable pub stand_down : ℕ → State → State
stand_down t s = enqueue t (set_runs none s)

-- The running thread t is displaced: it goes to its head, and nobody runs.
unfoldable pub stand_back : ℕ → State → State
stand_back t s = enqueue_first t (set_runs none s)

-- A blocked thread t is woken with an outcome, and with badge and message where it received them; it joins its tail.
unfoldable pub wake : ℕ → ℕ → ℕ → ℕ → State → State
wake t outcome b m s = enqueue t (set_thread t (with_place able outcome b m (s.threads t)) s)

-- The running thread t blocks at a place, with badge and message where it sends; its outcome is 0, and nobody runs.
unfoldable pub block : ℕ → Place → ℕ → ℕ → State → State
block t place b m s = set_runs none (set_thread t (with_place place no_outcome b m (s.threads t)) s)

-- Whether somebody stands in the queue.
abbrev pub occupied : List ℕ → Bool
occupied [] = false
occupied (t ∷ q) = true

-- The highest occupied level below n.
unfoldable pub highest_below : ℕ → (ℕ → List ℕ) → Option ℕ
highest_below zero levels = none
highest_below (suc n) levels = pick (occupied (levels n)) (some n) (highest_below n levels)

unfoldable pub highest : (ℕ → List ℕ) → Option ℕ
highest levels = highest_below 256 levels

-- The head of the highest queue runs.
unfoldable pub dispatch_head : List ℕ → ℕ → State → State
dispatch_head [] p s = s
dispatch_head (t ∷ q) p s = set_runs (some t) (set_level p q s)

unfoldable pub dispatch_at : Option ℕ → State → State
dispatch_at none s = s
dispatch_at (some p) s = dispatch_head (s.levels p) p s

unfoldable pub dispatch : State → State
dispatch s = dispatch_at (highest s.levels) s

-- Whether a level is above priority p.
abbrev pub above : ℕ → Option ℕ → Bool
above p none = false
above p (some q) = ltb p q

-- A displaced thread goes to its level's head.
unfoldable pub displace : Bool → ℕ → State → State
displace true t s = dispatch (stand_back t s)
displace false t s = s

-- If nobody runs, or a level above the running thread's is occupied, the head of the highest queue runs.
unfoldable pub choose_for : Option ℕ → State → State
choose_for none s = dispatch s
choose_for (some t) s = displace (above (s.threads t).priority (highest s.levels)) t s

unfoldable pub choose : State → State
choose s = choose_for s.runs s
