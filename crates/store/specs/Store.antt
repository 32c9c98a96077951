-- The steps on single entries of the state, and what each asks: a number in range.
use Rattle.std.specs.Prelude.{ℕ, ◌≤◌, ◌≡◌, List}
use Rattle.std.proofs.Math.Option.{Option}
use Rattle.machine.specs.State.{State, Thread, Place, able, Debt, nothing, Abort, Status, Line, absent_thread}
use Rattle.machine.specs.State.{set_thread}
use Rattle.machine.specs.State.{set_runs, set_endpoint, set_line, with_priority, with_ticks, with_debt, with_place}
use Rattle.machine.specs.Endpoints.{set_abort}
use Rattle.layout.specs.declared.Slot.{Slot}
use Rattle.layout.specs.Addresses.{ValidSlot}
use Rattle.layout.specs.Words.{place_code, debt_code, note_code, status_code, line_code, link_of, first_of, last_of}
use Rattle.store.specs.Steps.{Does}

-- The word's thread, endpoint or line is in range.
abbrev pub IsSlot : Slot → State → Type 0
IsSlot a s = ValidSlot a

abbrev pub IsThread : ℕ → State → Type 0
IsThread t s = t ≤ 255

abbrev pub IsEndpoint : ℕ → State → Type 0
IsEndpoint e s = e ≤ 63

abbrev pub IsLine : ℕ → State → Type 0
IsLine l s = l ≤ 31

abbrev pub Any : State → Type 0
Any s = Unit {0}

-- One entry changed.
abbrev pub placing : ℕ → Place → ℕ → ℕ → ℕ → State → State
placing t p o b m s = set_thread t (with_place p o b m (s.threads t)) s

abbrev pub prioritising : ℕ → ℕ → State → State
prioritising t p s = set_thread t (with_priority p (s.threads t)) s

abbrev pub ticking : ℕ → ℕ → State → State
ticking t n s = set_thread t (with_ticks n (s.threads t)) s

abbrev pub owing : ℕ → Debt → State → State
owing t d s = set_thread t (with_debt d (s.threads t)) s

-- A thread with a place, a priority and ticks, and nothing else; one just created; one that goes.
abbrev pub plain_thread : Place → ℕ → ℕ → Thread
plain_thread x p n =
    record { place = x; priority = p; ticks = n; outcome = 0; badge = 0; message = 0; debt = nothing }

abbrev pub creating : ℕ → ℕ → State → State
creating t p s = set_thread t (plain_thread able p 5) s

abbrev pub clearing : ℕ → State → State
clearing t s = set_thread t absent_thread s

abbrev pub standing : ℕ → Status → State → State
standing e x s =
    set_endpoint e
    (record { status = x; waiters = (s.endpoints e).waiters; abort = (s.endpoints e).abort }) s

-- A place, debt, status, line or thread enters the code as its number; the step is done for whatever has that number.
pub record SetsPlace (m : List ℕ) (t code o b x : ℕ) (m' : List ℕ) : Type 0 where
  pub does : (p : Place) → place_code p ≡ code → Does m m' (IsThread t) (placing t p o b x)

pub record Remakes (m : List ℕ) (t code p n : ℕ) (m' : List ℕ) : Type 0 where
  pub does : (x : Place) → place_code x ≡ code → Does m m' (IsThread t) (λ s. set_thread t (plain_thread x p n) s)

pub record SetsDebt (m : List ℕ) (t code badge : ℕ) (m' : List ℕ) : Type 0 where
  pub does : (d : Debt) → debt_code d ≡ code → note_code d ≡ badge → Does m m' (IsThread t) (owing t d)

pub record SetsRunning (m : List ℕ) (link : ℕ) (m' : List ℕ) : Type 0 where
  pub does : (r : Option ℕ) → link_of r ≡ link → Does m m' Any (set_runs r)

pub record SetsLine (m : List ℕ) (l code : ℕ) (m' : List ℕ) : Type 0 where
  pub does : (x : Line) → line_code x ≡ code → Does m m' (IsLine l) (set_line l x)

pub record SetsStatus (m : List ℕ) (e code : ℕ) (m' : List ℕ) : Type 0 where
  pub does : (x : Status) → status_code x ≡ code → Does m m' (IsEndpoint e) (standing e x)

-- An abort that stands, or none: its badge, and the links of the first and the last pending.
pub record SetsAbort (m : List ℕ) (e here badge cursor end : ℕ) (m' : List ℕ) : Type 0 where
  pub none : here ≡ 0 → badge ≡ 0 → cursor ≡ 0 → end ≡ 0 → Does m m' (IsEndpoint e) (set_abort e Option.none)
  pub some : (a : Abort) → here ≡ 1 → badge ≡ a.badge → cursor ≡ first_of a.pending
      → end ≡ last_of 0 a.pending → Does m m' (IsEndpoint e) (set_abort e (Option.some a))

-- An abort stands at the endpoint.
abbrev pub HasAbort : ℕ → State → Type 0
HasAbort e s = (e ≤ 63) × ((a : Abort) × ((s.endpoints e).abort ≡ Option.some a))

-- The abort at endpoint e has the waiters of a list to look at.
abbrev pub with_pending : List ℕ → Option Abort → Option Abort
with_pending l Option.none = Option.none
with_pending l (Option.some a) = Option.some (record { badge = a.badge; pending = l })

abbrev pub looking_at : ℕ → List ℕ → State → State
looking_at e l s = set_abort e (with_pending l (s.endpoints e).abort) s

-- Cursor and end mark enter the code as links; the abort looks at whatever list they are the first and the last of.
pub record SetsPending (m : List ℕ) (e cursor end : ℕ) (m' : List ℕ) : Type 0 where
  pub does : (l : List ℕ) → first_of l ≡ cursor → last_of 0 l ≡ end → Does m m' (HasAbort e) (looking_at e l)
