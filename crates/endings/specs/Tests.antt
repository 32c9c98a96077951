-- The tests that several calls make of the thread or the endpoint that they name: passed, or why the call is refused.
use Rattle.std.specs.Prelude.{ℕ, ◌≡◌, Bool, true, false, List, Result, Ok, Err}
use Rattle.calls.specs.declared.Refusal.{Refusal}
use Rattle.calls.specs.declared.Refusal.TheVariants.{ThreadAbsent, EndpointAbsent, EndpointClosing}
use Rattle.machine.specs.State.{State, Status, missing, live, closing}
use Rattle.machine.specs.Machine.{is_absent}
use Rattle.layout.specs.Shows.{Shows}

abbrev pub Test : Type 0
Test = Result (Unit {0}) Refusal

-- r is what f says of each state that the memory shows and of which P holds.
pub record Tests (m : List ℕ) (P : State → Type 0) (r : Test) (f : State → Test) : Type 0 where
  pub tests : (s : State) → Shows m s → P s → r ≡ f s

-- 21: the thread is absent, or not.
abbrev pub unless_absent : Bool → Test
unless_absent true = Err ThreadAbsent
unless_absent false = Ok tt

abbrev pub thread_there : ℕ → State → Test
thread_there t s = unless_absent (is_absent (s.threads t).place)

-- 23: a closing endpoint is still there.
abbrev pub unless_missing : Status → Test
unless_missing missing = Err EndpointAbsent
unless_missing live = Ok tt
unless_missing closing = Ok tt

abbrev pub endpoint_there : ℕ → State → Test
endpoint_there e s = unless_missing (s.endpoints e).status

-- 23 and 25: only a live endpoint is open.
abbrev pub if_live : Status → Test
if_live missing = Err EndpointAbsent
if_live live = Ok tt
if_live closing = Err EndpointClosing

abbrev pub endpoint_open : ℕ → State → Test
endpoint_open e s = if_live (s.endpoints e).status
