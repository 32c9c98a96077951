-- No tick that reads is left out.
use Prim.Native.Nat.{ℕ, zero, suc}
use mathlib.Core.Path.{◌≡◌, refl}
use mathlib.Core.Option.{Option, none, some}
use mathlib.Core.List.{List}
use native.Mathlib.Omega.{arith}
use lib.Dec.{eqb}
use lib.ListN.{length}
use Rattle.calls.specs.declared.Call.{Call}
use Rattle.calls.specs.declared.Call.TheVariants.{CreateThread, DestroyThread, SetPriority, CreateEndpoint}
use Rattle.calls.specs.declared.Call.TheVariants.{Interrupt, Tick, Send, Receive, Yield, Wait, Delete, Abort, Grant}
use Rattle.calls.specs.Calls.{number_of}
use Rattle.machine.specs.Lists.{pick}
use Rattle.machine.specs.State.{State, fresh_state}
use Rattle.machine.specs.Grants.{Grants, fresh_grants, barred, lacks}
use Rattle.machine.specs.Machine.{step, grants_by, perform_if, perform_unless, perform, tick}
use Rattle.journal.specs.declared.types.Read.{Read}
use Rattle.journal.specs.declared.types.Read.TheVariants.{Found, Refused, Ended}
use Rattle.journal.specs.Words.{read_at}
use Rattle.journal.specs.Course.{made_in, course_from, course_of}
use Rattle.billing.specs.Ticks.{ticked, accepted_ticks, tick_calls}

tick_done : (g : Grants) (s : State) → (step g s Tick).answer.code ≡ 0
unfolding step perform_if perform_unless perform tick lacks
tick_done g s = go s.runs
  where
    go : (o : Option ℕ) → (perform_unless (barred o g Tick) Tick s).answer.code ≡ 0
    go none = refl
    go (some t) = refl

one : (i : ℕ) (c : Call) (g : Grants) (s : State) → ticked (made_in i c g s) ≡ pick (eqb (number_of c) 6) 1 0
unfolding ticked
one i (CreateThread t p) g s = refl
one i (DestroyThread t) g s = refl
one i (SetPriority t p) g s = refl
one i (CreateEndpoint e) g s = refl
one i (Interrupt l) g s = refl
one i Tick g s = rw (tick_done g s)
one i (Send e b m) g s = refl
one i (Receive e) g s = refl
one i Yield g s = refl
one i (Wait l) g s = refl
one i (Delete e a) g s = refl
one i (Abort e a b) g s = refl
one i (Grant t e r b) g s = refl

from :
    (n i : ℕ) (r : Read) (journal : List ℕ) (g : Grants) (s : State)
    → accepted_ticks (course_from n r i journal g s).made ≡ tick_calls (course_from n r i journal g s).made
unfolding course_from accepted_ticks tick_calls
from zero i r journal g s = refl
from (suc n) i (Found c next) journal g s =
    omega (
      arith,
      one i c g s,
      from n (suc i) (read_at journal next) journal (grants_by g s c) (step g s c).state,
    )
from (suc n) i (Refused code p) journal g s = refl
from (suc n) i Ended journal g s = refl

pub all_ticks : (journal : List ℕ) → accepted_ticks (course_of journal).made ≡ tick_calls (course_of journal).made
unfolding course_of
all_ticks journal = from (suc (length journal)) 0 (read_at journal 0) journal fresh_grants fresh_state
