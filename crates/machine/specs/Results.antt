-- What a call comes to: the new state, the answer and, for call 12, its looks.
use Rattle.std.specs.Prelude.{ℕ, Bool, List, [], ◌∷◌}
use Rattle.calls.specs.declared.Answer.{Answer}
use Rattle.calls.specs.Answers.{plain}
use Rattle.machine.specs.Lists.{pick}
use Rattle.machine.specs.State.{State}
use Rattle.machine.specs.Scheduling.{choose}

-- A look of an abort: at which waiter, and whether it was removed or kept.
pub record Look : Type 0 where
  pub waiter : ℕ
  pub removed : Bool

-- Those whom the looks removed, in order.
abbrev pub removals : List Look → List ℕ
removals [] = []
removals (x ∷ l) = pick x.removed (x.waiter ∷ removals l) (removals l)

pub record Result : Type 0 where
  pub state : State
  pub answer : Answer
  -- in order; empty but for call 12
  pub looks : List Look

-- A refused call: its number, three zeros, and everything left as it was.
abbrev pub refuse : ℕ → State → Result
refuse n s = record { state = s; answer = plain n; looks = [] }

-- An accepted call, after which the chooser runs once.
abbrev pub accept : Answer → List Look → State → Result
accept a looks s = record { state = choose s; answer = a; looks = looks }

abbrev pub done : State → Result
done s = accept (plain 0) [] s

abbrev pub blocked : State → Result
blocked s = accept (plain 1) [] s
