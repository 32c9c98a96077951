-- The form of the calls' contracts: what a call asks of the state that the memory shows, and that its answer and the
-- memory after it are those of the machine's result.
use Rattle.std.specs.Prelude.{ℕ, ◌≡◌, List}
use Rattle.std.proofs.Math.Option.{some}
use Rattle.calls.specs.declared.Answer.{Answer}
use Rattle.machine.specs.State.{State}
use Rattle.machine.specs.Results.{Result, Look, accept}
use Rattle.machine.specs.Sound.{Sound}
use Rattle.layout.specs.Shows.{Shows}

-- A sound state, and the call's numbers in range: N.
pub record Asked (N : Type 0) (s : State) : Type 0 where
  pub sound : Sound s
  pub numbers : N

-- And t runs: it makes the call.
pub record Calling (t : ℕ) (N : Type 0) (s : State) : Type 0 where
  pub sound : Sound s
  pub runs : s.runs ≡ some t
  pub numbers : N

-- The answer is the machine's, and the memory after the call shows the machine's state.
pub record Performs (m m' : List ℕ) (a : Answer) (P : State → Type 0) (f : State → Result) : Type 0 where
  pub answers : (s : State) → Shows m s → P s → a ≡ (f s).answer
  pub shows : (s : State) → Shows m s → P s → Shows m' (f s).state

-- An accepted call, whatever its looks.
pub record Accepts (m : List ℕ) (a b : Answer) (P : State → Type 0) (m' : List ℕ) : Type 0 where
  pub performs : (looks : List Look) → Performs m m' b P (accept a looks)
