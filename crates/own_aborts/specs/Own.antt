-- The states in which the call's own abort begins, is joined and works, and the rest of the call after looks that it
-- has already made.
use Rattle.std.specs.Prelude.{ℕ, ◌≤◌, ◌≡◌, true, List, [], length}
use Rattle.std.proofs.Math.Option.{some}
use Rattle.calls.specs.declared.Answer.{Answer}
use Rattle.machine.specs.State.{State, live}
use Rattle.machine.specs.Endpoints.{is_aborting}
use Rattle.machine.specs.Results.{Result, Look}
use Rattle.machine.specs.Aborts.{pending_at, begin, join, ended, work_own}
use Rattle.machine.specs.Mid.{Mid}
use Rattle.endings.specs.Results.{Performs}

-- In the middle of a call of t, and endpoint e is live.
pub record Open (t e : ℕ) (s : State) : Type 0 where
  pub mid : Mid s
  pub endpoint : e ≤ 63
  pub runs : s.runs ≡ some t
  pub status : (s.endpoints e).status ≡ live

-- And an abort stands at e.
pub record Joining (t e : ℕ) (s : State) : Type 0 where
  pub opened : Open t e s
  pub stands : is_aborting (s.endpoints e).abort ≡ true

-- The rest of the call, f, after any looks that were as many as n.
pub record Continues (m : List ℕ) (n : ℕ) (r : Answer) (P : State → Type 0) (f : List Look → State → Result)
    (m' : List ℕ) : Type 0 where
  pub performs : (looks : List Look) → length looks ≡ n → Performs m m' r P (f looks)

-- The call's own abort ends where nothing is left, or is broken off.
abbrev pub own_ended : ℕ → ℕ → List Look → State → Result
own_ended t e looks s = ended (pending_at e s) t e looks s

-- The call's own abort begins, and works with the allowance a.
abbrev pub own_begun : ℕ → ℕ → ℕ → ℕ → List Look → State → Result
own_begun t e b a looks s = work_own t e a looks (begin t e b s)

-- The abort that stands is joined, and works with the allowance a.
abbrev pub joined_on : ℕ → ℕ → ℕ → State → Result
joined_on t e a s = work_own t e a [] (join t e s)
