-- What a thread's call has done so far where it may come to wait, and what waiting comes to.
use Rattle.std.specs.Prelude.{ℕ, ◌≡◌, List}
use Rattle.calls.specs.declared.Answer.{Answer}
use Rattle.machine.specs.State.{State, Place}
use Rattle.machine.specs.Scheduling.{block}
use Rattle.machine.specs.Endpoints.{drop_debt}
use Rattle.machine.specs.Results.{blocked}
use Rattle.layout.specs.Words.{place_code}
use Rattle.store.specs.Store.{IsThread}
use Rattle.endings.specs.Results.{Calling, Performs}

-- The running thread t makes a call, and has left its set, or lost its note.
pub record Dropped (t : ℕ) (N : Type 0) (s : State) : Type 0 where
  pub before : State
  pub calling : Calling t N before
  pub is : s ≡ drop_debt t before

-- The running thread t blocks at whatever place has this number, and the answer is code 1.
pub record Suspends (m : List ℕ) (t code badge message : ℕ) (a : Answer) (m' : List ℕ) : Type 0 where
  pub performs :
      (p : Place) → place_code p ≡ code → Performs m m' a (IsThread t) (λ s. blocked (block t p badge message s))
