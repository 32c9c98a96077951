-- Words of the paper that the theorems about the machine use: the abort's two marks, the work that a call leaves, and
-- who goes to the tail of its level.
use Rattle.std.specs.Prelude.{ℕ, ◌≤◌, ◌≡◌, List, [], ◌∷◌, ◌++◌, eqb, length}
use Rattle.std.proofs.Math.Option.{Option, none, some}
use Rattle.calls.specs.declared.Call.{Call}
use Rattle.calls.specs.declared.Call.TheVariants.{CreateThread, DestroyThread, SetPriority, CreateEndpoint}
use Rattle.calls.specs.declared.Call.TheVariants.{Interrupt, Tick, Send, Receive, Yield, Wait, Delete, Abort}
use Rattle.calls.specs.declared.Call.TheVariants.{Grant}
use Rattle.machine.specs.Lists.{only, Mem, first}
use Rattle.machine.specs.State as State
use Rattle.machine.specs.State.{State}
use Rattle.machine.specs.Scheduling.{choose}
use Rattle.machine.specs.Grants.{Grants}
use Rattle.machine.specs.Aborts.{pending_at}
use Rattle.machine.specs.Machine.{step}

-- The last of the list, if it has one.
abbrev pub last : List ℕ → Option ℕ
last [] = none
last (x ∷ []) = some x
last (x ∷ (y ∷ l)) = last (y ∷ l)

-- The cursor of the abort at e is the first waiter that it has still to look at, the end mark the last.
abbrev pub cursor_at : ℕ → State → Option ℕ
cursor_at e s = first (pending_at e s)

abbrev pub end_mark_at : ℕ → State → Option ℕ
end_mark_at e s = last (pending_at e s)

-- The allowance of a call; a call without one has 0.
abbrev pub allowance_of : Call → ℕ
allowance_of (CreateThread t p) = 0
allowance_of (DestroyThread t) = 0
allowance_of (SetPriority t p) = 0
allowance_of (CreateEndpoint e) = 0
allowance_of (Interrupt l) = 0
allowance_of Tick = 0
allowance_of (Send e b m) = 0
allowance_of (Receive e) = 0
allowance_of Yield = 0
allowance_of (Wait l) = 0
allowance_of (Delete e a) = a
allowance_of (Abort e a b) = a
allowance_of (Grant t e r b) = 0

-- Work is left by a call made in state s that left state r.
pub data WorkLeft (s r : State) : Call → Type 0 where
  -- a waiter still to remove
  to_remove : {e a : ℕ} (w : ℕ) → Mem w (r.endpoints e).waiters → WorkLeft s r (Delete e a)
  -- a waiter still to look at
  to_look : {e a b : ℕ} (w : ℕ) → Mem w (pending_at e r) → WorkLeft s r (Abort e a b)
  -- the caller's own abort not yet begun: another badge's stood, and no allowance remains after the looks that it wants
  not_begun :
      {e a b : ℕ} (x : State.Abort) → (s.endpoints e).abort ≡ some x → (x.badge ≡ b → ⊥)
      → a ≤ length x.pending → WorkLeft s r (Abort e a b)

-- The call, made in state s under the grants g, hands the chooser a state in which t stands last of level p, behind all
-- who stood there, and in which this one runs.
pub record GoesLast (g : Grants) (s : State) (c : Call) (t p : ℕ) (running : Option ℕ) : Type 0 where
  pub handed : State
  pub chosen : (step g s c).state ≡ choose handed
  pub last : handed.levels p ≡ s.levels p ++ (t ∷ [])
  pub runs : handed.runs ≡ running

-- So with all of these, in their order: each level has behind all who stood there those of them who are of it.
pub record AllGoLast (g : Grants) (s : State) (c : Call) (woken : List ℕ) : Type 0 where
  pub handed : State
  pub chosen : (step g s c).state ≡ choose handed
  pub last : (p : ℕ) → handed.levels p ≡ s.levels p ++ only (λ t. eqb (s.threads t).priority p) woken
  pub runs : handed.runs ≡ s.runs
