-- What the inner functions of the core ask: calls in range, and a running thread for those that it makes; and what they
-- do.
use Rattle.std.specs.Prelude.{ℕ, ◌^◌, ◌≤◌, ◌<◌, ◌≡◌, true, List}
use Rattle.calls.specs.declared.Answer.{Answer}
use Rattle.calls.specs.declared.Call.{Call}
use Rattle.calls.specs.Calls.{number_of, in_range}
use Rattle.machine.specs.State.{State}
use Rattle.machine.specs.Results.{Result}
use Rattle.machine.specs.Grants.{Grants, barred, grants_after}
use Rattle.machine.specs.Machine.{perform_unless, step}
use Rattle.machine.specs.Sound.{Sound}
use Rattle.layout.specs.Words.{link_of}
use Rattle.grants.specs.Memory.{grants_of, grant_image}

-- The numbers of a call are in range.
abbrev pub Ranged : Call → Type 0
Ranged c = in_range c ≡ true

-- And it is one that the running thread makes.
abbrev pub Own : Call → Type 0
Own c = Ranged c × (7 ≤ number_of c) × (number_of c ≤ 12)

-- A call that can be made: the link is that of the thread that runs, and there is one for 7 to 12.
pub record Served (link : ℕ) (c : Call) (s : State) : Type 0 where
  pub sound : Sound s
  pub numbers : Ranged c
  pub runner : link ≡ link_of s.runs
  pub made : 7 ≤ number_of c → number_of c ≤ 12 → 1 ≤ link

-- The numbers of a call 13.
abbrev pub Grantable : ℕ → ℕ → ℕ → ℕ → Type 0
Grantable t e rights badge = (t ≤ 255) × (e ≤ 63) × (rights ≤ 15) × (badge < 2 ^ 28)

-- The grants' memory afterwards is that of the grants that the call leaves, answered so.
pub record Regrants (g g' : List ℕ) (a : Answer) (c : Call) : Type 0 where
  pub left : g' ≡ grant_image (grants_after a c (grants_of g))

-- A call in range, under the grants.
abbrev pub admitting : Grants → Call → State → Result
admitting g c s = perform_unless (barred s.runs g c) c s

-- The machine's step, by the call.
abbrev pub stepping : Grants → Call → State → Result
stepping g c s = step g s c
