-- The calls sorted once, by what the history of a list makes of them.
use Rattle.std.specs.Prelude.{ℕ}
use Rattle.calls.specs.declared.Call.{Call}
use Rattle.calls.specs.declared.Call.TheVariants.{CreateThread, DestroyThread, SetPriority, CreateEndpoint}
use Rattle.calls.specs.declared.Call.TheVariants.{Interrupt, Tick, Send, Receive, Yield, Wait, Delete, Abort}
use Rattle.calls.specs.declared.Call.TheVariants.{Grant}

pub data Sort : Type 0 where
  -- nobody waits by it and no debt is dropped
  other : Sort
  -- destroys this thread, which drops its debts
  destroys : ℕ → Sort
  -- drops its caller's debts, and may make the caller a waiter
  waits : Sort
  -- so does it, and may hand over a message of this endpoint
  receives : ℕ → Sort
  -- drops its caller's debts
  yields : Sort
  -- so does it, and ends the abort that stands at this endpoint
  removes : ℕ → Sort
  -- begins, joins, ends or reports aborts: its endpoint, allowance and badge
  looks : ℕ → ℕ → ℕ → Sort

abbrev pub sort_of : Call → Sort
sort_of (CreateThread t p) = other
sort_of (DestroyThread t) = destroys t
sort_of (SetPriority t p) = other
sort_of (CreateEndpoint e) = other
sort_of (Interrupt l) = other
sort_of Tick = other
sort_of (Send e b m) = waits
sort_of (Receive e) = receives e
sort_of Yield = yields
sort_of (Wait l) = waits
sort_of (Delete e a) = removes e
sort_of (Abort e a b) = looks e a b
sort_of (Grant t e r b) = other
