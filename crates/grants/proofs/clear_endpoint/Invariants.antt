-- An endpoint's words are cleared. The loop's invariant: those of the threads below t are 0, all others as they were.
use Prim.Native.Nat.{◌+◌, ◌*◌}
use Rattle.grants.proofs.Stores.{Cleared}
use Rattle.grants.proofs.clear_endpoint.Given as goal

abbrev pub invariant-loop-t : goal.invariant-loop-t
invariant-loop-t l = Cleared (λ u. 64 * u + l.endpoint) l.t l.initial.grants l.grants
