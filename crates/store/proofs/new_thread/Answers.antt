-- A new thread is able.
use mathlib.Core.Path.{refl}
use Rattle.machine.specs.State.{able}
use Rattle.store.proofs.new_thread.Goals as goal

pub returns : goal.returns
returns c = c.remake.ensures.does able refl
