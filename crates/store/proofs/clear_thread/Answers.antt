-- A thread that goes is absent.
use mathlib.Core.Path.{refl}
use Rattle.machine.specs.State.{absent}
use Rattle.store.proofs.clear_thread.Goals as goal

pub returns : goal.returns
returns c = c.remake.ensures.does absent refl
