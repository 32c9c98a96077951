-- The thread is made by the four steps.
use mathlib.Core.Path.{refl}
use Rattle.machine.specs.State.{nothing}
use Rattle.store.specs.Store.{prioritising, ticking, owing}
use Rattle.store.proofs.Composed.{still, remade_plain}
use Rattle.store.proofs.remake.Goals as goal

pub set_place-requires : goal.set_place-requires
set_place-requires c =
    still (owing _ nothing) (c.set_owes.ensures.does nothing refl refl)
    (still (ticking _ _) c.set_ticks.ensures
    (still (prioritising _ _) c.set_priority.ensures c.requires))

pub returns : goal.returns
returns c =
    remade_plain _ _ _ _ c.set_priority.ensures c.set_ticks.ensures
    c.set_owes.ensures c.set_place.ensures
