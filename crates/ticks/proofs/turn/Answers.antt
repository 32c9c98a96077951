-- A call was taken, or none.
use mathlib.Core.Path.{refl}
use native.Mathlib.Omega.{arith}
use Rattle.rows.proofs.Run.{run_took, other_turn, run_ended}
use Rattle.ticks.proofs.Counting.{fits, one_more, counted_after, numbered}
use Rattle.ticks.proofs.turn.Goals as goal

pub over-requires : goal.over-requires
over-requires c = numbered _ _ _ _ _ c.next-taken.ensures.taken _ c.code.ensures

pub returns-in_default : goal.returns-in_default
returns-in_default c =
    let z = c.requires.1 in
    let none = other_turn c.next-taken.result c.in_default.not-Took in
    counted_after z (run_ended z.ran c.next-taken.result _ c.next-taken.ensures.taken none) c.code.ensures
    c.over.result c.over.ensures _

pub overflow_add-counts : goal.overflow_add-counts
overflow_add-counts c =
    let z = c.requires.1 in
    let n = run_took z.ran c.next-taken.result _ c.next-taken.ensures.taken _ _ _ _ c.in-Took.is in
    omega (arith, fits z n _ c.tick.ensures, c.requires.0)

pub returns : goal.returns
returns c =
    let z = c.requires.1 in
    let n = run_took z.ran c.next-taken.result _ c.next-taken.ensures.taken _ _ _ _ c.in-Took.is in
    (n.further.more, one_more z n refl c.tick.ensures c.seat.ensures refl)
