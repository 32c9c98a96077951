-- The number, and then the space.
use mathlib.Core.Path.{refl}
use mathlib.Core.List.{[], ◌∷◌}
use native.Mathlib.Omega.{arith}
use Rattle.texts.specs.Decimal.{decimal, spaced}
use Rattle.texts.specs.Buffer.{Room}
use Rattle.texts.proofs.Writing.{front_room, rest_room, in_turn, wrote_byte}
use Rattle.texts.proofs.printing.field.Goals as goal

pub number-end-requires : goal.number-end-requires
unfolding spaced
number-end-requires c =
    front_room (decimal c.args.n) (32 ∷ []) c.requires

pub bounds-out-end : goal.bounds-out-end
unfolding spaced
bounds-out-end c =
    let space : Room c.number-end.new.out c.number-end.result (32 ∷ []) =
    rest_room (decimal c.args.n) (32 ∷ []) c.requires c.number-end.ensures in omega (arith, space.fits)

pub overflow_add-result : goal.overflow_add-result
unfolding spaced
overflow_add-result c =
    let space : Room c.number-end.new.out c.number-end.result (32 ∷ []) =
    rest_room (decimal c.args.n) (32 ∷ []) c.requires c.number-end.ensures in omega (arith, space.fits)

pub returns : goal.returns
unfolding spaced
returns c =
    let space : Room c.number-end.new.out c.number-end.result (32 ∷ []) =
    rest_room (decimal c.args.n) (32 ∷ []) c.requires c.number-end.ensures in
    in_turn c.requires c.number-end.ensures
    (wrote_byte (omega (arith, space.fits)) refl refl)
