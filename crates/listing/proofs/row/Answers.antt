use mathlib.Core.List.{append_assoc}
use Rattle.listing.specs.Line.{line_of}
use Rattle.listing.proofs.row.Goals as goal

pub returns : goal.returns
unfolding line_of
returns g c =
    rw (c.byte.ensures, c.who.ensures, c.fields.ensures, c.field-2.ensures, c.field.ensures) (simp append_assoc)
