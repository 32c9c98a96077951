-- What `line` promises of a buffer of 95 bytes.
use Rattle.std.proofs.Common.{◌∙◌, sym, eq-eqb}
use lib.Dec.{lit<}
use Rattle.listing.proofs.Fronts.{short_length}
use Rattle.listing_edges.proofs.no_room.Goals as goal

pub expect-requires : goal.expect-requires
expect-requires c = eq-eqb c.line-n.result 0 (c.line-n.ensures.value ∙ sym (short_length _ _ (lit< tt)))
