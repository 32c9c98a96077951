-- The header, said at the front of a buffer that has room for it.
use Rattle.std.proofs.Common.{◌≡◌}
use Rattle.texts.specs.Text.{bytes}
use Rattle.texts.proofs.Writing.{wrote_is}
use Rattle.listing.specs.Line.{header}
use Rattle.listing.proofs.Fronts.{front_length, front_after, short_length, short_after}
use Rattle.listing.proofs.head.Goals as goal

pub returns-then-out-lt-ROOM-clause-value : goal.returns-then-out-lt-ROOM-clause-value
returns-then-out-lt-ROOM-clause-value c = short_length _ _ c.if-out-lt-ROOM.true

pub returns-then-out-lt-ROOM-clause-out_after : goal.returns-then-out-lt-ROOM-clause-out_after
returns-then-out-lt-ROOM-clause-out_after c = short_after _ _ c.if-out-lt-ROOM.true

pub returns-clause-value : goal.returns-clause-value
unfolding bytes
returns-clause-value c =
    let said : c.say.new.self ≡ header = rw c.new-line.ensures at c.say.ensures in
    front_length c.if-out-lt-ROOM.false (wrote_is said c.put.ensures)

pub returns-clause-out_after : goal.returns-clause-out_after
unfolding bytes
returns-clause-out_after c =
    let said : c.say.new.self ≡ header = rw c.new-line.ensures at c.say.ensures in
    front_after c.if-out-lt-ROOM.false (wrote_is said c.put.ensures)
