-- Where an abort stands, the members of its set get notes of its badge.
use Rattle.debts.proofs.Noting.{set_none, set_noted}
use Rattle.debts.proofs.note_set.Goals as goal

pub returns-then-endpoint-ne-NO_ABORT : goal.returns-then-endpoint-ne-NO_ABORT
returns-then-endpoint-ne-NO_ABORT c = search set_noted

pub returns-else-endpoint-ne-NO_ABORT : goal.returns-else-endpoint-ne-NO_ABORT
returns-else-endpoint-ne-NO_ABORT c = search set_none
