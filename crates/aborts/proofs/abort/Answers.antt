-- A noted caller is answered; another goes on by the status.
use Rattle.aborts.proofs.Opening.{calls_asked, dropped_asked, noted_answered, not_noted}
use Rattle.aborts.proofs.abort.Goals as goal

pub has_note-noted-requires : goal.has_note-noted-requires
has_note-noted-requires c = calls_asked c.requires

pub accept-requires : goal.accept-requires
accept-requires c =
    dropped_asked c.drop_debt.ensures c.requires

pub returns-then-noted : goal.returns-then-noted
returns-then-noted c =
    noted_answered c.has_note-noted.ensures c.if-noted.true c.drop_debt.ensures
    c.accept.ensures

pub returns : goal.returns
returns c =
    not_noted c.has_note-noted.ensures c.if-noted.false c.abort_at.ensures
