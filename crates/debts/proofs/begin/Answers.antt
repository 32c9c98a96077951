-- The abort begins with the first and the last sender as its marks, and the thread joins its set.
use Rattle.debts.proofs.Beginning.{beginner_asked, begins}
use Rattle.debts.proofs.begin.Goals as goal

pub join-requires : goal.join-requires
join-requires c =
    beginner_asked c.first_at-cursor.ensures c.last_sender-end.ensures
    c.set_abort.ensures c.requires

pub returns : goal.returns
returns c = search begins depth 9
