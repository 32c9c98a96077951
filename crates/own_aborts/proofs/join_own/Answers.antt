-- Joined, the abort is open to the work.
use borrow.Author.Rules.{rules}
use Rattle.own_aborts.proofs.Joined.{joins_asked, joined_asked, own_joins}
use Rattle.own_aborts.proofs.join_own.Goals as goal

pub join-requires : goal.join-requires
join-requires c = joins_asked c.requires.0

pub work_own-requires : goal.work_own-requires
work_own-requires c =
    (joined_asked c.join.ensures c.requires.0, search rules)

pub returns : goal.returns
returns c =
    own_joins c.join.ensures _ c.work_own.ensures
