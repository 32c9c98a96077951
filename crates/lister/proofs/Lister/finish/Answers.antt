-- Stopped, nothing held, or the line of 18.
use Rattle.std.proofs.Common.{[], rules}
use Rattle.lent_tables.specs.Entries.{lent}
use Rattle.lister.proofs.Taking.{stopped_ends, nothing_ends, held_ends}
use Rattle.lister.proofs.Lister.finish.Goals as goal

pub returns-then-self-eq0-clause-wrote : goal.returns-then-self-eq0-clause-wrote
returns-then-self-eq0-clause-wrote c =
    nothing_ends c.args.form c.args.self.now (lent c.args.tables.now [] []) c.args.out.now c.if-self-eq0.true

pub returns-then-not-self-clause-wrote : goal.returns-then-not-self-clause-wrote
returns-then-not-self-clause-wrote c =
    stopped_ends c.args.form c.args.self.now (lent c.args.tables.now [] []) c.args.out.now
    c.if-not-self.true

pub returns-clause-wrote : goal.returns-clause-wrote
returns-clause-wrote c =
    held_ends c.args.form c.args.self.now (lent c.args.tables.now [] []) c.args.out.now
    c.if-not-self.false c.if-self-eq0.false
    (search rules) _ c.running.ensures _ _ (rw c.into.ensures at c.stop.ensures.wrote)
