-- Each word of the summary is read at its place.
use Rattle.std.proofs.Common.{rules}
use Rattle.store.proofs.Levels.{loads}
use Rattle.store.proofs.load_summary.Goals as goal

pub returns : goal.returns
returns c =
    let row = c.from_fn.ensures.items in
    loads _ _ _ row.long (λ k h. let read = row.at k 0 h in search rules) c.get.ensures
