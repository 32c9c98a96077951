-- The level's bit and its word's bit are set.
use Rattle.summary.proofs.Marked.{marks_occupied}
use Rattle.summary.proofs.Summary.occupied.Goals as goal

pub returns : goal.returns
returns c =
    marks_occupied c.args.self c.args.p c.requires
