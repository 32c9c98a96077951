-- The level's bit is cleared, and the word's where the word is then 0.
use Rattle.summary.proofs.Marked.{marks_emptied, marks_kept}
use Rattle.summary.proofs.Summary.emptied.Goals as goal

pub returns-then-word-eq0 : goal.returns-then-word-eq0
returns-then-word-eq0 c =
    marks_emptied c.args.self c.args.p c.requires c.if-word-eq0.true

pub returns : goal.returns
returns c =
    marks_kept c.args.self c.args.p c.requires c.if-word-eq0.false
