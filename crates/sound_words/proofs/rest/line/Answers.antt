-- A line, by its word.
use Rattle.sound_words.proofs.Running.{line_free, line_far, line_waited}
use Rattle.sound_words.proofs.rest.line.Goals as goal

pub returns-then-line-lt-AWAITED : goal.returns-then-line-lt-AWAITED
returns-then-line-lt-AWAITED c = line_free _ _ c.wide-line.ensures c.if-line-lt-AWAITED.true

pub returns-then-line-gt-LAST_AWAITED : goal.returns-then-line-gt-LAST_AWAITED
returns-then-line-gt-LAST_AWAITED c = line_far _ _ c.wide-line.ensures c.if-line-gt-LAST_AWAITED.true

pub returns : goal.returns
returns c =
    line_waited _ _ c.wide-line.ensures c.if-line-lt-AWAITED.false c.if-line-gt-LAST_AWAITED.false c.thread.ensures
