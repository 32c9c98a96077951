-- The running thread, by the link to it.
use Rattle.sound_words.proofs.Running.{running_nobody, running_outside, running_somebody}
use Rattle.sound_words.proofs.chosen.running.Goals as goal

pub returns-then-running-eq-NOBODY : goal.returns-then-running-eq-NOBODY
returns-then-running-eq-NOBODY c =
    running_nobody _ c.wide-running.ensures c.if-running-eq-NOBODY.true c.wide.ensures c.above.ensures

pub returns-then-running-gt-LAST_LINK : goal.returns-then-running-gt-LAST_LINK
returns-then-running-gt-LAST_LINK c = running_outside _ c.wide-running.ensures c.if-running-gt-LAST_LINK.true

pub returns : goal.returns
returns c =
    running_somebody _ c.wide-running.ensures c.if-running-eq-NOBODY.false c.if-running-gt-LAST_LINK.false
    c.thread.ensures c.thread-2.ensures c.above-2.ensures
