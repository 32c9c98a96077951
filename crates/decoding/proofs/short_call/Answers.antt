-- Each arm knows the numbers, and the table of calls computes there.
use mathlib.Core.Path.{sym}
use Rattle.journal.specs.Words.{call_of}
use Rattle.journal.proofs.Answers.{no_short}
use Rattle.journal.proofs.Options.{unused_not_0}
use Rattle.decoding.proofs.short_call.Goals as goal

pub returns-in-2-default-eq0 : goal.returns-in-2-default-eq0
unfolding call_of
returns-in-2-default-eq0 c = rw (c.in-2-default-eq0.is-0, c.in-2-default-eq0.is-2)

pub returns-in-4-default-eq0 : goal.returns-in-4-default-eq0
unfolding call_of
returns-in-4-default-eq0 c = rw (c.in-4-default-eq0.is-0, c.in-4-default-eq0.is-2)

pub returns-in-5-default-eq0 : goal.returns-in-5-default-eq0
unfolding call_of
returns-in-5-default-eq0 c = rw (c.in-5-default-eq0.is-0, c.in-5-default-eq0.is-2)

pub returns-in-8-default-eq0 : goal.returns-in-8-default-eq0
unfolding call_of
returns-in-8-default-eq0 c = rw (c.in-8-default-eq0.is-0, c.in-8-default-eq0.is-2)

pub returns-in-10-default-eq0 : goal.returns-in-10-default-eq0
unfolding call_of
returns-in-10-default-eq0 c = rw (c.in-10-default-eq0.is-0, c.in-10-default-eq0.is-2)

pub returns-in-6-eq0-eq0 : goal.returns-in-6-eq0-eq0
unfolding call_of
returns-in-6-eq0-eq0 c = rw (c.in-6-eq0-eq0.is-0, c.in-6-eq0-eq0.is-1, c.in-6-eq0-eq0.is-2)

pub returns-in-9-eq0-eq0 : goal.returns-in-9-eq0-eq0
unfolding call_of
returns-in-9-eq0-eq0 c = rw (c.in-9-eq0-eq0.is-0, c.in-9-eq0-eq0.is-1, c.in-9-eq0-eq0.is-2)

pub returns-in_default-4 : goal.returns-in_default-4
unfolding call_of
returns-in_default-4 c =
    rw (c.in_default.is-0, c.in_default.is-1) (sym (unused_not_0 c.args.argument _ c.in_default.is-2.1))

pub returns-in_default-7 : goal.returns-in_default-7
unfolding call_of
returns-in_default-7 c =
    rw (c.in_default.is-0, c.in_default.is-1) (sym (unused_not_0 c.args.argument _ c.in_default.is-2.1))

pub returns-in_default-10 : goal.returns-in_default-10
returns-in_default-10 c =
    sym (no_short c.args.subject c.args.argument c.args.number c.in_default.is-0)
