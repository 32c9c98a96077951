-- The first waiter's place tells whether all are at it, or none is.
use Rattle.debts.proofs.Firsts.{place_asked, at_empty, at_other, at_place}
use Rattle.debts.proofs.first_at.Goals as goal

pub returns-then-link-eq-NOBODY : goal.returns-then-link-eq-NOBODY
returns-then-link-eq-NOBODY c = search at_empty depth 9

pub thread-at-requires : goal.thread-at-requires
thread-at-requires c = search place_asked depth 9

pub returns-then-at-place : goal.returns-then-at-place
returns-then-at-place c =
    at_other _ c.first-link.ensures c.if-link-eq-NOBODY.false c.thread-at.ensures c.if-at-place.true

pub returns : goal.returns
returns c =
    at_place _ c.first-link.ensures c.if-link-eq-NOBODY.false c.thread-at.ensures c.if-at-place.false
