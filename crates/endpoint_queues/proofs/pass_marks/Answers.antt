-- A mark that is the thread passes to its neighbour.
use borrow.Author.Rules.{rules}
use Rattle.endpoint_queues.proofs.Marking.{passed_both, passed_cursor, passed_end, passed_neither}
use Rattle.endpoint_queues.proofs.pass_marks.Goals as goal

pub returns-in-true-true : goal.returns-in-true-true
returns-in-true-true c =
    passed_both c.endpoint-cursor.ensures c.endpoint-end.ensures c.set_marks.ensures
    (search rules) (search rules)

pub returns-in-true-false : goal.returns-in-true-false
returns-in-true-false c =
    passed_cursor c.endpoint-cursor.ensures c.endpoint-end.ensures c.next.ensures
    c.set_marks-in-true-false.ensures (search rules) (search rules)

pub returns-in-false-true : goal.returns-in-false-true
returns-in-false-true c =
    passed_end c.endpoint-cursor.ensures c.endpoint-end.ensures c.prev.ensures
    c.set_marks-in-false-true.ensures (search rules) (search rules)

pub returns-in-false-false : goal.returns-in-false-false
returns-in-false-false c =
    passed_neither c.endpoint-cursor.ensures c.endpoint-end.ensures (search rules) (search rules)
