-- What a thread owes, by the three cases of its word.
use Rattle.sound_words.proofs.Numbers.{owing_nothing, owing_work, owing_note}
use Rattle.sound_words.proofs.thread_words.owing.Goals as goal

pub returns-then-owes-eq-NOTHING : goal.returns-then-owes-eq-NOTHING
returns-then-owes-eq-NOTHING c =
    owing_nothing _ _ c.thread-note.ensures c.thread-owes.ensures c.if-owes-eq-NOTHING.true

pub returns-then-owes-le-LAST_MEMBER : goal.returns-then-owes-le-LAST_MEMBER
returns-then-owes-le-LAST_MEMBER c =
    owing_work _ _ c.thread-note.ensures c.thread-owes.ensures
    c.if-owes-eq-NOTHING.false c.if-owes-le-LAST_MEMBER.true c.endpoint.ensures

pub returns : goal.returns
returns c =
    owing_note _ _ c.thread-note.ensures c.thread-owes.ensures
    c.if-owes-eq-NOTHING.false c.if-owes-le-LAST_MEMBER.false
