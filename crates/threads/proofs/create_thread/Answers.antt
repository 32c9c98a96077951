-- A present thread is refused; a new one joins its tail before the choice.
use Rattle.threads.proofs.Creating.{create_refused, enqueue_asked, create_chooses, created}
use Rattle.threads.proofs.create_thread.Goals as goal

pub returns-then-place-ne-ABSENT : goal.returns-then-place-ne-ABSENT
returns-then-place-ne-ABSENT c =
    create_refused _ c.thread-place.ensures c.if-place-ne-ABSENT.true

pub enqueue-requires : goal.enqueue-requires
enqueue-requires c =
    enqueue_asked _ c.thread-place.ensures c.if-place-ne-ABSENT.false c.new_thread.ensures
    c.requires

pub done-requires : goal.done-requires
done-requires c = search create_chooses

pub returns : goal.returns
returns c = search created
