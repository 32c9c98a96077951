-- An absent thread is refused; a present one drops its debt, leaves its place and goes.
use Rattle.threads.proofs.Destroying.{destroy_refused, leave_asked}
use Rattle.threads.proofs.Destroying.{clear_asked, destroy_chooses, destroyed}
use Rattle.threads.proofs.destroy_thread.Goals as goal

pub returns-then-place-eq-ABSENT : goal.returns-then-place-eq-ABSENT
returns-then-place-eq-ABSENT c = search destroy_refused

pub leave-requires : goal.leave-requires
leave-requires c = search leave_asked

pub clear_thread-requires : goal.clear_thread-requires
clear_thread-requires c =
    clear_asked c.thread-place.ensures c.if-place-eq-ABSENT.false c.drop_debt.ensures
    c.leave.ensures c.requires

pub done-requires : goal.done-requires
done-requires c = search destroy_chooses

pub returns : goal.returns
returns c = search destroyed
