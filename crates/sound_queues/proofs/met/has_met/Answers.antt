-- The word of the thread is 1 exactly where it was met.
use borrow.Author.Rules.{rules}
use Rattle.sound_queues.proofs.Meeting.{tell_met}
use Rattle.sound_queues.proofs.met.has_met.Goals as goal

pub returns : goal.returns
returns c = record { tells = λ f e. rw e (tell_met f _ (search rules)) }
