-- The middle of a call, of which the contracts of its steps speak: the state is sound, but nobody has been chosen yet.
use Rattle.machine.specs.State.{State}
use Rattle.machine.specs.Sound.{Ranges, Queues, Statuses, Marks, Members, Outcomes}

-- Sound but for the choice of the running thread. The chooser makes it Sound.
pub record Mid (s : State) : Type 0 where
  pub ranges : Ranges s
  pub queues : Queues s
  pub statuses : Statuses s
  pub marks : Marks s
  pub members : Members s
  pub outcomes : Outcomes s
