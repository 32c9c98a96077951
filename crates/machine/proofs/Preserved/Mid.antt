-- A sound state holds in the middle of a call too.
use Rattle.machine.specs.State.{State}
use Rattle.machine.specs.Sound.{Sound}
use Rattle.machine.specs.Mid.{Mid}

pub sound_mid : {s : State} → Sound s → Mid s
sound_mid S =
    record {
      ranges = S.ranges;
      queues = S.queues;
      statuses = S.statuses;
      marks = S.marks;
      members = S.members;
      outcomes = S.outcomes;
    }
