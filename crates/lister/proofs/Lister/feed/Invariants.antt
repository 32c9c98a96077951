-- Each turn takes one byte more of the part, and its lines have room.
use Rattle.std.proofs.Common.{◌+◌, ◌*◌, ◌≤◌, take}
use Rattle.rows.specs.Memory.{within, SameSlices}
use Rattle.lister.specs.Feeding.{fed}
use Rattle.lister.specs.Buffers.{progress_of, Feeds, per_byte}
use Rattle.lister.proofs.Lister.feed.Given as goal

abbrev pub invariant-loop-byte : goal.invariant-loop-byte
invariant-loop-byte l =
    record {
      room : l.used + l.self.held * per_byte ≤ (l.initial.self.held + l.byte-index) * per_byte;
      same : SameSlices l.initial.memory l.memory;
      feeds :
          Feeds (fed l.form (take l.byte-index l.part) (progress_of l.initial.self (within l.initial.memory)))
          l.initial.out 0 l.self l.used (within l.memory) l.out;
    }
