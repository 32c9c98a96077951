-- A block with other ticks.
use Prim.Native.Nat.{ℕ}
use Rattle.blocks.specs.declared.Block.{Block}

abbrev pub with_ticks_lem : Block → ℕ → Block
with_ticks_lem b n =
    record {
      place = b.place;
      priority = b.priority;
      ticks = n;
      outcome = b.outcome;
      badge = b.badge;
      message = b.message;
      owes = b.owes;
      note = b.note;
    }
