-- On fresh memory.
use Prim.Native.Nat.{ℕ}
use lib.ListN.{replicate, length-replicate}
use Rattle.layout.specs.Addresses.{table_words, scratch_words}
use Rattle.grants.specs.Memory.{grant_words}
use Rattle.rows.proofs.Run.{ran_freshened}
use Rattle.ticks.proofs.run.Goals as goal

pub turns-requires : goal.turns-requires
turns-requires c = (
  c.requires.0,
  c.requires.1,
  ran_freshened c.args.journal.now (replicate table_words 0) (replicate grant_words 0)
      (replicate scratch_words 0) _ c.fresh.ensures (length-replicate {A = ℕ} table_words 0)
      (length-replicate {A = ℕ} grant_words 0) (length-replicate {A = ℕ} scratch_words 0),
)
