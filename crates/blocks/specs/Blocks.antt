-- The block of a thread: the numbers that its words hold, but for the links. What a tick makes of it, and what loading
-- and storing it promise.
use Rattle.std.specs.Prelude.{ℕ, zero, suc, ◌-◌, ◌≡◌, List}
use Rattle.machine.specs.State.{State, Thread, set_thread}
use Rattle.layout.specs.Words.{place_code, debt_code, note_code}
use Rattle.layout.specs.Shows.{Shows}
use Rattle.store.specs.Steps.{Does}
use Rattle.store.specs.Store.{IsThread}
use Rattle.blocks.specs.declared.Block.{Block}

-- The ticks where n are left: at 0 all 5 again.
abbrev pub refilled : ℕ → ℕ
refilled zero = 5
refilled (suc n) = suc n

-- A tick takes one, and leaves the block's other numbers.
abbrev pub ticked_block : Block → Block
ticked_block b =
    record {
      place = b.place;
      priority = b.priority;
      ticks = refilled (b.ticks - 1);
      outcome = b.outcome;
      badge = b.badge;
      message = b.message;
      owes = b.owes;
      note = b.note;
    }

-- The block of a thread.
abbrev pub block_of : Thread → Block
block_of x =
    record {
      place = place_code x.place;
      priority = x.priority;
      ticks = x.ticks;
      outcome = x.outcome;
      badge = x.badge;
      message = x.message;
      owes = debt_code x.debt;
      note = note_code x.debt;
    }

-- b is the block of thread t, in whatever state the memory shows.
pub record LoadsBlock (m : List ℕ) (t : ℕ) (b : Block) : Type 0 where
  pub loads : (s : State) → Shows m s → IsThread t s → b ≡ block_of (s.threads t)

-- Some thread has the block b.
pub record IsBlock (b : Block) : Type 0 where
  pub thread : Thread
  pub is : block_of thread ≡ b

-- Thread t becomes whatever thread has the block b.
pub record SetsBlock (m : List ℕ) (t : ℕ) (b : Block) (m' : List ℕ) : Type 0 where
  pub does : (x : Thread) → block_of x ≡ b → Does m m' (IsThread t) (set_thread t x)
