-- What the address functions promise: the address, and that it lies in the memory.
use Rattle.std.specs.Prelude.{ℕ, ◌+◌, ◌*◌, ◌<◌, ◌≤◌, ◌≡◌}
use Rattle.layout.specs.Addresses.{table_words, after_at, before_at}
use Rattle.words.specs.declared.Beside.{Beside}

pub record Address (r a : ℕ) : Type 0 where
  pub is : r ≡ a
  pub small : r < table_words

-- The two words of link x of queue q stand next to each other: they are pair r of the memory.
pub record Pair (r q x : ℕ) : Type 0 where
  pub after : 2 * r ≡ after_at q x
  pub before : 2 * r + 1 ≡ before_at q x
  pub small : 2 * r + 1 < table_words

abbrev pub beside_at : Beside → ℕ
beside_at (Beside.After q x) = after_at q x
beside_at (Beside.Before q x) = before_at q x

abbrev pub ValidBeside : Beside → Type 0
ValidBeside (Beside.After q x) = (q ≤ 319) × (x ≤ 256)
ValidBeside (Beside.Before q x) = (q ≤ 319) × (x ≤ 256)
