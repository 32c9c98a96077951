-- The memory that a caller lends, as three slices that stay the caller's.
use Rattle.std.specs.Prelude.{◌≡◌}
use Rattle.lent_tables.specs.Entries.{Lent, lent}
use Rattle.rows.specs.declared.Memory.{Memory}

-- What it holds.
abbrev pub within : Memory → Lent
within m = lent m.tables.now m.grants.now m.scratch.now

-- The slices are the same ones.
abbrev pub SameSlices : Memory → Memory → Type 0
SameSlices a b =
    (a.tables.ghost_name ≡ b.tables.ghost_name) × (a.grants.ghost_name ≡ b.grants.ghost_name)
    × (a.scratch.ghost_name ≡ b.scratch.ghost_name)
