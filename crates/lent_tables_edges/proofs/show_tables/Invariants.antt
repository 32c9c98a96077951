-- The next table begins in the text, and the table has its length.
use Rattle.std.proofs.Common.{◌≡◌, ◌≤◌, length}
use Rattle.layout.specs.Addresses.{table_words}
use Rattle.lent_tables_edges.proofs.show_tables.Given as goal

abbrev pub invariant-loop-number : goal.invariant-loop-number
invariant-loop-number g l = (l.at ≤ length l.text) × (length l.kept ≡ table_words)
