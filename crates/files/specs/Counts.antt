-- What the contracts of `part` and `whole` cite.
use Rattle.std.specs.Prelude.{◌≡◌, ℕ, ◌≤◌, List, length, take, Result, Ok, Err}
use Rattle.files.specs.declared.ReadFailed.{ReadFailed}

-- `&xs[..n]` is in bounds and has n bytes. The second part follows from the first, and spares a caller's `&buf[..n]` a
-- proof file.
abbrev pub IsPrefixLen : ℕ → List ℕ → Type 0
IsPrefixLen n xs = (n ≤ length xs) × (n ≡ length (take n xs))

-- So many bytes were read, before the end or before the read that failed.
abbrev pub came : Result ℕ ReadFailed → ℕ
came (Ok n) = n
came (Err e) = e.after
