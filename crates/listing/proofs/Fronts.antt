-- A text at the front of a buffer: what the reader is promised of it, with room for every line and without.
use Prim.Native.Nat.{ℕ, ◌≤◌, ◌<◌}
use mathlib.Core.Path.{◌≡◌, ◌∙◌, ap}
use mathlib.Core.List.{List, ◌++◌}
use native.Mathlib.Omega.{arith}
use native.Mathlib.Nat.{zero-add}
use borrow.Author.Tests.{le-leb, lt-leb}
use lib.ListN.{length, drop}
use Rattle.texts.specs.Buffer.{pasted, Wrote}
use Rattle.listing.specs.Buffer.{line_room, line_length, after_line}

pub front_length : {m m' text : List ℕ} {r : ℕ} → line_room ≤ length m → Wrote m 0 text r m' → r ≡ line_length text m
unfolding line_length
front_length {m} h w = rw (le-leb line_room (length m) h) (w.next ∙ omega arith)

pub front_after : {m m' text : List ℕ} {r : ℕ} → line_room ≤ length m → Wrote m 0 text r m' → m' ≡ after_line text m
unfolding after_line pasted
front_after {m} {text = text} h w =
    rw (le-leb line_room (length m) h) (w.bytes ∙ ap (λ (k : ℕ). text ++ drop k m) (zero-add (length text)))

pub short_length : (m text : List ℕ) → length m < line_room → 0 ≡ line_length text m
unfolding line_length
short_length m text h = rw (lt-leb line_room (length m) h)

pub short_after : (m text : List ℕ) → length m < line_room → m ≡ after_line text m
unfolding after_line
short_after m text h = rw (lt-leb line_room (length m) h)
