-- What a call that may be missing comes to where it is refused.
use Prim.Native.Nat.{◌≤◌, ◌<◌}
use mathlib.Core.Path.{◌≡◌}
use mathlib.Core.List.{List}
use mathlib.Core.Option.{Option, none, some}
use Prim.Native.Nat.{ℕ}
use lib.ListN.{length}
use borrow.Author.Tests.{le-leb, lt-leb}
use Rattle.calls.specs.declared.Answer.{Answer}
use Rattle.calls.specs.declared.Call.{Call}
use Rattle.texts.specs.Filed.{unfiled}
use Rattle.wording.specs.Entry.{sentence_room}
use Rattle.wording.proofs.Entry.{short_for}
use Rattle.tools_c.specs.Entries.{sentence_named}

pub short_named :
    (o : Option Call) (a : Answer) (out : List ℕ) → length out < sentence_room → unfiled 28 out ≡ sentence_named o a out
short_named (some c) a out h = short_for c a out h
short_named none a out h = rw (lt-leb sentence_room (length out) h)

pub none_named :
    (a : Answer) (out : List ℕ) → sentence_room ≤ length out → unfiled 18 out ≡ sentence_named none a out
none_named a out h = rw (le-leb sentence_room (length out) h)
