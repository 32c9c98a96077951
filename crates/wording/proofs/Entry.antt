-- The ways of the two entries.
use Prim.Native.Nat.{ℕ, ◌≤◌, ◌<◌}
use mathlib.Core.Path.{◌≡◌}
use mathlib.Core.Bool.{true, false}
use mathlib.Core.List.{List}
use lib.ListN.{length}
use borrow.Author.Tests.{le-leb, lt-leb}
use Rattle.calls.specs.declared.Answer.{Answer}
use Rattle.calls.specs.declared.Call.{Call}
use Rattle.calls.specs.Calls.{in_range}
use Rattle.texts.specs.Filed.{filed, unfiled}
use Rattle.wording.specs.Sentence.{sentence, stop_line}
use Rattle.wording.specs.Entry.{sentence_room, sentence_for, stop_for}

module _ (c : Call) (a : Answer) (out : List ℕ) where
  pub short_for : length out < sentence_room → unfiled 28 out ≡ sentence_for c a out
  unfolding sentence_for
  short_for h = rw (lt-leb sentence_room (length out) h)

  pub range_for : sentence_room ≤ length out → in_range c ≡ false → unfiled 19 out ≡ sentence_for c a out
  unfolding sentence_for
  range_for h e = rw (le-leb sentence_room (length out) h, e)

  pub line_for : sentence_room ≤ length out → in_range c ≡ true → filed (sentence c a) out ≡ sentence_for c a out
  unfolding sentence_for
  line_for h e = rw (le-leb sentence_room (length out) h, e)

module _ (code : ℕ) (out : List ℕ) where
  pub stop_short_for : length out < sentence_room → unfiled 28 out ≡ stop_for code out
  unfolding stop_for
  stop_short_for h = rw (lt-leb sentence_room (length out) h)

  pub stop_line_for : sentence_room ≤ length out → filed (stop_line code) out ≡ stop_for code out
  unfolding stop_for
  stop_line_for h = rw (le-leb sentence_room (length out) h)
