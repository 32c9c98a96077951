-- The summary. The loop's invariant: words below w agree, and the top word's bits below w are summed.
use Prim.Native.Nat.{ℕ, ◌<◌}
use mathlib.Core.Bool.{true}
use mathlib.Core.Path.{◌≡◌}
use Rattle.sound_words.proofs.Summing.{Summed, words_of, agrees}
use Rattle.sound_words.proofs.chosen.summary.Given as goal

abbrev pub invariant-loop-w : goal.invariant-loop-w
invariant-loop-w l =
    Summed (words_of l.tables) l.w l.sum l.bit × ((k : ℕ) → k < l.w → agrees l.tables k ≡ true)
