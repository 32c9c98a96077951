-- The pass over the words, one after the other.
use Prim.Native.Nat.{ℕ, ◌+◌, ◌≤◌}
use mathlib.Core.Path.{◌≡◌, refl, ◌∙◌, ap}
use mathlib.Core.Bool.{Bool, true, false, ◌&&◌}
use mathlib.Core.List.{List}
use native.Mathlib.Numerals.{add-one}
use native.Mathlib.Omega.{arith}
use Rattle.layout.specs.Addresses.{word}
use Rattle.layout.specs.Tests.{all}
use Rattle.grants.specs.Memory.{grant_words, sound_word, sound_at, grants_test}

module _ (l : List ℕ) where
  pub pass_none : true ≡ all 0 (sound_at l)
  unfolding all
  pass_none = refl

  pub pass_more :
      (i w : ℕ) (s b : Bool) → w ≡ word l i → s ≡ sound_word w → b ≡ all i (sound_at l)
      → (b && s) ≡ all (i + 1) (sound_at l)
  unfolding all sound_at
  pass_more i w s b e f h = turned b s ∙ rw (f, e, h, add-one)
    where
      turned : (x y : Bool) → (x && y) ≡ (y && x)
      turned true true = refl
      turned true false = refl
      turned false true = refl
      turned false false = refl

  -- A pass to the end has tried all.
  pub pass_whole : (i : ℕ) (b : Bool) → b ≡ all i (sound_at l) → i ≤ grant_words → grant_words ≤ i → b ≡ grants_test l
  unfolding grants_test
  pass_whole i b h k j = let e : i ≡ grant_words = omega arith in h ∙ ap (λ (n : ℕ). all n (sound_at l)) e
