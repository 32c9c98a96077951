-- The summary of a set of levels: the eight words and the top word, as numbers, and the highest level of the set.
-- A set is a test of levels, of which those below 256 count; the methods' promises speak of every set at once.
use Rattle.std.specs.Prelude.{ℕ, zero, suc, ◌+◌, ◌*◌, ◌^◌, ◌≡◌, Bool, false, not, List, [], ◌∷◌, eqb}
use Rattle.std.specs.Prelude as code
use Rattle.std.proofs.Math.Option.{Option, none, some}
use Rattle.calls.specs.Answers.{maybe_of}
use Rattle.machine.specs.Lists.{pick, put}
use Rattle.summary.specs.declared.Summary.{Summary}

-- The number whose bit k is set exactly when f k, for k below n.
unfoldable pub bits : ℕ → (ℕ → Bool) → ℕ
bits zero f = 0
bits (suc n) f = pick (f n) (2 ^ n) 0 + bits n f

-- Bit p mod 32 of word p div 32 is set exactly when level p is occupied: word w of the set.
unfoldable pub word_of : (ℕ → Bool) → ℕ → ℕ
word_of occupied w = bits 32 (λ k. occupied (32 * w + k))

-- Bit w of the top word is set exactly when word w is not 0.
unfoldable pub top_of : (ℕ → Bool) → ℕ
top_of occupied = bits 8 (λ w. not (eqb (word_of occupied w) 0))

-- The words 0 to 7 of the set.
unfoldable pub level_words : (ℕ → Bool) → List ℕ
level_words f =
    word_of f 0 ∷ word_of f 1 ∷ word_of f 2 ∷ word_of f 3 ∷ word_of f 4 ∷ word_of f 5 ∷ word_of f 6 ∷ word_of f 7 ∷ []

-- The summary of the set.
unfoldable pub summary_of : (ℕ → Bool) → Summary
summary_of f = record { words = level_words f; top = top_of f }

-- The set of no level.
abbrev pub no_level : ℕ → Bool
no_level p = false

-- The highest of the levels below n that are in the set.
unfoldable pub highest_in : ℕ → (ℕ → Bool) → Option ℕ
highest_in zero f = none
highest_in (suc n) f = pick (f n) (some n) (highest_in n f)

-- s is the summary of a set.
pub record IsSummary (s : Summary) : Type 0 where
  pub levels : ℕ → Bool
  pub shown : s ≡ summary_of levels

-- r is s with level p occupied (x is true) or empty (x is false): of whatever set s is the summary, r is the summary
-- of the set with p put in or left out.
pub record SetsBit (s : Summary) (p : ℕ) (x : Bool) (r : Summary) : Type 0 where
  pub marked : (f : ℕ → Bool) → s ≡ summary_of f → r ≡ summary_of (put f p x)

-- l is the highest level of whatever set s is the summary of.
pub record Finds (s : Summary) (l : code.Option ℕ) : Type 0 where
  pub found : (f : ℕ → Bool) → s ≡ summary_of f → maybe_of l ≡ highest_in 256 f
