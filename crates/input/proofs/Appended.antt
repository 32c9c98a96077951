-- The words in bytes: how many, which is the first, and what they are where bytes are appended.
use Prim.Native.Nat.{ℕ, zero, suc, ◌*◌, ◌/◌, ◌≤◌, ◌<◌}
use mathlib.Core.Path.{◌≡◌, refl, ap}
use mathlib.Core.List.{List, [], ◌∷◌, ◌++◌}
use native.Mathlib.Omega.{arith}
use lib.ListN.{length, drop}
use Rattle.input.specs.Words.{little_endian, words_in}

-- Fewer than four bytes have no word.
pub no_words : (bytes : List ℕ) → length bytes < 4 → words_in bytes ≡ []
unfolding words_in
no_words [] h = refl
no_words (a ∷ []) h = refl
no_words (a ∷ b ∷ []) h = refl
no_words (a ∷ b ∷ c ∷ []) h = refl
no_words (a ∷ b ∷ c ∷ d ∷ bytes) h = absurd (omega (arith, h))

-- Four bytes or more have the word that they begin with.
pub first_word : (bytes : List ℕ) → 4 ≤ length bytes → words_in bytes ≡ little_endian bytes 0 ∷ words_in (drop 4 bytes)
unfolding words_in
first_word [] h = absurd (omega (arith, h))
first_word (a ∷ []) h = absurd (omega (arith, h))
first_word (a ∷ b ∷ []) h = absurd (omega (arith, h))
first_word (a ∷ b ∷ c ∷ []) h = absurd (omega (arith, h))
first_word (a ∷ b ∷ c ∷ d ∷ bytes) h = refl

-- It stays where bytes are appended.
pub first_appended :
    (bytes more : List ℕ) → 4 ≤ length bytes → little_endian (bytes ++ more) 0 ≡ little_endian bytes 0
first_appended [] more h = absurd (omega (arith, h))
first_appended (a ∷ []) more h = absurd (omega (arith, h))
first_appended (a ∷ b ∷ []) more h = absurd (omega (arith, h))
first_appended (a ∷ b ∷ c ∷ []) more h = absurd (omega (arith, h))
first_appended (a ∷ b ∷ c ∷ d ∷ bytes) more h = refl

-- A word has four bytes.
pub length_words : (bytes : List ℕ) → length (words_in bytes) ≡ length bytes / 4
unfolding words_in
length_words [] = refl
length_words (a ∷ []) = refl
length_words (a ∷ b ∷ []) = refl
length_words (a ∷ b ∷ c ∷ []) = refl
length_words (a ∷ b ∷ c ∷ d ∷ bytes) = omega (arith, length_words bytes)

-- Behind whole words the words are those of what is appended.
pub words_append :
    (bytes more : List ℕ) (n : ℕ) → length bytes ≡ n * 4 → words_in (bytes ++ more) ≡ words_in bytes ++ words_in more
unfolding words_in
words_append [] more n h = refl
words_append (a ∷ []) more n h = absurd (omega (arith, h))
words_append (a ∷ b ∷ []) more n h = absurd (omega (arith, h))
words_append (a ∷ b ∷ c ∷ []) more n h = absurd (omega (arith, h))
words_append (a ∷ b ∷ c ∷ d ∷ bytes) more zero h = absurd (omega (arith, h))
words_append (a ∷ b ∷ c ∷ d ∷ bytes) more (suc n) h =
    ap (λ (l : List ℕ). little_endian (a ∷ b ∷ c ∷ d ∷ []) 0 ∷ l) (words_append bytes more n (omega (arith, h)))
