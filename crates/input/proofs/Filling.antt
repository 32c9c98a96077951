-- A buffer that is filled with words from the front: all of them are the words in the bytes.
use Prim.Native.Nat.{ℕ, zero, suc, ◌+◌, ◌*◌, ◌/◌, ◌≤◌, ◌<◌}
use mathlib.Core.Path.{◌≡◌, refl, ap, ◌∙◌}
use mathlib.Core.List.{List, [], ◌∷◌}
use native.Mathlib.Omega.{arith}
use lib.ListN.{length, get_or, take}
use Rattle.input.specs.Words.{little_endian, words_in}

-- the buffer's first words, so many, are those of the bytes
pub record WordsOf (bytes words : List ℕ) (count : ℕ) : Type 0 where
  pub each : (i : ℕ) → i < count → get_or words i 0 ≡ little_endian bytes (i * 4)

-- Four bytes further on the words are the next ones.
next_words :
    (a b c d : ℕ) (bytes : List ℕ) (w : ℕ) (words : List ℕ) (n : ℕ) →
    WordsOf (a ∷ b ∷ c ∷ d ∷ bytes) (w ∷ words) (suc n) → WordsOf bytes words n
next_words a b c d bytes w words n all = record {
  each = λ i h.
      all.each (suc i) (omega (arith, h)) ∙ omega (arith, first_on i, on i 1, on i 2, on i 3);
}
  where
    longer : List ℕ
    longer = a ∷ b ∷ c ∷ d ∷ bytes

    first_on : (i : ℕ) → get_or longer (suc i * 4) 0 ≡ get_or bytes (i * 4) 0
    first_on i = let e : suc i * 4 ≡ suc (suc (suc (suc (i * 4)))) = omega arith in ap (λ p. get_or longer p 0) e

    on : (i k : ℕ) → get_or longer (suc i * 4 + k) 0 ≡ get_or bytes (i * 4 + k) 0
    on i k = let e : suc i * 4 + k ≡ suc (suc (suc (suc (i * 4 + k)))) = omega arith in ap (λ p. get_or longer p 0) e

-- The words that the buffer begins with are the whole little-endian words in the bytes.
pub taken_words :
    (bytes words : List ℕ) (n : ℕ) → n ≡ length bytes / 4 → n ≤ length words → WordsOf bytes words n →
    take n words ≡ words_in bytes
unfolding words_in
taken_words [] words zero e h all = refl
taken_words (a ∷ []) words zero e h all = refl
taken_words (a ∷ b ∷ []) words zero e h all = refl
taken_words (a ∷ b ∷ c ∷ []) words zero e h all = refl
taken_words (a ∷ b ∷ c ∷ d ∷ bytes) words zero e h all = absurd (omega (arith, e))
taken_words [] words (suc n) e h all = absurd (omega (arith, e))
taken_words (a ∷ []) words (suc n) e h all = absurd (omega (arith, e))
taken_words (a ∷ b ∷ []) words (suc n) e h all = absurd (omega (arith, e))
taken_words (a ∷ b ∷ c ∷ []) words (suc n) e h all = absurd (omega (arith, e))
taken_words (a ∷ b ∷ c ∷ d ∷ bytes) [] (suc n) e h all = absurd (omega (arith, h))
taken_words (a ∷ b ∷ c ∷ d ∷ bytes) (w ∷ words) (suc n) e h all =
    cons (all.each 0 (omega arith))
    (taken_words bytes words n (omega (arith, e)) (omega (arith, h)) (next_words a b c d bytes w words n all))
  where
    cons : {v w : ℕ} {l k : List ℕ} → v ≡ w → l ≡ k → ◌≡◌ {A = List ℕ} (v ∷ l) (w ∷ k)
    cons p q = cc
