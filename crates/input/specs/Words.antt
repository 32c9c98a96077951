-- Bytes and the words in them.
use Rattle.std.specs.Prelude.{ℕ, ◌+◌, ◌*◌, ◌^◌, List, [], ◌∷◌, get_or}

-- "little-endian": the word at a place, its lowest byte first
abbrev pub little_endian : List ℕ → ℕ → ℕ
little_endian bytes at =
    get_or bytes at 0 + get_or bytes (at + 1) 0 * 2 ^ 8 + get_or bytes (at + 2) 0 * 2 ^ 16
    + get_or bytes (at + 3) 0 * 2 ^ 24

-- "little-endian words": the whole ones in these bytes, in order; one to three bytes at the end are no word
unfoldable pub words_in : List ℕ → List ℕ
words_in [] = []
words_in (a ∷ []) = []
words_in (a ∷ b ∷ []) = []
words_in (a ∷ b ∷ c ∷ []) = []
words_in (a ∷ b ∷ c ∷ d ∷ bytes) = little_endian (a ∷ b ∷ c ∷ d ∷ []) 0 ∷ words_in bytes
