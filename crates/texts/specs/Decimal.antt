-- Numbers in decimal, as bytes.
use Rattle.std.specs.Prelude.{ℕ, zero, suc, ◌+◌, ◌/◌, ◌%◌, true, false, List, [], ◌∷◌, ◌++◌, ltb}

-- The byte of a digit, 0 to 9.
abbrev pub digit : ℕ → ℕ
digit d = d + 48

-- The last k digits of n or, where n has fewer, all of them, the most significant first.
unfoldable pub last_digits : ℕ → ℕ → List ℕ
last_digits zero n = []
last_digits (suc k) n = elim (ltb n 10) [
  | true ↦ digit n ∷ []
  | false ↦ last_digits k (n / 10) ++ (digit (n % 10) ∷ [])
]

-- The number n in decimal. It has no more than n + 1 digits.
unfoldable pub decimal : ℕ → List ℕ
decimal n = last_digits (suc n) n

-- A number and the space after it.
unfoldable pub spaced : ℕ → List ℕ
spaced n = decimal n ++ (32 ∷ [])
