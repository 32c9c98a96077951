-- The lent memory of the grants: which word is whose, and which memories are sound.
use Rattle.std.specs.Prelude.{ℕ, ◌+◌, ◌*◌, ◌^◌, ◌/◌, ◌%◌, ◌<◌, ◌≡◌, Bool, ◌&&◌, ◌||◌, List, eqb, leb}
use Rattle.machine.specs.Lists.{pick}
use Rattle.machine.specs.Grants.{Grants, rights_in, badge_in}
use Rattle.layout.specs.Addresses.{word}
use Rattle.layout.specs.Words.{tabulate}
use Rattle.layout.specs.Tests.{all}

-- How many words are lent for the grants.
abbrev pub grant_words : ℕ
grant_words = 16384

-- The words are 32-bit words.
abbrev pub Words32 : List ℕ → Type 0
Words32 l = (i : ℕ) → word l i < 2 ^ 32

-- The grants in a memory: word 64 × thread + endpoint. Past the last thread and endpoint stands 0.
unfoldable pub grants_of : List ℕ → Grants
grants_of l t e = pick (leb t 255 && leb e 63) (word l (64 * t + e)) 0

-- The memory of grants.
unfoldable pub grant_image : Grants → List ℕ
grant_image g = tabulate grant_words (λ i. g (i / 64) (i % 64))

-- "one holding a badge without any right"
abbrev pub Bare : ℕ → Type 0
Bare w = (rights_in w ≡ 0) × (badge_in w ≡ 0 → ⊥)

-- The test of a word: it is 0, or has a right.
abbrev pub sound_word : ℕ → Bool
sound_word w = eqb w 0 || leb (2 ^ 28) w

-- No word of the memory is unsound.
unfoldable pub sound_at : List ℕ → ℕ → Bool
sound_at l i = sound_word (word l i)

unfoldable pub grants_test : List ℕ → Bool
grants_test l = all grant_words (sound_at l)
