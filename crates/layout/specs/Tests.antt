-- Tests over numbers and lists. What they tell is in proofs/Tests.
use Rattle.std.specs.Prelude.{ℕ, zero, suc, Bool, true, false, not, ◌&&◌, ◌||◌, List, [], ◌∷◌, eqb}

-- The test holds for each number below n.
unfoldable pub all : ℕ → (ℕ → Bool) → Bool
all zero f = true
all (suc n) f = f n && all n f

abbrev pub same : Bool → Bool → Bool
same true b = b
same false b = not b

abbrev pub member : ℕ → List ℕ → Bool
member t [] = false
member t (x ∷ l) = eqb t x || member t l
