-- Lists of thread numbers, and tables as functions of a number.
use Rattle.std.specs.Prelude.{ℕ, zero, suc, ◌<◌, ◌≡◌, ◌⊎◌, Bool, true, false, List, [], ◌∷◌, eqb}
use Rattle.std.proofs.Math.Option.{Option, none, some}

-- The first where the test holds, the second where it fails.
abbrev pub pick : {A : Type 0} → Bool → A → A → A
pick true a b = a
pick false a b = b

-- The table f with x at i.
unfoldable pub put : {A : Type 0} → (ℕ → A) → ℕ → A → ℕ → A
put f i x k = pick (eqb k i) x (f k)

-- The list without t, the others in their order.
unfoldable pub without : ℕ → List ℕ → List ℕ
without t [] = []
without t (x ∷ l) = pick (eqb x t) (without t l) (x ∷ without t l)

-- Those of the list for which the test holds, in their order.
unfoldable pub only : (ℕ → Bool) → List ℕ → List ℕ
only f [] = []
only f (x ∷ l) = pick (f x) (x ∷ only f l) (only f l)

-- The numbers below n, ascending, and then those of the list.
unfoldable pub below : ℕ → List ℕ → List ℕ
below zero l = l
below (suc n) l = below n (n ∷ l)

-- The first of the list, if it has one.
abbrev pub first : List ℕ → Option ℕ
first [] = none
first (x ∷ l) = some x

-- t stands in the list.
abbrev pub Mem : ℕ → List ℕ → Type 0
Mem t [] = ⊥
Mem t (x ∷ l) = (t ≡ x) ⊎ Mem t l

-- Nothing stands twice in the list.
abbrev pub Distinct : List ℕ → Type 0
Distinct [] = Unit {0}
Distinct (x ∷ l) = (Mem x l → ⊥) × Distinct l

-- The numbers ascend.
abbrev pub Rising : List ℕ → Type 0
Rising [] = Unit {0}
Rising (x ∷ l) = ((w : ℕ) → Mem w l → x < w) × Rising l
