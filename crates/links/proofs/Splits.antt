-- The ends of a list of threads as links, and a list split at one of its threads.
use Prim.Native.Nat.{ℕ, zero, suc, ◌≤◌}
use mathlib.Core.Path.{◌≡◌, refl, sym, ap, subst}
use mathlib.Core.Logic.{inl, inr}
use mathlib.Core.List.{List, [], ◌∷◌, ◌++◌}
use native.Mathlib.Omega.{arith}
use Rattle.machine.specs.Lists.{Mem, Distinct, without}
use Rattle.machine.proofs.Lists.{distinct_apart, distinct_right, without_append, without_none, without_first}
use Rattle.layout.specs.Words.{first_of, last_of}

-- Link x is the queue itself or that of a thread of the list.
abbrev pub Of : List ℕ → ℕ → Type 0
Of l zero = Unit {0}
Of l (suc t) = Mem t l

-- Link x is that of no thread of the list.
abbrev pub Outside : ℕ → List ℕ → Type 0
Outside x l = (t : ℕ) → x ≡ suc t → Mem t l → ⊥

pub of_mem : (l : List ℕ) (t : ℕ) {x : ℕ} → suc t ≡ x → Of l x → Mem t l
of_mem l t e o = subst (λ (y : ℕ). Of l y) (sym e) o

pub of_small : (l : List ℕ) (x : ℕ) → ((t : ℕ) → Mem t l → t ≤ 255) → Of l x → x ≤ 256
of_small l zero s o = omega arith
of_small l (suc t) s o = omega (arith, s t o)

pub first_of_lem : (l k : List ℕ) → ((t : ℕ) → Mem t l → Mem t k) → Of k (first_of l)
first_of_lem [] k s = tt
first_of_lem (t ∷ l) k s = s t (inl refl)

pub last_of_lem : (x : ℕ) (l k : List ℕ) → Of k x → ((t : ℕ) → Mem t l → Mem t k) → Of k (last_of x l)
last_of_lem x [] k o s = o
last_of_lem x (t ∷ l) k o s = last_of_lem (suc t) l k (s t (inl refl)) (λ u m. s u (inr m))

-- The last of a list is the one put at its end.
pub last_snoc : (x t : ℕ) (l : List ℕ) → last_of x (l ++ (t ∷ [])) ≡ suc t
last_snoc x t [] = refl
last_snoc x t (u ∷ l) = last_snoc (suc u) t l

-- The parts around a thread of a list.
pub record Split (t : ℕ) (l : List ℕ) : Type 0 where
  pub before : List ℕ
  pub behind : List ℕ
  pub whole : l ≡ before ++ (t ∷ behind)

pub split : (t : ℕ) (l : List ℕ) → Mem t l → Split t l
split t [] k = absurd k
split t (u ∷ l) (inl e) = record { before = []; behind = l; whole = ap (λ (v : ℕ). v ∷ l) (sym e) }
split t (u ∷ l) (inr k) =
    let h = split t l k in
    record { before = u ∷ h.before; behind = h.behind; whole = ap (λ (r : List ℕ). u ∷ r) h.whole }

-- Where nobody stands twice, t stands in neither part, and without t the two parts are left.
module _ (t : ℕ) (a b : List ℕ) (d : Distinct (a ++ (t ∷ b))) where
  pub not_before : Mem t a → ⊥
  not_before k = distinct_apart t a (t ∷ b) d k (inl refl)

  pub not_behind : Mem t b → ⊥
  not_behind = (distinct_right a (t ∷ b) d).0

  pub without_split : without t (a ++ (t ∷ b)) ≡ a ++ b
  without_split =
      rw (
        without_append t a (t ∷ b),
        without_none t a not_before,
        without_first t b (distinct_right a (t ∷ b) d),
      )
