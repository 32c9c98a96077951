-- A list of waiters to look at, from which one goes: the first and the last of those that are left.
use Prim.Native.Nat.{ℕ, suc}
use mathlib.Core.Path.{◌≡◌, refl, sym, ◌∙◌, ap, subst}
use mathlib.Core.Logic.{◌⊎◌, inl, inr}
use mathlib.Core.List.{List, [], ◌∷◌, ◌++◌, append-nil}
use native.Mathlib.Omega.{arith}
use Rattle.machine.specs.Lists.{Mem, Distinct, without}
use Rattle.machine.proofs.Lists.{mem?, distinct_right, without_none}
use Rattle.layout.specs.Words.{first_of, last_of}
use Rattle.layout.proofs.Following.{last_in}
use Rattle.links.proofs.Splits.{of_mem, last_of_lem, last_snoc, split, without_split}

-- The last of a list is that of its part from t on.
last_append : (x : ℕ) (a : List ℕ) (t : ℕ) (b : List ℕ) → last_of x (a ++ (t ∷ b)) ≡ last_of (suc t) b
last_append x [] t b = refl
last_append x (u ∷ a) t b = last_append (suc u) a t b

-- Where nobody stands twice, who is both first and last stands alone.
alone : (t : ℕ) (b : List ℕ) → Distinct (t ∷ b) → last_of (suc t) b ≡ suc t → b ≡ []
alone t [] d e = refl
alone t (u ∷ b) d e =
    let k = last_in u b in
    let f : k.0 ≡ t = omega (arith, k.1) in
    absurd (d.0 (subst (λ (v : ℕ). Mem v (u ∷ b)) f k.2))

first_split : (t : ℕ) (l : List ℕ) → first_of l ≡ suc t → (b : List ℕ) × (l ≡ t ∷ b)
first_split t [] e = absurd (omega arith)
first_split t (u ∷ l) e = let f : u ≡ t = omega arith in (l, ap (λ (v : ℕ). v ∷ l) f)

module _ (t : ℕ) (l : List ℕ) (d : Distinct l) where
  -- The list split at t, without it.
  cut : (a b : List ℕ) → l ≡ a ++ (t ∷ b) → without t l ≡ a ++ b
  cut a b e = rw e (without_split t a b (rw e at d))

  pub pass_both : first_of l ≡ suc t → last_of 0 l ≡ suc t → without t l ≡ []
  pass_both f g =
      let s = first_split t l f in
      let k : last_of (suc t) s.0 ≡ suc t = ap (last_of 0) (sym s.1) ∙ g in
      cut [] s.0 s.1 ∙ alone t s.0 (rw s.1 at d) k

  pub pass_cursor :
      (behind : List ℕ) (r : ℕ) → ((a b : List ℕ) → l ≡ a ++ (t ∷ b) → r ≡ first_of (b ++ behind))
      → first_of l ≡ suc t → (last_of 0 l ≡ suc t → ⊥)
      → (first_of (without t l) ≡ r) × (last_of 0 (without t l) ≡ last_of 0 l)
  pass_cursor behind r next f g = let s = first_split t l f in go s.0 s.1
    where
      go : (b : List ℕ) → l ≡ t ∷ b → (first_of (without t l) ≡ r) × (last_of 0 (without t l) ≡ last_of 0 l)
      go [] e = absurd (g (ap (last_of 0) e))
      go (x ∷ b) e = (
        ap first_of (cut [] (x ∷ b) e) ∙ sym (next [] (x ∷ b) e),
        ap (last_of 0) (cut [] (x ∷ b) e) ∙ sym (ap (last_of 0) e),
      )

  pub pass_end :
      (before : List ℕ) (r : ℕ) → ((a b : List ℕ) → l ≡ a ++ (t ∷ b) → r ≡ last_of 0 (before ++ a))
      → (first_of l ≡ suc t → ⊥) → last_of 0 l ≡ suc t
      → (first_of (without t l) ≡ first_of l) × (last_of 0 (without t l) ≡ r)
  pass_end before r prev f g =
      let s = split t l (of_mem l t (sym g) (last_of_lem 0 l l tt (λ _ k. k))) in go s.before s.behind s.whole
    where
      go : (a b : List ℕ) → l ≡ a ++ (t ∷ b) → (first_of (without t l) ≡ first_of l) × (last_of 0 (without t l) ≡ r)
      go [] b e = absurd (f (ap first_of e))
      go (x ∷ a) b e =
          let h : Distinct (t ∷ b) = distinct_right (x ∷ a) (t ∷ b) (rw e at d) in
          let n : b ≡ [] = alone t b h (sym (last_append 0 (x ∷ a) t b) ∙ ap (last_of 0) (sym e) ∙ g) in
          let w : without t l ≡ x ∷ a = cut (x ∷ a) b e ∙ ap (λ (y : List ℕ). (x ∷ a) ++ y) n ∙ append-nil (x ∷ a) in (
            ap first_of w ∙ sym (ap first_of e),
            ap (last_of 0) w ∙ sym (last_append 0 before x a) ∙ sym (prev (x ∷ a) b e),
          )

  pub pass_neither :
      (first_of l ≡ suc t → ⊥) → (last_of 0 l ≡ suc t → ⊥)
      → (first_of (without t l) ≡ first_of l) × (last_of 0 (without t l) ≡ last_of 0 l)
  pass_neither f g = start (mem? t l)
    where
      go : (a b : List ℕ) → l ≡ a ++ (t ∷ b)
          → (first_of (without t l) ≡ first_of l) × (last_of 0 (without t l) ≡ last_of 0 l)
      go [] b e = absurd (f (ap first_of e))
      go (x ∷ a) [] e = absurd (g (ap (last_of 0) e ∙ last_snoc 0 t (x ∷ a)))
      go (x ∷ a) (y ∷ b) e =
          let w : without t l ≡ (x ∷ a) ++ (y ∷ b) = cut (x ∷ a) (y ∷ b) e in (
            ap first_of w ∙ sym (ap first_of e),
            ap (last_of 0) w ∙ last_append 0 (x ∷ a) y b
                ∙ sym (ap (last_of 0) e ∙ last_append 0 (x ∷ a) t (y ∷ b)),
          )

      start : Mem t l ⊎ (Mem t l → ⊥) → (first_of (without t l) ≡ first_of l) × (last_of 0 (without t l) ≡ last_of 0 l)
      start (inl k) = let s = split t l k in go s.before s.behind s.whole
      start (inr n) = let w = without_none t l n in (ap first_of w, ap (last_of 0) w)
