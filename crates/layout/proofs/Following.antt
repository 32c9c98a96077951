-- The list walked off a chain is the chain's, and the part between two of its links is the one with these ends.
use Prim.Native.Nat.{ℕ, zero, suc, ◌≤◌, ◌<◌}
use mathlib.Core.Path.{◌≡◌, refl, ◌∙◌, ap, subst}
use mathlib.Core.Logic.{inl, inr}
use mathlib.Core.Bool.{Bool, true, false}
use mathlib.Core.List.{List, [], ◌∷◌, ◌++◌}
use native.Mathlib.Omega.{arith}
use lib.Dec.{eqb, leb}
use lib.ListN.{length}
use borrow.Author.Tests.{eq-eqb, ne_eqb, le-leb, leb-true}
use Rattle.machine.specs.Lists.{pick, without, Mem, Distinct}
use Rattle.machine.proofs.Lists.{Same, same, other, same?, distinct_left, distinct_right, distinct_apart, without_hit}
use Rattle.machine.proofs.Lists.{without_miss, without_none, mem_without, distinct_without}
use Rattle.layout.specs.declared.Link.{Link}
use Rattle.layout.specs.Addresses.{link_at, word, after_at}
use Rattle.layout.specs.Words.{first_of, last_of}
use Rattle.layout.specs.Shows.{Chain}
use Rattle.layout.specs.Decode.{followed, since, up_to, between}

-- A list of different numbers below n has at most n.

length_without : (t : ℕ) (l : List ℕ) → Distinct l → length l ≤ suc (length (without t l))
length_without t [] d = omega arith
length_without t (x ∷ l) d = go (same? x t) (length_without t l d.1)
  where
    go : Same x t → length l ≤ suc (length (without t l)) → length (x ∷ l) ≤ suc (length (without t (x ∷ l)))
    go (same e _) ih =
        rw (without_hit t x l e, without_none t l (subst (λ (v : ℕ). Mem v l → ⊥) e d.0)) (omega arith)
    go (other n _) ih = rw (without_miss t x l n) (omega arith)

pub bounded_length : (n : ℕ) (l : List ℕ) → Distinct l → ((t : ℕ) → Mem t l → t < n) → length l ≤ n
bounded_length zero [] d h = omega arith
bounded_length zero (x ∷ l) d h = absurd (omega (arith, h x (inl refl)))
bounded_length (suc n) l d h =
    omega (
      arith,
      length_without n l d,
      bounded_length n (without n l) (distinct_without n l d)
          (λ t m. let k = mem_without n t l m in let z = h t k.0 in omega (arith, k.1)),
    )

-- Walks

module _ (m : List ℕ) where
  pub walk_small : (n x t : ℕ) → Mem t (followed m n x) → t ≤ 255
  unfolding followed
  walk_small zero x t k = absurd k
  walk_small (suc n) zero t k = absurd k
  walk_small (suc n) (suc u) t k = go (leb u 255) refl k (walk_small n (word m (link_at (Link.Next u))) t)
    where
      rest : List ℕ
      rest = followed m n (word m (link_at (Link.Next u)))

      go : (b : Bool) → leb u 255 ≡ b → Mem t (pick b (u ∷ rest) []) → (Mem t rest → t ≤ 255) → t ≤ 255
      go true e (inl f) ih = omega (arith, leb-true u 255 e)
      go true e (inr k) ih = ih k
      go false e k ih = absurd k

  walk_end : (n : ℕ) → followed m n 0 ≡ []
  unfolding followed
  walk_end zero = refl
  walk_end (suc n) = refl

  pub walk_chain :
      (q n x : ℕ) (l : List ℕ) → Chain m q x l 0 → length l ≤ n → ((t : ℕ) → Mem t l → t ≤ 255)
      → followed m n (word m (after_at q x)) ≡ l
  unfolding followed
  walk_chain q n x [] c h g = rw c.after (walk_end n)
  walk_chain q zero x (t ∷ l) c h g = absurd (omega arith)
  walk_chain q (suc n) x (t ∷ l) c h g =
      rw (c.0.after, le-leb t 255 (g t (inl refl)))
      (ap (λ (k : List ℕ). t ∷ k) (walk_chain q n (suc t) l c.1 (omega arith) (λ u k. g u (inr k))))

-- Parts

-- A part of a list: the list is what comes before it, the part, and what comes behind it.
pub record PartOf (l part : List ℕ) : Type 0 where
  pub before : List ℕ
  pub behind : List ℕ
  pub within : l ≡ before ++ (part ++ behind)

since_split : (x : ℕ) (l : List ℕ) → (before : List ℕ) × (l ≡ before ++ since x l)
unfolding since
since_split x [] = ([], refl)
since_split x (t ∷ l) = go (eqb (suc t) x) (since_split x l)
  where
    go : (b : Bool) → (before : List ℕ) × (l ≡ before ++ since x l)
        → (before : List ℕ) × (t ∷ l ≡ before ++ pick b (t ∷ l) (since x l))
    go true r = ([], refl)
    go false r = (t ∷ r.0, ap (λ (k : List ℕ). t ∷ k) r.1)

up_to_split : (y : ℕ) (l : List ℕ) → (behind : List ℕ) × (l ≡ up_to y l ++ behind)
unfolding up_to
up_to_split y [] = ([], refl)
up_to_split y (t ∷ l) = go (eqb (suc t) y) (up_to_split y l)
  where
    go : (b : Bool) → (behind : List ℕ) × (l ≡ up_to y l ++ behind)
        → (behind : List ℕ) × (t ∷ l ≡ t ∷ (pick b [] (up_to y l) ++ behind))
    go true r = (l, refl)
    go false r = (r.0, ap (λ (k : List ℕ). t ∷ k) r.1)

-- What stands between two links is a part.
pub between_within : (x y : ℕ) (l : List ℕ) → PartOf l (between x y l)
unfolding between
between_within x y l =
    let a = since_split x l in
    let b = up_to_split y (since x l) in
    record { before = a.0; behind = b.0; within = a.1 ∙ ap (λ (k : List ℕ). a.0 ++ k) b.1 }

since_none : (l : List ℕ) → since 0 l ≡ []
unfolding since
since_none [] = refl
since_none (t ∷ l) = rw (ne_eqb (suc t) 0 (omega arith)) (since_none l)

since_there : (t : ℕ) (before l : List ℕ) → (Mem t before → ⊥) → since (suc t) (before ++ (t ∷ l)) ≡ t ∷ l
unfolding since
since_there t [] l n = rw (eq-eqb (suc t) (suc t) refl)
since_there t (u ∷ before) l n =
    let away : suc u ≡ suc t → ⊥ = λ e. n (inl (omega arith)) in
    rw (ne_eqb (suc u) (suc t) away) (since_there t before l (λ m. n (inr m)))

-- The last of a list that is not empty stands in it.
pub last_in : (t : ℕ) (l : List ℕ) → (u : ℕ) × (last_of (suc t) l ≡ suc u) × Mem u (t ∷ l)
last_in t [] = (t, refl, inl refl)
last_in t (u ∷ l) = let r = last_in u l in (r.0, r.1, inr r.2)

up_to_there :
    (t : ℕ) (l behind : List ℕ) → Distinct (t ∷ l) → up_to (last_of (suc t) l) (t ∷ (l ++ behind)) ≡ t ∷ l
unfolding up_to
up_to_there t [] behind d = rw (eq-eqb (suc t) (suc t) refl)
up_to_there t (u ∷ l) behind d =
    let r = last_in u l in
    let away : suc t ≡ last_of (suc u) l → ⊥
    = λ e. d.0 (subst (λ (v : ℕ). Mem v (u ∷ l)) (let f : r.0 ≡ t = omega (arith, e ∙ r.1) in f) r.2) in
    rw (ne_eqb (suc t) (last_of (suc u) l) away)
    (ap (λ (k : List ℕ). t ∷ k) (up_to_there u l behind d.1))

-- And a part of a list in which nobody stands twice is what stands between its ends.
pub between_back : (l part : List ℕ) → PartOf l part → Distinct l → between (first_of part) (last_of 0 part) l ≡ part
unfolding between up_to
between_back l [] w d = rw (since_none l)
between_back l (t ∷ p) w d =
    let apart : Distinct (w.before ++ (t ∷ (p ++ w.behind))) = subst Distinct w.within d in
    let here : since (suc t) l ≡ t ∷ (p ++ w.behind)
    = rw w.within
    (since_there t w.before (p ++ w.behind) (λ m. distinct_apart t w.before _ apart m (inl refl))) in
    rw here (up_to_there t p w.behind
    (distinct_left (t ∷ p) w.behind (distinct_right w.before (t ∷ (p ++ w.behind)) apart)))
