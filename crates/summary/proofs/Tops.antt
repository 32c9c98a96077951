-- The highest number of a set: what holds of it, and how the leading zeros of the set's number give it.
use Prim.Native.Nat.{ℕ, zero, suc, ◌+◌, ◌-◌, ◌^◌, ◌≤◌, ◌<◌}
use mathlib.Core.Path.{◌≡◌, refl, sym, ◌∙◌, ap, subst}
use mathlib.Core.Logic.{◌⊎◌, inl, inr, ⊎_elim}
use mathlib.Core.Bool.{Bool, true, false}
use mathlib.Core.Option.{none, some}
use mathlib.Core.List.{List}
use native.Mathlib.Nat.{lt_of_le_of_lt, not-le_of_lt, lt_of_not-le}
use native.Mathlib.Omega.{arith}
use lib.Pow.{pow_pos, pow_mono}
use lib.Count.{count_leading_zeros, leading_top}
use Rattle.machine.specs.Lists.{pick}
use Rattle.machine.specs.Scheduling.{occupied, highest_below, highest}
use Rattle.summary.specs.Levels.{bits, highest_in}
use Rattle.summary.proofs.Masks.{last?, bits_lt}

-- j is in the set, below n, and nothing above it is.
pub record Tops (n : ℕ) (f : ℕ → Bool) (j : ℕ) : Type 0 where
  pub below : j < n
  pub member : f j ≡ true
  pub clear : (k : ℕ) → j < k → k < n → f k ≡ false

module _ (n : ℕ) (f : ℕ → Bool) where
  -- n itself is in the set, or it is not.
  top_here : f n ≡ true → Tops (suc n) f n
  top_here e = record { below = omega arith; member = e; clear = λ k l h. absurd (omega arith) }

  top_more : {j : ℕ} → f n ≡ false → Tops n f j → Tops (suc n) f j
  top_more {j} e t = record {
    below = omega arith;
    member = t.member;
    clear = λ k l h. ⊎_elim (λ q. ap f q ∙ e) (λ q. t.clear k l q) (last? h);
  }

  top_less : {j : ℕ} → Tops (suc n) f j → j < n → Tops n f j
  top_less t h = record { below = h; member = t.member; clear = λ k l b. t.clear k l (omega arith) }

-- What is the top of the set is what the definition finds.
pub tops_highest : (n : ℕ) (f : ℕ → Bool) (j : ℕ) → Tops n f j → highest_in n f ≡ some j
unfolding highest_in
tops_highest zero f j t = absurd (omega arith)
tops_highest (suc n) f j t = go (last? t.below) (tops_highest n f j)
  where
    go : (j ≡ n) ⊎ (j < n) → (Tops n f j → highest_in n f ≡ some j) → pick (f n) (some n) (highest_in n f) ≡ some j
    go (inl e) ih = ap (λ (b : Bool). pick b (some n) (highest_in n f)) (ap f (sym e) ∙ t.member) ∙ ap some (sym e)
    go (inr l) ih =
        ap (λ (b : Bool). pick b (some n) (highest_in n f)) (t.clear n l (omega arith)) ∙ ih (top_less n f t l)

pub none_highest : (n : ℕ) (f : ℕ → Bool) → ((k : ℕ) → k < n → f k ≡ false) → highest_in n f ≡ none
unfolding highest_in
none_highest zero f h = refl
none_highest (suc n) f h =
    ap (λ (b : Bool). pick b (some n) (highest_in n f)) (h n (omega arith))
    ∙ none_highest n f (λ k l. h k (omega arith))

-- And the other way round.

pub highest_tops : (n : ℕ) (f : ℕ → Bool) (j : ℕ) → highest_in n f ≡ some j → Tops n f j
unfolding highest_in
highest_tops zero f j e = let z : ◌≡◌ {A = ℕ} 0 1 = cc in absurd (omega arith)
highest_tops (suc n) f j e = go (f n) refl e (highest_tops n f j)
  where
    go : (b : Bool) → f n ≡ b → pick b (some n) (highest_in n f) ≡ some j → (highest_in n f ≡ some j → Tops n f j)
        → Tops (suc n) f j
    go true t q ih = let same : n ≡ j = cc in subst (λ (i : ℕ). Tops (suc n) f i) same (top_here n f t)
    go false t q ih = top_more n f t (ih q)

pub highest_none : (n : ℕ) (f : ℕ → Bool) → highest_in n f ≡ none → (k : ℕ) → k < n → f k ≡ false
unfolding highest_in
highest_none zero f e k h = absurd (omega arith)
highest_none (suc n) f e k h = go (f n) refl e (highest_none n f)
  where
    go : (b : Bool) → f n ≡ b → pick b (some n) (highest_in n f) ≡ none
        → (highest_in n f ≡ none → (k : ℕ) → k < n → f k ≡ false) → f k ≡ false
    go true t q ih = let z : ◌≡◌ {A = ℕ} 0 1 = cc in absurd (omega arith)
    go false t q ih = ⊎_elim (λ l. ap f l ∙ t) (λ l. ih q k l) (last? h)

-- Powers of two stand in the order of their exponents.
pow_below : (i j x : ℕ) → 2 ^ i ≤ x → x < 2 ^ j → i < j
pow_below i j x l h = lt_of_not-le (λ g. not-le_of_lt (lt_of_le_of_lt l h) (pow_mono g))

-- A number between 2 ^ j and 2 ^ (j + 1) has its highest bit at j.
between_tops : (n : ℕ) (f : ℕ → Bool) (j : ℕ) → 2 ^ j ≤ bits n f → bits n f < 2 ^ suc j → Tops n f j
unfolding bits
between_tops zero f j l h = absurd (omega (arith, pow_pos j))
between_tops (suc n) f j l h = go (f n) refl l h (between_tops n f j)
  where
    go : (b : Bool) → f n ≡ b → 2 ^ j ≤ pick b (2 ^ n) 0 + bits n f → pick b (2 ^ n) 0 + bits n f < 2 ^ suc j
        → (2 ^ j ≤ bits n f → bits n f < 2 ^ suc j → Tops n f j) → Tops (suc n) f j
    go true e l h ih =
        let up : j < suc n = pow_below j (suc n) (bits (suc n) f) (rw e l) (bits_lt (suc n) f) in
        let down : n < suc j = pow_below n (suc j) (2 ^ n + bits n f) (omega arith) h in
        subst (λ (i : ℕ). Tops (suc n) f i) (omega arith) (top_here n f e)
    go false e l h ih = top_more n f e (ih (omega arith) (omega arith))

-- The leading zeros of a set's number, which is not 0, give the top of the set.
pub record Leads (n : ℕ) (f : ℕ → Bool) : Type 0 where
  pub fits : count_leading_zeros 32 (bits n f) ≤ 31
  pub top : Tops n f (31 - count_leading_zeros 32 (bits n f))

pub leads : (n : ℕ) (f : ℕ → Bool) → bits n f < 2 ^ 32 → (bits n f ≡ 0 → ⊥) → Leads n f
leads n f h d =
    let t = leading_top 32 (bits n f) (omega arith) h in
    record {
      fits = omega (arith, t.1);
      top = subst (λ (j : ℕ). Tops n f j) (omega (arith, t.1)) (between_tops n f t.0 t.2 t.3);
    }

-- The machine's highest level is that of the set of its occupied levels.
pub below_highest :
    (n : ℕ) (levels : ℕ → List ℕ) → highest_below n levels ≡ highest_in n (λ p. occupied (levels p))
unfolding highest_below highest_in
below_highest zero levels = refl
below_highest (suc n) levels = ap (pick (occupied (levels n)) (some n)) (below_highest n levels)

pub highest_levels : (levels : ℕ → List ℕ) → highest levels ≡ highest_in 256 (λ p. occupied (levels p))
unfolding highest
highest_levels levels = below_highest 256 levels
