-- More tests that tell facts: of order, by cases, of each index below a bound and of each in a list.
use Prim.Native.Nat.{ℕ, ◌<◌}
use mathlib.Core.Path.{◌≡◌, refl, sym, subst}
use mathlib.Core.Logic.{◌⊎◌, inl, inr, ⊎_elim}
use mathlib.Core.Bool.{Bool, true, false, ◌&&◌}
use mathlib.Core.List.{List, [], ◌∷◌}
use lib.Dec.{ltb}
use borrow.Author.Tests.{ltb-true, lt-ltb}
use Rattle.machine.specs.Lists.{pick, Mem}
use Rattle.machine.proofs.Lists.{clash}
use Rattle.layout.proofs.Tests.{Decides, tells_true, tells_map, tells_and}

pub tells_ltb : (m n : ℕ) → Decides (ltb m n) (m < n)
tells_ltb m n = record { holds = ltb-true m n; back = lt-ltb m n }

-- A test tells that it is true.
pub tells_itself : {b : Bool} → Decides b (b ≡ true)
tells_itself = record { holds = λ e. e; back = λ e. e }

-- The test of one fact, then of another where that holds and of a third where it does not.
pub tells_pick :
    {c a b : Bool} {C A B : Type 0} → Decides c C → Decides a A → Decides b B
    → Decides (pick c a b) ((C → A) × ((C → ⊥) → B))
tells_pick {c} {a} {b} {C} {A} {B} t f g = go c refl
  where
    go : (d : Bool) → c ≡ d → Decides (pick c a b) ((C → A) × ((C → ⊥) → B))
    go true e =
        rw e (tells_map (λ p. (λ _. p, λ n. absurd (n (t.holds e)))) (λ p. p.0 (t.holds e)) f)
    go false e =
        rw e (tells_map (λ q. (λ p. absurd (clash (t.back p) e), λ _. q)) (λ p. p.1 (λ k. clash (t.back k) e)) g)

-- The test holds for each in the list.
abbrev pub every : (ℕ → Bool) → List ℕ → Bool
every f [] = true
every f (t ∷ l) = f t && every f l

pub tells_every :
    (f : ℕ → Bool) (P : ℕ → Type 0) (l : List ℕ) → ((t : ℕ) → Mem t l → Decides (f t) (P t))
    → Decides (every f l) ((t : ℕ) → Mem t l → P t)
tells_every f P [] h = tells_true (λ t k. absurd k)
tells_every f P (u ∷ l) h =
    tells_map (λ p t. ⊎_elim (λ e. subst P (sym e) p.0) (p.1 t)) (λ p. (p u (inl refl), λ t k. p t (inr k)))
    (tells_and (h u (inl refl)) (tells_every f P l (λ t k. h t (inr k))))

-- A fact that is told holds, or it does not.
pub decided : {b : Bool} {P : Type 0} → Decides b P → P ⊎ (P → ⊥)
decided {b} {P} t = go b refl
  where
    go : (c : Bool) → b ≡ c → P ⊎ (P → ⊥)
    go true e = inl (t.holds e)
    go false e = inr (λ p. clash (t.back p) e)
