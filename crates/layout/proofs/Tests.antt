-- A test tells a fact: it is true exactly where the fact holds. Tests of joined facts, and of facts about each index.
use Prim.Native.Nat.{ℕ, zero, suc, ◌≤◌, ◌<◌}
use mathlib.Core.Path.{◌≡◌, refl, sym, ◌∙◌, ap, subst}
use mathlib.Core.Logic.{◌⊎◌, inl, inr, ◌↔◌, ⊎_elim}
use mathlib.Core.Bool.{Bool, true, false, not, ◌&&◌, ◌||◌}
use mathlib.Core.Option.{Option, none, some}
use mathlib.Core.List.{List, [], ◌∷◌}
use native.Mathlib.Omega.{arith}
use lib.Dec.{eqb, leb}
use borrow.Author.Tests.{eqb-true, eq-eqb, leb-true, le-leb}
use Rattle.machine.specs.Lists.{Mem}
use Rattle.machine.specs.State.{Place, Abort, Line, quiet, pending, awaited}
use Rattle.machine.specs.Endpoints.{is_aborting}
use Rattle.machine.proofs.Lists.{Same, same, other, same?, clash}
use Rattle.layout.specs.Words.{link_of, place_code, line_code, abort_code}
use Rattle.layout.specs.Decode.{place_of}
use Rattle.layout.specs.Tests.{all, member, same as agree}
use Rattle.layout.proofs.RoundTrip.{PlaceSmall, place_back}

pub record Decides (b : Bool) (P : Type 0) : Type 0 where
  pub holds : b ≡ true → P
  pub back : P → b ≡ true

-- A test that fails tells a fact that does not hold, one that passes a fact that does.
pub tells_false : {P : Type 0} → (P → ⊥) → Decides false P
tells_false n = record { holds = λ e. absurd (clash e refl); back = λ p. absurd (n p) }

pub tells_true : {P : Type 0} → P → Decides true P
tells_true p = record { holds = λ e. p; back = λ _. refl }

pub tells_map : {b : Bool} {P Q : Type 0} → (P → Q) → (Q → P) → Decides b P → Decides b Q
tells_map f g t = record { holds = λ e. f (t.holds e); back = λ q. t.back (g q) }

-- The fact holds, or it does not, with the value of the test.
abbrev Decided : Bool → Type 0 → Type 0
Decided b P = ((b ≡ true) × P) ⊎ ((b ≡ false) × (P → ⊥))

decided : {b : Bool} {P : Type 0} → Decides b P → Decided b P
decided {b} {P} t = go b refl
  where
    go : (c : Bool) → b ≡ c → Decided b P
    go true e = inl (e, t.holds e)
    go false e = inr (e, λ p. clash (t.back p) e)

module _ {a b : Bool} {A B : Type 0} (s : Decides a A) (t : Decides b B) where
  pub tells_and : Decides (a && b) (A × B)
  tells_and = go (decided s) (decided t)
    where
      go : Decided a A → Decided b B → Decides (a && b) (A × B)
      go (inl p) (inl q) = rw (p.0, q.0) (tells_true (p.1, q.1))
      go (inl p) (inr q) = rw (p.0, q.0) (tells_false (λ h. q.1 h.1))
      go (inr p) q = rw p.0 (tells_false (λ h. p.1 h.0))

  pub tells_or : Decides (a || b) (A ⊎ B)
  tells_or = go (decided s) (decided t)
    where
      go : Decided a A → Decided b B → Decides (a || b) (A ⊎ B)
      go (inl p) q = rw p.0 (tells_true (inl p.1))
      go (inr p) (inl q) = rw (p.0, q.0) (tells_true (inr q.1))
      go (inr p) (inr q) = rw (p.0, q.0) (tells_false (λ h. ⊎_elim p.1 q.1 h))

  pub tells_agree : Decides (agree a b) (A ↔ B)
  tells_agree = go (decided s) (decided t)
    where
      go : Decided a A → Decided b B → Decides (agree a b) (A ↔ B)
      go (inl p) (inl q) = rw (p.0, q.0) (tells_true ((λ _. q.1), (λ _. p.1)))
      go (inl p) (inr q) = rw (p.0, q.0) (tells_false (λ h. q.1 (h.0 p.1)))
      go (inr p) (inl q) = rw (p.0, q.0) (tells_false (λ h. p.1 (h.1 q.1)))
      go (inr p) (inr q) = rw (p.0, q.0) (tells_true ((λ h. absurd (p.1 h)), (λ h. absurd (q.1 h))))

pub tells_not : {a : Bool} {A : Type 0} → Decides a A → Decides (not a) (A → ⊥)
tells_not {a} {A} s = go (decided s)
  where
    go : Decided a A → Decides (not a) (A → ⊥)
    go (inl p) = rw p.0 (tells_false (λ f. f p.1))
    go (inr p) = rw p.0 (tells_true p.1)

-- Indices

pub tells_below :
    (n : ℕ) (f : ℕ → Bool) (P : ℕ → Type 0) → ((i : ℕ) → i < n → Decides (f i) (P i))
    → Decides (all n f) ((i : ℕ) → i < n → P i)
unfolding all
tells_below zero f P h = tells_true (λ i k. absurd (omega arith))
tells_below (suc n) f P h =
    tells_map (λ p i k. go p i k (same? i n)) (λ p. (p n (omega arith), λ i k. p i (omega arith)))
    (tells_and (h n (omega arith)) (tells_below n f P (λ i k. h i (omega arith))))
  where
    go : P n × ((i : ℕ) → i < n → P i) → (i : ℕ) → i < suc n → Same i n → P i
    go p i k (same e _) = subst P (sym e) p.0
    go p i k (other o _) = p.1 i (omega arith)

-- Numbers and lists

pub tells_eqb : (m n : ℕ) → Decides (eqb m n) (m ≡ n)
tells_eqb m n = record { holds = eqb-true m n; back = eq-eqb m n }

pub tells_leb : (m n : ℕ) → Decides (leb m n) (m ≤ n)
tells_leb m n = record { holds = leb-true m n; back = le-leb m n }

pub tells_member : (t : ℕ) (l : List ℕ) → Decides (member t l) (Mem t l)
tells_member t [] = tells_false (λ z. z)
tells_member t (x ∷ l) = tells_or (tells_eqb t x) (tells_member t l)

-- Codes

pub tells_place : (p q : Place) → PlaceSmall p → PlaceSmall q → Decides (eqb (place_code p) (place_code q)) (p ≡ q)
tells_place p q h g =
    tells_map (λ e. sym (place_back p h) ∙ ap place_of e ∙ place_back q g) (ap place_code)
    (tells_eqb (place_code p) (place_code q))

pub tells_some : (o : Option ℕ) (t : ℕ) → Decides (eqb (link_of o) (suc t)) (o ≡ some t)
tells_some o t = tells_map (go o) (ap link_of) (tells_eqb (link_of o) (suc t))
  where
    go : (o : Option ℕ) → link_of o ≡ suc t → o ≡ some t
    go none e = absurd (omega arith)
    go (some u) e = ap {B = Option ℕ} some (let f : u ≡ t = omega arith in f)

pub tells_awaited : (x : Line) (t : ℕ) → Decides (eqb (line_code x) (suc (suc t))) (x ≡ awaited t)
tells_awaited x t = tells_map (go x) (ap line_code) (tells_eqb (line_code x) (suc (suc t)))
  where
    go : (x : Line) → line_code x ≡ suc (suc t) → x ≡ awaited t
    go quiet e = absurd (omega arith)
    go pending e = absurd (omega arith)
    go (awaited u) e = ap awaited (let f : u ≡ t = omega arith in f)

pub tells_stands : (o : Option Abort) → Decides (eqb (abort_code o) 1) (is_aborting o ≡ true)
tells_stands none = tells_false (λ e. clash e refl)
tells_stands (some a) = tells_true refl
