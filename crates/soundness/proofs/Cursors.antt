-- The phases of a walk through an abort's queue against the part of the queue from the cursor to the end mark.
use Prim.Native.Nat.{ℕ, suc}
use mathlib.Core.Path.{◌≡◌, refl, sym, ◌∙◌, ap, subst}
use mathlib.Core.Logic.{inl, inr, ⊎_elim}
use mathlib.Core.Bool.{◌&&◌}
use mathlib.Core.List.{List, [], ◌∷◌, ◌++◌}
use native.Mathlib.Omega.{arith}
use lib.Dec.{eqb}
use Rattle.machine.specs.Lists.{pick, Mem, Distinct}
use Rattle.machine.proofs.Lists.{Same, same, other, same?, mem_left, mem_right}
use Rattle.layout.specs.Words.{first_of, last_of}
use Rattle.layout.specs.Decode.{since, up_to, between}
use Rattle.layout.proofs.Tests.{Decides, tells_true, tells_false, tells_map, tells_and, tells_not, tells_eqb}
use Rattle.layout.proofs.Following.{PartOf, between_within}
use Rattle.soundness.specs.declared.Phase.{Phase}
use Rattle.soundness.specs.Checks.{phase_at, phase_behind, allowed, complete}
use Rattle.soundness.proofs.Following.{phased}

-- Whoever stands in a part of a list stands in the list.
pub part_in : {l part : List ℕ} → PartOf l part → (t : ℕ) → Mem t part → Mem t l
part_in {l} {part} w t k =
    rw w.within (mem_right t w.before (part ++ w.behind) (mem_left t part w.behind k))

-- The part runs from the cursor c to the end mark d, or is empty where there is no cursor; all with badge b are in it.
pub record FromTo (c d b : ℕ) (g : ℕ → ℕ) (l part : List ℕ) : Type 0 where
  pub first : first_of part ≡ c
  pub last : (c ≡ 0 → ⊥) → last_of 0 part ≡ d
  pub outside : (u : ℕ) → Mem u l → g u ≡ b → Mem u part

module _ (c d b : ℕ) (g : ℕ → ℕ) where
  tells_past : (l : List ℕ) → Decides (phased Phase.Past c d b g l) ((u : ℕ) → Mem u l → g u ≡ b → ⊥)
  unfolding phased phase_at phase_behind allowed complete
  tells_past [] = tells_true (λ u k. absurd k)
  tells_past (t ∷ l) =
      tells_map (λ p u. ⊎_elim (λ e i. p.0 (ap g (sym e) ∙ i)) (p.1 u)) (λ p. (p t (inl refl), λ u k. p u (inr k)))
      (tells_and (tells_not (tells_eqb (g t) b)) (tells_past l))

  -- From the cursor on, behind a link x that is not the end mark.
  tells_inside :
      (l : List ℕ) → Distinct l → (x : ℕ) → (x ≡ d → ⊥)
      → Decides (phased Phase.Inside c d b g l)
      ((last_of x (up_to d l) ≡ d) × ((u : ℕ) → Mem u l → g u ≡ b → Mem u (up_to d l)))
  unfolding phased phase_at phase_behind allowed complete up_to
  tells_inside [] D x n = tells_false (λ p. n p.0)
  tells_inside (t ∷ l) D x n = go (same? (suc t) d) (tells_inside l D.1 (suc t))
    where
      go : Same (suc t) d
          → ((suc t ≡ d → ⊥) → Decides (phased Phase.Inside c d b g l)
          ((last_of (suc t) (up_to d l) ≡ d) × ((u : ℕ) → Mem u l → g u ≡ b → Mem u (up_to d l))))
          → Decides (phased (pick (eqb (suc t) d) Phase.Past Phase.Inside) c d b g l)
          ((last_of (suc t) (pick (eqb (suc t) d) [] (up_to d l)) ≡ d)
          × ((u : ℕ) → Mem u (t ∷ l) → g u ≡ b → Mem u (t ∷ pick (eqb (suc t) d) [] (up_to d l))))
      go (same e q) ih =
          rw q (tells_map (λ p. (e, λ u. ⊎_elim (λ i _. inl i) (λ k h. absurd (p u k h))))
          (λ p u k h. ⊎_elim (λ i. D.0 (subst (λ (v : ℕ). Mem v l) i k)) (λ z. z) (p.1 u (inr k) h))
          (tells_past l))
      go (other o q) ih =
          rw q (tells_map (λ p. (p.0, λ u. ⊎_elim (λ i _. inl i) (λ k h. inr (p.1 u k h))))
          (λ p. (
            p.0,
            λ u k h.
                ⊎_elim (λ i. absurd (D.0 (subst (λ (v : ℕ). Mem v l) i k))) (λ z. z) (p.1 u (inr k) h),
          ))
          (ih o))

  pub tells_marked :
      (l : List ℕ) → Distinct l → Decides (phased Phase.Ahead c d b g l) (FromTo c d b g l (between c d l))
  unfolding phased phase_at phase_behind allowed complete between since up_to
  tells_marked [] D =
      tells_map
      (λ e. record { first = sym e; last = λ n. absurd (n e); outside = λ u k. absurd k })
      (λ M. sym M.first) (tells_eqb c 0)
  tells_marked (t ∷ l) D = go (same? (suc t) c) (tells_marked l D.1)
    where
      go : Same (suc t) c → Decides (phased Phase.Ahead c d b g l) (FromTo c d b g l (up_to d (since c l)))
          → Decides
          (allowed (pick (eqb (suc t) c) Phase.Inside Phase.Ahead) b (g t)
          && phased (phase_behind (pick (eqb (suc t) c) Phase.Inside Phase.Ahead) d (suc t)) c d b g l)
          (FromTo c d b g (t ∷ l) (up_to d (pick (eqb (suc t) c) (t ∷ l) (since c l))))
      go (same e q) ih =
          rw q (tells_map (λ p. record { first = e; last = λ _. p.0; outside = p.1 })
          (λ M. (M.last (λ z. omega arith), M.outside))
          (tells_inside (t ∷ l) D (suc d) (λ z. omega arith)))
      go (other o q) ih =
          rw q (tells_map
          (λ p.
          record {
            first = p.1.first;
            last = p.1.last;
            outside = λ u. ⊎_elim (λ i h. absurd (p.0 (ap g (sym i) ∙ h))) (p.1.outside u);
          })
          (λ M. (
            λ h. D.0 (part_in (between_within c d l) t (M.outside t (inl refl) h)),
            record { first = M.first; last = M.last; outside = λ u k. M.outside u (inr k) },
          ))
          (tells_and (tells_not (tells_eqb (g t) b)) ih))
