-- A walk through a queue: the threads passed are met, those to come are not yet.
use Prim.Native.Nat.{ℕ, zero, suc, ◌-◌, ◌<◌}
use mathlib.Core.Bool.{Bool, true, false, ◌&&◌, ◌||◌, false≢true}
use mathlib.Core.List.{List, [], ◌∷◌}
use mathlib.Core.Path.{◌≡◌, refl, ap, sym, ◌∙◌, fun_ext}
use native.Mathlib.Omega.{arith}
use lib.Dec.{eqb}
use Rattle.machine.specs.Lists.{pick, put}
use Rattle.layout.specs.declared.Link.{Link}
use Rattle.layout.specs.Addresses.{word, link_at}
use Rattle.layout.specs.Tests.{member}
use Rattle.soundness.specs.Checks.{met_from, met_below, met}
use Rattle.sound_queues.specs.Met.{met_in, also, Meets, Follows}

pub and_right : (a b : Bool) → (a && b) ≡ true → b ≡ true
and_right true b e = e
and_right false b e = absurd (false≢true e)

-- Of the threads l that the walk is to mark, rest are still to come.
pub record MetSoFar (before after l rest : List ℕ) : Type 0 where
  pub goes :
      (f : ℕ → Bool) → before ≡ met_in f
      → (g : ℕ → Bool) × (after ≡ met_in g) × ((u : ℕ) → also l f u ≡ also rest g u)

pub passed_none : (s l : List ℕ) → MetSoFar s s l l
passed_none s l = record { goes = λ f e. (f, e, λ u. refl) }

also_put : (g : ℕ → Bool) (t u : ℕ) (rest : List ℕ) → also (t ∷ rest) g u ≡ also rest (put g t true) u
unfolding also put
also_put g t u rest = go (eqb u t) (member u rest) (g u)
  where
    go : (b k x : Bool) → (b || k || x) ≡ (k || pick b true x)
    go true true x = refl
    go true false x = refl
    go false k x = refl

pub passed_more :
    {b a a' l rest : List ℕ} (t : ℕ) → MetSoFar b a l (t ∷ rest) → Meets a a' t → MetSoFar b a' l rest
passed_more {rest = rest} t p k =
    record {
      goes = λ f e.
          let h = p.goes f e in
          (put h.0 t true, k.meets h.0 h.1, λ u. h.2 u ∙ also_put h.0 t u rest);
    }

pub passed_all : {b a l : List ℕ} → MetSoFar b a l [] → (f : ℕ → Bool) → b ≡ met_in f → a ≡ met_in (also l f)
unfolding also
passed_all p f e = let h = p.goes f e in h.1 ∙ ap met_in (fun_ext (λ u. sym (h.2 u)))

pub walk_failed : {b a l : List ℕ} {test : Bool} → false ≡ test → Follows b a l test false
walk_failed e = record { is = e; meets = λ h. absurd (false≢true h) }

module _ (m : List ℕ) where
  pub met_more :
      (left y : ℕ) {z : ℕ} → 0 < left → (y ≡ 0 → ⊥) → z ≡ word m (link_at (Link.Next (y - 1)))
      → met_from left y m ≡ (y - 1) ∷ met_from (left - 1) z m
  unfolding met_from
  met_more zero y h n e = absurd (omega arith)
  met_more (suc left) zero h n e = absurd (n refl)
  met_more (suc left) (suc t) h n e =
      let q : suc t - 1 ≡ t = omega arith in
      let r : suc left - 1 ≡ left = omega arith in
      rw (r, e, q)

  pub met_done : (left y : ℕ) → y ≡ 0 → met_from left y m ≡ []
  unfolding met_from
  met_done zero y e = refl
  met_done (suc left) zero e = refl
  met_done (suc left) (suc t) e = absurd (omega arith)

  -- The sets met before and behind a queue.
  pub met_below_lem : (q : ℕ) → also (met m q) (met_below q m) ≡ met_below (suc q) m
  unfolding also met_below
  met_below_lem q = refl
