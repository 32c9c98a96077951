-- A chain of links against the links that are read off its list: the first, the last, the one after and the one before.
use Prim.Native.Nat.{ℕ, suc}
use mathlib.Core.Path.{◌≡◌, refl, sym, ◌∙◌, ap, subst}
use mathlib.Core.Logic.{inl, inr}
use mathlib.Core.List.{List, [], ◌∷◌}
use native.Mathlib.Omega.{arith}
use borrow.Author.Tests.{eq-eqb, ne_eqb}
use Rattle.machine.specs.Lists.{Mem, Distinct}
use Rattle.machine.proofs.Lists.{Same, same, other, same?}
use Rattle.layout.specs.declared.Link.{Link}
use Rattle.layout.specs.Addresses.{link_at, word, after_at, before_at}
use Rattle.layout.specs.Words.{first_of, last_of, after_in, before_in}
use Rattle.layout.specs.Shows.{Chain}

-- The neighbours of t, where t is first and where another is.

after_hit : (t u : ℕ) (l : List ℕ) → u ≡ t → after_in t (u ∷ l) ≡ first_of l
unfolding after_in
after_hit t u l e = rw (eq-eqb u t e)

after_miss : (t u : ℕ) (l : List ℕ) → (u ≡ t → ⊥) → after_in t (u ∷ l) ≡ after_in t l
unfolding after_in
after_miss t u l n = rw (ne_eqb u t n)

before_hit : (x t u : ℕ) (l : List ℕ) → u ≡ t → before_in x t (u ∷ l) ≡ x
unfolding before_in
before_hit x t u l e = rw (eq-eqb u t e)

before_miss : (x t u : ℕ) (l : List ℕ) → (u ≡ t → ⊥) → before_in x t (u ∷ l) ≡ before_in (suc u) t l
unfolding before_in
before_miss x t u l n = rw (ne_eqb u t n)

-- A thread that is not in the list has no neighbours there.
-- A queue whose first link is 0 is empty.
pub first_zero : (l : List ℕ) → first_of l ≡ 0 → l ≡ []
first_zero [] e = refl
first_zero (t ∷ l) e = absurd (omega arith)

pub after_none : (t : ℕ) (l : List ℕ) → (Mem t l → ⊥) → after_in t l ≡ 0
unfolding after_in
after_none t [] n = refl
after_none t (u ∷ l) n = after_miss t u l (λ e. n (inl (sym e))) ∙ after_none t l (λ m. n (inr m))

pub before_none : (x t : ℕ) (l : List ℕ) → (Mem t l → ⊥) → before_in x t l ≡ 0
unfolding before_in
before_none x t [] n = refl
before_none x t (u ∷ l) n =
    before_miss x t u l (λ e. n (inl (sym e))) ∙ before_none (suc u) t l (λ m. n (inr m))

module _ (m : List ℕ) (q : ℕ) where
  -- What a chain says of its words.

  pub chain_first : (x : ℕ) (l : List ℕ) → Chain m q x l 0 → word m (after_at q x) ≡ first_of l
  chain_first x [] c = c.after
  chain_first x (t ∷ l) c = c.0.after

  pub chain_last : (x : ℕ) (l : List ℕ) → Chain m q x l 0 → word m (before_at q 0) ≡ last_of x l
  chain_last x [] c = c.before
  chain_last x (t ∷ l) c = chain_last (suc t) l c.1

  pub chain_after : (x t : ℕ) (l : List ℕ) → Chain m q x l 0 → Mem t l → word m (link_at (Link.Next t)) ≡ after_in t l
  chain_after x t [] c k = absurd k
  chain_after x t (u ∷ l) c k = go (same? u t) k (chain_after (suc u) t l c.1)
    where
      go : Same u t → Mem t (u ∷ l) → (Mem t l → word m (link_at (Link.Next t)) ≡ after_in t l)
          → word m (link_at (Link.Next t)) ≡ after_in t (u ∷ l)
      go (same e _) k ih =
          ap (λ (v : ℕ). word m (link_at (Link.Next v))) (sym e) ∙ chain_first (suc u) l c.1 ∙ sym (after_hit t u l e)
      go (other n _) (inl e) ih = absurd (n (sym e))
      go (other n _) (inr k) ih = ih k ∙ sym (after_miss t u l n)

  pub chain_before :
      (x t : ℕ) (l : List ℕ) → Chain m q x l 0 → Mem t l → word m (link_at (Link.Prev t)) ≡ before_in x t l
  chain_before x t [] c k = absurd k
  chain_before x t (u ∷ l) c k = go (same? u t) k (chain_before (suc u) t l c.1)
    where
      go : Same u t → Mem t (u ∷ l) → (Mem t l → word m (link_at (Link.Prev t)) ≡ before_in (suc u) t l)
          → word m (link_at (Link.Prev t)) ≡ before_in x t (u ∷ l)
      go (same e _) k ih =
          ap (λ (v : ℕ). word m (link_at (Link.Prev v))) (sym e) ∙ c.0.before ∙ sym (before_hit x t u l e)
      go (other n _) (inl e) ih = absurd (n (sym e))
      go (other n _) (inr k) ih = ih k ∙ sym (before_miss x t u l n)

  -- And the words that make a chain: where nobody stands twice, neighbours that are read off the list.
  pub chain_of :
      (x : ℕ) (l : List ℕ) → Distinct l → word m (after_at q x) ≡ first_of l → word m (before_at q 0) ≡ last_of x l
      → ((t : ℕ) → Mem t l → word m (link_at (Link.Next t)) ≡ after_in t l)
      → ((t : ℕ) → Mem t l → word m (link_at (Link.Prev t)) ≡ before_in x t l) → Chain m q x l 0
  chain_of x [] d first last afters befores = record { after = first; before = last }
  chain_of x (u ∷ l) d first last afters befores = (
    record { after = first; before = befores u (inl refl) ∙ before_hit x u u l refl },
    chain_of (suc u) l d.1 (afters u (inl refl) ∙ after_hit u u l refl) last
        (λ t k. afters t (inr k) ∙ after_miss t u l (away t k))
        (λ t k. befores t (inr k) ∙ before_miss x t u l (away t k)),
  )
    where
      away : (t : ℕ) → Mem t l → u ≡ t → ⊥
      away t k e = d.0 (subst (λ (v : ℕ). Mem v l) (sym e) k)
