-- Chains in two memories that differ in the links after p and before w of one queue and in the links of one thread t.
use Prim.Native.Nat.{ℕ, zero, suc, ◌≤◌}
use mathlib.Core.Path.{◌≡◌, refl, sym, ◌∙◌, ap, subst}
use mathlib.Core.Logic.{inl, inr}
use mathlib.Core.List.{List, [], ◌∷◌, ◌++◌}
use native.Mathlib.Omega.{arith}
use Rattle.machine.specs.Lists.{Mem, Distinct}
use Rattle.machine.proofs.Lists.{mem_left, mem_right, distinct_left, distinct_right, distinct_apart}
use Rattle.layout.specs.declared.Link.{Link}
use Rattle.layout.specs.Addresses.{ValidLink, link_at, word, after_at, after_link, before_link}
use Rattle.layout.specs.Words.{first_of, last_of}
use Rattle.layout.specs.Shows.{Joined, Chain}
use Rattle.layout.proofs.Following.{last_in}
use Rattle.links.proofs.Names.{next_prev, prev_head, prev_tail}
use Rattle.links.proofs.Names.{next_head, next_tail, next_after, prev_after, head_after, tail_after, next_before}
use Rattle.links.proofs.Names.{prev_before, head_before, tail_before}
use Rattle.links.proofs.Splits.{Of, Outside, of_mem, first_of_lem, last_of_lem, not_before, not_behind}

-- A chain whose words are the same.
pub chain_frame :
    (m n : List ℕ) (q x : ℕ) (l : List ℕ) → word n (after_at q x) ≡ word m (after_at q x)
    → ((u : ℕ) → Mem u l → word n (link_at (Link.Next u)) ≡ word m (link_at (Link.Next u)))
    → ((u : ℕ) → Mem u l → word n (link_at (Link.Prev u)) ≡ word m (link_at (Link.Prev u)))
    → word n (link_at (Link.Tail q)) ≡ word m (link_at (Link.Tail q)) → Chain m q x l 0 → Chain n q x l 0
chain_frame m n q x [] a ns ps e c = record { after = a ∙ c.after; before = e ∙ c.before }
chain_frame m n q x (u ∷ l) a ns ps e c = (
  record { after = a ∙ c.0.after; before = ps u (inl refl) ∙ c.0.before },
  chain_frame m n q (suc u) l (ns u (inl refl)) (λ v k. ns v (inr k)) (λ v k. ps v (inr k)) e c.1,
)

-- The parts of a chain around a thread.

pub chain_joint :
    (m : List ℕ) (q x t : ℕ) (a b : List ℕ) → Chain m q x (a ++ (t ∷ b)) 0 → Joined m q (last_of x a) (suc t)
chain_joint m q x t [] b c = c.0
chain_joint m q x t (u ∷ a) b c = chain_joint m q (suc u) t a b c.1

pub chain_behind : (m : List ℕ) (q x t : ℕ) (a b : List ℕ) → Chain m q x (a ++ (t ∷ b)) 0 → Chain m q (suc t) b 0
chain_behind m q x t [] b c = c.1
chain_behind m q x t (u ∷ a) b c = chain_behind m q (suc u) t a b c.1

-- The words of n are those of m, but for the links after p and before w of queue q and the links of thread t.
pub record Around (m n : List ℕ) (q p w t : ℕ) : Type 0 where
  pub others :
      (k : Link) → ValidLink k → (k ≡ after_link q p → ⊥) → (k ≡ before_link q w → ⊥) → (k ≡ Link.Next t → ⊥)
      → (k ≡ Link.Prev t → ⊥) → word n (link_at k) ≡ word m (link_at k)

module _ {m n : List ℕ} {q p w t : ℕ} (A : Around m n q p w t) where
  pub nexts :
      (u : ℕ) → u ≤ 255 → (u ≡ t → ⊥) → (suc u ≡ p → ⊥) → word n (link_at (Link.Next u))
      ≡ word m (link_at (Link.Next u))
  nexts u h a b =
      A.others (Link.Next u) h (λ e. b (next_after u q p e)) (next_before u q w) (λ e. a (cc)) (next_prev u t)

  pub prevs :
      (u : ℕ) → u ≤ 255 → (u ≡ t → ⊥) → (suc u ≡ w → ⊥) → word n (link_at (Link.Prev u))
      ≡ word m (link_at (Link.Prev u))
  prevs u h a b =
      A.others (Link.Prev u) h (prev_after u q p) (λ e. b (prev_before u q w e)) (λ e. next_prev t u (sym e))
      (λ e. a (cc))

  pub heads : (r : ℕ) → r ≤ 319 → (r ≡ q → p ≡ 0 → ⊥) → word n (link_at (Link.Head r)) ≡ word m (link_at (Link.Head r))
  heads r h a =
      A.others (Link.Head r) h (λ e. a (head_after r q p e).0 (head_after r q p e).1) (head_before r q w)
      (λ e. next_head t r (sym e)) (λ e. prev_head t r (sym e))

  pub tails : (r : ℕ) → r ≤ 319 → (r ≡ q → w ≡ 0 → ⊥) → word n (link_at (Link.Tail r)) ≡ word m (link_at (Link.Tail r))
  tails r h a =
      A.others (Link.Tail r) h (tail_after r q p) (λ e. a (tail_before r q w e).0 (tail_before r q w e).1)
      (λ e. next_tail t r (sym e)) (λ e. prev_tail t r (sym e))

  after_same :
      (x : ℕ) → q ≤ 319 → x ≤ 256 → (x ≡ suc t → ⊥) → (x ≡ p → ⊥) → word n (after_at q x) ≡ word m (after_at q x)
  after_same zero h g a b = heads q h (λ _ e. b (sym e))
  after_same (suc u) h g a b = nexts u (omega arith) (λ e. a (ap suc e)) b

  -- The part of a chain up to link p stays as it is.
  prefix :
      (x : ℕ) (a r s : List ℕ) → q ≤ 319 → x ≤ 256 → (x ≡ suc t → ⊥) → Outside x a → last_of x a ≡ p → Distinct a
      → ((u : ℕ) → Mem u a → (u ≤ 255) × (u ≡ t → ⊥) × (suc u ≡ w → ⊥))
      → (Chain m q p r 0 → Chain n q p s 0) → Chain m q x (a ++ r) 0 → Chain n q x (a ++ s) 0
  prefix x [] r s h g y o e d k f c =
      subst (λ (z : ℕ). Chain n q z s 0) (sym e) (f (subst (λ (z : ℕ). Chain m q z r 0) e c))
  prefix x (u ∷ a) r s h g y o e d k f c =
      let i = k u (inl refl) in
      let v = last_in u a in (
        record {
          after = after_same x h g y (λ z. o v.0 (z ∙ sym e ∙ v.1) v.2) ∙ c.0.after;
          before = prevs u i.0 i.1 i.2 ∙ c.0.before;
        },
        prefix (suc u) a r s h (omega arith) (λ z. i.1 (omega arith))
            (λ b z j. d.0 (subst (λ (x : ℕ). Mem x a) (let z' : b ≡ u = omega arith in z') j)) e d.1
            (λ b j. k b (inr j)) f c.1,
      )

  -- The part of a chain from link w on stays as it is, behind another link.
  suffix :
      (x y : ℕ) (b : List ℕ) → q ≤ 319 → first_of b ≡ w → Distinct b
      → ((u : ℕ) → Mem u b → (u ≤ 255) × (u ≡ t → ⊥) × (suc u ≡ p → ⊥))
      → Joined n q y w → Chain m q x b 0 → Chain n q y b 0
  suffix x y [] h f d k j c = subst (λ (z : ℕ). Joined n q y z) (sym f) j
  suffix x y (v ∷ b) h f d k j c =
      let i = k v (inl refl) in (
        subst (λ (z : ℕ). Joined n q y z) (sym f) j,
        chain_frame m n q (suc v) b (nexts v i.0 i.1 i.2)
            (λ u j. nexts u (k u (inr j)).0 (k u (inr j)).1 (k u (inr j)).2)
            (λ u j. prevs u (k u (inr j)).0 (k u (inr j)).1
            (λ z. d.0 (subst (λ (x : ℕ). Mem x b) (let y : u ≡ v = omega arith in y) j)))
            (tails q h (λ _ z. omega arith)) c.1,
      )

  -- t between a, which ends at p, and b, which begins at w.
  module _ (a b : List ℕ) (h : q ≤ 319) (e : last_of 0 a ≡ p) (f : first_of b ≡ w) (d : Distinct (a ++ (t ∷ b)))
      (small : (u : ℕ) → Mem u (a ++ (t ∷ b)) → u ≤ 255) where
    across : (u : ℕ) → Mem u a → Mem u b → ⊥
    across u i j = distinct_apart u a (t ∷ b) d i (inr j)

    left : (u : ℕ) → Mem u a → (u ≤ 255) × (u ≡ t → ⊥) × (suc u ≡ w → ⊥)
    left u i =
        let w_of : Of b w = subst (λ (x : ℕ). Of b x) f (first_of_lem b b (λ _ k. k)) in (
          small u (mem_left u a (t ∷ b) i),
          λ y. not_before t a b d (subst (λ (v : ℕ). Mem v a) y i),
          λ y. across u i (of_mem b u y w_of),
        )

    right : (u : ℕ) → Mem u b → (u ≤ 255) × (u ≡ t → ⊥) × (suc u ≡ p → ⊥)
    right u i =
        let p_of : Of a p = subst (λ (x : ℕ). Of a x) e (last_of_lem 0 a a tt (λ _ k. k)) in (
          small u (mem_right u a (t ∷ b) (inr i)),
          λ y. not_behind t a b d (subst (λ (v : ℕ). Mem v b) y i),
          λ y. across u (of_mem a u y p_of) i,
        )

    around_t : (r s : List ℕ) → (Chain m q p r 0 → Chain n q p s 0) → Chain m q 0 (a ++ r) 0 → Chain n q 0 (a ++ s) 0
    around_t r s =
        prefix 0 a r s h (omega arith) (λ y. omega arith) (λ u y. absurd (omega arith)) e
        (distinct_left a (t ∷ b) d) left

    behind_t : (x y : ℕ) → Joined n q y w → Chain m q x b 0 → Chain n q y b 0
    behind_t x y = suffix x y b h f (distinct_right a (t ∷ b) d).1 right

    pub chain_join :
        Joined n q p (suc t) → Joined n q (suc t) w → Chain m q 0 (a ++ b) 0 → Chain n q 0 (a ++ (t ∷ b)) 0
    chain_join into out = around_t b (t ∷ b) (λ c. (into, behind_t p (suc t) out c))

    pub chain_leave : Joined n q p w → Chain m q 0 (a ++ (t ∷ b)) 0 → Chain n q 0 (a ++ b) 0
    chain_leave j = around_t (t ∷ b) b (λ c. behind_t (suc t) p j c.1)
