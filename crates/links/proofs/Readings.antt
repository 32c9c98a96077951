-- What the links hold where they join a table of queues: the ends of a queue, and the neighbours of a thread in it.
use Prim.Native.Nat.{ℕ, suc, ◌≤◌}
use mathlib.Core.Path.{◌≡◌, sym, ◌∙◌, subst}
use mathlib.Core.Logic.{inr}
use mathlib.Core.List.{List, [], ◌∷◌, ◌++◌}
use native.Mathlib.Omega.{arith}
use Rattle.machine.proofs.Lists.{mem_left, mem_right}
use Rattle.layout.specs.declared.Link.{Link}
use Rattle.layout.specs.Addresses.{link_at, word}
use Rattle.layout.specs.Words.{first_of, last_of}
use Rattle.layout.specs.Shows.{Chain, Linked}
use Rattle.layout.proofs.Chains.{chain_first, chain_last}
use Rattle.links.specs.Links.{First, Last, Next, Prev}
use Rattle.links.proofs.Splits.{Of, of_small, first_of_lem, last_of_lem}
use Rattle.links.proofs.Chains.{chain_joint, chain_behind}

module _ {m : List ℕ} {queues : ℕ → List ℕ} (L : Linked m queues) (q : ℕ) (h : q ≤ 319) where
  -- The first and the last of a queue.

  pub head_word : word m (link_at (Link.Head q)) ≡ first_of (queues q)
  head_word = chain_first m q 0 (queues q) (L.chains q h)

  pub tail_word : word m (link_at (Link.Tail q)) ≡ last_of 0 (queues q)
  tail_word = chain_last m q 0 (queues q) (L.chains q h)

  pub tail_of : Of (queues q) (word m (link_at (Link.Tail q)))
  tail_of = subst (λ (x : ℕ). Of (queues q) x) (sym tail_word) (last_of_lem 0 (queues q) (queues q) tt (λ _ k. k))

  pub head_of : Of (queues q) (word m (link_at (Link.Head q)))
  head_of = subst (λ (x : ℕ). Of (queues q) x) (sym head_word) (first_of_lem (queues q) (queues q) (λ _ k. k))

  -- Nobody comes before the first.
  pub first_prev : (t : ℕ) → first_of (queues q) ≡ suc t → word m (link_at (Link.Prev t)) ≡ 0
  first_prev t = go (queues q) (L.chains q h)
    where
      go : (l : List ℕ) → Chain m q 0 l 0 → first_of l ≡ suc t → word m (link_at (Link.Prev t)) ≡ 0
      go [] c e = absurd (omega arith)
      go (u ∷ l) c e = let i : u ≡ t = omega arith in rw i at c.0.before

  -- The link of a thread of the queue, or 0, is at most 256.
  pub link_small : (x : ℕ) → Of (queues q) x → x ≤ 256
  link_small x o = of_small (queues q) x (λ u k. L.small q u h k) o

  -- The links of a thread in the queue.
  module _ (t : ℕ) (a b : List ℕ) (e : queues q ≡ a ++ (t ∷ b)) where
    pub chained : Chain m q 0 (a ++ (t ∷ b)) 0
    chained = rw e at (L.chains q h)

    pub next_split : word m (link_at (Link.Next t)) ≡ first_of b
    next_split = chain_first m q (suc t) b (chain_behind m q 0 t a b chained)

    pub prev_split : word m (link_at (Link.Prev t)) ≡ last_of 0 a
    prev_split = (chain_joint m q 0 t a b chained).before

    pub next_of : Of b (word m (link_at (Link.Next t)))
    next_of = subst (λ (x : ℕ). Of b x) (sym next_split) (first_of_lem b b (λ _ k. k))

    pub prev_of : Of a (word m (link_at (Link.Prev t)))
    prev_of = subst (λ (x : ℕ). Of a x) (sym prev_split) (last_of_lem 0 a a tt (λ _ k. k))

    pub next_small : word m (link_at (Link.Next t)) ≤ 256
    next_small =
        of_small b (word m (link_at (Link.Next t)))
        (λ u k. L.small q u h (rw e (mem_right u a (t ∷ b) (inr k)))) next_of

    pub prev_small : word m (link_at (Link.Prev t)) ≤ 256
    prev_small =
        of_small a (word m (link_at (Link.Prev t))) (λ u k. L.small q u h (rw e (mem_left u a (t ∷ b) k))) prev_of

-- The links as the functions read them.

pub reads_first : {m : List ℕ} {q r : ℕ} → q ≤ 319 → r ≡ word m (link_at (Link.Head q)) → First m q r
reads_first {m} {q} h e = record { first = λ queues L. e ∙ head_word L q h }

pub reads_last : {m : List ℕ} {q r : ℕ} → q ≤ 319 → r ≡ word m (link_at (Link.Tail q)) → Last m q r
reads_last {m} {q} h e = record { last = λ queues L. e ∙ tail_word L q h }

pub reads_next : {m : List ℕ} {t r : ℕ} → r ≡ word m (link_at (Link.Next t)) → Next m t r
reads_next {m} {t} e = record { next = λ queues L q before behind g s. e ∙ next_split L q g t before behind s }

pub reads_prev : {m : List ℕ} {t r : ℕ} → r ≡ word m (link_at (Link.Prev t)) → Prev m t r
reads_prev {m} {t} e = record { prev = λ queues L q before behind g s. e ∙ prev_split L q g t before behind s }
