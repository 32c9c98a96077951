-- The walks of the check against chains: what a walk tests of the links, apart from what it tests of the threads; and
-- that in a chain from the queue itself nobody stands twice.
use Prim.Native.Nat.{ℕ, zero, suc, ◌≤◌, ◌<◌}
use mathlib.Core.Path.{◌≡◌, refl, sym, ◌∙◌, ap, subst}
use mathlib.Core.Logic.{inl, inr, ⊎_elim}
use mathlib.Core.Bool.{Bool, true, false, ◌&&◌}
use mathlib.Core.List.{List, [], ◌∷◌}
use native.Mathlib.Omega.{arith}
use lib.Dec.{eqb, leb}
use lib.ListN.{length}
use Rattle.machine.specs.Lists.{Mem, Distinct}
use Rattle.layout.specs.declared.Field.{Field}
use Rattle.layout.specs.declared.Link.{Link}
use Rattle.layout.specs.Addresses.{link_at, word, after_at, before_at}
use Rattle.layout.specs.Shows.{Joined, Chain}
use Rattle.layout.specs.Decode.{queue_from}
use Rattle.layout.proofs.Tests.{Decides, tells_false, tells_map, tells_and, tells_eqb, tells_leb}
use Rattle.layout.proofs.Following.{bounded_length, walk_chain}
use Rattle.soundness.specs.declared.Phase.{Phase}
use Rattle.soundness.specs.Checks.{thread_at, ready_test, level_from, phase_at, phase_behind, allowed, complete}
use Rattle.soundness.specs.Checks.{waiters_from, met_from, met}
use Rattle.soundness.proofs.Tests.{tells_itself, every}

-- What a walk tests of the links: each thread is linked back to the one before it.
pub chain_from : ℕ → ℕ → List ℕ → ℕ → ℕ → Bool
chain_from zero y m q x = false
chain_from (suc n) zero m q x = eqb (word m (before_at q 0)) x
chain_from (suc n) (suc t) m q x =
    (leb t 255 && eqb (word m (before_at q (suc t))) x)
    && chain_from n (word m (after_at q (suc t))) m q (suc t)

-- What a walk through an endpoint's queue tests of the badges g of its threads.
unfoldable pub phased : Phase → ℕ → ℕ → ℕ → (ℕ → ℕ) → List ℕ → Bool
phased f c d b g [] = complete f c
phased f c d b g (t ∷ l) =
    allowed (phase_at f c (suc t)) b (g t) && phased (phase_behind (phase_at f c (suc t)) d (suc t)) c d b g l

-- A walk's test is that of the links together with that of the threads met.

and_true : (a : Bool) → a ≡ a && true
and_true true = refl
and_true false = refl

and_sort : (a r c e : Bool) → (a && r) && (c && e) ≡ (a && c) && (r && e)
and_sort false r c e = refl
and_sort true true c e = refl
and_sort true false true e = refl
and_sort true false false e = refl

and_sort_three :
    (a r z c e p : Bool) → (a && r && z) && (c && (e && p)) ≡ (a && c) && ((r && e) && (z && p))
and_sort_three false r z c e p = refl
and_sort_three true false z true e p = refl
and_sort_three true false z false e p = refl
and_sort_three true true false true true p = refl
and_sort_three true true false true false p = refl
and_sort_three true true false false e p = refl
and_sort_three true true true c e p = refl

pub level_split :
    (m : List ℕ) (p n y x : ℕ) → level_from n y m p x ≡ chain_from n y m p x && every (ready_test m p) (met_from n y m)
unfolding level_from chain_from met_from
level_split m p zero y x = refl
level_split m p (suc n) zero x = and_true (eqb (word m (before_at p 0)) x)
level_split m p (suc n) (suc t) x =
    ap (λ (b : Bool). (leb t 255 && eqb (word m (before_at p (suc t))) x && ready_test m p t) && b)
    (level_split m p n (word m (link_at (Link.Next t))) (suc t))
    ∙ and_sort (leb t 255 && eqb (word m (before_at p (suc t))) x) (ready_test m p t) _ _

pub waiters_split :
    (m : List ℕ) (q k c d b n y : ℕ) (f : Phase) (x : ℕ)
    → waiters_from n y f m q k c d b x
    ≡ chain_from n y m q x
    && (every (λ t. eqb (thread_at m Field.Place t) k) (met_from n y m)
    && phased f c d b (thread_at m Field.Badge) (met_from n y m))
unfolding waiters_from chain_from met_from phased
waiters_split m q k c d b zero y f x = refl
waiters_split m q k c d b (suc n) zero f x = refl
waiters_split m q k c d b (suc n) (suc t) f x =
    ap (λ (z : Bool).
    (leb t 255 && eqb (word m (before_at q (suc t))) x && eqb (thread_at m Field.Place t) k
    && allowed (phase_at f c (suc t)) b (thread_at m Field.Badge t)) && z)
    (waiters_split m q k c d b n (word m (link_at (Link.Next t))) (phase_behind (phase_at f c (suc t)) d (suc t))
    (suc t))
    ∙ and_sort_three (leb t 255 && eqb (word m (before_at q (suc t))) x) (eqb (thread_at m Field.Place t) k)
    (allowed (phase_at f c (suc t)) b (thread_at m Field.Badge t)) _ _ _

-- A chain from link x of a queue back to the queue, of fewer than n threads.
pub record Chained (m : List ℕ) (q x n : ℕ) (l : List ℕ) : Type 0 where
  pub chain : Chain m q x l 0
  pub fits : length l < n
  pub small : (t : ℕ) → Mem t l → t ≤ 255

module _ (m : List ℕ) (q : ℕ) where
  tells_chain :
      (n y x : ℕ) → word m (after_at q x) ≡ y → Decides (chain_from n y m q x) (Chained m q x n (met_from n y m))
  unfolding chain_from met_from
  tells_chain zero y x e = tells_false (λ c. omega (arith, c.fits))
  tells_chain (suc n) zero x e =
      tells_map
      (λ h. record { chain = record { after = e; before = h }; fits = omega arith; small = λ t k. absurd k })
      (λ c. c.chain.before) (tells_eqb (word m (before_at q 0)) x)
  tells_chain (suc n) (suc t) x e =
      tells_map
      (λ h.
      record {
        chain = (record { after = e; before = h.0.1 }, h.1.chain);
        fits = omega (arith, h.1.fits);
        small = λ u. ⊎_elim (λ i. omega (arith, h.0.0)) (h.1.small u);
      })
      (λ c. (
        (c.small t (inl refl), c.chain.0.before),
        record { chain = c.chain.1; fits = omega (arith, c.fits); small = λ u k. c.small u (inr k) },
      ))
      (tells_and (tells_and (tells_leb t 255) (tells_eqb (word m (before_at q (suc t))) x))
      (tells_chain n (word m (link_at (Link.Next t))) (suc t) refl))

  -- The threads met along a chain are those of its list.
  met_chain : (n x : ℕ) (l : List ℕ) → Chain m q x l 0 → length l ≤ n → met_from n (word m (after_at q x)) m ≡ l
  unfolding met_from
  met_chain zero x [] c h = refl
  met_chain (suc n) x [] c h = rw c.after
  met_chain zero x (t ∷ l) c h = absurd (omega arith)
  met_chain (suc n) x (t ∷ l) c h =
      rw c.0.after (ap (λ (k : List ℕ). t ∷ k) (met_chain n (suc t) l c.1 (omega arith)))

  -- Nobody stands twice in a chain from the queue itself: links back lead to the queue in as many steps as threads come
  -- before, so that a thread has one depth.

  abbrev Depth : ℕ → ℕ → Type 0
  Depth zero zero = Unit {0}
  Depth zero (suc t) = ⊥
  Depth (suc n) zero = ⊥
  Depth (suc n) (suc t) = Depth n (word m (link_at (Link.Prev t)))

  one_depth : (n k x : ℕ) → Depth n x → Depth k x → n ≡ k
  one_depth zero zero x a b = refl
  one_depth zero (suc k) zero a b = absurd b
  one_depth zero (suc k) (suc t) a b = absurd a
  one_depth (suc n) zero zero a b = absurd a
  one_depth (suc n) zero (suc t) a b = absurd b
  one_depth (suc n) (suc k) zero a b = absurd a
  one_depth (suc n) (suc k) (suc t) a b = ap suc (one_depth n k (word m (link_at (Link.Prev t))) a b)

  next_depth : (n x t : ℕ) → Joined m q x (suc t) → Depth n x → Depth (suc n) (suc t)
  next_depth n x t j d = rw j.before d

  deeper :
      (n x : ℕ) (l : List ℕ) → Chain m q x l 0 → Depth n x → (t : ℕ) → Mem t l
      → (k : ℕ) × (n < k) × Depth k (suc t)
  deeper n x [] c d t k = absurd k
  deeper n x (u ∷ l) c d t (inl e) =
      (suc n, omega arith, subst (λ (v : ℕ). Depth (suc n) (suc v)) (sym e) (next_depth n x u c.0 d))
  deeper n x (u ∷ l) c d t (inr k) =
      let r = deeper (suc n) (suc u) l c.1 (next_depth n x u c.0 d) t k in
      (r.0, omega (arith, r.1), r.2)

  chain_apart : (n x : ℕ) (l : List ℕ) → Chain m q x l 0 → Depth n x → Distinct l
  chain_apart n x [] c d = tt
  chain_apart n x (t ∷ l) c d =
      let here = next_depth n x t c.0 d in (
        λ k.
            let r = deeper (suc n) (suc t) l c.1 here t k in
            omega (arith, r.1, one_depth (suc n) r.0 (suc t) here r.2),
        chain_apart (suc n) (suc t) l c.1 here,
      )

  pub chain_distinct : (l : List ℕ) → Chain m q 0 l 0 → Distinct l
  chain_distinct l c = chain_apart 0 0 l c tt

  -- A walk that passes has met a chain, the queue that is read off the memory.
  pub walk_found :
      (g : List ℕ → Bool)
      → chain_from 257 (word m (after_at q 0)) m q 0 && g (met_from 257 (word m (after_at q 0)) m) ≡ true
      → Chain m q 0 (queue_from m q) 0 × (g (queue_from m q) ≡ true)
  walk_found g h = go (both.holds h)
    where
      l : List ℕ
      l = met_from 257 (word m (after_at q 0)) m

      both : Decides (chain_from 257 (word m (after_at q 0)) m q 0 && g l) (Chained m q 0 257 l × (g l ≡ true))
      both = tells_and (tells_chain 257 (word m (after_at q 0)) 0 refl) tells_itself

      go : Chained m q 0 257 l × (g l ≡ true) → Chain m q 0 (queue_from m q) 0 × (g (queue_from m q) ≡ true)
      go r =
          let here : queue_from m q ≡ l
          = walk_chain m q 256 0 l r.0.chain (omega (arith, r.0.fits)) r.0.small in
          (subst (λ (k : List ℕ). Chain m q 0 k 0) (sym here) r.0.chain, ap g here ∙ r.1)

  -- A walk along a chain tests no more than its threads, and meets them.
  module _ (l : List ℕ) (c : Chain m q 0 l 0) (small : (t : ℕ) → Mem t l → t ≤ 255) where
    chain_short : length l ≤ 256
    chain_short = bounded_length 256 l (chain_distinct l c) (λ t k. omega (arith, small t k))

    pub walk_along :
        (g : List ℕ → Bool)
        → chain_from 257 (word m (after_at q 0)) m q 0 && g (met_from 257 (word m (after_at q 0)) m) ≡ g l
    walk_along g =
        let here : met_from 257 (word m (after_at q 0)) m ≡ l = met_chain 257 0 l c (omega (arith, chain_short)) in
        let passes : chain_from 257 (word m (after_at q 0)) m q 0 ≡ true
        = (tells_chain 257 (word m (after_at q 0)) 0 refl).back (subst (Chained m q 0 257) (sym here)
        (record { chain = c; fits = omega (arith, chain_short); small = small })) in
        rw (passes, here)

    pub met_along : met m q ≡ l
    unfolding met
    met_along = met_chain 256 0 l c chain_short
