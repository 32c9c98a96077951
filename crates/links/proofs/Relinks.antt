-- The links of a table of queues after a thread has joined a queue or left it.
use Prim.Native.Nat.{ℕ, suc, ◌≤◌}
use mathlib.Core.Path.{◌≡◌, sym, ◌∙◌, ap, subst}
use mathlib.Core.Logic.{inr, ⊎_elim}
use mathlib.Core.List.{List, ◌∷◌, ◌++◌}
use Rattle.machine.specs.Lists.{Mem, Distinct, put, without}
use Rattle.machine.proofs.Lists.{Same, same, other, same?, put_same, put_all, put_other, mem_left, mem_right, mem_keep}
use Rattle.machine.proofs.Lists.{Inserted, inserted_mem, inserted_kept, inserted_only, inserted_once}
use Rattle.layout.specs.declared.Link.{Link}
use Rattle.layout.specs.Addresses.{link_at, word, after_at, before_at}
use Rattle.layout.specs.Words.{first_of, last_of}
use Rattle.layout.specs.Shows.{Joined, Chain, Linked}
use Rattle.links.specs.Links.{Free}
use Rattle.links.proofs.Splits.{Of, of_mem, first_of_lem, last_of_lem, Split, split, without_split}
use Rattle.links.proofs.Neatness.{NeatQueues, linked_neat, neat_join, neat_leave}
use Rattle.links.proofs.Chains.{Around, nexts, prevs, heads, tails, chain_frame, chain_join, chain_leave}
use Rattle.links.proofs.Readings.{chained, next_split, prev_split}

-- Queue q becomes l, where p and w are links of q and t stands in no other queue.
module _ {m n : List ℕ} {q p w t : ℕ} {queues : ℕ → List ℕ} (A : Around m n q p w t) (L : Linked m queues)
    (h : q ≤ 319) (ofp : Of (queues q) p) (ofw : Of (queues q) w)
    (alone : (r : ℕ) → r ≤ 319 → (r ≡ q → ⊥) → Mem t (queues r) → ⊥) where
  chain_other : (r : ℕ) → r ≤ 319 → (r ≡ q → ⊥) → Chain n r 0 (queues r) 0
  chain_other r g d =
      chain_frame m n r 0 (queues r) (heads A r g (λ e _. d e))
      (λ u k. nexts A u (L.small r u g k) (no_t u k) (λ e. d (L.apart r q u g h k (of_mem (queues q) u e ofp))))
      (λ u k. prevs A u (L.small r u g k) (no_t u k) (λ e. d (L.apart r q u g h k (of_mem (queues q) u e ofw))))
      (tails A r g (λ e _. d e)) (L.chains r g)
    where
      no_t : (u : ℕ) → Mem u (queues r) → u ≡ t → ⊥
      no_t u k e = alone r g d (subst (λ (v : ℕ). Mem v (queues r)) e k)

  pub relinked :
      (l : List ℕ) → NeatQueues (put queues q l) → Chain n q 0 l 0
      → ((u : ℕ) → (u ≡ t → ⊥) → Mem u (queues q) → Mem u l)
      → ((Mem t l → ⊥) → (word n (link_at (Link.Next t)) ≡ 0) × (word n (link_at (Link.Prev t)) ≡ 0))
      → Linked n (put queues q l)
  relinked l N c stay bare_t =
      record {
        chains =
            put_all (λ (r : ℕ) (x : List ℕ). r ≤ 319 → Chain n r 0 x 0) queues q l (λ _. c)
            (λ r d g. chain_other r g d);
        small = N.small;
        once = N.once;
        apart = N.apart;
        bare = λ u g free. go u g free (same? u t);
      }
    where
      back : (u : ℕ) → Free (put queues q l) u → (u ≡ t → ⊥) → (r : ℕ) → r ≤ 319 → Mem u (queues r) → ⊥
      back u free d r g k = at_r (same? r q)
        where
          at_r : Same r q → ⊥
          at_r (same e _) =
              free q h (rw (put_same queues q l) (stay u d (subst (λ (i : ℕ). Mem u (queues i)) e k)))
          at_r (other o _) = free r g (rw (put_other queues q r l o) k)

      go : (u : ℕ) → u ≤ 255 → Free (put queues q l) u → Same u t
          → (word n (link_at (Link.Next u)) ≡ 0) × (word n (link_at (Link.Prev u)) ≡ 0)
      go u g free (same e _) =
          subst (λ (v : ℕ). (word n (link_at (Link.Next v)) ≡ 0) × (word n (link_at (Link.Prev v)) ≡ 0)) (sym e)
          (bare_t (λ k. free q h (rw (put_same queues q l) (subst (λ (v : ℕ). Mem v l) (sym e) k))))
      go u g free (other d _) =
          let f = back u free d in
          let z = L.bare u g f in (
            nexts A u g d (λ e. f q h (of_mem (queues q) u e ofp)) ∙ z.0,
            prevs A u g d (λ e. f q h (of_mem (queues q) u e ofw)) ∙ z.1,
          )

-- t joins queue q, which becomes l, between links p and w: it is joined to both.
pub linked_join :
    {m n : List ℕ} {q p w t : ℕ} {l : List ℕ} (queues : ℕ → List ℕ) → Around m n q p w t → Linked m queues
    → Free queues t → q ≤ 319 → t ≤ 255 → (I : Inserted t (queues q) l) → last_of 0 I.before ≡ p
    → first_of I.behind ≡ w → Joined n q p (suc t) → Joined n q (suc t) w → Linked n (put queues q l)
linked_join {m} {n} {q} {p} {w} {t} {l} queues A L free h g I zp zw into out =
    let a = I.before in
    let b = I.behind in
    let left : (u : ℕ) → Mem u a → Mem u (queues q) = λ u i. rw I.old (mem_left u a b i) in
    let right : (u : ℕ) → Mem u b → Mem u (queues q) = λ u i. rw I.old (mem_right u a b i) in
    let d : Distinct (a ++ (t ∷ b)) = rw I.new at (inserted_once I (L.once q h) (free q h)) in
    let small : (u : ℕ) → Mem u l → u ≤ 255 =
    λ u i. ⊎_elim (L.small q u h) (λ e. rw e g) (inserted_only I u i) in
    relinked A L h (subst (λ (x : ℕ). Of (queues q) x) zp (last_of_lem 0 a (queues q) tt left))
    (subst (λ (x : ℕ). Of (queues q) x) zw (first_of_lem b (queues q) right))
    (λ r i _. free r i) l (neat_join q t (linked_neat L) I free g)
    (rw I.new (chain_join A a b h zp zw d (rw I.new at small) into out (rw I.old at (L.chains q h))))
    (λ u _. inserted_kept I u) (λ k. absurd (k (inserted_mem I)))

-- t leaves queue q: its neighbours are joined, and its own links are 0.
pub linked_leave :
    {m n : List ℕ} {q p w t : ℕ} (queues : ℕ → List ℕ) → Around m n q p w t → Linked m queues
    → Mem t (queues q) → q ≤ 319 → word m (link_at (Link.Prev t)) ≡ p → word m (link_at (Link.Next t)) ≡ w
    → word n (after_at q p) ≡ w → word n (before_at q w) ≡ p
    → (word n (link_at (Link.Next t)) ≡ 0) × (word n (link_at (Link.Prev t)) ≡ 0)
    → Linked n (put queues q (without t (queues q)))
linked_leave {m} {n} {q} {p} {w} {t} queues A L k h ep ew fa fb bare_t = go (split t (queues q) k)
  where
    go : Split t (queues q) → Linked n (put queues q (without t (queues q)))
    go s =
        let a = s.before in
        let b = s.behind in
        let e = s.whole in
        let d : Distinct (a ++ (t ∷ b)) = rw e at (L.once q h) in
        let zp : last_of 0 a ≡ p = sym (prev_split L q h t a b e) ∙ ep in
        let zw : first_of b ≡ w = sym (next_split L q h t a b e) ∙ ew in
        let left : (u : ℕ) → Mem u a → Mem u (queues q) = λ u i. rw e (mem_left u a (t ∷ b) i) in
        let right : (u : ℕ) → Mem u b → Mem u (queues q) = λ u i. rw e (mem_right u a (t ∷ b) (inr i)) in
        let gone : without t (queues q) ≡ a ++ b = ap (without t) e ∙ without_split t a b d in
        relinked A L h (subst (λ (x : ℕ). Of (queues q) x) zp (last_of_lem 0 a (queues q) tt left))
        (subst (λ (x : ℕ). Of (queues q) x) zw (first_of_lem b (queues q) right))
        (λ r g o i. o (L.apart r q t g h i k)) (without t (queues q)) (neat_leave q t (linked_neat L))
        (rw gone
        (chain_leave A a b h zp zw d (λ u i. L.small q u h (rw e i)) (record { after = fa; before = fb })
        (chained L q h t a b e)))
        (λ u o i. mem_keep t u (queues q) i o) (λ _. bare_t)
