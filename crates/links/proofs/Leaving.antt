-- The four stores of unlink and the three of pop_head: what they ask of the words and what the links are after them.
use Prim.Native.Nat.{ℕ, suc, ◌≤◌}
use mathlib.Core.Path.{◌≡◌, sym, ◌∙◌}
use mathlib.Core.List.{List, ◌∷◌, ◌++◌}
use lib.ListN.{set}
use Rattle.machine.specs.Lists.{Distinct}
use Rattle.layout.specs.declared.Link.{Link}
use Rattle.layout.specs.Addresses.{link_at, word, after_link, before_link, after_at, before_at}
use Rattle.links.specs.Links.{Leavable, Leads, LeavesQueue, PopsFirst}
use Rattle.links.proofs.Names.{after_valid, before_valid}
use Rattle.links.proofs.Names.{after_before, next_after, prev_before, next_prev, next_head, prev_head}
use Rattle.links.proofs.Splits.{of_mem, split, not_before, not_behind}
use Rattle.links.proofs.Readings.{next_small, prev_small, next_of, prev_of, first_prev, reads_first}
use Rattle.links.proofs.Chains.{Around}
use Rattle.links.proofs.Relinks.{linked_leave}
use Rattle.links.proofs.Writes.{WroteLink, wrote, kept_one, kept_more, WroteThree, wrote_three}

pub leaver_small : {m : List ℕ} {q t : ℕ} → Leavable m q t → t ≤ 255
leaver_small {m} {q} {t} G = G.linked.small q t G.queue G.stands

-- What is known of the links of t: p to the one before it, w to the next.
pub record Neighbours (m : List ℕ) (t p w : ℕ) : Type 0 where
  pub thread : t ≤ 255
  pub before : word m (link_at (Link.Prev t)) ≡ p
  pub after : word m (link_at (Link.Next t)) ≡ w
  pub before_small : p ≤ 256
  pub after_small : w ≤ 256
  pub before_other : suc t ≡ p → ⊥
  pub after_other : suc t ≡ w → ⊥

pub neighbours :
    {m : List ℕ} {q t p w : ℕ} → Leavable m q t → w ≡ word m (link_at (Link.Next t))
    → p ≡ word m (link_at (Link.Prev t)) → Neighbours m t p w
neighbours {m} {q} {t} {p} {w} G f g =
    let h = G.queue in
    let l = G.queues q in
    let s = split t l G.stands in
    let a = s.before in
    let b = s.behind in
    let e = s.whole in
    let d : Distinct (a ++ (t ∷ b)) = rw e at (G.linked.once q h) in
    let L = G.linked in
    record {
      thread = leaver_small G;
      before = sym g;
      after = sym f;
      before_small = rw g (prev_small L q h t a b e);
      after_small = rw f (next_small L q h t a b e);
      before_other = λ y. not_before t a b d (of_mem a t (y ∙ g) (prev_of L q h t a b e));
      after_other = λ y. not_behind t a b d (of_mem b t (y ∙ f) (next_of L q h t a b e));
    }

module _ {m n₁ n₂ n₃ n : List ℕ} {q t p w : ℕ} (G : Leavable m q t) (B : Neighbours m t p w)
    (W₁ : WroteLink m n₁ (after_link q p) w) (W₂ : WroteLink n₁ n₂ (before_link q w) p)
    (W₃ : WroteLink n₂ n₃ (Link.Next t) 0) (W₄ : WroteLink n₃ n (Link.Prev t) 0) where
  around : Around m n q p w t
  around =
      record { others = λ k h a b c d. W₄.others k h d ∙ W₃.others k h c ∙ W₂.others k h b ∙ W₁.others k h a }

  after_p : word n (after_at q p) ≡ w
  after_p =
      let h = after_valid q p G.queue B.before_small in
      W₄.others (after_link q p) h (after_before q p q (suc t))
      ∙ W₃.others (after_link q p) h (λ e. B.before_other (next_after t q p (sym e)))
      ∙ W₂.others (after_link q p) h (after_before q p q w) ∙ W₁.here

  before_w : word n (before_at q w) ≡ p
  before_w =
      let h = before_valid q w G.queue B.after_small in
      W₄.others (before_link q w) h (λ e. B.after_other (prev_before t q w (sym e)))
      ∙ W₃.others (before_link q w) h (λ e. after_before q (suc t) q w (sym e)) ∙ W₂.here

  bare : (word n (link_at (Link.Next t)) ≡ 0) × (word n (link_at (Link.Prev t)) ≡ 0)
  bare = (W₄.others (Link.Next t) B.thread (next_prev t t) ∙ W₃.here, W₄.here)

  left : LeavesQueue m q t n
  left =
      record {
        kept =
            kept_more (kept_more (kept_more (kept_one G.size W₁) W₂ W₁.size) W₃ W₂.size) W₄ W₃.size;
        links = λ queues L k.
            linked_leave queues around L k G.queue B.before B.after after_p before_w bare;
      }

-- The stores as the code makes them.
pub unlinked :
    {m n₁ n₂ n₃ n : List ℕ} {q t p w : ℕ} → Leavable m q t → Neighbours m t p w → n₁ ≡ set m (after_at q p) w
    → n₂ ≡ set n₁ (before_at q w) p → n₃ ≡ set n₂ (link_at (Link.Next t)) 0 → n ≡ set n₃ (link_at (Link.Prev t)) 0
    → LeavesQueue m q t n
unlinked {m} {n₁} {n₂} {n₃} {n} {q} {t} {p} {w} G B f₁ f₂ f₃ f₄ =
    let hp = after_valid q p G.queue B.before_small in
    let hw = before_valid q w G.queue B.after_small in
    let W₁ = wrote (after_link q p) G.size hp f₁ in
    let W₂ = wrote (before_link q w) W₁.size hw f₂ in
    let W₃ = wrote (Link.Next t) W₂.size B.thread f₃ in
    let W₄ = wrote (Link.Prev t) W₃.size B.thread f₄ in
    left G B W₁ W₂ W₃ W₄

-- The first has the queue itself before it.
pub first_neighbours :
    {m : List ℕ} {q t w : ℕ} → Leads m q t → w ≡ word m (link_at (Link.Next t)) → Neighbours m t 0 w
first_neighbours {m} {q} {t} J f =
    let G = J.leavable in neighbours G f (sym (first_prev G.linked q G.queue t J.first))

left_first :
    {m n : List ℕ} {q t w : ℕ} → Leads m q t → Neighbours m t 0 w
    → WroteThree m n (before_link q w) (Link.Head q) (Link.Next t) 0 w 0 → PopsFirst m q t w n
left_first {m} {n} {q} {t} {w} J B T = (
  record {
    kept = T.kept;
    links = λ queues L k.
        linked_leave queues (record { others = λ i h a b c d. T.others i h b a c }) L k J.leavable.queue
        B.before B.after T.second T.first (T.third, back);
  },
  reads_first J.leavable.queue (sym T.second),
)
  where
    back : word n (link_at (Link.Prev t)) ≡ 0
    back =
        T.others (Link.Prev t) B.thread (λ i. B.after_other (prev_before t q w i)) (prev_head t q)
        (λ i. next_prev t t (sym i))
        ∙ B.before

pub popped :
    {m n₁ n₂ n : List ℕ} {q t w : ℕ} → Leads m q t → w ≡ word m (link_at (Link.Next t))
    → n₁ ≡ set m (before_at q w) 0 → n₂ ≡ set n₁ (link_at (Link.Head q)) w → n ≡ set n₂ (link_at (Link.Next t)) 0
    → PopsFirst m q t w n
popped {m} {n₁} {n₂} {n} {q} {t} {w} J e f₁ f₂ f₃ =
    let B = first_neighbours J e in
    left_first J B
    (wrote_three (before_link q w) (Link.Head q) (Link.Next t) J.leavable.size
    (before_valid q w J.leavable.queue B.after_small) J.leavable.queue B.thread
    (λ i. after_before q 0 q w (sym i)) (λ i. after_before q (suc t) q w (sym i)) (λ i. next_head t q (sym i)) f₁ f₂ f₃)
