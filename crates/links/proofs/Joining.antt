-- Joining a queue at either end by three stores: what they ask of the words, and the links after them.
use Prim.Native.Nat.{ℕ, suc, ◌+◌, ◌≤◌}
use mathlib.Core.Path.{◌≡◌, refl, sym, ◌∙◌}
use mathlib.Core.List.{List}
use native.Mathlib.Numerals.{add-one}
use lib.ListN.{set}
use Rattle.machine.proofs.Lists.{at_head, at_tail}
use Rattle.layout.specs.declared.Link.{Link}
use Rattle.layout.specs.Addresses.{link_at, word, after_link, after_at, before_link, before_at}
use Rattle.layout.specs.Shows.{Linked}
use Rattle.links.specs.Links.{Free, Joinable, JoinsFirst, JoinsLast}
use Rattle.links.proofs.Names.{after_valid, before_valid, after_before, next_after, prev_before}
use Rattle.links.proofs.Names.{next_prev, next_head, next_tail, prev_head, prev_tail}
use Rattle.links.proofs.Splits.{of_mem}
use Rattle.links.proofs.Readings.{head_word, head_of, tail_word, tail_of, link_small}
use Rattle.links.proofs.Relinks.{linked_join}
use Rattle.links.proofs.Writes.{WroteThree, wrote_three}

-- The link at the end of the queue, which the stores ask for, is in range.

pub tail_small : {m : List ℕ} {q t p : ℕ} → Joinable m q t → p ≡ word m (link_at (Link.Tail q)) → p ≤ 256
tail_small {m} {q} {t} {p} J e =
    let L = J.linked in rw e (link_small L q J.queue (word m (link_at (Link.Tail q))) (tail_of L q J.queue))

pub head_small : {m : List ℕ} {q t w : ℕ} → Joinable m q t → w ≡ word m (link_at (Link.Head q)) → w ≤ 256
head_small {m} {q} {t} {w} J e =
    let L = J.linked in rw e (link_small L q J.queue (word m (link_at (Link.Head q))) (head_of L q J.queue))

-- t stands behind the last, p: the link back from t is stored, and its link on is 0 as it was.
joined_last :
    {m n : List ℕ} {q t p : ℕ} → Joinable m q t → p ≡ word m (link_at (Link.Tail q))
    → WroteThree m n (after_link q p) (Link.Prev t) (Link.Tail q) (suc t) p (suc t) → JoinsLast m q t n
joined_last {m} {n} {q} {t} {p} J e T =
    record {
      kept = T.kept;
      links = λ queues L free.
          linked_join queues (record { others = λ k h a b c d. T.others k h a d b }) L free J.queue J.thread
          (at_tail t (queues q)) (sym (tail_word L q J.queue) ∙ sym e) refl
          (record { after = T.first; before = T.second })
          (record { after = on queues L free; before = T.third });
    }
  where
    on : (queues : ℕ → List ℕ) → Linked m queues → Free queues t → word n (link_at (Link.Next t)) ≡ 0
    on queues L free =
        let apart : suc t ≡ p → ⊥ = λ i. free q J.queue (of_mem (queues q) t i (rw e (tail_of L q J.queue))) in
        T.others (Link.Next t) J.thread (λ i. apart (next_after t q p i)) (next_prev t t) (next_tail t q)
        ∙ (L.bare t J.thread free).0

-- t stands before the first, w: the link on from t is stored, and its link back is 0 as it was.
joined_first :
    {m n : List ℕ} {q t w : ℕ} → Joinable m q t → w ≡ word m (link_at (Link.Head q))
    → WroteThree m n (before_link q w) (Link.Next t) (Link.Head q) (suc t) w (suc t) → JoinsFirst m q t n
joined_first {m} {n} {q} {t} {w} J e T =
    record {
      kept = T.kept;
      links = λ queues L free.
          linked_join queues (record { others = λ k h a b c d. T.others k h b c a }) L free J.queue J.thread
          (at_head t (queues q)) refl (sym (head_word L q J.queue) ∙ sym e)
          (record { after = T.third; before = back queues L free })
          (record { after = T.second; before = T.first });
    }
  where
    back : (queues : ℕ → List ℕ) → Linked m queues → Free queues t → word n (link_at (Link.Prev t)) ≡ 0
    back queues L free =
        let apart : suc t ≡ w → ⊥ = λ i. free q J.queue (of_mem (queues q) t i (rw e (head_of L q J.queue))) in
        T.others (Link.Prev t) J.thread (λ i. apart (prev_before t q w i)) (λ i. next_prev t t (sym i))
        (prev_head t q)
        ∙ (L.bare t J.thread free).1

-- The stores as the code makes them.

pub pushed_tail :
    {m n₁ n₂ n : List ℕ} {q t p : ℕ} → Joinable m q t → p ≡ word m (link_at (Link.Tail q))
    → n₁ ≡ set m (after_at q p) (t + 1) → n₂ ≡ set n₁ (link_at (Link.Prev t)) p
    → n ≡ set n₂ (link_at (Link.Tail q)) (t + 1) → JoinsLast m q t n
pushed_tail {m} {n₁} {n₂} {n} {q} {t} {p} J e f₁ f₂ f₃ =
    joined_last J e
    (wrote_three (after_link q p) (Link.Prev t) (Link.Tail q) J.size
    (after_valid q p J.queue (tail_small J e)) J.thread J.queue (after_before q p q (suc t))
    (after_before q p q 0) (prev_tail t q) (rw add-one at f₁) f₂ (rw add-one at f₃))

pub pushed_head :
    {m n₁ n₂ n : List ℕ} {q t w : ℕ} → Joinable m q t → w ≡ word m (link_at (Link.Head q))
    → n₁ ≡ set m (before_at q w) (t + 1) → n₂ ≡ set n₁ (link_at (Link.Next t)) w
    → n ≡ set n₂ (link_at (Link.Head q)) (t + 1) → JoinsFirst m q t n
pushed_head {m} {n₁} {n₂} {n} {q} {t} {w} J e f₁ f₂ f₃ =
    joined_first J e
    (wrote_three (before_link q w) (Link.Next t) (Link.Head q) J.size
    (before_valid q w J.queue (head_small J e)) J.thread J.queue (λ i. after_before q (suc t) q w (sym i))
    (λ i. after_before q 0 q w (sym i)) (next_head t q) (rw add-one at f₁) f₂ (rw add-one at f₃))
