-- What a memory shows after a store: a store to one slot changes that slot alone, and no link.
use Prim.Native.Nat.{ℕ, zero, suc, ◌≤◌}
use mathlib.Core.Path.{◌≡◌, refl, sym, ◌∙◌, ap}
use mathlib.Core.Logic.{inl, inr}
use mathlib.Core.List.{List, [], ◌∷◌}
use native.Mathlib.Omega.{arith}
use lib.ListN.{length, set, length-set}
use Rattle.machine.specs.Lists.{Mem}
use Rattle.machine.specs.State.{State}
use Rattle.machine.proofs.Lists.{Same, same, other, same?}
use Rattle.layout.specs.declared.Slot.{Slot}
use Rattle.layout.specs.declared.Link.{Link}
use Rattle.layout.specs.Addresses.{table_words}
use Rattle.layout.specs.Addresses.{slot, link, ValidSlot, ValidLink, at, link_at, word, after_at, before_at}
use Rattle.layout.specs.Words.{content, queues_of}
use Rattle.layout.specs.Shows.{Joined, Chain, Linked, Shows}
use Rattle.layout.proofs.Addresses.{address_injective, at_small, link_at_small, word_set_same, word_set_other}

-- Addresses of different names are different.

pub at_injective : (a b : Slot) → ValidSlot a → ValidSlot b → at a ≡ at b → a ≡ b
at_injective a b h g e = let k = address_injective (slot a) (slot b) h g e in cc

pub link_at_injective : (a b : Link) → ValidLink a → ValidLink b → link_at a ≡ link_at b → a ≡ b
link_at_injective a b h g e = let k = address_injective (link a) (link b) h g e in cc

pub at_no_link : (a : Slot) (k : Link) → ValidSlot a → ValidLink k → at a ≡ link_at k → ⊥
at_no_link a k h g e =
    let f = address_injective (slot a) (link k) h g e in
    let z : ◌≡◌ {A = ℕ} 0 1 = cc in
    omega arith

-- The words after a store to a slot, and after a store to a link.

module _ (m : List ℕ) (size : length m ≡ table_words) (v : ℕ) where
  module _ (a : Slot) (h : ValidSlot a) where
    pub slot_same : word (set m (at a) v) (at a) ≡ v
    slot_same = word_set_same m (at a) v (omega (arith, at_small a h))

    pub slot_other : (b : Slot) → ValidSlot b → (b ≡ a → ⊥) → word (set m (at a) v) (at b) ≡ word m (at b)
    slot_other b g n = word_set_other m (at a) (at b) v (λ e. n (at_injective b a g h e))

    pub slot_link : (k : Link) → ValidLink k → word (set m (at a) v) (link_at k) ≡ word m (link_at k)
    slot_link k g = word_set_other m (at a) (link_at k) v (λ e. at_no_link a k h g (sym e))

  module _ (k : Link) (h : ValidLink k) where
    pub link_same : word (set m (link_at k) v) (link_at k) ≡ v
    link_same = word_set_same m (link_at k) v (omega (arith, link_at_small k h))

    pub link_other : (j : Link) → ValidLink j → (j ≡ k → ⊥) → word (set m (link_at k) v) (link_at j)
        ≡ word m (link_at j)
    link_other j g n = word_set_other m (link_at k) (link_at j) v (λ e. n (link_at_injective j k g h e))

    pub link_slot : (a : Slot) → ValidSlot a → word (set m (link_at k) v) (at a) ≡ word m (at a)
    link_slot a g = word_set_other m (link_at k) (at a) v (at_no_link a k g h)

-- Memories with the same links are linked alike.

module _ (m n : List ℕ) (keep : (k : Link) → ValidLink k → word n (link_at k) ≡ word m (link_at k)) where
  after_keep : (q x : ℕ) → q ≤ 319 → x ≤ 256 → word n (after_at q x) ≡ word m (after_at q x)
  after_keep q zero h g = keep (Link.Head q) h
  after_keep q (suc t) h g = keep (Link.Next t) (omega arith)

  before_keep : (q x : ℕ) → q ≤ 319 → x ≤ 256 → word n (before_at q x) ≡ word m (before_at q x)
  before_keep q zero h g = keep (Link.Tail q) h
  before_keep q (suc t) h g = keep (Link.Prev t) (omega arith)

  joined_keep : (q x y : ℕ) → q ≤ 319 → x ≤ 256 → y ≤ 256 → Joined m q x y → Joined n q x y
  joined_keep q x y h g k j =
      record { after = after_keep q x h g ∙ j.after; before = before_keep q y h k ∙ j.before }

  pub chain_keep :
      (q x : ℕ) (l : List ℕ) → q ≤ 319 → x ≤ 256 → ((t : ℕ) → Mem t l → t ≤ 255)
      → Chain m q x l 0 → Chain n q x l 0
  chain_keep q x [] h g s c = joined_keep q x 0 h g (omega arith) c
  chain_keep q x (t ∷ l) h g s c =
      let z : suc t ≤ 256 = omega (arith, s t (inl refl)) in
      (joined_keep q x (suc t) h g z c.0, chain_keep q (suc t) l h z (λ u k. s u (inr k)) c.1)

  pub linked_keep : (queues : ℕ → List ℕ) → Linked m queues → Linked n queues
  linked_keep queues L =
      record {
        chains = λ q h. chain_keep q 0 (queues q) h (omega arith) (λ t k. L.small q t h k) (L.chains q h);
        small = L.small;
        once = L.once;
        apart = L.apart;
        bare = λ t h f. (keep (Link.Next t) h ∙ (L.bare t h f).0, keep (Link.Prev t) h ∙ (L.bare t h f).1);
      }

-- Tables with the same queues are linked alike.
pub linked_same :
    (m : List ℕ) (f g : ℕ → List ℕ) → ((q : ℕ) → q ≤ 319 → g q ≡ f q) → Linked m f → Linked m g
linked_same m f g e L =
    record {
      chains = λ q h. rw (e q h) (L.chains q h);
      small = λ q t h k. L.small q t h (rw (e q h) at k);
      once = λ q h. rw (e q h) (L.once q h);
      apart = λ q r t h i k j. L.apart q r t h i (rw (e q h) at k) (rw (e r i) at j);
      bare = λ t h n. L.bare t h (λ q i k. n q i (rw (e q i) k));
    }

-- A store to a slot shows the state that differs there alone.
pub store_shows :
    (m : List ℕ) (s z : State) (a : Slot) → ValidSlot a → Shows m s
    → ((b : Slot) → ValidSlot b → (b ≡ a → ⊥) → content z b ≡ content s b)
    → ((q : ℕ) → q ≤ 319 → queues_of z q ≡ queues_of s q) → Shows (set m (at a) (content z a)) z
store_shows m s z a h M same_content same_queues =
    record {
      size = length-set m (at a) (content z a) ∙ M.size;
      links =
          linked_keep m (set m (at a) (content z a)) (slot_link m M.size (content z a) a h) (queues_of z)
          (linked_same m (queues_of s) (queues_of z) same_queues M.links);
      slots = λ b g. go b g (same? (at b) (at a));
    }
  where
    go : (b : Slot) → ValidSlot b → Same (at b) (at a) → word (set m (at a) (content z a)) (at b) ≡ content z b
    go b g (same e _) = rw (at_injective b a g h e) (slot_same m M.size (content z a) a h)
    go b g (other n _) =
        slot_other m M.size (content z a) a h b g (λ e. n (ap at e)) ∙ M.slots b g
        ∙ sym (same_content b g (λ e. n (ap at e)))
