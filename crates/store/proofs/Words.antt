-- One word: what it tells of each state that the memory shows, and what a store to a slot does.
use Prim.Native.Nat.{ℕ, ◌≤◌}
use mathlib.Core.Path.{◌≡◌, sym, ◌∙◌, ap, subst}
use mathlib.Core.List.{List}
use lib.ListN.{length, set, length-set}
use Rattle.machine.specs.State.{State}
use Rattle.layout.specs.declared.Slot.{Slot}
use Rattle.layout.specs.declared.Link.{Link}
use Rattle.layout.specs.Addresses.{table_words, ValidSlot, ValidLink, at, link_at, word}
use Rattle.layout.specs.Words.{content, queues_of}
use Rattle.layout.specs.Shows.{Shows}
use Rattle.layout.proofs.Stores.{store_shows, slot_same, slot_other, slot_link}
use Rattle.store.specs.Steps.{Tells}
use Rattle.store.specs.Store.{IsSlot}
use Rattle.store.specs.Readings.{slot_in}

-- A memory in which one slot has a new word shows the state that differs there alone.
pub stored_shows :
    (a : Slot) (m n : List ℕ) (v : ℕ) (s z : State) → ValidSlot a → Shows m s → n ≡ set m (at a) v → content z a ≡ v
    → ((b : Slot) → ValidSlot b → (b ≡ a → ⊥) → content z b ≡ content s b)
    → ((q : ℕ) → q ≤ 319 → queues_of z q ≡ queues_of s q) → Shows n z
stored_shows a m n v s z h M e c same_content same_queues =
    let k : n ≡ set m (at a) (content z a) = e ∙ ap (set m (at a)) (sym c) in
    subst (λ l. Shows l z) (sym k) (store_shows m s z a h M same_content same_queues)

-- The words after one store to a slot.
pub record Stored (m n : List ℕ) (a : Slot) (v : ℕ) : Type 0 where
  pub size : length n ≡ length m
  pub here : word n (at a) ≡ v
  pub slots : (b : Slot) → ValidSlot b → (b ≡ a → ⊥) → word n (at b) ≡ word m (at b)
  pub links : (k : Link) → ValidLink k → word n (link_at k) ≡ word m (link_at k)

pub stored :
    (m n : List ℕ) (a : Slot) (v : ℕ) → length m ≡ table_words → ValidSlot a → n ≡ set m (at a) v → Stored m n a v
stored m n a v size h e =
    subst (λ l. Stored m l a v) (sym e)
    (record {
      size = length-set m (at a) v;
      here = slot_same m size v a h;
      slots = slot_other m size v a h;
      links = slot_link m size v a h;
    })
