-- The words after stores to one row of slots, as those of a thread or of an endpoint: the row has the new words, and
-- every other slot and each link are as before.
use Prim.Native.Nat.{ℕ, ◌≤◌}
use mathlib.Core.Path.{◌≡◌, refl, sym, ◌∙◌, subst}
use mathlib.Core.List.{List}
use lib.Dec.{eqb}
use lib.ListN.{length, set, length-set}
use Rattle.machine.specs.Lists.{pick}
use Rattle.machine.specs.State.{State}
use Rattle.machine.proofs.Lists.{Same, same, other, same?}
use Rattle.layout.specs.declared.Slot.{Slot}
use Rattle.layout.specs.declared.Link.{Link}
use Rattle.layout.specs.Addresses.{table_words, ValidSlot, ValidLink, at, link_at, word}
use Rattle.layout.specs.Words.{content, queues_of}
use Rattle.layout.specs.Shows.{Shows}
use Rattle.layout.proofs.Stores.{slot_same, slot_other, slot_link, linked_keep, linked_same}

-- n is m but for one row, whose words are w; the slots that are not of the row are Off it.
pub record RowChanged {F : Type 0} (row : F → Slot) (Off : Slot → Type 0) (m n : List ℕ) (w : F → ℕ) : Type 0 where
  pub size : length n ≡ table_words
  pub here : (f : F) → word n (at (row f)) ≡ w f
  pub slots : (a : Slot) → ValidSlot a → Off a → word n (at a) ≡ word m (at a)
  pub links : (k : Link) → ValidLink k → word n (link_at k) ≡ word m (link_at k)

-- The words of a row with v at f, where a number tells the slots of the row apart.
abbrev pub change : {F : Type 0} → (F → ℕ) → F → ℕ → (F → ℕ) → F → ℕ
change key f v w g = pick (eqb (key g) (key f)) v (w g)

pub record IsRow {F : Type 0} (row : F → Slot) (Off : Slot → Type 0) (key : F → ℕ) : Type 0 where
  pub valid : (f : F) → ValidSlot (row f)
  pub to : (f g : F) → key f ≡ key g → row f ≡ row g
  pub from : (f g : F) → row f ≡ row g → key f ≡ key g
  pub off : (a : Slot) (f : F) → Off a → a ≡ row f → ⊥

module _ {F : Type 0} (row : F → Slot) (Off : Slot → Type 0) (key : F → ℕ) (R : IsRow row Off key) where
  row_set :
      (m n : List ℕ) (w : F → ℕ) (f : F) (v : ℕ) → RowChanged row Off m n w
      → RowChanged row Off m (set n (at (row f)) v) (change key f v w)
  row_set m n w f v B =
      record {
        size = length-set n (at (row f)) v ∙ B.size;
        here = λ g. go g (same? (key g) (key f));
        slots = λ a h o. slot_other n B.size v (row f) (R.valid f) a h (R.off a f o) ∙ B.slots a h o;
        links = λ k h. slot_link n B.size v (row f) (R.valid f) k h ∙ B.links k h;
      }
    where
      go : (g : F) → Same (key g) (key f) → word (set n (at (row f)) v) (at (row g)) ≡ change key f v w g
      go g (same e b) = rw (b, R.to g f e) (slot_same n B.size v (row f) (R.valid f))
      go g (other d b) =
          rw b (slot_other n B.size v (row f) (R.valid f) (row g) (R.valid g) (λ e. d (R.from g f e)) ∙ B.here g)

  pub row_store :
      (m n n' : List ℕ) (w : F → ℕ) (f : F) (v : ℕ) → n' ≡ set n (at (row f)) v
      → RowChanged row Off m n w → RowChanged row Off m n' (change key f v w)
  row_store m n n' w f v e B = subst (λ l. RowChanged row Off m l (change key f v w)) (sym e) (row_set m n w f v B)

  pub row_start : (m : List ℕ) (s : State) → Shows m s → RowChanged row Off m m (λ f. content s (row f))
  row_start m s M =
      record { size = M.size; here = λ f. M.slots (row f) (R.valid f); slots = λ a h o. refl; links = λ k h. refl }

-- The row's memory shows a state with the same queues, if each slot has that state's word.
pub row_shows :
    {F : Type 0} (row : F → Slot) (Off : Slot → Type 0) (m n : List ℕ) (w : F → ℕ) (s z : State) → Shows m s
    → RowChanged row Off m n w → ((a : Slot) → ValidSlot a → word n (at a) ≡ content z a)
    → ((q : ℕ) → q ≤ 319 → queues_of z q ≡ queues_of s q) → Shows n z
row_shows row Off m n w s z M B slots queues =
    record {
      size = B.size;
      links =
          linked_keep m n B.links (queues_of z)
          (linked_same m (queues_of s) (queues_of z) queues M.links);
      slots = slots;
    }
