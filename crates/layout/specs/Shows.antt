-- A memory shows a state, sound or in the middle of a call: links join its queues, and each other word holds its part.
use Rattle.std.specs.Prelude.{ℕ, suc, ◌≤◌, ◌≡◌, List, [], ◌∷◌, length}
use Rattle.machine.specs.Lists.{Mem, Distinct}
use Rattle.machine.specs.State.{State}
use Rattle.layout.specs.declared.Slot.{Slot}
use Rattle.layout.specs.declared.Link.{Link}
use Rattle.layout.specs.Addresses.{table_words, ValidSlot, at, link_at, word, after_at, before_at}
use Rattle.layout.specs.Words.{content, queues_of}

-- Links x and y of queue q are joined both ways: y comes after x, and x before y.
pub record Joined (m : List ℕ) (q x y : ℕ) : Type 0 where
  pub after : word m (after_at q x) ≡ y
  pub before : word m (before_at q y) ≡ x

-- From link x of queue q through the threads of the list to link y, each step joined both ways.
abbrev pub Chain : List ℕ → ℕ → ℕ → List ℕ → ℕ → Type 0
Chain m q x [] y = Joined m q x y
Chain m q x (t ∷ l) y = Joined m q x (suc t) × Chain m q (suc t) l y

-- The links of a table of queues: each is a chain from the queue itself back to it; whoever stands in one is below 256,
-- and stands there once and nowhere else; a thread in no queue has links 0.
pub record Linked (m : List ℕ) (queues : ℕ → List ℕ) : Type 0 where
  pub chains : (q : ℕ) → q ≤ 319 → Chain m q 0 (queues q) 0
  pub small : (q t : ℕ) → q ≤ 319 → Mem t (queues q) → t ≤ 255
  pub once : (q : ℕ) → q ≤ 319 → Distinct (queues q)
  pub apart : (q r t : ℕ) → q ≤ 319 → r ≤ 319 → Mem t (queues q) → Mem t (queues r) → q ≡ r
  pub bare :
      (t : ℕ) → t ≤ 255 → ((q : ℕ) → q ≤ 319 → Mem t (queues q) → ⊥)
      → (word m (link_at (Link.Next t)) ≡ 0) × (word m (link_at (Link.Prev t)) ≡ 0)

pub record Shows (m : List ℕ) (s : State) : Type 0 where
  pub size : length m ≡ table_words
  pub links : Linked m (queues_of s)
  pub slots : (a : Slot) → ValidSlot a → word m (at a) ≡ content s a
