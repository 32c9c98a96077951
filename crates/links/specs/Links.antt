-- What the operations on links ask and give, over the words before and after: for every table of queues that the links
-- join.
use Rattle.std.specs.Prelude.{ℕ, suc, ◌≤◌, ◌≡◌, List, [], ◌∷◌, ◌++◌, length}
use Rattle.machine.specs.Lists.{put, without, Mem}
use Rattle.layout.specs.declared.Slot.{Slot}
use Rattle.layout.specs.Addresses.{ValidSlot, at, word, table_words}
use Rattle.layout.specs.Words.{first_of, last_of}
use Rattle.layout.specs.Shows.{Linked}

-- t stands in no queue.
abbrev pub Free : (ℕ → List ℕ) → ℕ → Type 0
Free queues t = (q : ℕ) → q ≤ 319 → Mem t (queues q) → ⊥

-- Every word that is no link is as it was.
pub record OnlyLinks (m m' : List ℕ) : Type 0 where
  pub size : length m' ≡ length m
  pub slots : (a : Slot) → ValidSlot a → word m' (at a) ≡ word m (at a)

-- A queue that thread t, in none, may join.
pub record Joinable (m : List ℕ) (q t : ℕ) : Type 0 where
  pub size : length m ≡ table_words
  pub queue : q ≤ 319
  pub thread : t ≤ 255
  pub queues : ℕ → List ℕ
  pub linked : Linked m queues
  pub free : Free queues t

-- t has joined queue q, which is now what place makes of it.
pub record JoinsQueue (place : List ℕ → List ℕ) (m : List ℕ) (q t : ℕ) (m' : List ℕ) : Type 0 where
  pub kept : OnlyLinks m m'
  pub links :
      (queues : ℕ → List ℕ) → Linked m queues → Free queues t → Linked m' (put queues q (place (queues q)))

-- t has joined the tail of queue q.
abbrev pub JoinsLast : List ℕ → ℕ → ℕ → List ℕ → Type 0
JoinsLast m q t m' = JoinsQueue (λ l. l ++ (t ∷ [])) m q t m'

-- t has joined the head of queue q.
abbrev pub JoinsFirst : List ℕ → ℕ → ℕ → List ℕ → Type 0
JoinsFirst m q t m' = JoinsQueue (λ l. t ∷ l) m q t m'

-- A queue in which thread t stands.
pub record Leavable (m : List ℕ) (q t : ℕ) : Type 0 where
  pub size : length m ≡ table_words
  pub queue : q ≤ 319
  pub queues : ℕ → List ℕ
  pub linked : Linked m queues
  pub stands : Mem t (queues q)

-- A queue of which thread t is the first.
pub record Leads (m : List ℕ) (q t : ℕ) : Type 0 where
  pub leavable : Leavable m q t
  pub first : first_of (leavable.queues q) ≡ suc t

-- t has left queue q, wherever it stood in it.
pub record LeavesQueue (m : List ℕ) (q t : ℕ) (m' : List ℕ) : Type 0 where
  pub kept : OnlyLinks m m'
  pub links :
      (queues : ℕ → List ℕ) → Linked m queues → Mem t (queues q)
      → Linked m' (put queues q (without t (queues q)))

-- r is the link to the first of queue q, 0 where it is empty.
pub record First (m : List ℕ) (q r : ℕ) : Type 0 where
  pub first : (queues : ℕ → List ℕ) → Linked m queues → r ≡ first_of (queues q)

-- r is the link to the last of queue q, 0 where it is empty.
pub record Last (m : List ℕ) (q r : ℕ) : Type 0 where
  pub last : (queues : ℕ → List ℕ) → Linked m queues → r ≡ last_of 0 (queues q)

-- r is the link to the one behind t in its queue, 0 where t is the last.
pub record Next (m : List ℕ) (t r : ℕ) : Type 0 where
  pub next :
      (queues : ℕ → List ℕ) → Linked m queues → (q : ℕ) (before behind : List ℕ) → q ≤ 319
      → queues q ≡ before ++ (t ∷ behind) → r ≡ first_of behind

-- r is the link to the one before t in its queue, 0 where t is the first.
pub record Prev (m : List ℕ) (t r : ℕ) : Type 0 where
  pub prev :
      (queues : ℕ → List ℕ) → Linked m queues → (q : ℕ) (before behind : List ℕ) → q ≤ 319
      → queues q ≡ before ++ (t ∷ behind) → r ≡ last_of 0 before

-- The first, t, has left queue q, and r is the link to the first of those that are left.
abbrev pub PopsFirst : List ℕ → ℕ → ℕ → ℕ → List ℕ → Type 0
PopsFirst m q t r m' = LeavesQueue m q t m' × First m' q r
