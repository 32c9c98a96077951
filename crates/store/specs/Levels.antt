-- The words of the summary, and what reading them and setting a level promise. They speak of sets of levels, not of
-- states: between a change of a ready queue and that of its level the memory shows no state.
use Rattle.std.specs.Prelude.{ℕ, ◌/◌, ◌≤◌, ◌≡◌, Bool, List, length, get_or}
use Rattle.machine.specs.Lists.{put}
use Rattle.machine.specs.State.{State}
use Rattle.summary.specs.declared.Summary.{Summary}
use Rattle.summary.specs.Levels.{word_of, top_of, summary_of}
use Rattle.layout.specs.declared.Slot.{Slot}
use Rattle.layout.specs.declared.Link.{Link}
use Rattle.layout.specs.Addresses.{ValidSlot, ValidLink, at, link_at, word}
use Rattle.layout.specs.Words.{occupied_in}
use Rattle.layout.specs.Shows.{Shows}

-- The summary's words are those of the set.
pub record SummaryWords (m : List ℕ) (f : ℕ → Bool) : Type 0 where
  pub words : (w : ℕ) → w ≤ 7 → word m (at (Slot.Summary w)) ≡ word_of f w
  pub top : word m (at Slot.Top) ≡ top_of f

-- r is the summary of whatever set the words are of, and so of the occupied levels of a state that the memory shows.
pub record LoadsSummary (m : List ℕ) (r : Summary) : Type 0 where
  pub loaded : (f : ℕ → Bool) → SummaryWords m f → r ≡ summary_of f
  pub shown : (s : State) → Shows m s → r ≡ summary_of (occupied_in s)

-- A word that is not of the summary.
abbrev pub NotSummary : Slot → Type 0
NotSummary (Slot.Thread f t) = Unit {0}
NotSummary (Slot.Endpoint p e) = Unit {0}
NotSummary (Slot.Line l) = Unit {0}
NotSummary (Slot.Summary w) = ⊥
NotSummary Slot.Top = ⊥
NotSummary Slot.Running = Unit {0}
NotSummary (Slot.Unused i) = Unit {0}

-- The word of level p and the top word become those of the summary, and no other word changes.
pub record WritesLevel (m : List ℕ) (sm : Summary) (p : ℕ) (m' : List ℕ) : Type 0 where
  pub size : length m' ≡ length m
  pub word_is : word m' (at (Slot.Summary (p / 32))) ≡ get_or sm.words (p / 32) 0
  pub others : (w : ℕ) → w ≤ 7 → (w ≡ p / 32 → ⊥) → word m' (at (Slot.Summary w)) ≡ word m (at (Slot.Summary w))
  pub top : word m' (at Slot.Top) ≡ sm.top
  pub slots : (a : Slot) → ValidSlot a → NotSummary a → word m' (at a) ≡ word m (at a)
  pub links : (k : Link) → ValidLink k → word m' (link_at k) ≡ word m (link_at k)

-- Level p becomes occupied (x is true) or empty (x is false) in the summary, and no other word changes.
pub record SetsLevel (m : List ℕ) (p : ℕ) (x : Bool) (m' : List ℕ) : Type 0 where
  pub size : length m' ≡ length m
  pub marked : (f : ℕ → Bool) → SummaryWords m f → SummaryWords m' (put f p x)
  pub slots : (a : Slot) → ValidSlot a → NotSummary a → word m' (at a) ≡ word m (at a)
  pub links : (k : Link) → ValidLink k → word m' (link_at k) ≡ word m (link_at k)
