-- The words of the summary: reading them, storing the two that a mark changes, and what a mark does.
use Prim.Native.Nat.{ℕ, ◌+◌, ◌*◌, ◌/◌, ◌≤◌, ◌<◌}
use mathlib.Core.Path.{◌≡◌, sym, ◌∙◌, ap}
use mathlib.Core.Bool.{Bool}
use mathlib.Core.List.{List}
use native.Mathlib.Omega.{arith}
use lib.ListN.{length, get_or, set, length-set}
use lib.Seq.{get_or-set_same, get_or-set_other}
use Rattle.machine.specs.Lists.{put}
use Rattle.machine.specs.State.{State}
use Rattle.machine.proofs.Lists.{Same, same, other, same?, put_other}
use Rattle.summary.specs.declared.Summary.{Summary}
use Rattle.summary.specs.Levels.{word_of, summary_of, SetsBit}
use Rattle.summary.proofs.Words.{words_at, words_are, summary_is, summary_words, summary_top, word_agree}
use Rattle.layout.specs.declared.Slot.{Slot}
use Rattle.layout.specs.Addresses.{table_words, at, word}
use Rattle.layout.specs.Words.{occupied_in}
use Rattle.layout.specs.Shows.{Shows}
use Rattle.store.specs.Levels.{SummaryWords, LoadsSummary, WritesLevel, SetsLevel}
use Rattle.store.proofs.Words.{Stored, stored}

-- The summary's words of a memory that shows a state are those of its occupied levels.
pub shown_words : (m : List ℕ) (s : State) → Shows m s → SummaryWords m (occupied_in s)
shown_words m s M = record { words = λ w h. M.slots (Slot.Summary w) h; top = M.slots Slot.Top tt }

-- The words of the summary are read, each of its place.
pub loads :
    (m row : List ℕ) (v : ℕ) → length row ≡ 8 → ((k : ℕ) → k < 8 → get_or row k 0 ≡ word m (at (Slot.Summary k)))
    → v ≡ word m (at Slot.Top) → LoadsSummary m (record { words = row; top = v })
loads m row v long R e = record { loaded = is; shown = λ s M. is (occupied_in s) (shown_words m s M) }
  where
    is : (f : ℕ → Bool) → SummaryWords m f → ◌≡◌ {A = Summary} (record { words = row; top = v }) (summary_of f)
    is f S =
        summary_is (record { words = row; top = v }) f
        (words_are f row long (λ k g. R k (omega arith) ∙ S.words k (omega arith)))
        (e ∙ S.top)

-- The two stores of a mark.
no_top : (w : ℕ) → Slot.Summary w ≡ Slot.Top → ⊥
no_top w e = let z : ◌≡◌ {A = ℕ} 0 1 = cc in omega arith

pub writes :
    (m n₁ n₂ : List ℕ) (sm : Summary) (p : ℕ) → length m ≡ table_words → p < 256
    → n₁ ≡ set m (at (Slot.Summary (p / 32))) (get_or sm.words (p / 32) 0)
    → n₂ ≡ set n₁ (at Slot.Top) sm.top → WritesLevel m sm p n₂
writes m n₁ n₂ sm p size small e₁ e₂ =
    let A : Stored m n₁ (Slot.Summary (p / 32)) (get_or sm.words (p / 32) 0) =
    stored m n₁ (Slot.Summary (p / 32)) (get_or sm.words (p / 32) 0) size (omega arith) e₁ in
    let B : Stored n₁ n₂ Slot.Top sm.top = stored n₁ n₂ Slot.Top sm.top (A.size ∙ size) tt e₂ in
    record {
      size = B.size ∙ A.size;
      word_is = B.slots (Slot.Summary (p / 32)) (omega arith) (no_top (p / 32)) ∙ A.here;
      others = λ w h d. B.slots (Slot.Summary w) h (no_top w) ∙ A.slots (Slot.Summary w) h (λ e. d (same_word w e));
      top = B.here;
      slots = λ b h o. B.slots b h (λ e. rw e at o) ∙ A.slots b h (λ e. rw e at o);
      links = λ k h. B.links k h ∙ A.links k h;
    }
  where
    same_word : (w : ℕ) → Slot.Summary w ≡ Slot.Summary (p / 32) → w ≡ p / 32
    same_word w e = cc

-- A level is set, from the summary that was loaded and the two stores of the changed one.
module _ (m n : List ℕ) (sm r : Summary) (p : ℕ) (x : Bool) (small : p < 256) (W : WritesLevel m r p n) where
  marked_words :
      (f : ℕ → Bool) → SummaryWords m f → r ≡ summary_of (put f p x) → SummaryWords n (put f p x)
  marked_words f S e =
      record {
        words = λ w h. go w h (same? w (p / 32));
        top = W.top ∙ ap (λ (y : Summary). y.top) e ∙ summary_top (put f p x);
      }
    where
      go : (w : ℕ) → w ≤ 7 → Same w (p / 32) → word n (at (Slot.Summary w)) ≡ word_of (put f p x) w
      go w h (same k _) =
          rw k
          (W.word_is ∙ ap (λ (y : Summary). get_or y.words (p / 32) 0) e
          ∙ ap (λ (l : List ℕ). get_or l (p / 32) 0) (summary_words (put f p x))
          ∙ words_at (put f p x) (p / 32) (omega arith))
      go w h (other d _) =
          W.others w h d ∙ S.words w h
          ∙ word_agree f (put f p x) w (λ k b. sym (put_other f p (32 * w + k) x (λ j. d (omega arith))))

  pub marks_in : LoadsSummary m sm → SetsBit sm p x r → SetsLevel m p x n
  marks_in L K =
      record {
        size = W.size;
        marked = λ f S. marked_words f S (K.marked f (L.loaded f S));
        slots = W.slots;
        links = W.links;
      }
