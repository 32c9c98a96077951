-- The text of the words in bytes: that of whole bytes comes first, and the rest is the text of what comes behind them.
use Rattle.std.proofs.Common.{◌≡◌, ℕ, zero, suc, ◌%◌, ◌<◌, ◌≤◌, Bool, true, false, leb, List, ◌++◌, length, drop, sym}
use Rattle.std.proofs.Common.{refl, ap, ◌∙◌, add-zero, arith, length-append, leb-false, leb-true}
use mathlib.Core.Option.{Option}
use lib.Seq.{drop-append_seam}
use Rattle.calls.specs.declared.Call.{Call}
use Rattle.machine.specs.State.{State}
use Rattle.machine.specs.Grants.{Grants}
use Rattle.machine.specs.Machine.{step, grants_by}
use Rattle.journal.specs.declared.types.Read.{Read}
use Rattle.journal.specs.declared.types.Read.TheVariants.{Found, Refused, Ended}
use Rattle.journal.specs.Words.{read_at, read_from}
use Rattle.journal.proofs.Appended.{moved, read_dropped}
use Rattle.input.specs.Words.{words_in}
use Rattle.input.proofs.Appended.{no_words}
use Rattle.forms.specs.declared.Form.{Form}
use Rattle.forms.specs.Forms.{stop_text}
use Rattle.lister.specs.Feeding.{ready}
use Rattle.lister.proofs.Enough.{Whole, whole_words, read_same, read_all, read_missing}
use Rattle.journal.specs.Course.{course_from}
use Rattle.lister.specs.Listing.{Text, odd_text}
use Rattle.lister.proofs.Texts.{before, stops_with, text_for, text_from}

-- The text of these bytes, from an index and a state on.
abbrev pub text_on : Form → ℕ → ℕ → List ℕ → Grants → State → Text
text_on f n i bytes g s = text_from f (length bytes % 4) n (read_at (words_in bytes) 0) i (words_in bytes) g s

text_moved :
    (f : Form) (k n : ℕ) (r : Read) (p i : ℕ) (journal : List ℕ) (g : Grants) (s : State)
    → text_from f k n (moved p r) i journal g s ≡ text_from f k n r i (drop p journal) g s
unfolding course_from
text_moved f k zero r p i journal g s = refl
text_moved f k (suc n) (Found c next) p i journal g s =
    let s' = (step g s c).state in
    let g' = grants_by g s c in
    ap (before (text_for f i c g s))
    (ap (λ (r : Read). text_from f k n r (suc i) journal g' s') (read_dropped journal p next)
    ∙ text_moved f k n (read_at (drop p journal) next) p (suc i) journal g' s')
text_moved f k (suc n) (Refused code at) p i journal g s = refl
text_moved f k (suc n) Ended p i journal g s = refl

-- The text from a place on is that of the words from there on.
text_behind :
    (f : Form) (k : ℕ) (words more : List ℕ) (n i : ℕ) (g : Grants) (s : State)
    → text_from f k n (read_at (words ++ more) (length words)) i (words ++ more) g s
    ≡ text_from f k n (read_at more 0) i more g s
text_behind f k words more n i g s =
    let journal = words ++ more in
    let p = length words in
    ap (λ (j : ℕ). text_from f k n (read_at journal j) i journal g s) (sym (add-zero p))
    ∙ ap (λ (r : Read). text_from f k n r i journal g s) (read_dropped journal p 0)
    ∙ text_moved f k n (read_at (drop p journal) 0) p i journal g s
    ∙ ap (λ (l : List ℕ). text_from f k n (read_at l 0) i l g s) (drop-append_seam words more)

module _ (f : Form) (bytes more : List ℕ) (v : Whole bytes) (n i : ℕ) (g : Grants) (s : State) where
  -- Whole bytes leave as many odd bytes as there are behind them.
  odd_same : length (bytes ++ more) % 4 ≡ length more % 4
  odd_same = omega (arith, length-append bytes more, v.fills)

  same_words :
      text_on f (suc n) i (bytes ++ more) g s
      ≡ text_from f (length more % 4) (suc n) (read_at (words_in bytes) 0) i (words_in bytes ++ words_in more) g s
  same_words =
      let k = length more % 4 in
      let journal = words_in (bytes ++ more) in
      ap (λ (k : ℕ). text_from f k (suc n) (read_at journal 0) i journal g s) odd_same
      ∙ ap (λ (l : List ℕ). text_from f k (suc n) (read_at l 0) i l g s) (whole_words bytes v more)
      ∙ ap (λ (r : Read). text_from f k (suc n) r i (words_in bytes ++ words_in more) g s) (read_same bytes v more)

  -- Whole bytes that are a call give its text.
  pub text_taken :
      (c : Call) (next : ℕ) → read_at (words_in bytes) 0 ≡ Found c next
      → text_on f (suc n) i (bytes ++ more) g s
      ≡ before (text_for f i c g s) (text_on f n (suc i) more (grants_by g s c) (step g s c).state)
  unfolding course_from
  text_taken c next e =
      let k = length more % 4 in
      let journal = words_in bytes ++ words_in more in
      let s' = (step g s c).state in
      let g' = grants_by g s c in
      same_words
      ∙ ap (λ (r : Read). text_from f k (suc n) r i journal g s) e
      ∙ ap (before (text_for f i c g s))
      (ap (λ (j : ℕ). text_from f k n (read_at journal j) (suc i) journal g' s') (read_all bytes v c next e)
      ∙ text_behind f k (words_in bytes) (words_in more) n (suc i) g' s')

  -- Whole bytes that are none stop the journal.
  pub text_refused :
      (code at : ℕ) → read_at (words_in bytes) 0 ≡ Refused code at
      → text_on f (suc n) i (bytes ++ more) g s ≡ stops_with (stop_text f i code s.runs)
  unfolding course_from
  text_refused code at e =
      same_words
      ∙ ap (λ (r : Read). text_from f (length more % 4) (suc n) r i (words_in bytes ++ words_in more) g s) e

odd_some : (f : Form) (k i : ℕ) (running : Option ℕ) → 1 ≤ k → odd_text f k i running ≡ stop_text f i 18 running
odd_some f zero i running h = absurd (omega (arith, h))
odd_some f (suc k) i running h = refl

-- Bytes that are not ready, a call that lacks words or odd bytes, stop it with 18.
module _ (f : Form) (bytes : List ℕ) (n i : ℕ) (g : Grants) (s : State) where
  abbrev Lacking : Type 0
  Lacking = text_on f (suc n) i bytes g s ≡ stops_with (stop_text f i 18 s.runs)

  few : length bytes < 4 → 1 ≤ length bytes → Lacking
  unfolding course_from read_at read_from
  few h some =
      let k = length bytes % 4 in
      ap (λ (l : List ℕ). text_from f k (suc n) (read_at l 0) i l g s) (no_words bytes h)
      ∙ ap stops_with (odd_some f k i s.runs (omega (arith, h, some)))

  many : ready bytes ≡ false → 4 ≤ length bytes → Lacking
  unfolding course_from
  many r h =
      ap (λ (r : Read). text_from f (length bytes % 4) (suc n) r i (words_in bytes) g s) (read_missing bytes r h)

  pub text_lacking :
      ready bytes ≡ false → 1 ≤ length bytes
      → text_on f (suc n) i bytes g s ≡ stops_with (stop_text f i 18 s.runs)
  text_lacking r some = go (leb 4 (length bytes)) refl
    where
      go : (t : Bool) → leb 4 (length bytes) ≡ t → Lacking
      go true e = many r (leb-true 4 (length bytes) e)
      go false e = few (leb-false 4 (length bytes) e) some
