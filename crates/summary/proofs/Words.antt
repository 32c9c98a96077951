-- The words of a set of levels and its summary: bounds, when a word is 0, and that a summary shows one set.
use Prim.Native.Nat.{ℕ, zero, suc, ◌+◌, ◌*◌, ◌^◌, ◌<◌}
use mathlib.Core.Path.{◌≡◌, refl, sym, ◌∙◌, ap}
use mathlib.Core.Logic.{◌↔◌}
use mathlib.Core.Bool.{Bool, true, false, not}
use mathlib.Core.List.{List}
use native.Mathlib.Omega.{arith}
use lib.Dec.{eqb}
use lib.ListN.{length, get_or}
use lib.Seq.{ext_get_or}
use borrow.Author.Tests.{eq-eqb, ne_eqb, eqb-true, eqb-false, not-true, not-false}
use Rattle.summary.specs.declared.Summary.{Summary}
use Rattle.summary.specs.Levels.{word_of, top_of, level_words, summary_of}
use Rattle.summary.proofs.Masks.{bits_lt, bits_agree, bits_none, bits_zero}

-- Whether word w of the set is not 0.
abbrev pub busy : (ℕ → Bool) → ℕ → Bool
busy f w = not (eqb (word_of f w) 0)

pub busy_true : (f : ℕ → Bool) (w : ℕ) → (word_of f w ≡ 0 → ⊥) → busy f w ≡ true
busy_true f w d = ap not (ne_eqb (word_of f w) 0 d)

pub busy_false : (f : ℕ → Bool) (w : ℕ) → word_of f w ≡ 0 → busy f w ≡ false
busy_false f w e = ap not (eq-eqb (word_of f w) 0 e)

pub idle_zero : (f : ℕ → Bool) (w : ℕ) → busy f w ≡ false → word_of f w ≡ 0
idle_zero f w e = eqb-true (word_of f w) 0 (not-false (eqb (word_of f w) 0) e)

pub busy_set : (f : ℕ → Bool) (w : ℕ) → busy f w ≡ true → word_of f w ≡ 0 → ⊥
busy_set f w e = eqb-false (word_of f w) 0 (not-true (eqb (word_of f w) 0) e)

-- bounds

pub word_lt : (f : ℕ → Bool) (w : ℕ) → word_of f w < 2 ^ 32
unfolding word_of
word_lt f w = bits_lt 32 (λ k. f (32 * w + k))

pub top_lt : (f : ℕ → Bool) → top_of f < 2 ^ 8
unfolding top_of
top_lt f = bits_lt 8 (busy f)

-- A word is 0 exactly when none of its levels is occupied.
pub word_zero : (f : ℕ → Bool) (w : ℕ) → (word_of f w ≡ 0) ↔ ((k : ℕ) → k < 32 → f (32 * w + k) ≡ false)
unfolding word_of
word_zero f w = (bits_zero 32 (λ k. f (32 * w + k)), bits_none 32 (λ k. f (32 * w + k)))

-- The top word is 0 exactly when every word is.
pub top_zero : (f : ℕ → Bool) → (top_of f ≡ 0) ↔ ((w : ℕ) → w < 8 → word_of f w ≡ 0)
unfolding top_of
top_zero f = (
  λ e w h. idle_zero f w (bits_zero 8 (busy f) e w h),
  λ z. bits_none 8 (busy f) (λ w h. busy_false f w (z w h)),
)

-- the list of the words

pub words_length : (f : ℕ → Bool) → length (level_words f) ≡ 8
unfolding level_words
words_length f = refl

pub words_at : (f : ℕ → Bool) (w : ℕ) → w < 8 → get_or (level_words f) w 0 ≡ word_of f w
unfolding level_words
words_at f zero h = refl
words_at f (suc zero) h = refl
words_at f (suc (suc zero)) h = refl
words_at f (suc (suc (suc zero))) h = refl
words_at f (suc (suc (suc (suc zero)))) h = refl
words_at f (suc (suc (suc (suc (suc zero))))) h = refl
words_at f (suc (suc (suc (suc (suc (suc zero)))))) h = refl
words_at f (suc (suc (suc (suc (suc (suc (suc zero))))))) h = refl
words_at f (suc (suc (suc (suc (suc (suc (suc (suc w)))))))) h = absurd (omega arith)

-- A list of eight that has the set's words at each place is the list of the set's words.
pub words_are :
    (f : ℕ → Bool) (l : List ℕ) → length l ≡ 8 → ((w : ℕ) → w < 8 → get_or l w 0 ≡ word_of f w) → l ≡ level_words f
words_are f l e h =
    ext_get_or 0 l (level_words f) (e ∙ sym (words_length f)) (λ w b. h w (rw e at b) ∙ sym (words_at f w (rw e at b)))

-- A summary is that of a set if its words and its top word are.
pub summary_is : (s : Summary) (f : ℕ → Bool) → s.words ≡ level_words f → s.top ≡ top_of f → s ≡ summary_of f
unfolding summary_of
summary_is s f p q = λ i. record { words = p i; top = q i }

pub summary_words : (f : ℕ → Bool) → (summary_of f).words ≡ level_words f
unfolding summary_of
summary_words f = refl

pub summary_top : (f : ℕ → Bool) → (summary_of f).top ≡ top_of f
unfolding summary_of
summary_top f = refl

-- Sets that agree at a word's levels have one word.
pub word_agree :
    (f g : ℕ → Bool) (w : ℕ) → ((k : ℕ) → k < 32 → f (32 * w + k) ≡ g (32 * w + k)) → word_of f w ≡ word_of g w
unfolding word_of
word_agree f g w h = bits_agree 32 (λ k. f (32 * w + k)) (λ k. g (32 * w + k)) h
