-- The summary after a level was set: its word and the top word by `|` and `& !`, all other words as they were.
use Prim.Native.Nat.{ℕ, ◌+◌, ◌-◌, ◌*◌, ◌/◌, ◌%◌, ◌^◌, ◌<◌}
use mathlib.Core.Path.{◌≡◌, sym, ◌∙◌, ap, ap₂}
use mathlib.Core.Bool.{Bool, true, false, not}
use native.Mathlib.Omega.{arith}
use lib.Dec.{eqb}
use lib.Bits.{bit_and, bit_or}
use lib.ListN.{length, get_or, set, length-set}
use lib.Seq.{get_or-set_same, get_or-set_other}
use Rattle.machine.specs.Lists.{put}
use Rattle.machine.proofs.Lists.{Same, same, other, same?, clash, put_same, put_other}
use Rattle.summary.specs.declared.Summary.{Summary}
use Rattle.summary.specs.Levels.{bits, word_of, top_of, level_words, summary_of, IsSummary, SetsBit}
use Rattle.summary.proofs.Masks.{bits_agree, set_bit, clear_bit, one_shifted}
use Rattle.summary.proofs.Words.{busy, busy_true, busy_false, word_zero, word_agree}
use Rattle.summary.proofs.Words.{words_length, words_at, words_are, summary_is}

module _ (f : ℕ → Bool) (p : ℕ) where
  level_is : 32 * (p / 32) + p % 32 ≡ p
  level_is = omega arith

  -- The other words stay.
  pub word_put_other : (x : Bool) (w : ℕ) → (w ≡ p / 32 → ⊥) → word_of (put f p x) w ≡ word_of f w
  word_put_other x w d = word_agree (put f p x) f w (λ k h. put_other f p (32 * w + k) x (λ e. d (omega arith)))

  -- The level's word is changed at bit p mod 32.
  word_put : (x : Bool) → word_of (put f p x) (p / 32) ≡ bits 32 (put (λ k. f (32 * (p / 32) + k)) (p % 32) x)
  unfolding word_of
  word_put x = bits_agree 32 new old (λ k h. go k h (same? k (p % 32)))
    where
      new : ℕ → Bool
      new k = put f p x (32 * (p / 32) + k)

      old : ℕ → Bool
      old = put (λ k. f (32 * (p / 32) + k)) (p % 32) x

      go : (k : ℕ) → k < 32 → Same k (p % 32) → new k ≡ old k
      go k h (same e _) =
          ap new e ∙ ap (put f p x) level_is ∙ put_same f p x
          ∙ sym (ap old e ∙ put_same (λ k. f (32 * (p / 32) + k)) (p % 32) x)
      go k h (other d _) =
          put_other f p (32 * (p / 32) + k) x (λ e. d (omega arith))
          ∙ sym (put_other (λ k. f (32 * (p / 32) + k)) (p % 32) k x d)

  pub word_set : word_of (put f p true) (p / 32) ≡ bit_or (word_of f (p / 32)) (2 ^ (p % 32))
  unfolding word_of
  word_set = word_put true ∙ sym (set_bit 32 (λ k. f (32 * (p / 32) + k)) (p % 32) (omega arith))

  pub word_clear : word_of (put f p false) (p / 32) ≡ bit_and (word_of f (p / 32)) ((2 ^ 32 - 1) - 2 ^ (p % 32))
  unfolding word_of
  word_clear =
      word_put false ∙ sym (clear_bit 32 32 (λ k. f (32 * (p / 32) + k)) (p % 32) (omega arith) (omega arith))

  -- The list of the words changes at word p div 32 alone.
  pub words_put :
      (x : Bool) (v : ℕ) → p < 256 → v ≡ word_of (put f p x) (p / 32)
      → set (level_words f) (p / 32) v ≡ level_words (put f p x)
  words_put x v h e =
      words_are (put f p x) (set (level_words f) (p / 32) v)
      (length-set (level_words f) (p / 32) v ∙ words_length f)
      (λ w l. go w l (same? w (p / 32)))
    where
      inside : p / 32 < length (level_words f)
      inside = rw (words_length f) (omega arith)

      go : (w : ℕ) → w < 8 → Same w (p / 32) → get_or (set (level_words f) (p / 32) v) w 0 ≡ word_of (put f p x) w
      go w l (same q _) =
          ap (λ (j : ℕ). get_or (set (level_words f) (p / 32) v) j 0) q
          ∙ get_or-set_same (level_words f) (p / 32) v 0 inside ∙ e ∙ sym (ap (word_of (put f p x)) q)
      go w l (other d _) =
          get_or-set_other (level_words f) (p / 32) w v 0 d ∙ words_at f w l ∙ sym (word_put_other x w d)

  -- The top word changes at bit p div 32, to whether the level's word is then not 0.
  top_put : (x b : Bool) → busy (put f p x) (p / 32) ≡ b → top_of (put f p x) ≡ bits 8 (put (busy f) (p / 32) b)
  unfolding top_of
  top_put x b e = bits_agree 8 (busy (put f p x)) (put (busy f) (p / 32) b) (λ w l. go w (same? w (p / 32)))
    where
      go : (w : ℕ) → Same w (p / 32) → busy (put f p x) w ≡ put (busy f) (p / 32) b w
      go w (same q _) =
          ap (busy (put f p x)) q ∙ e ∙ sym (ap (put (busy f) (p / 32) b) q ∙ put_same (busy f) (p / 32) b)
      go w (other d _) =
          ap (λ (v : ℕ). not (eqb v 0)) (word_put_other x w d) ∙ sym (put_other (busy f) (p / 32) w b d)

  -- A word with an occupied level is not 0.
  occupied_word : word_of (put f p true) (p / 32) ≡ 0 → ⊥
  occupied_word e =
      clash (put_same f p true)
      (sym (ap (put f p true) level_is) ∙ (word_zero (put f p true) (p / 32)).0 e (p % 32) (omega arith))

  pub top_set : p < 256 → top_of (put f p true) ≡ bit_or (top_of f) (2 ^ (p / 32))
  unfolding top_of
  top_set h =
      top_put true true (busy_true (put f p true) (p / 32) occupied_word)
      ∙ sym (set_bit 8 (busy f) (p / 32) (omega arith))

  -- A word that is emptied loses its bit in the top word.
  pub top_clear :
      p < 256 → word_of (put f p false) (p / 32) ≡ 0
      → top_of (put f p false) ≡ bit_and (top_of f) ((2 ^ 32 - 1) - 2 ^ (p / 32))
  unfolding top_of
  top_clear h e =
      top_put false false (busy_false (put f p false) (p / 32) e)
      ∙ sym (clear_bit 32 8 (busy f) (p / 32) (omega arith) (omega arith))

  -- A word in which another level is occupied keeps its bit.
  pub top_keep : (word_of (put f p false) (p / 32) ≡ 0 → ⊥) → top_of (put f p false) ≡ top_of f
  unfolding top_of
  top_keep d =
      top_put false true (busy_true (put f p false) (p / 32) d)
      ∙ bits_agree 8 (put (busy f) (p / 32) true) (busy f) (λ w l. go w (same? w (p / 32)))
    where
      was : busy f (p / 32) ≡ true
      was = busy_true f (p / 32) (λ e. d (word_clear ∙ ap (λ (v : ℕ). bit_and v ((2 ^ 32 - 1) - 2 ^ (p % 32))) e))

      go : (w : ℕ) → Same w (p / 32) → put (busy f) (p / 32) true w ≡ busy f w
      go w (same q _) =
          ap (put (busy f) (p / 32) true) q ∙ put_same (busy f) (p / 32) true ∙ sym (ap (busy f) q ∙ was)
      go w (other e _) = put_other (busy f) (p / 32) w true e

-- what the methods give back

-- 1 shifted left by k, and its complement, as the code has them.
abbrev one : ℕ → ℕ
one k = (1 * 2 ^ k) % 2 ^ 32

abbrev but_one : ℕ → ℕ
but_one k = (2 ^ 32 - 1) - one k

-- The word of level p with the level's bit set, and with it cleared.
abbrev set_word : Summary → ℕ → ℕ
set_word s p = bit_or (get_or s.words (p / 32) 0) (one (p % 32))

abbrev clear_word : Summary → ℕ → ℕ
clear_word s p = bit_and (get_or s.words (p / 32) 0) (but_one (p % 32))

-- s with another word at level p, and another top word.
abbrev changed : Summary → ℕ → ℕ → ℕ → Summary
changed s p word top = record { words = set s.words (p / 32) word; top = top }

-- For the summary of any set, what the code computes is the changed set's.
module _ (f : ℕ → Bool) (p : ℕ) (h : p < 256) where
  set_word_lem : set_word (summary_of f) p ≡ word_of (put f p true) (p / 32)
  unfolding summary_of
  set_word_lem = ap₂ bit_or (words_at f (p / 32) (omega arith)) (one_shifted (p % 32) (omega arith))
      ∙ sym (word_set f p)

  set_top : bit_or (summary_of f).top (one (p / 32)) ≡ top_of (put f p true)
  unfolding summary_of
  set_top = ap (bit_or (top_of f)) (one_shifted (p / 32) (omega arith)) ∙ sym (top_set f p h)

  clear_word_lem : clear_word (summary_of f) p ≡ word_of (put f p false) (p / 32)
  unfolding summary_of
  clear_word_lem =
      ap₂ bit_and (words_at f (p / 32) (omega arith))
      (ap (λ (x : ℕ). (2 ^ 32 - 1) - x) (one_shifted (p % 32) (omega arith)))
      ∙ sym (word_clear f p)

  clear_top : clear_word (summary_of f) p ≡ 0 → bit_and (summary_of f).top (but_one (p / 32)) ≡ top_of (put f p false)
  unfolding summary_of
  clear_top z =
      ap (λ (x : ℕ). bit_and (top_of f) ((2 ^ 32 - 1) - x)) (one_shifted (p / 32) (omega arith))
      ∙ sym (top_clear f p h (sym clear_word_lem ∙ z))

  keep_top : (clear_word (summary_of f) p ≡ 0 → ⊥) → (summary_of f).top ≡ top_of (put f p false)
  unfolding summary_of
  keep_top d = sym (top_keep f p (λ z. d (clear_word_lem ∙ z)))

  changed_is :
      (x : Bool) (word top : ℕ) → word ≡ word_of (put f p x) (p / 32) → top ≡ top_of (put f p x)
      → changed (summary_of f) p word top ≡ summary_of (put f p x)
  unfolding summary_of
  changed_is x word top e t = summary_is (changed (summary_of f) p word top) (put f p x) (words_put f p x word h e) t

-- A change of every summary that is right for those of sets marks the level.
marks :
    (s : Summary) (p : ℕ) (x : Bool) (r : Summary → Summary)
    → ((f : ℕ → Bool) → s ≡ summary_of f → r (summary_of f) ≡ summary_of (put f p x)) → SetsBit s p x (r s)
marks s p x r g = record { marked = λ f e. ap r e ∙ g f e }

module _ (s : Summary) (p : ℕ) (h : p < 256) where
  pub marks_occupied : SetsBit s p true (changed s p (set_word s p) (bit_or s.top (one (p / 32))))
  marks_occupied =
      marks s p true (λ t. changed t p (set_word t p) (bit_or t.top (one (p / 32))))
      (λ f e.
      changed_is f p h true (set_word (summary_of f) p) (bit_or (summary_of f).top (one (p / 32)))
      (set_word_lem f p h)
      (set_top f p h))

  -- The level's word becomes 0.
  pub marks_emptied :
      clear_word s p ≡ 0 → SetsBit s p false (changed s p (clear_word s p) (bit_and s.top (but_one (p / 32))))
  marks_emptied z =
      marks s p false (λ t. changed t p (clear_word t p) (bit_and t.top (but_one (p / 32))))
      (λ f e.
      changed_is f p h false (clear_word (summary_of f) p) (bit_and (summary_of f).top (but_one (p / 32)))
      (clear_word_lem f p h)
      (clear_top f p h (sym (ap (λ (t : Summary). clear_word t p) e) ∙ z)))

  -- Another level of the word is occupied.
  pub marks_kept : (clear_word s p ≡ 0 → ⊥) → SetsBit s p false (changed s p (clear_word s p) s.top)
  marks_kept d =
      marks s p false (λ t. changed t p (clear_word t p) t.top)
      (λ f e.
      changed_is f p h false (clear_word (summary_of f) p) (summary_of f).top (clear_word_lem f p h)
      (keep_top f p h (λ z. d (ap (λ (t : Summary). clear_word t p) e ∙ z))))
