-- The highest level of a set, from the leading zeros of the top word and of the word that it names.
use Prim.Native.Nat.{ℕ, ◌+◌, ◌-◌, ◌*◌, ◌/◌, ◌%◌, ◌≤◌, ◌<◌}
use mathlib.Core.Path.{◌≡◌, sym, ◌∙◌, ap, subst}
use mathlib.Core.Bool.{Bool, false}
use mathlib.Core.Option.{some}
use native.Mathlib.Omega.{arith}
use lib.Count.{count_leading_zeros}
use lib.ListN.{get_or}
use Rattle.machine.proofs.Lists.{Same, same, other, same?}
use Rattle.summary.specs.declared.Summary.{Summary}
use Rattle.std.specs.Prelude.{None, Some}
use Rattle.summary.specs.Levels.{word_of, top_of, summary_of, highest_in, Finds}
use Rattle.summary.proofs.Tops.{Tops, tops_highest, none_highest, leads}
use Rattle.summary.proofs.Words.{busy, busy_set, idle_zero, word_lt, top_lt, word_zero, top_zero}
use Rattle.summary.proofs.Words.{words_at, summary_top}

-- The place of the highest bit of a word that is not 0.
abbrev pub place : ℕ → ℕ
place x = 31 - count_leading_zeros 32 x

-- The highest word that is not 0, and its highest level, are the highest level of the set.
tops_level :
    (f : ℕ → Bool) (w j : ℕ) → Tops 8 (busy f) w → Tops 32 (λ k. f (32 * w + k)) j → Tops 256 f (32 * w + j)
tops_level f w j t u = record {
  below = omega arith;
  member = u.member;
  clear = λ k l h. go k l h (same? (k / 32) w);
}
  where
    go : (k : ℕ) → 32 * w + j < k → k < 256 → Same (k / 32) w → f k ≡ false
    go k l h (same e _) =
        let s : 32 * w + k % 32 ≡ k = omega arith in
        rw s at (u.clear (k % 32) (omega arith) (omega arith))
    go k l h (other d _) =
        let s : 32 * (k / 32) + k % 32 ≡ k = omega arith in
        let z = idle_zero f (k / 32) (t.clear (k / 32) (omega arith) (omega arith)) in
        rw s at ((word_zero f (k / 32)).0 z (k % 32) (omega arith))

-- What the finder needs on its way, and what it finds.
pub record Led (s : Summary) (f : ℕ → Bool) : Type 0 where
  pub fits : count_leading_zeros 32 s.top ≤ 31
  pub inside : place s.top < 8
  pub fits_word : count_leading_zeros 32 (get_or s.words (place s.top) 0) ≤ 31
  pub level : some (32 * place s.top + place (get_or s.words (place s.top) 0)) ≡ highest_in 256 f

led_of : (f : ℕ → Bool) → (top_of f ≡ 0 → ⊥) → Led (summary_of f) f
unfolding summary_of top_of word_of
led_of f d =
    let t = leads 8 (busy f) (omega (arith, top_lt f)) d in
    let w = place (top_of f) in
    let at = words_at f w t.top.below in
    let u = leads 32 (λ k. f (32 * w + k)) (word_lt f w) (busy_set f w t.top.member) in
    let j = place (word_of f w) in
    record {
      fits = t.fits;
      inside = t.top.below;
      fits_word = subst (λ (x : ℕ). count_leading_zeros 32 x ≤ 31) (sym at) u.fits;
      level =
          ap (λ (x : ℕ). some (32 * w + place x)) at
          ∙ sym (tops_highest 256 f (32 * w + j) (tops_level f w j t.top u.top));
    }

pub led : (s : Summary) (f : ℕ → Bool) → s ≡ summary_of f → (s.top ≡ 0 → ⊥) → Led s f
led s f e d =
    subst (λ (r : Summary). Led r f) (sym e)
    (led_of f (λ z. d (ap (λ (r : Summary). r.top) e ∙ summary_top f ∙ z)))

-- Where the top word is 0, no level is occupied.
pub finds_nothing : (s : Summary) → s.top ≡ 0 → Finds s None
finds_nothing s z = record { found = λ f e. sym (none_highest 256 f (empty f e)) }
  where
    empty : (f : ℕ → Bool) → s ≡ summary_of f → (k : ℕ) → k < 256 → f k ≡ false
    empty f e k h =
        let t : top_of f ≡ 0 = sym (ap (λ (r : Summary). r.top) e ∙ summary_top f) ∙ z in
        let s : 32 * (k / 32) + k % 32 ≡ k = omega arith in
        rw s at ((word_zero f (k / 32)).0 ((top_zero f).0 t (k / 32) (omega arith)) (k % 32) (omega arith))

-- Where it is not, the level is 32 times the place of its highest bit, and the place of that word's highest bit more.
pub finds_level :
    (s : Summary) → (s.top ≡ 0 → ⊥)
    → Finds s (Some (32 * place s.top + place (get_or s.words (place s.top) 0)))
finds_level s d = record { found = λ f e. (led s f e d).level }
