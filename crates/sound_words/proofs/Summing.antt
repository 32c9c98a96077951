-- The summary's words, summed bit by bit.
use Prim.Native.Nat.{ℕ, suc, ◌+◌, ◌*◌, ◌≤◌, ◌<◌, ◌^◌}
use mathlib.Core.Bool.{Bool, true, false, not}
use mathlib.Core.List.{List}
use mathlib.Core.Path.{◌≡◌, refl, ap, sym, ◌∙◌, subst}
use native.Mathlib.Nat.{pow-suc}
use native.Mathlib.Numerals.{add-one}
use native.Mathlib.Omega.{arith}
use lib.Dec.{eqb}
use lib.Pow.{pow_mono}
use borrow.Author.Tests.{eq-eqb, ne_eqb}
use Rattle.machine.specs.Lists.{pick}
use Rattle.summary.specs.Levels.{bits, word_of, top_of}
use Rattle.layout.specs.declared.Slot.{Slot}
use Rattle.layout.specs.Addresses.{at, word}
use Rattle.soundness.specs.Checks.{occupied_at, summary_test}
use Rattle.soundness.proofs.Every.{all_hold, one_fails}

-- The bits below k are summed, and the next one is at hand.
pub record Summed (f : ℕ → Bool) (k sum bit : ℕ) : Type 0 where
  pub is : sum ≡ bits k f
  pub power : bit ≡ 2 ^ k
  pub small : sum < bit

pub share_of :
    (bit : ℕ) {s v w : ℕ} → v ≡ w → s ≡ pick (not (eqb v 0)) bit 0 → s ≡ pick (not (eqb w 0)) bit 0
share_of bit {s} e h = subst (λ (x : ℕ). s ≡ pick (not (eqb x 0)) bit 0) e h

pub share_small : {s : ℕ} (b : Bool) (bit : ℕ) → s ≡ pick b bit 0 → s ≤ bit
share_small true bit e = omega arith
share_small false bit e = omega arith

double : (k : ℕ) {bit : ℕ} → bit ≡ 2 ^ k → bit + bit ≡ 2 ^ (k + 1)
double k {bit} e = let h : 2 ^ suc k ≡ 2 ^ k * 2 = pow-suc 2 k in rw (add-one, h) (omega arith)

module _ (f : ℕ → Bool) where
  pub summed_none : Summed f 0 0 1
  unfolding bits
  summed_none = record { is = refl; power = refl; small = omega arith }

  pub summed_more :
      (k : ℕ) {sum bit s : ℕ} → Summed f k sum bit → s ≡ pick (f k) bit 0 → Summed f (k + 1) (sum + s) (bit + bit)
  unfolding bits
  summed_more k {sum} {bit} {s} h e =
      record {
        is = rw add-one (go (f k) e);
        power = double k h.power;
        small = let l : s ≤ bit = share_small (f k) bit e in omega arith;
      }
    where
      go : (b : Bool) → s ≡ pick b bit 0 → sum + s ≡ pick b (2 ^ k) 0 + bits k f
      go true i = omega arith
      go false i = omega arith

  pub summed_all : (k n : ℕ) {sum bit : ℕ} → k ≤ n → n ≤ k → Summed f k sum bit → sum ≡ bits n f
  summed_all k n l g h = let e : k ≡ n = omega arith in h.is ∙ ap (λ (i : ℕ). bits i f) e

-- The levels of word w, and the words that are not 0.
abbrev pub levels_of : List ℕ → ℕ → ℕ → Bool
levels_of m w k = occupied_at m (32 * w + k)

abbrev pub words_of : List ℕ → ℕ → Bool
words_of m w = not (eqb (word_of (occupied_at m) w) 0)

pub word_is :
    (m : List ℕ) (w k : ℕ) {sum bit : ℕ} → k ≤ 32 → 32 ≤ k → Summed (levels_of m w) k sum bit
    → sum ≡ word_of (occupied_at m) w
unfolding word_of
word_is m w k l g h = summed_all (levels_of m w) k 32 l g h

-- Word w stands in the summary as the queues have it.
abbrev pub agrees : List ℕ → ℕ → Bool
agrees m w = eqb (word m (at (Slot.Summary w))) (word_of (occupied_at m) w)

module _ (m : List ℕ) where
  pub agree :
      (w : ℕ) {v s : ℕ} → v ≡ word_of (occupied_at m) w → s ≡ word m (at (Slot.Summary w)) → s ≡ v → agrees m w ≡ true
  agree w e f h = eq-eqb (word m (at (Slot.Summary w))) (word_of (occupied_at m) w) (sym f ∙ h ∙ e)

  pub summary_bad :
      (w : ℕ) {v s : ℕ} → w < 8 → v ≡ word_of (occupied_at m) w → s ≡ word m (at (Slot.Summary w)) → (s ≡ v → ⊥)
      → false ≡ summary_test m
  unfolding summary_test
  summary_bad w l e f n =
      rw (← one_fails (agrees m) 8 w l
      (ne_eqb (word m (at (Slot.Summary w))) (word_of (occupied_at m) w) (λ q. n (f ∙ q ∙ sym e))))

  pub summary_is :
      (w : ℕ) {sum bit t : ℕ} → w ≤ 8 → 8 ≤ w → Summed (words_of m) w sum bit
      → ((k : ℕ) → k < w → agrees m k ≡ true) → t ≡ word m (at Slot.Top) → eqb t sum ≡ summary_test m
  unfolding summary_test top_of
  summary_is w l g h a e =
      rw (← all_hold (agrees m) 8 (λ k i. a k (omega arith)), ← e, ← summed_all (words_of m) w 8 l g h)
