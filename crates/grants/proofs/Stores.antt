-- The memory after stores: which words differ, and of which grants it is the memory.
use Prim.Native.Nat.{ℕ, ◌+◌, ◌-◌, ◌*◌, ◌≤◌, ◌<◌}
use mathlib.Core.Bool.{Bool, true, false}
use mathlib.Core.Path.{◌≡◌, refl, sym, ◌∙◌, ap, subst}
use mathlib.Core.List.{List}
use native.Mathlib.Omega.{arith}
use lib.Dec.{leb, ltb}
use lib.ListN.{length, set, length-set, get_or, take, drop, replicate, length-replicate, get_or-replicate}
use borrow.Author.Rules.{rules}
use borrow.Author.Tests.{leb-true, leb-false, ltb-true, ltb-false}
use borrow.Rule.Slice.PartMut.{put_mid}
use Rattle.std.proofs.lemmas.Grind.{moves}
use Rattle.std.proofs.lemmas.List.{places}
use Rattle.std.proofs.lemmas.Slice.{overwrites}
use Rattle.machine.specs.Lists.{put}
use Rattle.machine.specs.Grants.{Grants}
use Rattle.machine.proofs.Lists.{Same, same, other, same?, put_same, put_other}
use Rattle.layout.specs.Addresses.{word}
use Rattle.layout.proofs.Addresses.{word_set_same, word_set_other}
use Rattle.grants.specs.Memory.{grant_words, grants_of, grant_image}
use Rattle.grants.proofs.Memory.{grants_at, memory_is}

-- The words at the first n addresses are 0, the others as they were.
pub record Cleared (at : ℕ → ℕ) (n : ℕ) (m k : List ℕ) : Type 0 where
  pub size : length k ≡ length m
  pub zeros : (i : ℕ) → i < n → word k (at i) ≡ 0
  pub others : (j : ℕ) → ((i : ℕ) → i < n → j ≡ at i → ⊥) → word k j ≡ word m j

module _ (at : ℕ → ℕ) (m : List ℕ) where
  pub cleared_more :
      (n a : ℕ) (k : List ℕ) → a ≡ at n → a < length m → Cleared at n m k → Cleared at (n + 1) m (set k a 0)
  cleared_more n a k is room C =
      record {
        size = length-set k a 0 ∙ C.size;
        zeros = λ i h. cleared i h (same? (at i) a);
        others = λ j h.
            word_set_other k a j 0 (λ e. h n (omega arith) (e ∙ is)) ∙ C.others j (λ i l. h i (omega arith));
      }
    where
      cleared : (i : ℕ) → i < n + 1 → Same (at i) a → word (set k a 0) (at i) ≡ 0
      cleared i h (same e _) = rw e (word_set_same k a 0 (omega (arith, C.size)))
      cleared i h (other o _) =
          let apart : i ≡ n → ⊥ = λ e. o (ap at e ∙ sym is) in
          word_set_other k a (at i) 0 o ∙ C.zeros i (omega arith)

-- The words of a part written over, and the others.
module _ (m z : List ℕ) (a k : ℕ) (size : length z ≡ k) (room : a + k ≤ length m) where
  within : (i : ℕ) → i < k → get_or (put_mid a k m z) (a + i) 0 ≡ get_or z i 0
  within i h = search (rules, places)

  below : (j : ℕ) → j < a → get_or (put_mid a k m z) j 0 ≡ get_or m j 0
  below j h = search (rules, places)

  above : (j : ℕ) → a + k ≤ j → get_or (put_mid a k m z) j 0 ≡ get_or m j 0
  above j h = search (rules, places)

-- A word at or behind a thread's first that is none of the thread's is behind them all.
apart : (t j : ℕ) → ((i : ℕ) → i < 64 → j ≡ 64 * t + i → ⊥) → 64 * t ≤ j → 64 * t + 64 ≤ j
apart t j l h = go (leb (64 * t + 64) j) refl
  where
    go : (b : Bool) → leb (64 * t + 64) j ≡ b → 64 * t + 64 ≤ j
    go true e = leb-true (64 * t + 64) j e
    go false e = let k = leb-false (64 * t + 64) j e in absurd (l (j - 64 * t) (omega arith) (omega arith))

-- The grants of a memory with the word v for thread t at endpoint e.
abbrev stored : List ℕ → ℕ → ℕ → ℕ → Grants
stored m t e v = put (grants_of m) t (put (grants_of m t) e v)

module _ (m k : List ℕ) (size : length m ≡ grant_words) where
  -- All words of a thread cleared.
  pub row_cleared :
      (t n : ℕ) → n ≤ 64 → 64 ≤ n → Cleared (λ e. 64 * t + e) n m k → k ≡ grant_image (put (grants_of m) t (λ e. 0))
  row_cleared t n x y C = memory_is k (put (grants_of m) t (λ e. 0)) (C.size ∙ size) (λ u e a b. go u e a b (same? u t))
    where
      go : (u e : ℕ) → u ≤ 255 → e ≤ 63 → Same u t → word k (64 * u + e) ≡ put (grants_of m) t (λ e. 0) u e
      go u e a b (same q _) =
          rw q (C.zeros e (omega arith) ∙ sym (ap (λ (r : ℕ → ℕ). r e) (put_same (grants_of m) t (λ e. 0))))
      go u e a b (other o _) =
          C.others (64 * u + e) (λ i l z. o (omega arith)) ∙ sym (grants_at m u e a b)
          ∙ sym (ap (λ (r : ℕ → ℕ). r e) (put_other (grants_of m) t u (λ e. 0) o))

  -- The part of the memory that is a thread's, filled with 0.
  filled_row :
      (t : ℕ) {n : ℕ} {z : List ℕ} → t ≤ 255 → n ≡ 64 → z ≡ replicate (length (take n (drop (64 * t) m))) 0
      → k ≡ put_mid (64 * t) n m z → k ≡ grant_image (put (grants_of m) t (λ e. 0))
  unfolding word
  filled_row t {n} {z} h is filled w =
      let room : 64 * t + n ≤ length m = omega arith in
      let part : length (take n (drop (64 * t) m)) ≡ n = search (rules, moves) in
      let long : length z ≡ n = ap length filled ∙ length-replicate {A = ℕ} _ 0 ∙ part in
      row_cleared t 64 (omega arith) (omega arith)
      (record {
        size = ap length w ∙ search (rules, overwrites);
        zeros = λ i l.
            ap (λ (l : List ℕ). get_or l (64 * t + i) 0) w ∙ within m z (64 * t) n long room i (omega arith)
            ∙ ap (λ (l : List ℕ). get_or l i 0) filled ∙ get_or-replicate _ i 0 0 (omega arith);
        others = λ j l.
            ap (λ (l : List ℕ). get_or l j 0) w ∙ go j l long room (ltb j (64 * t)) refl;
      })
    where
      go : (j : ℕ) → ((i : ℕ) → i < 64 → j ≡ 64 * t + i → ⊥) → length z ≡ n → 64 * t + n ≤ length m → (b : Bool)
          → ltb j (64 * t) ≡ b → get_or (put_mid (64 * t) n m z) j 0 ≡ get_or m j 0
      go j l long room true b = below m z (64 * t) n long room j (ltb-true j (64 * t) b)
      go j l long room false b =
          let low = ltb-false j (64 * t) b in
          let high = apart t j l low in
          above m z (64 * t) n long room j (omega arith)

  -- The same, wherever the part is said to begin.
  pub row_filled :
      (t : ℕ) {first n : ℕ} {z : List ℕ} → t ≤ 255 → first ≡ 64 * t → n ≡ 64
      → z ≡ replicate (length (take n (drop first m))) 0
      → k ≡ put_mid first n m z → k ≡ grant_image (put (grants_of m) t (λ e. 0))
  row_filled t {first} {n} {z} h at is filled w =
      filled_row t h is (subst (λ (f : ℕ). z ≡ replicate (length (take n (drop f m))) 0) at filled)
      (subst (λ (f : ℕ). k ≡ put_mid f n m z) at w)

  -- All words of an endpoint cleared.
  pub column_cleared :
      (e n : ℕ) → e ≤ 63 → 256 ≤ n → Cleared (λ t. 64 * t + e) n m k → k ≡ grant_image (λ t. put (grants_of m t) e 0)
  column_cleared e n h y C =
      memory_is k (λ t. put (grants_of m t) e 0) (C.size ∙ size) (λ t f a b. go t f a b (same? f e))
    where
      go : (t f : ℕ) → t ≤ 255 → f ≤ 63 → Same f e → word k (64 * t + f) ≡ put (grants_of m t) e 0 f
      go t f a b (same q _) = rw q (C.zeros t (omega arith) ∙ sym (put_same (grants_of m t) e 0))
      go t f a b (other o _) =
          C.others (64 * t + f) (λ i l z. o (omega arith)) ∙ sym (grants_at m t f a b)
          ∙ sym (put_other (grants_of m t) e f 0 o)

  -- One word stored.
  pub word_stored : (t e v : ℕ) → t ≤ 255 → e ≤ 63 → k ≡ set m (64 * t + e) v → k ≡ grant_image (stored m t e v)
  word_stored t e v h l is =
      is ∙ memory_is (set m (64 * t + e) v) (stored m t e v) (length-set m (64 * t + e) v ∙ size)
      (λ u f a b. go u f a b (same? u t) (same? f e))
    where
      row : stored m t e v t ≡ put (grants_of m t) e v
      row = put_same (grants_of m) t (put (grants_of m t) e v)

      go : (u f : ℕ) → u ≤ 255 → f ≤ 63 → Same u t → Same f e
          → word (set m (64 * t + e) v) (64 * u + f) ≡ stored m t e v u f
      go u f a b (same p _) (same q _) =
          rw (p, q) (word_set_same m (64 * t + e) v (omega arith)
          ∙ sym (ap (λ (r : ℕ → ℕ). r e) row ∙ put_same (grants_of m t) e v))
      go u f a b (same p _) (other o _) =
          rw p (word_set_other m (64 * t + e) (64 * t + f) v (λ z. o (omega arith)) ∙ sym (grants_at m t f h b)
          ∙ sym (ap (λ (r : ℕ → ℕ). r f) row ∙ put_other (grants_of m t) e f v o))
      go u f a b (other o _) _ =
          word_set_other m (64 * t + e) (64 * u + f) v (λ z. o (omega arith)) ∙ sym (grants_at m u f a b)
          ∙ sym (ap (λ (r : ℕ → ℕ). r f) (put_other (grants_of m) t u (put (grants_of m t) e v) o))
