-- The tests of lines and running thread, as the code takes them: by the values read.
use Prim.Native.Nat.{ℕ, zero, suc, ◌+◌, ◌-◌, ◌≤◌, ◌<◌}
use mathlib.Core.Bool.{Bool, true, false, not, ◌&&◌, ◌||◌}
use mathlib.Core.List.{List}
use mathlib.Core.Path.{◌≡◌, refl, ap, sym, ◌∙◌, fun_ext}
use native.Mathlib.Omega.{arith}
use lib.Dec.{eqb, leb}
use borrow.Author.Tests.{le-leb, lt-leb, leb-true, leb-false}
use Rattle.std.specs.List.{list_all, range_with_len}
use Rattle.layout.specs.declared.Field.{Field}
use Rattle.layout.specs.declared.Slot.{Slot}
use Rattle.layout.specs.declared.Link.{Link}
use Rattle.layout.specs.Addresses.{at, link_at, word}
use Rattle.layout.specs.Tests.{all}
use Rattle.soundness.specs.Checks.{thread_at, line_from, line_test, occupied_at, running_from, running_test}
use Rattle.soundness.proofs.Every.{one_fails, turned}

-- Lines

module _ (m : List ℕ) (l : ℕ) {w : ℕ} (is : w ≡ word m (at (Slot.Line l))) where
  free : (v : ℕ) → v < 2 → true ≡ line_from v m l
  unfolding line_from
  free zero h = refl
  free (suc zero) h = refl
  free (suc (suc t)) h = absurd (omega arith)

  far : (v : ℕ) → 257 < v → false ≡ line_from v m l
  unfolding line_from
  far zero h = absurd (omega arith)
  far (suc zero) h = absurd (omega arith)
  far (suc (suc t)) h = rw (lt-leb t 255 (omega arith))

  waited : (v : ℕ) {p : ℕ} → 2 ≤ v → v ≤ 257 → p ≡ thread_at m Field.Place (v - 2) → eqb p (130 + l) ≡ line_from v m l
  unfolding line_from
  waited zero h g e = absurd (omega arith)
  waited (suc zero) h g e = absurd (omega arith)
  waited (suc (suc t)) h g e =
      let q : suc (suc t) - 2 ≡ t = omega arith in rw (e, q, le-leb t 255 (omega arith))

  pub line_free : w < 2 → true ≡ line_test m l
  unfolding line_test
  line_free h = rw (← is) (free w h)

  pub line_far : 257 < w → false ≡ line_test m l
  unfolding line_test
  line_far h = rw (← is) (far w h)

  pub line_waited : {p : ℕ} → 2 ≤ w → w ≤ 257 → p ≡ thread_at m Field.Place (w - 2) → eqb p (130 + l) ≡ line_test m l
  unfolding line_test
  line_waited h g e = rw (← is) (waited w h g e)

-- The running thread

-- Level i is not above p, or not occupied.
abbrev pub lower : List ℕ → ℕ → ℕ → Bool
lower m p i = leb i p || not (occupied_at m i)

module _ (m : List ℕ) (p : ℕ) where
  -- The level above i is not occupied.
  abbrev pub empty : ℕ → Bool
  empty i = eqb (word m (link_at (Link.Head (i + 1)))) 0

  higher : (n : ℕ) → list_all empty (range_with_len p (n - p)) ≡ all (suc n) (lower m p)
  unfolding all
  higher zero = let e : 0 - p ≡ 0 = omega arith in rw (e, le-leb 0 p (omega arith))
  higher (suc n) = go (leb (suc n) p) refl (higher n)
    where
      twice : (b : Bool) → not (not b) ≡ b
      twice true = refl
      twice false = refl

      go : (b : Bool) → leb (suc n) p ≡ b → list_all empty (range_with_len p (n - p)) ≡ all (suc n) (lower m p)
          → list_all empty (range_with_len p (suc n - p)) ≡ lower m p (suc n) && all (suc n) (lower m p)
      go true h below =
          let l = leb-true (suc n) p h in
          let e : suc n - p ≡ 0 = omega arith in
          let f : n - p ≡ 0 = omega arith in
          rw (h, e) (rw f at below)
      go false h below =
          let l = leb-false (suc n) p h in
          let e : suc n - p ≡ suc (n - p) = omega arith in
          let f : p + (n - p) ≡ n = omega arith in
          let g : n + 1 ≡ suc n = omega arith in
          rw (h, e, turned empty p (n - p), f, g, twice (eqb (word m (link_at (Link.Head (suc n)))) 0), below)

  pub above_is : {r : Bool} → r ≡ list_all empty (range_with_len p (255 - p)) → r ≡ all 256 (lower m p)
  above_is e = e ∙ higher 255

-- No level is occupied: not the lowest, and none above it.
idle : (m : List ℕ) {h : ℕ} → h ≡ word m (link_at (Link.Head 0))
    → (eqb h 0 && all 256 (lower m 0)) ≡ all 256 (λ i. not (occupied_at m i))
idle m {h} e = go (eqb h 0) refl
  where
    same : eqb h 0 ≡ true → (i : ℕ) → lower m 0 i ≡ not (occupied_at m i)
    same t zero = sym (rw (← e, t))
    same t (suc i) = rw (lt-leb (suc i) 0 (omega arith))

    go : (b : Bool) → eqb h 0 ≡ b → (b && all 256 (lower m 0)) ≡ all 256 (λ i. not (occupied_at m i))
    go true t = ap (all 256) (fun_ext (same t))
    go false t = one_fails (λ i. not (occupied_at m i)) 256 0 (omega arith) (rw (← e, t))

module _ (m : List ℕ) {w : ℕ} (is : w ≡ word m (at Slot.Running)) where
  nobody : (v : ℕ) {h : ℕ} {a : Bool} → v ≡ 0 → h ≡ word m (link_at (Link.Head 0)) → a ≡ all 256 (lower m 0)
      → (eqb h 0 && a) ≡ running_from v m
  unfolding running_from
  nobody zero z e f = rw f (idle m e)
  nobody (suc t) z e f = absurd (omega arith)

  outside : (v : ℕ) → 256 < v → false ≡ running_from v m
  unfolding running_from
  outside zero h = absurd (omega arith)
  outside (suc t) h = rw (lt-leb t 255 (omega arith))

  somebody :
      (v : ℕ) {p q : ℕ} {a : Bool} → (v ≡ 0 → ⊥) → v ≤ 256 → p ≡ thread_at m Field.Place (v - 1)
      → q ≡ thread_at m Field.Priority (v - 1) → a ≡ all 256 (lower m q) → (eqb p 1 && a) ≡ running_from v m
  unfolding running_from
  somebody zero n h e f g = absurd (n refl)
  somebody (suc t) n h e f g =
      let i : suc t - 1 ≡ t = omega arith in rw (g, e, f, i, le-leb t 255 (omega arith))

  pub running_nobody :
      {h : ℕ} {a : Bool} → w ≡ 0 → h ≡ word m (link_at (Link.Head 0)) → a ≡ all 256 (lower m 0)
      → (eqb h 0 && a) ≡ running_test m
  unfolding running_test
  running_nobody z e f = rw (← is) (nobody w z e f)

  pub running_outside : 256 < w → false ≡ running_test m
  unfolding running_test
  running_outside h = rw (← is) (outside w h)

  pub running_somebody :
      {p q : ℕ} {a : Bool} → (w ≡ 0 → ⊥) → w ≤ 256 → p ≡ thread_at m Field.Place (w - 1)
      → q ≡ thread_at m Field.Priority (w - 1) → a ≡ all 256 (lower m q) → (eqb p 1 && a) ≡ running_test m
  unfolding running_test
  running_somebody n h e f g = rw (← is) (somebody w n h e f g)
