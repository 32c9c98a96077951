-- The codes of places, debts, lines and links: what is read is in range, and reading what was written gives it back.
use Prim.Native.Nat.{ℕ, zero, suc, ◌+◌, ◌-◌, ◌^◌, ◌≤◌, ◌<◌}
use mathlib.Core.Path.{◌≡◌, refl, ap}
use mathlib.Core.Bool.{Bool, true, false}
use mathlib.Core.Option.{Option, none, some}
use native.Mathlib.Omega.{arith}
use lib.Dec.{eqb, ltb, leb}
use borrow.Author.Tests.{ne_eqb, lt-ltb, le-ltb, le-leb, leb-true}
use Rattle.machine.specs.Lists.{pick}
use Rattle.machine.specs.State.{Place, absent, able, sending, receiving, waiting, Debt, nothing, works, noted, Line}
use Rattle.machine.specs.State.{quiet, pending, awaited}
use Rattle.layout.specs.Words.{link_of, place_code, debt_code, note_code, line_code}
use Rattle.layout.specs.Decode.{or_zero, linked, ticks_of, place_of, debt_of, line_by}

-- Of two that have a property, the one picked has it.
pub pick_any : {A : Type 0} (P : A → Type 0) (b : Bool) {x y : A} → P x → P y → P (pick b x y)
pick_any P true p q = p
pick_any P false p q = q

pub within_small : (n w : ℕ) → or_zero n w ≤ n
unfolding or_zero
within_small n w = go (leb w n) refl
  where
    go : (b : Bool) → leb w n ≡ b → pick b w 0 ≤ n
    go true e = leb-true w n e
    go false e = omega arith

pub within_same : (n w : ℕ) → w ≤ n → or_zero n w ≡ w
unfolding or_zero
within_same n w h = rw (le-leb w n h)

pub ticks_range : (w : ℕ) → (1 ≤ ticks_of w) × (ticks_of w ≤ 5)
unfolding ticks_of
ticks_range zero = omega arith
ticks_range (suc n) = omega (arith, within_small 4 n)

pub ticks_back : (w : ℕ) → 1 ≤ w → w ≤ 5 → ticks_of w ≡ w
unfolding ticks_of
ticks_back zero h g = absurd (omega arith)
ticks_back (suc n) h g = ap suc (within_same 4 n (omega arith))

-- Links

pub linked_small : (w t : ℕ) → linked w ≡ some t → t ≤ 255
unfolding linked
linked_small zero t e = absurd (let z : ◌≡◌ {A = ℕ} 0 1 = cc in omega arith)
linked_small (suc u) t e = go (leb u 255) refl e
  where
    go : (b : Bool) → leb u 255 ≡ b → pick b (some u) none ≡ some t → t ≤ 255
    go true h k = let g : u ≡ t = cc in omega (arith, leb-true u 255 h)
    go false h k = absurd (let z : ◌≡◌ {A = ℕ} 0 1 = cc in omega arith)

pub linked_back : (o : Option ℕ) → ((t : ℕ) → o ≡ some t → t ≤ 255) → linked (link_of o) ≡ o
unfolding linked
linked_back none h = refl
linked_back (some t) h = rw (le-leb t 255 (h t refl))

-- Places

abbrev pub PlaceSmall : Place → Type 0
PlaceSmall absent = Unit {0}
PlaceSmall able = Unit {0}
PlaceSmall (sending e) = e ≤ 63
PlaceSmall (receiving e) = e ≤ 63
PlaceSmall (waiting l) = l ≤ 31

pub place_small : (w : ℕ) → PlaceSmall (place_of w)
unfolding place_of
place_small w =
    pick_any PlaceSmall (eqb w 0) tt (pick_any PlaceSmall (eqb w 1) tt
    (pick_any PlaceSmall (ltb w 66) (within_small 63 (w - 2))
    (pick_any PlaceSmall (ltb w 130) (within_small 63 (w - 66)) (within_small 31 (w - 130)))))

pub place_back : (p : Place) → PlaceSmall p → place_of (place_code p) ≡ p
unfolding place_of
place_back absent h = refl
place_back able h = refl
place_back (sending e) h =
    let d : 2 + e - 2 ≡ e = omega arith in
    rw (
      ne_eqb (2 + e) 0 (omega arith),
      ne_eqb (2 + e) 1 (omega arith),
      lt-ltb (2 + e) 66 (omega arith),
      d,
      within_same 63 e h,
    )
place_back (receiving e) h =
    let d : 66 + e - 66 ≡ e = omega arith in
    rw (
      ne_eqb (66 + e) 0 (omega arith),
      ne_eqb (66 + e) 1 (omega arith),
      le-ltb (66 + e) 66 (omega arith),
      lt-ltb (66 + e) 130 (omega arith),
      d,
      within_same 63 e h,
    )
place_back (waiting l) h =
    let d : 130 + l - 130 ≡ l = omega arith in
    rw (
      ne_eqb (130 + l) 0 (omega arith),
      ne_eqb (130 + l) 1 (omega arith),
      le-ltb (130 + l) 66 (omega arith),
      le-ltb (130 + l) 130 (omega arith),
      d,
      within_same 31 l h,
    )

-- A place that is another is not absent.
pub not_absent : {p q : Place} → p ≡ q → 1 ≤ place_code q → p ≡ absent → ⊥
not_absent {p} {q} e h f = omega (arith, ap place_code e, ap place_code f)

-- Debts

abbrev pub DebtSmall : Debt → Type 0
DebtSmall nothing = Unit {0}
DebtSmall (works e) = e ≤ 63
DebtSmall (noted e b) = (e ≤ 63) × (b < 2 ^ 28)

pub debt_small : (w b : ℕ) → DebtSmall (debt_of w b)
unfolding debt_of
debt_small w b =
    pick_any DebtSmall (eqb w 0) tt (pick_any DebtSmall (ltb w 65) (within_small 63 (w - 1))
    (within_small 63 (w - 65), omega (arith, within_small (2 ^ 28 - 1) b)))

pub debt_back : (d : Debt) → DebtSmall d → debt_of (debt_code d) (note_code d) ≡ d
unfolding debt_of
debt_back nothing h = refl
debt_back (works e) h =
    let d : 1 + e - 1 ≡ e = omega arith in
    rw (ne_eqb (1 + e) 0 (omega arith), lt-ltb (1 + e) 65 (omega arith), d, within_same 63 e h)
debt_back (noted e b) h =
    let d : 65 + e - 65 ≡ e = omega arith in
    rw (
      ne_eqb (65 + e) 0 (omega arith),
      le-ltb (65 + e) 65 (omega arith),
      d,
      within_same 63 e h.0,
      within_same (2 ^ 28 - 1) b (omega arith),
    )

-- Lines

pub line_small : (w t : ℕ) → line_by w ≡ awaited t → t ≤ 255
unfolding line_by
line_small zero t e = absurd (let z : ◌≡◌ {A = ℕ} 0 1 = cc in omega arith)
line_small (suc zero) t e = absurd (let z : ◌≡◌ {A = ℕ} 0 1 = cc in omega arith)
line_small (suc (suc u)) t e = go (leb u 255) refl e
  where
    go : (b : Bool) → leb u 255 ≡ b → pick b (awaited u) quiet ≡ awaited t → t ≤ 255
    go true h k = let g : u ≡ t = cc in omega (arith, leb-true u 255 h)
    go false h k = absurd (let z : ◌≡◌ {A = ℕ} 0 1 = cc in omega arith)

pub line_back : (x : Line) → ((t : ℕ) → x ≡ awaited t → t ≤ 255) → line_by (line_code x) ≡ x
unfolding line_by
line_back quiet h = refl
line_back pending h = refl
line_back (awaited t) h = rw (le-leb t 255 (h t refl))
