-- The lines of a bill: one thread more, and how long they are.
use Prim.Native.Nat.{ℕ, zero, suc, ◌+◌, ◌*◌, ◌≤◌, ◌<◌}
use mathlib.Core.Path.{◌≡◌, sym, ap, ◌∙◌}
use mathlib.Core.Bool.{Bool, true, false}
use mathlib.Core.List.{List, [], ◌∷◌, ◌++◌, append_assoc, append-nil}
use native.Mathlib.Omega.{arith}
use native.Mathlib.Nat.{add-zero, zero-add}
use lib.Dec.{eqb}
use lib.ListN.{length, take, get_or, length-append}
use borrow.Author.Tests.{eq-eqb, ne_eqb}
use Rattle.machine.specs.Lists.{pick}
use Rattle.billing.specs.Ticks.{most_words, most_rate}
use Rattle.billing.specs.Bills.{line_of, lines_from, bill_of, alone}
use Rattle.texts.specs.Text.{bytes}
use Rattle.bills.specs.Lines.{entry_of, Few, line_room, bill_room}
use Rattle.bills.proofs.Parts.{alone_below, line_fits}

pub entry_fits : (rate t n : ℕ) → rate ≤ most_rate → n ≤ most_words → t < 256 → length (entry_of rate t n) ≤ line_room
unfolding entry_of
entry_fits rate t n r h s = go (eqb n 0) (line_of rate t n) (line_fits rate t n r h s)
  where
    go : (b : Bool) (l : List ℕ) → length l ≤ line_room → length (pick b [] l) ≤ line_room
    go true l g = omega arith
    go false l g = g

pub lines_more :
    (rate t k : ℕ) (counts : List ℕ) → k < length counts
    → lines_from rate t (take (suc k) counts)
    ≡ lines_from rate t (take k counts) ++ entry_of rate (t + k) (get_or counts k 0)
unfolding lines_from entry_of
lines_more rate t zero [] h = absurd (omega (arith, h))
lines_more rate t (suc k) [] h = absurd (omega (arith, h))
lines_more rate t zero (n ∷ ns) h = rw (add-zero, append-nil)
lines_more rate t (suc k) (n ∷ ns) h =
    let e : suc t + k ≡ t + suc k = omega arith in
    let rest = lines_from rate (suc t) (take k ns) in
    ap (λ (l : List ℕ). entry_of rate t n ++ l)
    (lines_more rate (suc t) k ns (omega (arith, h)) ∙ ap (λ (j : ℕ). rest ++ entry_of rate j (get_or ns k 0)) e)
    ∙ sym (append_assoc (entry_of rate t n) rest (entry_of rate (t + suc k) (get_or ns k 0)))

pub lines_short :
    (rate t k : ℕ) (counts : List ℕ) → rate ≤ most_rate → ((i : ℕ) → get_or counts i 0 ≤ most_words) → t + k ≤ 256
    → length (lines_from rate t (take k counts)) ≤ k * line_room
unfolding lines_from entry_of
lines_short rate t zero counts r each h = omega arith
lines_short rate t (suc k) [] r each h = omega arith
lines_short rate t (suc k) (n ∷ ns) r each h =
    omega (
      arith,
      length-append (entry_of rate t n) (lines_from rate (suc t) (take k ns)),
      entry_fits rate t n r (each 0) (omega (arith, h)),
      lines_short rate (suc t) k ns r (λ (i : ℕ). each (suc i)) (omega (arith, h)),
    )

-- One thread more.
pub lines_next :
    (rate t : ℕ) (counts : List ℕ) → t < length counts
    → lines_from rate 0 (take (t + 1) counts)
    ≡ lines_from rate 0 (take t counts) ++ entry_of rate t (get_or counts t 0)
lines_next rate t counts h =
    let e : t + 1 ≡ suc t = omega arith in
    rw e (lines_more rate 0 t counts h
    ∙ ap (λ (j : ℕ). lines_from rate 0 (take t counts) ++ entry_of rate j (get_or counts t 0)) (zero-add t))

-- The last line

-- What follows the threads' lines.
abbrev pub idle_line : List ℕ → List ℕ
idle_line counts = bytes "idle " ++ alone (get_or counts 256 0)

pub bill_is :
    (rate : ℕ) (counts : List ℕ)
    → bill_of rate counts ≡ lines_from rate 0 (take 256 counts) ++ idle_line counts
unfolding bill_of
bill_is rate counts = simp append_assoc

pub bill_fits :
    (rate : ℕ) (counts : List ℕ) → rate ≤ most_rate → Few counts
    → length (lines_from rate 0 (take 256 counts)) + 5 + length (alone (get_or counts 256 0)) ≤ bill_room
bill_fits rate counts r few =
    let n = get_or counts 256 0 in
    omega (
      arith,
      lines_short rate 0 256 counts r few.each (omega arith),
      alone_below 4 n (omega (arith, few.each 256)),
    )
