-- Call numbers: the calls go by cases on them, and so do the words that a top byte takes.
use mathlib.Core.Path.{◌≡◌}
use mathlib.Core.Bool.{Bool, true, false, ◌&&◌, and-false}
use Prim.Native.Nat.{ℕ, zero, suc, ◌≤◌, ◌<◌}
use native.Mathlib.Omega.{arith}
use borrow.Author.Tests.{ne_eqb, lt-leb}
use lib.Dec.{eqb, leb}
use Rattle.machine.specs.Lists.{pick}
use Rattle.journal.specs.Words.{words_taken}

-- what holds at 0, at the thirteen numbers and above them holds at every number
pub by_number :
    (P : ℕ → Type 0) →
    P 0 → P 1 → P 2 → P 3 → P 4 → P 5 → P 6 → P 7 → P 8 → P 9 → P 10 → P 11 → P 12 → P 13 →
    ((k : ℕ) → P (suc (suc (suc (suc (suc (suc (suc (suc (suc (suc (suc (suc (suc (suc k))))))))))))))) →
    (n : ℕ) → P n
by_number P p0 p1 p2 p3 p4 p5 p6 p7 p8 p9 p10 p11 p12 p13 more zero = p0
by_number P p0 p1 p2 p3 p4 p5 p6 p7 p8 p9 p10 p11 p12 p13 more (suc zero) = p1
by_number P p0 p1 p2 p3 p4 p5 p6 p7 p8 p9 p10 p11 p12 p13 more (suc (suc zero)) = p2
by_number P p0 p1 p2 p3 p4 p5 p6 p7 p8 p9 p10 p11 p12 p13 more (suc (suc (suc zero))) = p3
by_number P p0 p1 p2 p3 p4 p5 p6 p7 p8 p9 p10 p11 p12 p13 more (suc (suc (suc (suc zero)))) = p4
by_number P p0 p1 p2 p3 p4 p5 p6 p7 p8 p9 p10 p11 p12 p13 more (suc (suc (suc (suc (suc zero))))) = p5
by_number P p0 p1 p2 p3 p4 p5 p6 p7 p8 p9 p10 p11 p12 p13 more (suc (suc (suc (suc (suc (suc zero)))))) = p6
by_number P p0 p1 p2 p3 p4 p5 p6 p7 p8 p9 p10 p11 p12 p13 more (suc (suc (suc (suc (suc (suc (suc zero))))))) = p7
by_number P p0 p1 p2 p3 p4 p5 p6 p7 p8 p9 p10 p11 p12 p13 more (suc (suc (suc (suc (suc (suc (suc (suc zero)))))))) = p8
by_number P p0 p1 p2 p3 p4 p5 p6 p7 p8 p9 p10 p11 p12 p13 more
    (suc (suc (suc (suc (suc (suc (suc (suc (suc zero))))))))) = p9
by_number P p0 p1 p2 p3 p4 p5 p6 p7 p8 p9 p10 p11 p12 p13 more
    (suc (suc (suc (suc (suc (suc (suc (suc (suc (suc zero)))))))))) = p10
by_number P p0 p1 p2 p3 p4 p5 p6 p7 p8 p9 p10 p11 p12 p13 more
    (suc (suc (suc (suc (suc (suc (suc (suc (suc (suc (suc zero))))))))))) = p11
by_number P p0 p1 p2 p3 p4 p5 p6 p7 p8 p9 p10 p11 p12 p13 more
    (suc (suc (suc (suc (suc (suc (suc (suc (suc (suc (suc (suc zero)))))))))))) = p12
by_number P p0 p1 p2 p3 p4 p5 p6 p7 p8 p9 p10 p11 p12 p13 more
    (suc (suc (suc (suc (suc (suc (suc (suc (suc (suc (suc (suc (suc zero))))))))))))) = p13
by_number P p0 p1 p2 p3 p4 p5 p6 p7 p8 p9 p10 p11 p12 p13 more
    (suc (suc (suc (suc (suc (suc (suc (suc (suc (suc (suc (suc (suc (suc k)))))))))))))) = more k

pub taken_low : (top : ℕ) → top < 17 → words_taken top ≡ 0
unfolding words_taken
taken_low top h = simp (ne_eqb top 0x17 (omega arith), lt-leb 0x1C top (omega arith), lt-leb 0x11 top h)

pub taken_high : (top : ℕ) → 29 < top → words_taken top ≡ 0
unfolding words_taken
taken_high top h =
    simp (ne_eqb top 0x17 (omega arith), lt-leb top 0x1D (omega arith), lt-leb top 0x1B (omega arith), and-false)

most : (b : Bool) (x y : ℕ) → x ≤ 3 → y ≤ 3 → pick b x y ≤ 3
most true x y hx hy = hx
most false x y hx hy = hy

pub taken_most : (top : ℕ) → words_taken top ≤ 3
unfolding words_taken
taken_most top =
    let one = most (leb 0x11 top && leb top 0x1B) 1 0 (omega arith) (omega arith) in
    let two = most (leb 0x1C top && leb top 0x1D) 2 _ (omega arith) one in
    most (eqb top 0x17) 3 _ (omega arith) two
