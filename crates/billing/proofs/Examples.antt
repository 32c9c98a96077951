-- Journals with their counts and their bills, computed: who is charged, what is refused first, and what is printed.
use Prim.Native.Nat.{ℕ, ◌/◌, ◌%◌}
use mathlib.Core.Path.{◌≡◌, refl}
use mathlib.Core.List.{List, [], ◌∷◌, ◌++◌}
use lib.ListN.{replicate}
use Rattle.history.proofs.Computed.{computed}
use Rattle.journal.specs.Words.{call_of, call_at, words_taken, read_from, read_at}
use Rattle.journal.specs.Course.{course_from, course_of}
use Rattle.layout.specs.Words.{tabulate}
use Rattle.texts.specs.Text.{bytes}
use Rattle.texts.specs.Decimal.{last_digits, decimal, spaced}
use Rattle.input.specs.Words.{words_in}
use Rattle.billing.specs.Ticks.{ticked, ticks_of, counts_of, count_for}
use Rattle.billing.specs.Cents.{rounded}
use Rattle.billing.specs.Bills.{lines_from, bill_of, printed}

-- All that is opened to compute a count or a bill.
unfoldable opened : Unit {0}
unfolding ticked ticks_of counts_of count_for rounded lines_from bill_of printed words_in bytes last_digits decimal
    spaced tabulate course_of course_from read_at read_from call_at call_of words_taken computed
opened = tt

-- The four bytes of each word, as standard input has them.
abbrev spread : List ℕ → List ℕ
spread [] = []
spread (w ∷ l) = w % 256 ∷ w / 256 % 256 ∷ w / 65536 % 256 ∷ w / 16777216 ∷ spread l

-- Two threads at one level, a spent turn, a number destroyed and created again, a refused call, idle ticks before and
-- after: tick; create 0 and 1 at level 5; six ticks; destroy 1; create 1; yield; tick; destroy 7; destroy 0; destroy 1;
-- tick.
abbrev hired : List ℕ
hired =
    0x16000000 ∷ 0x11000005 ∷ 0x11010005 ∷ 0x16000000 ∷ 0x16000000 ∷ 0x16000000 ∷ 0x16000000 ∷ 0x16000000
    ∷ 0x16000000 ∷ 0x12010000 ∷ 0x11010005 ∷ 0x19000000 ∷ 0x16000000 ∷ 0x12070000 ∷ 0x12000000 ∷ 0x12010000
    ∷ 0x16000000 ∷ []

-- Thread 0 has five ticks, thread 1 two, and two are idle, whatever the counts were.
hired_counts :
    count_for hired 500 (replicate 257 9) ≡ record { code = 0; counts = 5 ∷ 2 ∷ replicate 254 0 ++ (2 ∷ []) }
unfolding opened
hired_counts = refl

-- At 500 cents for 1,000 ticks, 2.5 cents are 3.
hired_bill : printed (spread (500 ∷ hired)) ≡ bytes "0 5 3\n1 2 1\nidle 2\n"
unfolding opened
hired_bill = refl

-- A tick is counted, and what does not read behind it leaves the counts as they were.
unread_counts :
    count_for (0x16000000 ∷ 0 ∷ []) 1 (replicate 257 9) ≡ record { code = 18; counts = replicate 257 9 }
unfolding opened
unread_counts = refl

-- 256 counts are refused, and stay.
other_counts : count_for [] 1 (replicate 256 9) ≡ record { code = 30; counts = replicate 256 9 }
unfolding opened
other_counts = refl

-- Three bytes are no rate,
no_rate : printed (0 ∷ 0 ∷ 0 ∷ []) ≡ bytes "18\n"
unfolding opened
no_rate = refl

-- and a rate alone, the highest one, has an empty journal.
rate_alone : printed (spread (10000 ∷ [])) ≡ bytes "idle 0\n"
unfolding opened
rate_alone = refl

-- 30 comes before the reader's number,
limits_first : printed (spread (10001 ∷ 0 ∷ [])) ≡ bytes "30\n"
unfolding opened
limits_first = refl

-- which comes before the odd bytes:
reader_first : printed (spread (1 ∷ 0x11000100 ∷ []) ++ (0 ∷ [])) ≡ bytes "19\n"
unfolding opened
reader_first = refl

-- these are refused where all calls read.
odd_bytes : printed (spread (1 ∷ 0x16000000 ∷ []) ++ (0 ∷ [])) ≡ bytes "18\n"
unfolding opened
odd_bytes = refl

-- A journal that does not read has no bill of the calls before.
unread_bill : printed (spread (1 ∷ 0x16000000 ∷ 0 ∷ [])) ≡ bytes "18\n"
unfolding opened
unread_bill = refl
