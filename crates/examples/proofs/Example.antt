-- The example: the listing of document 01 with the grants that its calls need (T-04). Its words, read by
-- the reader's definition and made in turn, give its fifteen lines.
use Prim.Native.Nat.{ℕ}
use mathlib.Core.Path.{◌≡◌, refl}
use mathlib.Core.Option.{Option, none, some}
use mathlib.Core.List.{List, [], ◌∷◌}
use Rattle.history.proofs.Computed.{computed}
use Rattle.journal.specs.Words.{call_of, call_at, words_taken, read_from, read_at}
use Rattle.journal.specs.Rows.{Row, rows_of}
use Rattle.journal.specs.Course.{course_from, course_of}

example : List ℕ
example =
    0x1101000A ∷ 0x1102000A ∷ 0x11030014 ∷ 0x14000000 ∷ 0x1D010100 ∷ 0x20000008 ∷ 0x1D020800 ∷ 0x20000000
    ∷ 0x1D030B00 ∷ 0x20000007 ∷ 0x17000000 ∷ 0x20000007 ∷ 0x30000064 ∷ 0x17000000 ∷ 0x20000008 ∷ 0x300000C8
    ∷ 0x1C000001 ∷ 0x20000007 ∷ 0x17000000 ∷ 0x20000007 ∷ 0x30000065 ∷ 0x18000000 ∷ 0x1C000005 ∷ 0x20000007
    ∷ 0x12030000 ∷ 0x1C000001 ∷ 0x20000007 ∷ []

-- n, call, code, count, badge, message; the running thread, or none
abbrev pub row : ℕ → ℕ → ℕ → ℕ → ℕ → ℕ → Option ℕ → Row
row n call code count badge message running =
    record {
      index = n;
      call = call;
      answer = record { code = code; count = count; badge = badge; message = message };
      running = running;
    }

abbrev pub line : ℕ → ℕ → ℕ → ℕ → ℕ → ℕ → ℕ → Row
line n call code count badge message running = row n call code count badge message (some running)

abbrev pub idle : ℕ → ℕ → ℕ → ℕ → ℕ → ℕ → Row
idle n call code count badge message = row n call code count badge message none

lines : List Row
lines =
    line 0 1 0 0 0 0 1
    ∷ line 1 1 0 0 0 0 1
    ∷ line 2 1 0 0 0 0 3
    ∷ line 3 4 0 0 0 0 3
    ∷ line 4 13 0 0 0 0 3
    ∷ line 5 13 0 0 0 0 3
    ∷ line 6 13 0 0 0 0 3
    ∷ line 7 7 1 0 0 0 1
    ∷ line 8 7 1 0 0 0 2
    ∷ line 9 12 2 1 0 0 3
    ∷ line 10 7 26 0 0 0 3
    ∷ line 11 8 0 0 8 200 3
    ∷ line 12 12 0 0 0 0 3
    ∷ line 13 2 0 0 0 0 2
    ∷ line 14 12 0 0 0 0 2
    ∷ []

-- Thread 2 holds badge 0 and aborts badge 7: an abort needs its right alone.
fifteen_lines : rows_of example ≡ lines
unfolding rows_of course_of course_from read_at read_from call_at call_of words_taken example lines computed
fifteen_lines = refl
