-- Two join an abort that a third began (T-05): the words, made in turn on the machine, give these thirty lines.
use Prim.Native.Nat.{ℕ}
use mathlib.Core.Path.{◌≡◌, refl}
use mathlib.Core.List.{List, [], ◌∷◌}
use Rattle.history.proofs.Computed.{computed}
use Rattle.journal.specs.Words.{call_of, call_at, words_taken, read_from, read_at}
use Rattle.journal.specs.Rows.{Row, rows_of}
use Rattle.journal.specs.Course.{course_from, course_of}
use Rattle.examples.proofs.Example.{line, idle}

joiners : List ℕ
joiners =
    0x14000000 ∷ 0x11010005 ∷ 0x1D010100 ∷ 0x20000007 ∷ 0x17000000 ∷ 0x20000007 ∷ 0x30000001 ∷ 0x11020005
    ∷ 0x1D020100 ∷ 0x20000007 ∷ 0x17000000 ∷ 0x20000007 ∷ 0x30000002 ∷ 0x11030005 ∷ 0x1D030100 ∷ 0x20000007
    ∷ 0x17000000 ∷ 0x20000007 ∷ 0x30000003 ∷ 0x110B000A ∷ 0x110C0005 ∷ 0x110D0005 ∷ 0x1D0B0800 ∷ 0x20000000
    ∷ 0x1D0C0A00 ∷ 0x20000000 ∷ 0x1D0D0800 ∷ 0x20000000 ∷ 0x1C000001 ∷ 0x20000007 ∷ 0x130C000B ∷ 0x1C000001
    ∷ 0x20000007 ∷ 0x130D000C ∷ 0x1C000001 ∷ 0x20000007 ∷ 0x11040014 ∷ 0x1D010000 ∷ 0x20000000 ∷ 0x1D040100
    ∷ 0x20000007 ∷ 0x17000000 ∷ 0x20000007 ∷ 0x300001F4 ∷ 0x130B000D ∷ 0x1C000005 ∷ 0x20000007 ∷ 0x130C000E
    ∷ 0x1C000005 ∷ 0x20000007 ∷ 0x18000000 ∷ []

listed : List Row
listed =
    idle 0 4 0 0 0 0
    ∷ line 1 1 0 0 0 0 1
    ∷ line 2 13 0 0 0 0 1
    ∷ idle 3 7 1 0 0 0
    ∷ line 4 1 0 0 0 0 2
    ∷ line 5 13 0 0 0 0 2
    ∷ idle 6 7 1 0 0 0
    ∷ line 7 1 0 0 0 0 3
    ∷ line 8 13 0 0 0 0 3
    ∷ idle 9 7 1 0 0 0
    ∷ line 10 1 0 0 0 0 11
    ∷ line 11 1 0 0 0 0 11
    ∷ line 12 1 0 0 0 0 11
    ∷ line 13 13 0 0 0 0 11
    ∷ line 14 13 0 0 0 0 11
    ∷ line 15 13 0 0 0 0 11
    ∷ line 16 12 2 1 0 0 11
    ∷ line 17 3 0 0 0 0 12
    ∷ line 18 12 2 1 0 0 12
    ∷ line 19 3 0 0 0 0 13
    ∷ line 20 12 0 1 0 0 13
    ∷ line 21 1 0 0 0 0 4
    ∷ line 22 13 0 0 0 0 4
    ∷ line 23 13 0 0 0 0 4
    ∷ line 24 7 1 0 0 0 13
    ∷ line 25 3 0 0 0 0 11
    ∷ line 26 12 0 0 0 0 11
    ∷ line 27 3 0 0 0 0 12
    ∷ line 28 12 0 0 0 0 12
    ∷ line 29 8 0 0 7 500 4
    ∷ []

-- The two who were broken off are answered 0, count 0 in lines 26 and 28, and the new holder's message is received: 500
-- in the last line.
joiners_lines : rows_of joiners ≡ listed
unfolding rows_of course_of course_from read_at read_from call_at call_of words_taken joiners listed computed
joiners_lines = refl
