-- The incident of release 6 (docs/INCIDENT.md): its words, made in turn on the machine, give the listing told there.
use Prim.Native.Nat.{ℕ}
use mathlib.Core.Path.{◌≡◌, refl}
use mathlib.Core.List.{List, [], ◌∷◌}
use Rattle.history.proofs.Computed.{computed}
use Rattle.journal.specs.Words.{call_of, call_at, words_taken, read_from, read_at}
use Rattle.journal.specs.Rows.{Row, rows_of}
use Rattle.journal.specs.Course.{course_from, course_of}
use Rattle.examples.proofs.Example.{line, idle}

incident : List ℕ
incident =
    0x11020005 ∷ 0x14000000 ∷ 0x1D020100 ∷ 0x20000007 ∷ 0x17000000 ∷ 0x20000007 ∷ 0x30000064 ∷ 0x11030005
    ∷ 0x1D030100 ∷ 0x20000008 ∷ 0x17000000 ∷ 0x20000008 ∷ 0x300000C8 ∷ 0x11040005 ∷ 0x1D040100 ∷ 0x20000007
    ∷ 0x17000000 ∷ 0x20000007 ∷ 0x30000065 ∷ 0x1101000A ∷ 0x1D010A00 ∷ 0x20000000 ∷ 0x1C000001 ∷ 0x20000007
    ∷ 0x12030000 ∷ 0x1105000B ∷ 0x1D050100 ∷ 0x20000007 ∷ 0x17000000 ∷ 0x20000007 ∷ 0x3000012C ∷ 0x1A000000
    ∷ 0x1C000005 ∷ 0x20000007 ∷ 0x15000000 ∷ 0x17000000 ∷ 0x20000007 ∷ 0x3000012C ∷ 0x18000000 ∷ []

listed : List Row
listed =
    line 0 1 0 0 0 0 2
    ∷ line 1 4 0 0 0 0 2
    ∷ line 2 13 0 0 0 0 2
    ∷ idle 3 7 1 0 0 0
    ∷ line 4 1 0 0 0 0 3
    ∷ line 5 13 0 0 0 0 3
    ∷ idle 6 7 1 0 0 0
    ∷ line 7 1 0 0 0 0 4
    ∷ line 8 13 0 0 0 0 4
    ∷ idle 9 7 1 0 0 0
    ∷ line 10 1 0 0 0 0 1
    ∷ line 11 13 0 0 0 0 1
    ∷ line 12 12 2 1 0 0 1
    ∷ line 13 2 0 0 0 0 1
    ∷ line 14 1 0 0 0 0 5
    ∷ line 15 13 0 0 0 0 5
    ∷ line 16 7 26 0 0 0 5
    ∷ line 17 10 1 0 0 0 1
    ∷ line 18 12 0 1 0 0 1
    ∷ line 19 5 0 0 0 0 5
    ∷ line 20 7 1 0 0 0 1
    ∷ line 21 8 0 0 7 300 5
    ∷ []

-- The new holder's message is the one received: 300 in the last line.
incident_lines : rows_of incident ≡ listed
unfolding rows_of course_of course_from read_at read_from call_at call_of words_taken incident listed computed
incident_lines = refl
