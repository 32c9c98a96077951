-- The bill, from all bytes of standard input to all bytes of standard output.
use Rattle.std.specs.Prelude.{ℕ, zero, suc, ◌%◌, List, [], ◌∷◌, ◌++◌, leb, eqb, length, take, drop, get_or, replicate}
use Rattle.machine.specs.Lists.{pick}
use Rattle.texts.specs.Text.{bytes}
use Rattle.texts.specs.Decimal.{decimal, spaced}
use Rattle.input.specs.Words.{little_endian, words_in}
use Rattle.billing.specs.Ticks.{count_words, Counted, count_for}
use Rattle.billing.specs.Cents.{cents}

-- "thread, ticks and cents … one line each in decimal with single spaces"
abbrev pub line_of : ℕ → ℕ → ℕ → List ℕ
line_of rate t n = spaced t ++ spaced n ++ decimal (cents rate n) ++ (10 ∷ [])

-- "for every number with ticks, ascending": from the thread t on
unfoldable pub lines_from : ℕ → ℕ → List ℕ → List ℕ
lines_from rate t [] = []
lines_from rate t (n ∷ ns) = pick (eqb n 0) [] (line_of rate t n) ++ lines_from rate (suc t) ns

-- "then the word idle and its ticks"
unfoldable pub bill_of : ℕ → List ℕ → List ℕ
bill_of rate counts = lines_from rate 0 (take 256 counts) ++ bytes "idle " ++ decimal (get_or counts 256 0) ++ (10 ∷ [])

-- A number "alone on a line".
abbrev pub alone : ℕ → List ℕ
alone n = decimal n ++ (10 ∷ [])

-- "odd bytes after calls that all read, give 18": of so many odd bytes
abbrev pub unless_odd : ℕ → List ℕ → List ℕ
unless_odd zero bill = bill
unless_odd (suc k) bill = alone 18

-- "no bill but the reader's number, alone on a line as 30 is": by the number that counting answers
abbrev pub bill_unless : ℕ → List ℕ → ℕ → ℕ → List ℕ
bill_unless zero counts rate odd = unless_odd odd (bill_of rate counts)
bill_unless (suc n) counts rate odd = alone (suc n)

abbrev pub billed : Counted → ℕ → ℕ → List ℕ
billed c rate odd = bill_unless c.code c.counts rate odd

-- "A program reads the rate as the first word of standard input and the journal after it"; "a missing rate … 18".
unfoldable pub printed : List ℕ → List ℕ
printed input =
    pick (leb 4 (length input))
    (billed (count_for (words_in (drop 4 input)) (little_endian input 0) (replicate count_words 0))
    (little_endian input 0) (length input % 4))
    (alone 18)
