-- The ticks of a journal, counted for whoever was running just before.
use Rattle.std.specs.Prelude.{ℕ, zero, suc, ◌+◌, ◌&&◌, ◌≡◌, List, [], ◌∷◌, leb, eqb, length}
use Rattle.std.proofs.Math.Option.{Option}
use Rattle.calls.specs.Answers.{is_accepted, seat}
use Rattle.calls.specs.Calls.{number_of}
use Rattle.machine.specs.Lists.{pick}
use Rattle.journal.specs.Course.{Made, course_of, stop_code}
use Rattle.layout.specs.Words.{tabulate}

-- One for an accepted tick, else none.
unfoldable pub ticked : Made → ℕ
ticked x = pick (eqb (number_of x.call) 6 && is_accepted x.answer) 1 0

-- "the accepted ticks at which it was running just before": of the number i, 256 for nobody
unfoldable pub ticks_of : ℕ → List Made → ℕ
ticks_of i [] = 0
ticks_of i (x ∷ l) = pick (eqb (seat x.ran) i) (ticked x) 0 + ticks_of i l

-- "just before": who ran before each call is who runs after the call before it, and `who` before the first.
abbrev pub Chained : Option ℕ → List Made → Type 0
Chained who [] = who ≡ who
Chained who (x ∷ l) = (x.ran ≡ who) × Chained x.runs l

-- "the accepted ticks of the journal"
unfoldable pub accepted_ticks : List Made → ℕ
accepted_ticks [] = 0
accepted_ticks (x ∷ l) = ticked x + accepted_ticks l

-- All calls 6, accepted or not.
unfoldable pub tick_calls : List Made → ℕ
tick_calls [] = 0
tick_calls (x ∷ l) = pick (eqb (number_of x.call) 6) 1 0 + tick_calls l

-- The numbers together.
unfoldable pub sum : List ℕ → ℕ
sum [] = 0
sum (n ∷ l) = n + sum l

-- "257 lent counts (idle last)"
abbrev pub count_words : ℕ
count_words = 257

unfoldable pub counts_of : List ℕ → List ℕ
counts_of journal = tabulate count_words (λ i. ticks_of i (course_of journal).made)

-- "A journal over 16,000 words, a rate above 10,000"
abbrev pub most_words : ℕ
most_words = 16000

abbrev pub most_rate : ℕ
most_rate = 10000

-- What counting answers, and the counts afterwards.
pub record Counted : Type 0 where
  pub code : ℕ
  pub counts : List ℕ

-- "every refusal leaves the counts as they were"
abbrev pub unless_refused : ℕ → List ℕ → List ℕ → Counted
unless_refused zero own counts = record { code = 0; counts = own }
unless_refused (suc n) own counts = record { code = suc n; counts = counts }

-- "A journal over 16,000 words, a rate above 10,000 or other than 257 lent counts (idle last) is refused first, by 30",
-- then one that does not read to its end by the reader's number.
unfoldable pub count_for : List ℕ → ℕ → List ℕ → Counted
count_for journal rate counts =
    pick (leb (length journal) most_words && leb rate most_rate && eqb (length counts) count_words)
    (unless_refused (stop_code (course_of journal).stop) (counts_of journal) counts)
    (unless_refused 30 (counts_of journal) counts)
