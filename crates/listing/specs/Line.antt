-- The text of the listing, as bytes: its header, and the line of a row.
use Rattle.std.specs.Prelude.{ℕ, List, [], ◌∷◌, ◌++◌}
use Rattle.std.proofs.Math.Option.{Option, none, some}
use Rattle.calls.specs.declared.Answer.{Answer}
use Rattle.calls.specs.Answers.{thread_of}
use Rattle.journal.specs.Rows.{Row}
use Rattle.texts.specs.Text.{bytes}
use Rattle.texts.specs.Decimal.{decimal, spaced}
use Rattle.listing.specs.declared.Listed.{Listed}

-- The four numbers of an answer, in this order.
unfoldable pub answer_text : Answer → List ℕ
answer_text a = spaced a.code ++ spaced a.count ++ spaced a.badge ++ spaced a.message

-- Who runs: the thread's number, or the sign - for nobody.
unfoldable pub runner : Option ℕ → List ℕ
runner none = 45 ∷ []
runner (some t) = decimal t

-- The line of a row: index, call number, answer, who runs, and a newline.
unfoldable pub line_of : Row → List ℕ
line_of r = spaced r.index ++ spaced r.call ++ answer_text r.answer ++ runner r.running ++ (10 ∷ [])

abbrev pub header : List ℕ
header = bytes "n call code count badge message running\n"

-- The row that the code's struct stands for.
abbrev pub row_of : Listed → Row
row_of l = record { index = l.index; call = l.call; answer = l.answer; running = thread_of l.running }
