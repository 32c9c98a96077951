-- How far a count has come.
use Rattle.std.specs.Prelude.{ℕ, ◌+◌, ◌≤◌, ◌<◌, ◌≡◌, List, length, get_or, Result, Ok, Err, None, Some}
use Rattle.std.specs.Prelude as source
use Rattle.std.proofs.Math.Option.{Option, none}
use Rattle.calls.specs.declared.Answer.{Answer}
use Rattle.calls.specs.declared.Call.{Call}
use Rattle.calls.specs.declared.Refusal.{Refusal}
use Rattle.calls.specs.Answers.{seat, code_of}
use Rattle.journal.specs.Course.{Made, Course, course_of, stop_code}
use Rattle.lent_tables.specs.Entries.{Lent}
use Rattle.rows.specs.Run.{Ran}
use Rattle.billing.specs.Ticks.{ticks_of, count_words, counts_of}
use Rattle.ticks.specs.declared.Place.{Place}

-- A call and its answer alone: a tick is told by these, whatever its index and whoever runs.
abbrev pub call_alone : Call → Answer → Made
call_alone c a = record { index = 0; ran = none; call = c; answer = a; runs = none }

-- The counts so far and the ticks of the calls to come are those of the journal.
pub record Counting (journal : List ℕ) (p : Place) (m : Lent) (counts : List ℕ) : Type 0 where
  pub index : ℕ
  pub who : Option ℕ
  pub rest : Course
  pub within : p.at ≤ length journal
  pub seated : p.who ≡ seat who
  pub small : p.who ≤ 256
  pub long : length counts ≡ count_words
  pub each :
      (k : ℕ) → k < count_words → get_or counts k 0 + ticks_of k rest.made ≡ ticks_of k (course_of journal).made
  pub stops : stop_code rest.stop ≡ stop_code (course_of journal).stop
  pub ran : Ran journal p.at index who m rest

-- All is counted, and the reader's number, else 0, is this.
abbrev pub CountedAll : List ℕ → ℕ → List ℕ → Type 0
CountedAll journal code counts = (code ≡ stop_code (course_of journal).stop) × (counts ≡ counts_of journal)

-- A turn has come further, or has found that all is counted.
abbrev pub After : List ℕ → Place → Result (source.Option Place) Refusal → Lent → List ℕ → Type 0
After journal p (Ok (Some q)) m counts = (p.at < q.at) × Counting journal q m counts
After journal p (Ok None) m counts = CountedAll journal 0 counts
After journal p (Err why) m counts = CountedAll journal (code_of why) counts

-- No call was taken, and this is the reader's number, else 0.
abbrev pub OverBy : ℕ → Result (source.Option Place) Refusal → Type 0
OverBy code (Ok (Some q)) = ⊥
OverBy code (Ok None) = code ≡ 0
OverBy code (Err why) = code ≡ code_of why
