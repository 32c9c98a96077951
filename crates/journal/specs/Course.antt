-- A journal made in turn: the calls that it reads as, each made on what the one before it left, and what stops it.
use Rattle.std.specs.Prelude.{ℕ, zero, suc, List, [], ◌∷◌, length}
use Rattle.std.proofs.Math.Option.{Option, none, some}
use Rattle.calls.specs.declared.Answer.{Answer}
use Rattle.calls.specs.declared.Call.{Call}
use Rattle.machine.specs.State.{State, fresh_state}
use Rattle.machine.specs.Grants.{Grants, fresh_grants}
use Rattle.machine.specs.Machine.{step, grants_by}
use Rattle.journal.specs.declared.types.Read.{Read}
use Rattle.journal.specs.declared.types.Read.TheVariants.{Found, Refused, Ended}
use Rattle.journal.specs.Words.{read_at}

-- A call that was made: its place in the journal, who ran just before it, its answer, and who runs after it.
pub record Made : Type 0 where
  pub index : ℕ
  pub ran : Option ℕ
  pub call : Call
  pub answer : Answer
  pub runs : Option ℕ

-- All calls made, and where the journal then stands: the reader's number if a word does not read as a call, none where
-- the words have ended; the next index, and who runs.
pub record Course : Type 0 where
  pub made : List Made
  pub stop : Option ℕ
  pub index : ℕ
  pub runs : Option ℕ

abbrev pub made_in : ℕ → Call → Grants → State → Made
made_in i c g s =
    record { index = i; ran = s.runs; call = c; answer = (step g s c).answer; runs = (step g s c).state.runs }

abbrev pub onward : Made → Course → Course
onward x k = record { made = x ∷ k.made; stop = k.stop; index = k.index; runs = k.runs }

abbrev pub standing : Option ℕ → ℕ → State → Course
standing stop i s = record { made = []; stop = stop; index = i; runs = s.runs }

-- From a reading on: the calls still to be read are at most n, the first argument.
unfoldable pub course_from : ℕ → Read → ℕ → List ℕ → Grants → State → Course
course_from zero r i journal g s = standing none i s
course_from (suc n) (Found c next) i journal g s =
    onward (made_in i c g s)
    (course_from n (read_at journal next) (suc i) journal (grants_by g s c) (step g s c).state)
course_from (suc n) (Refused code at) i journal g s = standing (some code) i s
course_from (suc n) Ended i journal g s = standing none i s

-- From fresh tables and grants. Each call takes a word at least, so the journal has no more calls than words.
unfoldable pub course_of : List ℕ → Course
course_of journal = course_from (suc (length journal)) (read_at journal 0) 0 journal fresh_grants fresh_state

-- What a course's `stop` is as a number: the reader's 18 or 19, or 0 where all words have been read.
abbrev pub stop_code : Option ℕ → ℕ
stop_code none = 0
stop_code (some code) = code
