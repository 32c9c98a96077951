-- The machine's sets and notes beside those that the history makes out from calls, answers and looks.
use Rattle.std.specs.Prelude.{ℕ, ◌≡◌, true, false, List}
use Rattle.std.proofs.Math.Option.{Option, none, some}
use Rattle.calls.specs.declared.Call.{Call}
use Rattle.calls.specs.declared.Call.TheVariants.{Abort}
use Rattle.calls.specs.Calls.{in_range}
use Rattle.machine.specs.State.{State, Thread, Debt, nothing, works, noted}
use Rattle.machine.specs.Endpoints.{works_at}
use Rattle.machine.specs.Results.{Result}
use Rattle.calls.specs.Answers.{plain}
use Rattle.machine.specs.Grants.{Grants, lacks}
use Rattle.history.specs.History.{Ended, Reported, Debts, is_in}
use Rattle.history.specs.Walk.{is_note_of, report_of}
use Rattle.history.specs.Recorded.{run_from, fresh_run, history_by}
use Rattle.history.specs.Claim.{In}

-- The note alone, of what a thread owes in the machine, and in the history.
abbrev pub note_in : Debt → Debt
note_in nothing = nothing
note_in (works e) = nothing
note_in (noted e b) = noted e b

abbrev pub note_from : Option Reported → Debt
note_from none = nothing
note_from (some r) = noted r.endpoint r.badge

-- The machine's threads f are in the sets and have the notes that the history's debts d say, and every note is of an
-- abort that has ended.
pub record Tied (f : ℕ → Thread) (d : Debts) (ended : List Ended) : Type 0 where
  pub members : (e t : ℕ) → is_in t (d.members e) ≡ works_at e (f t).debt
  pub notes : (t : ℕ) → note_from (d.notes t) ≡ note_in (f t).debt
  pub heard : (t : ℕ) (r : Reported) → d.notes t ≡ some r → (z : Ended) × In z ended × (report_of z.abort ≡ r)

-- A member's "next abort call of that endpoint and badge is answered 0, count 0, before 23 is tried": so is every
-- caller, after any list, who has a note in its history and the right to abort there.
abbrev pub NotesFirst : (Grants → State → Call → Result) → Type 0
NotesFirst f =
    (calls : List Call) (t e a b : ℕ) → in_range (Abort e a b) ≡ true → (run_from f calls fresh_run).state.runs ≡ some t
    → lacks ((run_from f calls fresh_run).grants t e) (Abort e a b) ≡ false
    → is_note_of e b ((history_by f calls).aborts.debts.notes t) ≡ true
    → (f (run_from f calls fresh_run).grants (run_from f calls fresh_run).state (Abort e a b)).answer ≡ plain 0
