-- Answers, who runs, and a thread or level that may be missing.
-- The definitions' Option has `none` and `some`, the code's `None` and `Some`.
use Rattle.std.specs.Prelude.{ℕ, Bool, leb, Result, Ok, Err, None, Some}
use Rattle.std.specs.Prelude as code
use Rattle.std.proofs.Math.Option.{Option, none, some}
use Rattle.calls.specs.declared.Answer.{Answer}
use Rattle.calls.specs.declared.Accepted.{Accepted}
use Rattle.calls.specs.declared.Accepted.TheVariants.{Done, Blocked, Ended, BrokenOff, Received}
use Rattle.calls.specs.declared.Refusal.{Refusal}
use Rattle.calls.specs.declared.Refusal.TheVariants.{Length, Unsound, NoCall, Range, NobodyRuns, ThreadAbsent}
use Rattle.calls.specs.declared.Refusal.TheVariants.{ThreadPresent, EndpointAbsent, EndpointPresent}
use Rattle.calls.specs.declared.Refusal.TheVariants.{EndpointClosing, BadgeAborted, LineTaken, Short, NoRight, Limits}

-- The answer of a code alone.
abbrev pub plain : ℕ → Answer
plain n = record { code = n; count = 0; badge = 0; message = 0 }

-- Count is 0 except for 11 and 12.
abbrev pub counted : ℕ → ℕ → Answer
counted n k = record { code = n; count = k; badge = 0; message = 0 }

-- "badge and message are 0 except for a receive that is done"
abbrev pub receipt : ℕ → ℕ → Answer
receipt b m = record { code = 0; count = 0; badge = b; message = m }

-- Accepted is answered 0, 1 or 2.
abbrev pub is_accepted : Answer → Bool
is_accepted a = leb a.code 2

-- The number of a refusal.
abbrev pub code_of : Refusal → ℕ
code_of Length = 16
code_of Unsound = 17
code_of NoCall = 18
code_of Range = 19
code_of NobodyRuns = 20
code_of ThreadAbsent = 21
code_of ThreadPresent = 22
code_of EndpointAbsent = 23
code_of EndpointPresent = 24
code_of EndpointClosing = 25
code_of BadgeAborted = 26
code_of LineTaken = 27
code_of Short = 28
code_of NoRight = 29
code_of Limits = 30

-- The code of an entry that is no call: 0, or that of its refusal.
abbrev pub code_in : Result (Unit {0}) Refusal → ℕ
code_in (Ok x) = 0
code_in (Err why) = code_of why

-- The answer of an accepted call.
abbrev pub accepted_as : Accepted → Answer
accepted_as Done = plain 0
accepted_as Blocked = plain 1
accepted_as (Ended n) = counted 0 n
accepted_as (BrokenOff n) = counted 2 n
accepted_as (Received b m) = receipt b m

-- The answer of a call: of a refused one the code alone.
abbrev pub answer_of : Result Accepted Refusal → Answer
answer_of (Ok a) = accepted_as a
answer_of (Err why) = plain (code_of why)

-- What the code's option has, for the definitions.
abbrev pub maybe_of : {A : Type 0} → code.Option A → Option A
maybe_of None = none
maybe_of (Some x) = some x

-- Who runs.
abbrev pub thread_of : code.Option ℕ → Option ℕ
thread_of = maybe_of

-- A thread or a level as a number, where there may be none: 256, which is neither.
abbrev pub seat : Option ℕ → ℕ
seat none = 256
seat (some n) = n
