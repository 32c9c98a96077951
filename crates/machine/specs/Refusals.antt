-- Document 01's table "Cause, tried in this order", from 19 on, row by row: by which number a call is refused. 16 and
-- 17 are refusals of the lent memory, 18 of the reader.
use Rattle.std.specs.Prelude.{ℕ, Bool, true, false, ◌&&◌, ◌||◌, not, List, [], ◌∷◌, eqb, leb}
use Rattle.std.proofs.Math.Option.{Option, none, some}
use Rattle.calls.specs.declared.Call.{Call}
use Rattle.calls.specs.declared.Call.TheVariants.{CreateThread, DestroyThread, SetPriority, CreateEndpoint}
use Rattle.calls.specs.declared.Call.TheVariants.{Interrupt, Tick, Send, Receive, Yield, Wait, Delete, Abort}
use Rattle.calls.specs.declared.Call.TheVariants.{Grant}
use Rattle.calls.specs.Calls.{number_of, endpoint_of, in_range}
use Rattle.machine.specs.Lists.{pick}
use Rattle.machine.specs.State.{State, Thread, Debt, nothing, Status, missing, live, closing, Endpoint, Line}
use Rattle.machine.specs.State.{quiet, pending, awaited}
use Rattle.machine.specs.Endpoints.{under_abort}
use Rattle.machine.specs.Grants.{Grants, barred}
use Rattle.machine.specs.Aborts.{has_note}
use Rattle.machine.specs.Machine.{is_absent}

-- The call's number is one of these.
abbrev pub one_of : List ℕ → ℕ → Bool
one_of [] n = false
one_of (k ∷ l) n = eqb n k || one_of l n

-- The call's subject: its thread, endpoint or line; 0 where it has none.
abbrev pub subject_of : Call → ℕ
subject_of (CreateThread t p) = t
subject_of (DestroyThread t) = t
subject_of (SetPriority t p) = t
subject_of (CreateEndpoint e) = e
subject_of (Interrupt l) = l
subject_of Tick = 0
subject_of (Send e b m) = e
subject_of (Receive e) = e
subject_of Yield = 0
subject_of (Wait l) = l
subject_of (Delete e a) = e
subject_of (Abort e a b) = e
subject_of (Grant t e r b) = t

-- The badge of a send, an abort or a grant; 0 of another call.
abbrev pub badge_of : Call → ℕ
badge_of (CreateThread t p) = 0
badge_of (DestroyThread t) = 0
badge_of (SetPriority t p) = 0
badge_of (CreateEndpoint e) = 0
badge_of (Interrupt l) = 0
badge_of Tick = 0
badge_of (Send e b m) = b
badge_of (Receive e) = 0
badge_of Yield = 0
badge_of (Wait l) = 0
badge_of (Delete e a) = 0
badge_of (Abort e a b) = b
badge_of (Grant t e r b) = b

abbrev pub thread_named : Call → State → Thread
thread_named c s = s.threads (subject_of c)

abbrev pub endpoint_named : Call → State → Endpoint
endpoint_named c s = s.endpoints (endpoint_of c)

abbrev pub is_nobody : Option ℕ → Bool
is_nobody none = true
is_nobody (some t) = false

abbrev pub is_missing : Status → Bool
is_missing missing = true
is_missing live = false
is_missing closing = false

abbrev pub is_closing : Status → Bool
is_closing missing = false
is_closing live = false
is_closing closing = true

abbrev pub has_waiter : Line → Bool
has_waiter quiet = false
has_waiter pending = false
has_waiter (awaited t) = true

-- What the thread that runs has to do with aborts.
abbrev pub debt_in : Option ℕ → State → Debt
debt_in none s = nothing
debt_in (some t) s = (s.threads t).debt

-- A row of the table: whether its cause is there, and by which number the call is then refused, if it is.
pub record Refusal : Type 0 where
  pub cause : Bool
  pub number : Option ℕ

-- The first row whose cause is there decides; where none is, the call is not refused.
abbrev pub first_cause : List Refusal → Option ℕ
first_cause [] = none
first_cause (r ∷ l) = pick r.cause r.number (first_cause l)

-- "thread or priority above 255, endpoint above 63, line above 31, badge or message 2^28 or more, allowance 0 or above
-- 65,535 | 19"; "rights above 15 too"
abbrev pub row19 : Call → State → Refusal
row19 c s = record { cause = not (in_range c); number = some 19 }

-- "call 7 to 12 and nobody running | 20"
abbrev pub row20 : Call → State → Refusal
row20 c s =
    record { cause = leb 7 (number_of c) && leb (number_of c) 12 && is_nobody s.runs; number = some 20 }

-- "a missing right or wrong badge by 29, tried right after 20"
abbrev pub row29 : Grants → Call → State → Refusal
row29 g c s = record { cause = barred s.runs g c; number = some 29 }

-- "2, 3: thread absent | 21"; so is call 13, "as other calls are"
abbrev pub row21 : Call → State → Refusal
row21 c s =
    record { cause = one_of (2 ∷ 3 ∷ 13 ∷ []) (number_of c) && is_absent (thread_named c s).place; number = some 21 }

-- "1: thread present | 22"
abbrev pub row22 : Call → State → Refusal
row22 c s = record {
  cause = one_of (1 ∷ []) (number_of c) && not (is_absent (thread_named c s).place);
  number =
      some 22;
}

-- Of the note: a member's "next abort call of that endpoint and badge is answered 0, count 0, before 23 is tried": it
-- is not refused.
abbrev pub row_of_note : Call → State → Refusal
row_of_note c s =
    record {
      cause = one_of (12 ∷ []) (number_of c) && has_note (endpoint_of c) (badge_of c) (debt_in s.runs s);
      number = none;
    }

-- "7, 8, 11, 12: endpoint absent | 23"; so is call 13
abbrev pub row23 : Call → State → Refusal
row23 c s =
    record {
      cause = one_of (7 ∷ 8 ∷ 11 ∷ 12 ∷ 13 ∷ []) (number_of c) && is_missing (endpoint_named c s).status;
      number = some 23;
    }

-- "4: endpoint present, closing included | 24"
abbrev pub row24 : Call → State → Refusal
row24 c s =
    record { cause = one_of (4 ∷ []) (number_of c) && not (is_missing (endpoint_named c s).status); number = some 24 }

-- "7, 8, 12: endpoint closing | 25"
abbrev pub row25 : Call → State → Refusal
row25 c s =
    record {
      cause = one_of (7 ∷ 8 ∷ 12 ∷ []) (number_of c) && is_closing (endpoint_named c s).status;
      number =
          some 25;
    }

-- "7: that badge is under abort there | 26"
abbrev pub row26 : Call → State → Refusal
row26 c s =
    record {
      cause = one_of (7 ∷ []) (number_of c) && under_abort (badge_of c) (endpoint_named c s).abort;
      number = some 26;
    }

-- "10: the line has a waiter | 27"
abbrev pub row27 : Call → State → Refusal
row27 c s = record { cause = one_of (10 ∷ []) (number_of c) && has_waiter (s.lines (subject_of c)); number = some 27 }

-- The rows that look at the tables' content.
abbrev pub table_rows : Call → State → List Refusal
table_rows c s =
    row21 c s
    ∷ row22 c s
    ∷ row_of_note c s
    ∷ row23 c s
    ∷ row24 c s
    ∷ row25 c s
    ∷ row26 c s
    ∷ row27 c s
    ∷ []

-- The rows behind the first, for a call whose numbers are in range.
abbrev pub later_rows : Grants → Call → State → List Refusal
later_rows g c s = row20 c s ∷ (row29 g c s ∷ table_rows c s)

-- The number that the call is refused by in this state and under these grants, if it is refused.
unfoldable pub refusal_of : Grants → Call → State → Option ℕ
refusal_of g c s = first_cause (row19 c s ∷ later_rows g c s)
