-- Histories as the checker computes them, compared with tables worked out from document 01: the answers, the aborts
-- that ended, what was handed over and what each call 12 reports.
use Prim.Native.Nat.{ℕ}
use mathlib.Core.Path.{◌≡◌, refl}
use mathlib.Core.Bool.{true}
use mathlib.Core.Option.{Option, none, some}
use mathlib.Core.List.{List, [], ◌∷◌}
use Rattle.calls.specs.declared.Answer.{Answer}
use Rattle.calls.specs.declared.Call.{Call}
use Rattle.calls.specs.declared.Call.TheVariants.{CreateThread, DestroyThread, SetPriority, CreateEndpoint}
use Rattle.calls.specs.declared.Call.TheVariants.{Interrupt, Send, Receive, Wait, Delete, Abort, Grant}
use Rattle.history.specs.History.{Aborting, Ended, Delivery, AbortCall, NamedLook, Reported}
use Rattle.history.specs.Recorded.{history_of}
use Rattle.history.proofs.Computed.{computed}

-- What a history is compared by.
pub record Table : Type 0 where
  pub answers : List Answer
  pub ended : List Ended
  pub deliveries : List Delivery
  pub reports : List (Option Reported)

reports_of : List AbortCall → List (Option Reported)
reports_of [] = []
reports_of (y ∷ l) = y.reports ∷ reports_of l

table_of : List Call → Table
table_of calls =
    record {
      answers = (history_of calls).answers;
      ended = (history_of calls).aborts.ended;
      deliveries = (history_of calls).deliveries;
      reports = reports_of (history_of calls).abort_calls;
    }

-- Short names for the tables' entries.
answer : ℕ → ℕ → ℕ → ℕ → Answer
answer code count b m = record { code = code; count = count; badge = b; message = m }

done : Answer
done = answer 0 0 0 0

blocked : Answer
blocked = answer 1 0 0 0

-- endpoint, badge, call it began in; the senders it began on, those looked at, those removed
abort : ℕ → ℕ → ℕ → List ℕ → List ℕ → List ℕ → Aborting
abort e b began onto looked removed =
    record { endpoint = e; badge = b; began = began; onto = onto; looked = looked; removed = removed }

-- the call that it ended in, and the members of its set but that call's caller
ends : ℕ → List ℕ → Aborting → Ended
ends by members x = record { abort = x; by = by; members = members }

-- the call, its endpoint, badge and message, the queue before it and whose message it handed over
hands : ℕ → ℕ → ℕ → ℕ → List ℕ → List ℕ → Delivery
hands place e b m queue handed =
    record { place = place; endpoint = e; badge = b; message = m; queue = queue; handed = handed }

reports : ℕ → ℕ → ℕ → Option Reported
reports e b began = some (record { endpoint = e; badge = b; began = began })

-- The example, with the grants that its calls need. Thread 2's abort of badge 7, broken off in call 9, ends in call 12,
-- which thread 3 makes; call 14 is answered from thread 2's note.
example : List Call
example =
    CreateThread 1 10 ∷ CreateThread 2 10 ∷ CreateThread 3 20 ∷ CreateEndpoint 0 ∷ Grant 1 0 1 8 ∷ Grant 2 0 8 0
    ∷ Grant 3 0 11 7 ∷ Send 0 7 100 ∷ Send 0 8 200 ∷ Abort 0 1 7 ∷ Send 0 7 101 ∷ Receive 0 ∷ Abort 0 5 7
    ∷ DestroyThread 3 ∷ Abort 0 1 7 ∷ []

example_history :
    table_of example
    ≡ record {
      answers =
          done ∷ done ∷ done ∷ done ∷ done ∷ done ∷ done ∷ blocked ∷ blocked ∷ answer 2 1 0 0 ∷ answer 26 0 0 0
          ∷ answer 0 0 8 200 ∷ done ∷ done ∷ done ∷ [];
      ended =
          ends 12 (2 ∷ []) (abort 0 7 9 (7 ∷ 8 ∷ []) (7 ∷ []) (7 ∷ [])) ∷ [];
      deliveries = hands 11 0 8 200 (8 ∷ []) (8 ∷ []) ∷ [];
      reports = reports 0 7 9 ∷ reports 0 7 9 ∷ reports 0 7 9 ∷ [];
    }
unfolding table_of reports_of example computed answer done blocked abort ends hands reports
example_history = refl

-- Another badge's abort, broken off in call 12, is finished on the way in call 13, whose own begins on the one it
-- kept: that waiter is looked at twice, by two aborts.
other_badge : List Call
other_badge =
    CreateThread 1 10 ∷ CreateThread 2 20 ∷ CreateEndpoint 0 ∷ Grant 1 0 8 0 ∷ Grant 2 0 9 7 ∷ Send 0 7 100
    ∷ CreateThread 3 20 ∷ Grant 3 0 1 8 ∷ Send 0 8 200 ∷ CreateThread 4 20 ∷ Grant 4 0 1 7 ∷ Send 0 7 101
    ∷ Abort 0 1 7 ∷ Abort 0 9 8 ∷ []

other_badge_history :
    table_of other_badge
    ≡ record {
      answers =
          done ∷ done ∷ done ∷ done ∷ done ∷ blocked ∷ done ∷ done ∷ blocked ∷ done ∷ done ∷ blocked
          ∷ answer 2 1 0 0 ∷ answer 0 3 0 0 ∷ [];
      ended =
          ends 13 [] (abort 0 8 13 (8 ∷ []) (8 ∷ []) (8 ∷ []))
          ∷ ends 13 (1 ∷ []) (abort 0 7 12 (5 ∷ 8 ∷ 11 ∷ []) (5 ∷ 8 ∷ 11 ∷ []) (5 ∷ 11 ∷ [])) ∷ [];
      deliveries = [];
      reports = reports 0 8 13 ∷ reports 0 7 12 ∷ [];
    }
unfolding table_of reports_of other_badge computed answer done blocked abort ends hands reports
other_badge_history = refl

-- Thread 1 is broken off in call 9; thread 6 joins and finishes in call 12, and is destroyed.
abbrev finished_by_another : List Call → List Call
finished_by_another l =
    CreateThread 2 5 ∷ CreateEndpoint 0 ∷ Grant 2 0 1 7 ∷ Send 0 7 100 ∷ CreateThread 3 5 ∷ Grant 3 0 1 7
    ∷ Send 0 7 101 ∷ CreateThread 1 10 ∷ Grant 1 0 8 0 ∷ Abort 0 1 7 ∷ CreateThread 6 11 ∷ Grant 6 0 8 0
    ∷ Abort 0 5 7 ∷ DestroyThread 6 ∷ l

-- Thread 1's call 14 is answered from its note, and reports the abort that it began.
joined : List Call
joined = finished_by_another (Abort 0 5 7 ∷ [])

joined_history :
    table_of joined
    ≡ record {
      answers =
          done ∷ done ∷ done ∷ blocked ∷ done ∷ done ∷ blocked ∷ done ∷ done ∷ answer 2 1 0 0 ∷ done ∷ done
          ∷ answer 0 1 0 0 ∷ done ∷ done ∷ [];
      ended = ends 12 (1 ∷ []) (abort 0 7 9 (3 ∷ 6 ∷ []) (3 ∷ 6 ∷ []) (3 ∷ 6 ∷ [])) ∷ [];
      deliveries = [];
      reports = reports 0 7 9 ∷ reports 0 7 9 ∷ reports 0 7 9 ∷ [];
    }
unfolding table_of reports_of joined computed answer done blocked abort ends hands reports
joined_history = refl

-- Before call 14: nobody works at the endpoint, and thread 1 has the note; afterwards it is used up.
owed : List Call
owed = finished_by_another []

owed_members : (history_of owed).aborts.debts.members 0 ≡ []
unfolding owed computed
owed_members = refl

owed_note : (history_of owed).aborts.debts.notes 1 ≡ reports 0 7 9
unfolding owed computed reports
owed_note = refl

used_note : (history_of joined).aborts.debts.notes 1 ≡ none
unfolding joined computed
used_note = refl

-- The right revoked while the note waits: call 15 is refused by 29, reports nothing and leaves the note, which answers
-- call 17, when the right is there again.
revoked : List Call
revoked = finished_by_another (Grant 1 0 0 7 ∷ Abort 0 5 7 ∷ Grant 1 0 8 5 ∷ Abort 0 5 7 ∷ [])

revoked_history :
    table_of revoked
    ≡ record {
      answers =
          done ∷ done ∷ done ∷ blocked ∷ done ∷ done ∷ blocked ∷ done ∷ done ∷ answer 2 1 0 0 ∷ done ∷ done
          ∷ answer 0 1 0 0 ∷ done ∷ done ∷ answer 29 0 0 0 ∷ done ∷ done ∷ [];
      ended = ends 12 (1 ∷ []) (abort 0 7 9 (3 ∷ 6 ∷ []) (3 ∷ 6 ∷ []) (3 ∷ 6 ∷ [])) ∷ [];
      deliveries = [];
      reports = reports 0 7 9 ∷ none ∷ reports 0 7 9 ∷ reports 0 7 9 ∷ [];
    }
unfolding table_of reports_of revoked computed answer done blocked abort ends hands reports
revoked_history = refl

-- The abort broken off in call 9 is ended by the delete of call 12, and the endpoint is made anew, where all have to be
-- granted their rights again. Its member's note is answered while a message of the badge's new holder is queued, which
-- stays and is received.
made_anew : List Call
made_anew =
    CreateThread 2 5 ∷ CreateEndpoint 0 ∷ Grant 2 0 1 7 ∷ Send 0 7 100 ∷ CreateThread 3 5 ∷ Grant 3 0 1 7
    ∷ Send 0 7 101 ∷ CreateThread 1 10 ∷ Grant 1 0 8 0 ∷ Abort 0 1 7 ∷ CreateThread 6 11 ∷ Grant 6 0 4 0
    ∷ Delete 0 9 ∷ CreateEndpoint 0 ∷ Grant 1 0 10 0 ∷ Grant 6 0 1 7 ∷ Send 0 7 300 ∷ Abort 0 5 7 ∷ Receive 0 ∷ []

made_anew_history :
    table_of made_anew
    ≡ record {
      answers =
          done ∷ done ∷ done ∷ blocked ∷ done ∷ done ∷ blocked ∷ done ∷ done ∷ answer 2 1 0 0 ∷ done ∷ done
          ∷ answer 0 1 0 0 ∷ done ∷ done ∷ done ∷ blocked ∷ done ∷ answer 0 0 7 300 ∷ [];
      ended = ends 12 (1 ∷ []) (abort 0 7 9 (3 ∷ 6 ∷ []) (3 ∷ []) (3 ∷ [])) ∷ [];
      deliveries = hands 18 0 7 300 (16 ∷ []) (16 ∷ []) ∷ [];
      reports = reports 0 7 9 ∷ reports 0 7 9 ∷ [];
    }
unfolding table_of reports_of made_anew computed answer done blocked abort ends hands reports
made_anew_history = refl

-- The incident of release 6: the abort of badge 7 is broken off in call 12, and the waiter at its cursor leaves in call
-- 13. The badge's new holder is refused until the abort has ended, in call 18, which removes the old lookup of call 9;
-- what is received in call 21 is the new holder's own.
incident : List Call
incident =
    CreateThread 2 5 ∷ CreateEndpoint 0 ∷ Grant 2 0 1 7 ∷ Send 0 7 100 ∷ CreateThread 3 5 ∷ Grant 3 0 1 8
    ∷ Send 0 8 200 ∷ CreateThread 4 5 ∷ Grant 4 0 1 7 ∷ Send 0 7 101 ∷ CreateThread 1 10 ∷ Grant 1 0 10 0
    ∷ Abort 0 1 7 ∷ DestroyThread 3 ∷ CreateThread 5 11 ∷ Grant 5 0 1 7 ∷ Send 0 7 300 ∷ Wait 0 ∷ Abort 0 5 7
    ∷ Interrupt 0 ∷ Send 0 7 300 ∷ Receive 0 ∷ []

incident_history :
    table_of incident
    ≡ record {
      answers =
          done ∷ done ∷ done ∷ blocked ∷ done ∷ done ∷ blocked ∷ done ∷ done ∷ blocked ∷ done ∷ done
          ∷ answer 2 1 0 0 ∷ done ∷ done ∷ done ∷ answer 26 0 0 0 ∷ blocked ∷ answer 0 1 0 0 ∷ done ∷ blocked
          ∷ answer 0 0 7 300 ∷ [];
      ended = ends 18 [] (abort 0 7 12 (3 ∷ 6 ∷ 9 ∷ []) (3 ∷ 9 ∷ []) (3 ∷ 9 ∷ [])) ∷ [];
      deliveries = hands 21 0 7 300 (20 ∷ []) (20 ∷ []) ∷ [];
      reports = reports 0 7 12 ∷ reports 0 7 12 ∷ [];
    }
unfolding table_of reports_of incident computed answer done blocked abort ends hands reports
incident_history = refl

-- Two joiners: thread 11 begins the abort of badge 7 in call 16, 12 joins in call 18 and 13 in call 20, which ends it
-- while the two wait to go on; the badge goes to thread 4, whose message is queued in call 24. Both are answered from
-- their notes, and 12 receives that message in call 29.
abbrev pub joiners : List Call
joiners =
    CreateEndpoint 0 ∷ CreateThread 1 5 ∷ Grant 1 0 1 7 ∷ Send 0 7 1 ∷ CreateThread 2 5 ∷ Grant 2 0 1 7 ∷ Send 0 7 2
    ∷ CreateThread 3 5 ∷ Grant 3 0 1 7 ∷ Send 0 7 3 ∷ CreateThread 11 10 ∷ CreateThread 12 5 ∷ CreateThread 13 5
    ∷ Grant 11 0 8 0 ∷ Grant 12 0 10 0 ∷ Grant 13 0 8 0 ∷ Abort 0 1 7 ∷ SetPriority 12 11 ∷ Abort 0 1 7
    ∷ SetPriority 13 12 ∷ Abort 0 1 7 ∷ CreateThread 4 20 ∷ Grant 1 0 0 0 ∷ Grant 4 0 1 7 ∷ Send 0 7 500
    ∷ SetPriority 11 13 ∷ Abort 0 5 7 ∷ SetPriority 12 14 ∷ Abort 0 5 7 ∷ Receive 0 ∷ []

joiners_history :
    table_of joiners
    ≡ record {
      answers =
          done ∷ done ∷ done ∷ blocked ∷ done ∷ done ∷ blocked ∷ done ∷ done ∷ blocked ∷ done ∷ done ∷ done ∷ done
          ∷ done ∷ done ∷ answer 2 1 0 0 ∷ done ∷ answer 2 1 0 0 ∷ done ∷ answer 0 1 0 0 ∷ done ∷ done ∷ done
          ∷ blocked ∷ done ∷ done ∷ done ∷ done ∷ answer 0 0 7 500 ∷ [];
      ended = ends 20 (11 ∷ 12 ∷ []) (abort 0 7 16 (3 ∷ 6 ∷ 9 ∷ []) (3 ∷ 6 ∷ 9 ∷ []) (3 ∷ 6 ∷ 9 ∷ [])) ∷ [];
      deliveries = hands 29 0 7 500 (24 ∷ []) (24 ∷ []) ∷ [];
      reports = reports 0 7 16 ∷ reports 0 7 16 ∷ reports 0 7 16 ∷ reports 0 7 16 ∷ reports 0 7 16 ∷ [];
    }
unfolding table_of reports_of computed answer done blocked abort ends hands reports
joiners_history = refl

-- The place of a call 12, its looks, and who is queued at its endpoint after it.
pub record Leaves : Type 0 where
  pub place : ℕ
  pub looks : List NamedLook
  pub queue : List ℕ

leaves_of : List AbortCall → List Leaves
leaves_of [] = []
leaves_of (y ∷ l) =
    record { place = y.place; looks = y.looks; queue = y.behind.queues y.endpoint } ∷ leaves_of l

leaves : ℕ → List NamedLook → List ℕ → Leaves
leaves place looks queue = record { place = place; looks = looks; queue = queue }

removes : ℕ → NamedLook
removes w = record { waiter = w; removed = true }

-- No waiter of the new holder is removed: calls 26 and 28 look at nobody, and the message of call 24 is queued after
-- both.
new_holder_stays :
    leaves_of (history_of joiners).abort_calls
    ≡ leaves 28 [] (24 ∷ []) ∷ leaves 26 [] (24 ∷ []) ∷ leaves 20 (removes 9 ∷ []) []
    ∷ leaves 18 (removes 6 ∷ []) (9 ∷ []) ∷ leaves 16 (removes 3 ∷ []) (6 ∷ 9 ∷ []) ∷ []
unfolding leaves_of leaves removes computed
new_holder_stays = refl
