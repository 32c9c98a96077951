-- Delete and abort, each broken off where its allowance is used up, and the notes that an abort's members get.
use Rattle.std.specs.Prelude.{ℕ, zero, suc, ◌-◌, Bool, true, false, ◌&&◌, List, [], ◌∷◌, ◌++◌, eqb, length}
use Rattle.std.proofs.Math.Option.{Option, none, some}
use Rattle.machine.specs.State.{State, Debt, nothing, works, noted, Abort, Status, missing, live, closing}
use Rattle.machine.specs.State.{missing_endpoint, set_thread, set_endpoint, with_debt, message_aborted, endpoint_gone}
use Rattle.machine.specs.Endpoints.{senders, under_abort, pending_of, passing, set_abort}
use Rattle.machine.specs.Endpoints.{wake_from, drop_debt, end_abort}
use Rattle.machine.specs.Results.{Look, Result, accept, done, refuse}
use Rattle.calls.specs.Answers.{counted}

-- 11. Waiters are removed from the head with outcome 4, as many as the allowance lets: the first argument; the
-- second is the queue as it is.
pub record Removal : Type 0 where
  pub state : State
  pub count : ℕ

unfoldable pub one_more : Removal → Removal
one_more r = record { state = r.state; count = suc r.count }

unfoldable pub remove_up_to : ℕ → List ℕ → ℕ → State → Removal
remove_up_to zero l e s = record { state = s; count = 0 }
remove_up_to (suc n) [] e s = record { state = s; count = 0 }
remove_up_to (suc n) (w ∷ l) e s =
    one_more
    (remove_up_to n ((wake_from e w endpoint_gone 0 0 s).endpoints e).waiters e (wake_from e w endpoint_gone 0 0 s))

-- With none left the endpoint is absent, code 0; else the delete is broken off, code 2.
unfoldable pub deleted : List ℕ → ℕ → Removal → Result
deleted [] e r = accept (counted 0 r.count) [] (set_endpoint e missing_endpoint r.state)
deleted (w ∷ l) e r = accept (counted 2 r.count) [] r.state

unfoldable pub delete_from : ℕ → ℕ → State → Result
delete_from e a s =
    deleted ((remove_up_to a (s.endpoints e).waiters e s).state.endpoints e).waiters e
    (remove_up_to a (s.endpoints e).waiters e s)

-- Delete marks the endpoint closing and ends its abort, then removes waiters. Whoever calls leaves its set, or loses
-- its note, first.
unfoldable pub delete_at : Status → ℕ → ℕ → ℕ → State → Result
delete_at missing t e a s = refuse 23 s
delete_at live t e a s = delete_from e a (end_abort closing e (drop_debt t s))
delete_at closing t e a s = delete_from e a (end_abort closing e (drop_debt t s))

unfoldable pub delete : ℕ → ℕ → ℕ → State → Result
delete t e a s = delete_at (s.endpoints e).status t e a s

-- 12. A look takes the cursor's waiter: same badge, removed with outcome 3; other badge, kept; the cursor moves on.
unfoldable pub hits : ℕ → ℕ → State → Bool
hits e w s = under_abort (s.threads w).badge (s.endpoints e).abort

unfoldable pub look_at : Bool → ℕ → ℕ → State → State
look_at true e w s = wake_from e w message_aborted 0 0 s
look_at false e w s = set_abort e (passing w (s.endpoints e).abort) s

unfoldable pub look : ℕ → ℕ → State → State
look e w s = look_at (hits e w s) e w s

pub record Looked : Type 0 where
  pub state : State
  pub looks : List Look

unfoldable pub after_look : Look → Looked → Looked
after_look x r = record { state = r.state; looks = x ∷ r.looks }

abbrev pub pending_at : ℕ → State → List ℕ
pending_at e s = pending_of (s.endpoints e).abort

-- As many looks as the allowance lets: the first argument; the second is what is pending.
unfoldable pub look_up_to : ℕ → List ℕ → ℕ → State → Looked
look_up_to zero l e s = record { state = s; looks = [] }
look_up_to (suc n) [] e s = record { state = s; looks = [] }
look_up_to (suc n) (w ∷ l) e s =
    after_look (record { waiter = w; removed = hits e w s })
    (look_up_to n (pending_at e (look e w s)) e (look e w s))

-- Join: the joiner t is in the set.
unfoldable pub join : ℕ → ℕ → State → State
join t e s = set_thread t (with_debt (works e) (s.threads t)) s

-- Begin: the first sender is the cursor, the last the end mark, and the caller t is in the set.
unfoldable pub begin : ℕ → ℕ → ℕ → State → State
begin t e b s =
    join t e (set_abort e (some (record { badge = b; pending = senders s.threads (s.endpoints e).waiters })) s)

-- The call's own abort, after looks made earlier in the call: with nothing left it ends, code 0, and the members of its
-- set but the caller t get notes; else it is broken off, code 2.
unfoldable pub ended : List ℕ → ℕ → ℕ → List Look → State → Result
ended [] t e looks s = accept (counted 0 (length looks)) looks (end_abort live e (drop_debt t s))
ended (w ∷ l) t e looks s = accept (counted 2 (length looks)) looks s

unfoldable pub looked_own : ℕ → ℕ → List Look → Looked → Result
looked_own t e earlier r = ended (pending_at e r.state) t e (earlier ++ r.looks) r.state

unfoldable pub work_own : ℕ → ℕ → ℕ → List Look → State → Result
work_own t e a earlier s = looked_own t e earlier (look_up_to a (pending_at e s) e s)

-- Another badge's abort is finished first; then the call's own begins if allowance remains, the first argument.
unfoldable pub begin_after : ℕ → ℕ → ℕ → ℕ → List Look → State → Result
begin_after zero t e b looks s = accept (counted 2 (length looks)) looks s
begin_after (suc n) t e b looks s = work_own t e (suc n) looks (begin t e b s)

unfoldable pub finished : List ℕ → ℕ → ℕ → ℕ → ℕ → Looked → Result
finished [] t e a b r = begin_after (a - length r.looks) t e b r.looks (end_abort live e r.state)
finished (w ∷ l) t e a b r = accept (counted 2 (length r.looks)) r.looks r.state

unfoldable pub looked_other : ℕ → ℕ → ℕ → ℕ → Looked → Result
looked_other t e a b r = finished (pending_at e r.state) t e a b r

unfoldable pub work_other : ℕ → ℕ → ℕ → ℕ → State → Result
work_other t e a b s = looked_other t e a b (look_up_to a (pending_at e s) e s)

-- The abort that stands at the endpoint is joined if it is of the same badge, and finished first if it is not.
unfoldable pub under_badge : Bool → ℕ → ℕ → ℕ → ℕ → State → Result
under_badge true t e a b s = work_own t e a [] (join t e s)
under_badge false t e a b s = work_other t e a b s

unfoldable pub abort_from : Option Abort → ℕ → ℕ → ℕ → ℕ → State → Result
abort_from none t e a b s = work_own t e a [] (begin t e b s)
abort_from (some x) t e a b s = under_badge (eqb x.badge b) t e a b s

unfoldable pub abort_open : ℕ → ℕ → ℕ → ℕ → State → Result
abort_open t e a b s = abort_from (s.endpoints e).abort t e a b s

-- Whoever calls leaves its set, or loses its note, first; one that goes on with the abort that it works on joins it
-- again.
unfoldable pub abort_at : Status → ℕ → ℕ → ℕ → ℕ → State → Result
abort_at missing t e a b s = refuse 23 s
abort_at closing t e a b s = refuse 25 s
abort_at live t e a b s = abort_open t e a b (drop_debt t s)

-- The caller has the note of this endpoint and badge.
abbrev pub has_note : ℕ → ℕ → Debt → Bool
has_note e b nothing = false
has_note e b (works f) = false
has_note e b (noted f c) = eqb f e && eqb c b

-- A noted caller is answered 0, count 0, before 23 is tried; the note goes and nothing else changes.
unfoldable pub abort_unless : Bool → ℕ → ℕ → ℕ → ℕ → State → Result
abort_unless true t e a b s = done (drop_debt t s)
abort_unless false t e a b s = abort_at (s.endpoints e).status t e a b s

unfoldable pub abort : ℕ → ℕ → ℕ → ℕ → State → Result
abort t e a b s = abort_unless (has_note e b (s.threads t).debt) t e a b s
