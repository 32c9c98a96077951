-- The machine refuses by document 01's table: by the number of the first cause that is there, and only then.
use Prim.Native.Nat.{ℕ, zero, suc, ◌≤◌, ◌<◌}
use mathlib.Core.Path.{◌≡◌, refl, sym, ◌∙◌, ap, subst}
use mathlib.Core.Logic.{◌↔◌}
use mathlib.Core.Bool.{Bool, true, false, ◌&&◌, not}
use mathlib.Core.Option.{Option, none, some}
use mathlib.Core.List.{List, [], ◌∷◌}
use native.Mathlib.Omega.{arith}
use lib.Dec.{leb, lit≤}
use Rattle.calls.specs.declared.Call.{Call}
use Rattle.calls.specs.declared.Call.TheVariants.{CreateThread, DestroyThread, SetPriority, CreateEndpoint}
use Rattle.calls.specs.declared.Call.TheVariants.{Interrupt, Tick, Send, Receive, Yield, Wait, Delete, Abort}
use Rattle.calls.specs.declared.Call.TheVariants.{Grant}
use Rattle.calls.specs.Calls.{number_of, in_range}
use Rattle.machine.specs.Lists.{pick}
use Rattle.machine.specs.State as State
use Rattle.machine.specs.State.{State, Status, missing, live, closing, Line, quiet, pending, awaited}
use Rattle.machine.specs.Endpoints.{under_abort}
use Rattle.machine.specs.Results.{Look, Result, refuse}
use Rattle.machine.specs.Grants.{Grants, barred}
use Rattle.machine.specs.Aborts.{Removal, deleted, delete_from, delete_at, delete, Looked, ended, looked_own}
use Rattle.machine.specs.Aborts.{work_own, begin_after, finished, looked_other, work_other, under_badge, abort_from}
use Rattle.machine.specs.Aborts.{abort_open, abort_at, has_note, abort_unless, abort}
use Rattle.machine.specs.Machine.{is_absent, create_if, create_thread, destroy_if, destroy_thread, priority_if}
use Rattle.machine.specs.Machine.{set_priority, create_at, create_endpoint, interrupt, tick, send_to, send_unless}
use Rattle.machine.specs.Machine.{send_at, send, receive_from, receive_at, receive, yield, wait_at, wait, by_caller}
use Rattle.machine.specs.Machine.{grant_at, grant_if, grant, perform, perform_unless, perform_if, step}
use Rattle.machine.specs.Refusals.{is_nobody, is_missing, is_closing, has_waiter, debt_in, Refusal, first_cause}
use Rattle.machine.specs.Refusals.{row19, row20, row29, later_rows, table_rows, refusal_of}
use Rattle.machine.proofs.Lists.{clash}

-- The result is the one for this row of the table: a refusal by its number, or an accepted call where there is none.
abbrev Agrees : Option ℕ → State → Result → Type 0
Agrees none s r = r.answer.code ≤ 2
Agrees (some n) s r = r ≡ refuse n s

-- The host's calls

create_agrees : (x : Bool) (t p : ℕ) (s : State) → Agrees (pick (not x) (some 22) none) s (create_if x t p s)
unfolding create_if
create_agrees true t p s = lit≤ tt
create_agrees false t p s = refl

destroy_agrees : (x : Bool) (t : ℕ) (s : State) → Agrees (pick x (some 21) none) s (destroy_if x t s)
unfolding destroy_if
destroy_agrees true t s = refl
destroy_agrees false t s = lit≤ tt

priority_agrees : (x : Bool) (t p : ℕ) (s : State) → Agrees (pick x (some 21) none) s (priority_if x t p s)
unfolding priority_if
priority_agrees true t p s = refl
priority_agrees false t p s = lit≤ tt

endpoint_agrees :
    (x : Status) (e : ℕ) (s : State) → Agrees (pick (not (is_missing x)) (some 24) none) s (create_at x e s)
unfolding create_at
endpoint_agrees missing e s = lit≤ tt
endpoint_agrees live e s = refl
endpoint_agrees closing e s = refl

granted_agrees :
    (x : Status) (s : State) → Agrees (pick (is_missing x) (some 23) none) s (grant_at x s)
unfolding grant_at
granted_agrees missing s = refl
granted_agrees live s = lit≤ tt
granted_agrees closing s = lit≤ tt

grant_agrees :
    (x : Bool) (e : ℕ) (s : State)
    → Agrees (pick x (some 21) (pick (is_missing (s.endpoints e).status) (some 23) none)) s (grant_if x e s)
unfolding grant_if
grant_agrees true e s = refl
grant_agrees false e s = granted_agrees (s.endpoints e).status s

-- Send, receive, wait

sent : (o : Option ℕ) (t e b m : ℕ) (s : State) → (send_to o t e b m s).answer.code ≤ 2
unfolding send_to
sent none t e b m s = lit≤ tt
sent (some r) t e b m s = lit≤ tt

unless_agrees :
    (x : Bool) (t e b m : ℕ) (s : State) → Agrees (pick x (some 26) none) s (send_unless x t e b m s)
unfolding send_unless
unless_agrees true t e b m s = refl
unless_agrees false t e b m s = sent _ t e b m _

send_agrees :
    (x : Status) (t e b m : ℕ) (s : State)
    → Agrees
    (pick (is_missing x) (some 23)
    (pick (is_closing x) (some 25) (pick (under_abort b (s.endpoints e).abort) (some 26) none))) s
    (send_at x t e b m s)
unfolding send_at
send_agrees missing t e b m s = refl
send_agrees live t e b m s = unless_agrees (under_abort b (s.endpoints e).abort) t e b m s
send_agrees closing t e b m s = refl

received : (o : Option ℕ) (t e : ℕ) (s : State) → (receive_from o t e s).answer.code ≤ 2
unfolding receive_from
received none t e s = lit≤ tt
received (some r) t e s = lit≤ tt

receive_agrees :
    (x : Status) (t e : ℕ) (s : State)
    → Agrees (pick (is_missing x) (some 23) (pick (is_closing x) (some 25) none)) s (receive_at x t e s)
unfolding receive_at
receive_agrees missing t e s = refl
receive_agrees live t e s = received _ t e _
receive_agrees closing t e s = refl

wait_agrees : (x : Line) (t l : ℕ) (s : State) → Agrees (pick (has_waiter x) (some 27) none) s (wait_at x t l s)
unfolding wait_at
wait_agrees quiet t l s = lit≤ tt
wait_agrees pending t l s = lit≤ tt
wait_agrees (awaited u) t l s = refl

-- Delete and abort

deleted_code : (l : List ℕ) (e : ℕ) (r : Removal) → (deleted l e r).answer.code ≤ 2
unfolding deleted
deleted_code [] e r = lit≤ tt
deleted_code (w ∷ l) e r = lit≤ tt

delete_code : (e a : ℕ) (s : State) → (delete_from e a s).answer.code ≤ 2
unfolding delete_from
delete_code e a s = deleted_code _ e _

delete_agrees :
    (x : Status) (t e a : ℕ) (s : State) → Agrees (pick (is_missing x) (some 23) none) s (delete_at x t e a s)
unfolding delete_at
delete_agrees missing t e a s = refl
delete_agrees live t e a s = delete_code e a _
delete_agrees closing t e a s = delete_code e a _

ended_code : (l : List ℕ) (t e : ℕ) (looks : List Look) (s : State) → (ended l t e looks s).answer.code ≤ 2
unfolding ended
ended_code [] t e looks s = lit≤ tt
ended_code (w ∷ l) t e looks s = lit≤ tt

own_code : (t e a : ℕ) (looks : List Look) (s : State) → (work_own t e a looks s).answer.code ≤ 2
unfolding work_own looked_own
own_code t e a looks s = ended_code _ t e _ _

after_code : (n t e b : ℕ) (looks : List Look) (s : State) → (begin_after n t e b looks s).answer.code ≤ 2
unfolding begin_after
after_code zero t e b looks s = lit≤ tt
after_code (suc n) t e b looks s = own_code t e (suc n) looks _

finished_code : (l : List ℕ) (t e a b : ℕ) (r : Looked) → (finished l t e a b r).answer.code ≤ 2
unfolding finished
finished_code [] t e a b r = after_code _ t e b _ _
finished_code (w ∷ l) t e a b r = lit≤ tt

badge_code_lem : (x : Bool) (t e a b : ℕ) (s : State) → (under_badge x t e a b s).answer.code ≤ 2
unfolding under_badge work_other looked_other
badge_code_lem true t e a b s = own_code t e a [] _
badge_code_lem false t e a b s = finished_code _ t e a b _

from_code : (x : Option State.Abort) (t e a b : ℕ) (s : State) → (abort_from x t e a b s).answer.code ≤ 2
unfolding abort_from
from_code none t e a b s = own_code t e a [] _
from_code (some x) t e a b s = badge_code_lem _ t e a b s

abort_at_lem :
    (x : Status) (t e a b : ℕ) (s : State)
    → Agrees (pick (is_missing x) (some 23) (pick (is_closing x) (some 25) none)) s (abort_at x t e a b s)
unfolding abort_at abort_open
abort_at_lem missing t e a b s = refl
abort_at_lem live t e a b s = from_code _ t e a b _
abort_at_lem closing t e a b s = refl

abort_agrees :
    (x : Bool) (t e a b : ℕ) (s : State)
    → Agrees
    (pick x none
    (pick (is_missing (s.endpoints e).status) (some 23) (pick (is_closing (s.endpoints e).status) (some 25) none)))
    s (abort_unless x t e a b s)
unfolding abort_unless
abort_agrees true t e a b s = lit≤ tt
abort_agrees false t e a b s = abort_at_lem (s.endpoints e).status t e a b s

-- Every call

-- Nobody runs, or thread t calls: v is what the rows behind that of 20 give.
caller_agrees :
    (o : Option ℕ) (s : State) (v : Option ℕ → Option ℕ) (f : ℕ → State → Result)
    → ((t : ℕ) → Agrees (v (some t)) s (f t s)) → Agrees (pick (is_nobody o) (some 20) (v o)) s (by_caller o f s)
caller_agrees none s v f h = refl
caller_agrees (some t) s v f h = h t

perform_agrees : (c : Call) (s : State) → Agrees (first_cause (row20 c s ∷ table_rows c s)) s (perform c s)
unfolding perform create_thread destroy_thread set_priority create_endpoint interrupt tick send receive yield wait
    delete
    abort grant
perform_agrees (CreateThread t p) s = create_agrees (is_absent (s.threads t).place) t p s
perform_agrees (DestroyThread t) s = destroy_agrees (is_absent (s.threads t).place) t s
perform_agrees (SetPriority t p) s = priority_agrees (is_absent (s.threads t).place) t p s
perform_agrees (CreateEndpoint e) s = endpoint_agrees (s.endpoints e).status e s
perform_agrees (Interrupt l) s = lit≤ tt
perform_agrees Tick s = lit≤ tt
perform_agrees (Send e b m) s =
    caller_agrees s.runs s
    (λ o. pick (is_missing (s.endpoints e).status) (some 23)
    (pick (is_closing (s.endpoints e).status) (some 25)
    (pick (under_abort b (s.endpoints e).abort) (some 26) none))) (λ t. send t e b m)
    (λ t. send_agrees (s.endpoints e).status t e b m s)
perform_agrees (Receive e) s =
    caller_agrees s.runs s
    (λ o. pick (is_missing (s.endpoints e).status) (some 23)
    (pick (is_closing (s.endpoints e).status) (some 25) none)) (λ t. receive t e)
    (λ t. receive_agrees (s.endpoints e).status t e s)
perform_agrees Yield s = caller_agrees s.runs s (λ o. none) (λ t. yield t) (λ t. lit≤ tt)
perform_agrees (Wait l) s =
    caller_agrees s.runs s (λ o. pick (has_waiter (s.lines l)) (some 27) none) (λ t. wait t l)
    (λ t. wait_agrees (s.lines l) t l s)
perform_agrees (Delete e a) s =
    caller_agrees s.runs s (λ o. pick (is_missing (s.endpoints e).status) (some 23) none) (λ t. delete t e a)
    (λ t. delete_agrees (s.endpoints e).status t e a s)
perform_agrees (Abort e a b) s =
    caller_agrees s.runs s
    (λ o. pick (has_note e b (debt_in o s)) none
    (pick (is_missing (s.endpoints e).status) (some 23) (pick (is_closing (s.endpoints e).status) (some 25) none)))
    (λ t. abort t e a b) (λ t. abort_agrees (has_note e b (s.threads t).debt) t e a b s)
perform_agrees (Grant t e r b) s = grant_agrees (is_absent (s.threads t).place) e s

and-false : (x : Bool) → x && false ≡ false
and-false true = refl
and-false false = refl

-- Who lacks a right runs: 20 is not its cause.
barred_runs : (g : Grants) (c : Call) (s : State) → barred s.runs g c ≡ true → (row20 c s).cause ≡ false
barred_runs g c s = go s.runs
  where
    go : (o : Option ℕ) → barred o g c ≡ true → (leb 7 (number_of c) && leb (number_of c) 12) && is_nobody o ≡ false
    go none h = absurd (clash h refl)
    go (some t) h = and-false (leb 7 (number_of c) && leb (number_of c) 12)

-- 29 between 20 and the rows behind it.
unless_barred_lem :
    (x y : Bool) (v : Option ℕ) (c : Call) (s : State) → (x ≡ true → y ≡ false)
    → Agrees (pick y (some 20) v) s (perform c s)
    → Agrees (pick y (some 20) (pick x (some 29) v)) s (perform_unless x c s)
unfolding perform_unless
unless_barred_lem true y v c s h i =
    subst (λ (z : Bool). Agrees (pick z (some 20) (some 29)) s (refuse 29 s)) (sym (h refl)) refl
unless_barred_lem false y v c s h i = i

agrees : (g : Grants) (c : Call) (s : State) → Agrees (refusal_of g c s) s (step g s c)
unfolding refusal_of step perform_if
agrees g c s = go (in_range c)
  where
    go : (x : Bool) → Agrees (pick (not x) (some 19) (first_cause (later_rows g c s))) s (perform_if x g c s)
    go true =
        unless_barred_lem (row29 g c s).cause (row20 c s).cause (first_cause (table_rows c s)) c s (barred_runs g c s)
        (perform_agrees c s)
    go false = refl

-- No row's number is that of an accepted call.

abbrev Above : Option ℕ → Type 0
Above none = Unit {0}
Above (some n) = 2 < n

abbrev AllAbove : List Refusal → Type 0
AllAbove [] = Unit {0}
AllAbove (r ∷ l) = Above r.number × AllAbove l

first_above : (l : List Refusal) → AllAbove l → Above (first_cause l)
first_above [] h = tt
first_above (r ∷ l) h = either r.cause h.0 (first_above l h.1)
  where
    either : (x : Bool) → Above r.number → Above (first_cause l) → Above (pick x r.number (first_cause l))
    either true i j = i
    either false i j = j

pub refusal_number : (g : Grants) (c : Call) (s : State) (n : ℕ) → refusal_of g c s ≡ some n → 2 < n
unfolding refusal_of
refusal_number g c s n h =
    subst Above h
    (first_above (row19 c s ∷ later_rows g c s) (
      lit≤ tt,
      (
        lit≤ tt,
        (
          lit≤ tt,
          (
            lit≤ tt,
            (lit≤ tt, (tt, (lit≤ tt, (lit≤ tt, (lit≤ tt, (lit≤ tt, (lit≤ tt, tt))))))),
          ),
        ),
      ),
    ))

-- "Number, three zeros", everything "left as it was": where the table gives a number, the call is refused by it.
pub refused_exactly : (g : Grants) (c : Call) (s : State) (n : ℕ) → refusal_of g c s ≡ some n → step g s c ≡ refuse n s
refused_exactly g c s n h = subst (λ (o : Option ℕ). Agrees o s (step g s c)) h (agrees g c s)

-- "Codes: 0 done, 1 blocked, 2 broken off": where it gives none, the call is accepted.
pub accepted_exactly : (g : Grants) (c : Call) (s : State) → refusal_of g c s ≡ none → (step g s c).answer.code ≤ 2
accepted_exactly g c s h = subst (λ (o : Option ℕ). Agrees o s (step g s c)) h (agrees g c s)

-- A number past 2 is answered exactly where the table gives it.
pub refusals_exactly :
    (g : Grants) (c : Call) (s : State) (n : ℕ) → 2 < n → ((step g s c).answer.code ≡ n) ↔ (refusal_of g c s ≡ some n)
refusals_exactly g c s n h =
    (go (refusal_of g c s) refl, λ i. ap (λ (r : Result). r.answer.code) (refused_exactly g c s n i))
  where
    go : (o : Option ℕ) → refusal_of g c s ≡ o → (step g s c).answer.code ≡ n → refusal_of g c s ≡ some n
    go none i j = let k = accepted_exactly g c s i in absurd (omega arith)
    go (some m) i j =
        let k = ap (λ (r : Result). r.answer.code) (refused_exactly g c s m i) in
        let l : m ≡ n = omega arith in i ∙ ap some l
