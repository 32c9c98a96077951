-- All who joined an abort hear its end, for every list of calls: a thread that works on an abort does so until the
-- abort ends and has a note of it then, whatever others do, and when it calls again it begins no abort.
use Rattle.std.specs.Prelude.{ℕ, ◌≤◌, ◌≡◌, true, false, List, [], ◌∷◌}
use Rattle.std.proofs.Math.Option.{Option, none, some}
use Rattle.calls.specs.declared.Call.{Call}
use Rattle.calls.specs.declared.Call.TheVariants as Call
use Rattle.calls.specs.Calls.{number_of}
use Rattle.machine.specs.Lists.{Mem}
use Rattle.machine.specs.State.{State, works, noted, Abort}
use Rattle.machine.specs.Results.{Look, Result}
use Rattle.calls.specs.Answers.{is_accepted}
use Rattle.machine.specs.Grants.{Grants}
use Rattle.machine.specs.Aborts.{pending_at, work_own}
use Rattle.machine.specs.Machine.{step}
use Rattle.history.specs.History.{Aborting, Reported, NamedLook, AbortCall, History}
use Rattle.history.specs.Walk.{report_of}
use Rattle.history.specs.Recorded.{Run, result_in, next_run, run_from, fresh_run}
use Rattle.history.specs.Claim.{In, IsAbort}

-- t works on the abort of badge b at e, or has the note that it ended.
pub data Engaged (t e b : ℕ) (s : State) : Type 0 where
  working :
      (a : Abort) → (s.endpoints e).abort ≡ some a → a.badge ≡ b → (s.threads t).debt ≡ works e → Engaged t e b s
  heard : (s.threads t).debt ≡ noted e b → Engaged t e b s

-- The call is neither an accepted call 7 to 12 of t nor an accepted destruction of t.
pub record Aside (f : Grants → State → Call → Result) (t : ℕ) (c : Call) (x : Run) : Type 0 where
  pub calls :
      x.state.runs ≡ some t → 7 ≤ number_of c → number_of c ≤ 12 → is_accepted (result_in f c x).answer ≡ false
  pub stays : c ≡ Call.DestroyThread t → is_accepted (result_in f c x).answer ≡ false

-- Each call of the list, made in turn, is aside of t.
abbrev pub AllAside : (Grants → State → Call → Result) → ℕ → List Call → Run → Type 0
AllAside f t [] x = Unit {0}
AllAside f t (c ∷ l) x = Aside f t c x × AllAside f t l (next_run f c x)

-- The call 12 of t goes on with the abort that stands at e: it works on that from the state as it is, and looks at none
-- but those whom the abort had still to look at.
pub record GoesOn (g : Grants) (s : State) (t e a b : ℕ) : Type 0 where
  pub is : step g s (Call.Abort e a b) ≡ work_own t e a [] s
  pub looks : (v : Look) → In v (step g s (Call.Abort e a b)).looks → Mem v.waiter (pending_at e s)

-- A list of calls with two calls 12 of one thread, endpoint and badge in it: the calls before the first, its allowance,
-- the calls between the two, and the second's allowance.
pub record Twice : Type 0 where
  pub thread : ℕ
  pub endpoint : ℕ
  pub badge : ℕ
  pub before : List Call
  pub once : ℕ
  pub between : List Call
  pub again : ℕ

abbrev pub first_call : Twice → Call
first_call w = Call.Abort w.endpoint w.once w.badge

abbrev pub second_call : Twice → Call
second_call w = Call.Abort w.endpoint w.again w.badge

-- The runs that the first call finds and leaves, and that the second finds and leaves.
abbrev pub at_first : (Grants → State → Call → Result) → Twice → Run
at_first f w = run_from f w.before fresh_run

abbrev pub after_first : (Grants → State → Call → Result) → Twice → Run
after_first f w = next_run f (first_call w) (at_first f w)

abbrev pub at_second : (Grants → State → Call → Result) → Twice → Run
at_second f w = run_from f w.between (after_first f w)

abbrev pub after_second : (Grants → State → Call → Result) → Twice → Run
after_second f w = next_run f (second_call w) (at_second f w)

-- The call 12 that is recorded last.
abbrev pub latest : List AbortCall → Option AbortCall
latest [] = none
latest (y ∷ l) = some y

-- The thread makes the first call and is broken off in its own abort, r; it makes no accepted other call and is not
-- destroyed between the two, and its second call is accepted.
pub record CallsAgain (f : Grants → State → Call → Result) (w : Twice) (r : Reported) : Type 0 where
  pub caller : (at_first f w).state.runs ≡ some w.thread
  pub broken_off : (result_in f (first_call w) (at_first f w)).answer.code ≡ 2
  pub call : AbortCall
  pub recorded : latest (after_first f w).history.abort_calls ≡ some call
  pub reports : call.reports ≡ some r
  pub aside : AllAside f w.thread w.between (after_first f w)
  pub same_caller : (at_second f w).state.runs ≡ some w.thread
  pub accepted : is_accepted (result_in f (second_call w) (at_second f w)).answer ≡ true

-- The call 12 recorded last is of the abort r: it reports it, and looks at none but the senders that it began on.
pub record OfAbort (h : History) (r : Reported) : Type 0 where
  pub call : AbortCall
  pub recorded : latest h.abort_calls ≡ some call
  pub reports : call.reports ≡ some r
  pub abort : Aborting
  pub known : IsAbort h abort
  pub same : report_of abort ≡ r
  pub looks : (v : NamedLook) → In v call.looks → Mem v.waiter abort.onto

-- Whoever is broken off in its own abort and calls again, with no accepted other call of its own between, begins no
-- abort: its call is of the same one.
abbrev pub SameAbort : (Grants → State → Call → Result) → Type 0
SameAbort f = (w : Twice) (r : Reported) → CallsAgain f w r → OfAbort (after_second f w).history r
