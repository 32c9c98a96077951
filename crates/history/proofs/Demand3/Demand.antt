-- Demand 3, for every list of calls.
use Prim.Native.Nat.{ℕ}
use mathlib.Core.Path.{◌≡◌, refl, sym, ◌∙◌, ap, subst}
use mathlib.Core.Bool.{Bool}
use mathlib.Core.Option.{Option, none, some}
use mathlib.Core.List.{List, [], ◌∷◌, ◌++◌, append_assoc, append-nil}
use native.Mathlib.Omega.{arith}
use Rattle.calls.specs.declared.Call.{Call}
use Rattle.calls.specs.declared.Call.TheVariants.{CreateThread, DestroyThread, SetPriority, CreateEndpoint}
use Rattle.calls.specs.declared.Call.TheVariants.{Interrupt, Tick, Send, Receive, Yield, Wait, Delete, Abort}
use Rattle.calls.specs.declared.Call.TheVariants.{Grant}
use Rattle.machine.specs.State.{State, fresh_state}
use Rattle.machine.specs.Results.{Result}
use Rattle.machine.specs.Grants.{Grants}
use Rattle.machine.specs.Aborts.{abort_unless, abort}
use Rattle.machine.specs.Machine.{by_caller, perform, step, grants_by}
use Rattle.history.specs.History.{Reported, Books, History}
use Rattle.history.specs.Recorded.{Run, books_after, told, run_from, fresh_history, fresh_run, history_of}
use Rattle.history.specs.Claim.{Claim}
use Rattle.history.specs.Tied.{Tied, NotesFirst}
use Rattle.machine.proofs.Permits.{performed, has_right}
use Rattle.history.proofs.Demand3.Leaving.{no_call}
use Rattle.machine.proofs.Preserved.Steps.{fresh_sound}
use Rattle.history.proofs.Demand3.Invariant.{Inv, Kept, claim}
use Rattle.history.proofs.Demand3.Recording.{told_seen}
use Rattle.history.proofs.Demand3.Keeping.{told_inv, told_kept}
use Rattle.machine.specs.Lists.{only}
use Rattle.history.proofs.Demand3.OtherCalls.{advance}
use Rattle.history.proofs.Demand3.Breakable.{advance11}
use Rattle.history.proofs.Demand3.AbortOutcomes.{note_is}
use Rattle.history.proofs.Demand3.AbortCalls.{advance12}

no_report : {P : Type 0} {r : Reported} → none ≡ some r → P
no_report {P} {r} h = let z : ◌≡◌ {A = ℕ} 0 1 = cc in absurd (omega arith)

-- Nothing has happened yet.
fresh_books_lem : Kept [] fresh_state fresh_history
fresh_books_lem =
    record {
      calls = refl;
      queued = refl;
      blocks = refl;
      steps = λ x i. absurd i;
      recorded7 = λ i e b m a h. no_call refl h;
      words = λ i c a h. no_call refl h;
    }

fresh : Inv [] fresh_state fresh_history
unfolding only
fresh =
    record {
      sound = fresh_sound;
      now = refl;
      answered = refl;
      waiting = refl;
      core =
          record {
            made = λ t c h. no_call refl h;
            apart = λ t u c d h. no_call refl h;
            stands = λ e. tt;
            over = λ z i. absurd i;
          };
      tied = record { members = λ e t. refl; notes = λ t. refl; heard = λ t r h. no_report h };
      rising = λ e. tt;
      stray = refl;
      given = λ d i. absurd i;
      called = λ y i. absurd i;
      recorded12 = λ i e a b h. no_call refl h;
      recorded8 = λ i e a h. no_call refl h;
    }

-- One more call, recorded by the machine's own queues.
seen :
    (bk : Books) (past : List Call) (g : Grants) (s : State) (h : History) (c : Call) → Inv past s h
    → Inv (past ++ (c ∷ [])) (step g s c).state (told_seen bk c s (step g s c) h)
seen bk past g s h (CreateThread t p) I = advance bk past s h I g (CreateThread t p) tt
seen bk past g s h (DestroyThread t) I = advance bk past s h I g (DestroyThread t) tt
seen bk past g s h (SetPriority t p) I = advance bk past s h I g (SetPriority t p) tt
seen bk past g s h (CreateEndpoint e) I = advance bk past s h I g (CreateEndpoint e) tt
seen bk past g s h (Interrupt l) I = advance bk past s h I g (Interrupt l) tt
seen bk past g s h Tick I = advance bk past s h I g Tick tt
seen bk past g s h (Send e b m) I = advance bk past s h I g (Send e b m) tt
seen bk past g s h (Receive e) I = advance bk past s h I g (Receive e) tt
seen bk past g s h Yield I = advance bk past s h I g Yield tt
seen bk past g s h (Wait l) I = advance bk past s h I g (Wait l) tt
seen bk past g s h (Delete e a) I = advance11 bk past s h I e a g
seen bk past g s h (Abort e a b) I = advance12 bk past s h I e a b g
seen bk past g s h (Grant t e r b) I = advance bk past s h I g (Grant t e r b) tt

-- What holds of the list, and of the books.
pub record Holds (past : List Call) (s : State) (h : History) : Type 0 where
  pub inv : Inv past s h
  pub kept : Kept past s h

-- One more call.
onward :
    (past : List Call) (g : Grants) (s : State) (h : History) (c : Call) → Holds past s h
    → Holds (past ++ (c ∷ [])) (step g s c).state (told c s (step g s c) h)
onward past g s h c H =
    let J = seen (books_after c s (step g s c) h) past g s h c H.inv in
    record {
      inv = told_inv past g s h c H.inv H.kept J;
      kept = told_kept past g s h c H.inv H.kept J;
    }

-- The rest of the list.
along :
    (calls past : List Call) (x : Run) → Holds past x.state x.history
    → Holds (past ++ calls) (run_from step calls x).state (run_from step calls x).history
unfolding run_from
along [] past x I = rw append-nil I
along (c ∷ l) past x I =
    subst
    (λ (k : List Call). Holds k (run_from step (c ∷ l) x).state (run_from step (c ∷ l) x).history)
    (append_assoc past (c ∷ []) l)
    (along l (past ++ (c ∷ []))
    (record {
      state = (step x.grants x.state c).state;
      grants = grants_by x.grants x.state c;
      history = told c x.state (step x.grants x.state c) x.history;
    })
    (onward past x.grants x.state x.history c I))

-- What holds after every call, after every list.
pub holds : (calls : List Call) → Holds calls (run_from step calls fresh_run).state (history_of calls)
holds calls = along calls [] fresh_run (record { inv = fresh; kept = fresh_books_lem })

pub invariant : (calls : List Call) → Inv calls (run_from step calls fresh_run).state (history_of calls)
invariant calls = (holds calls).inv

-- For every list of the thirteen calls, with any numbers, refused ones included, made in turn from fresh tables, the
-- claim holds after the list.
pub demand : (calls : List Call) → Claim calls (history_of calls)
demand calls = claim calls (run_from step calls fresh_run).state (history_of calls) (invariant calls) (holds calls).kept

-- Whoever works on an abort or has a note of one in the machine does so in the history, which reads neither, and every
-- note is of an abort that has ended.
pub debts_are :
    (calls : List Call)
    → Tied (run_from step calls fresh_run).state.threads
    (history_of calls).aborts.debts (history_of calls).aborts.ended
debts_are calls = (invariant calls).tied

-- Whoever has a note in the history is answered from it, whatever has become of the endpoint.
pub notes_first : NotesFirst step
unfolding perform abort abort_unless
notes_first calls t e a b range runs right note =
    ap (λ (r : Result). r.answer)
    (performed x.grants s (Abort e a b) range (has_right s.runs x.grants (Abort e a b) t runs right))
    ∙ ap (λ (o : Option ℕ). (by_caller o (λ u. abort u e a b) s).answer) runs
    ∙ ap (λ (y : Bool). (abort_unless y t e a b s).answer)
    (sym (note_is e b ((history_of calls).aborts.debts.notes t) (s.threads t).debt ((debts_are calls).notes t)) ∙ note)
  where
    x : Run
    x = run_from step calls fresh_run

    s : State
    s = (run_from step calls fresh_run).state
