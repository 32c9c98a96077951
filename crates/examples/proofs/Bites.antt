-- The claim bites: each machine that goes wrong makes it, or another statement, false on a short list of calls.
use Prim.Native.Nat.{ℕ}
use mathlib.Core.Path.{◌≡◌, refl, ap, ◌∙◌}
use mathlib.Core.Option.{some}
use mathlib.Core.Logic.{inl, inr}
use mathlib.Core.List.{List, [], ◌∷◌}
use native.Mathlib.Omega.{arith}
use lib.ListN.{length, get_elem?}
use Rattle.calls.specs.declared.Answer.{Answer}
use Rattle.calls.specs.declared.Call.{Call}
use Rattle.calls.specs.declared.Call.TheVariants.{CreateThread, DestroyThread, CreateEndpoint, Send, Receive}
use Rattle.calls.specs.declared.Call.TheVariants.{Interrupt, Tick, Yield, Wait, Delete, Abort, Grant}
use Rattle.calls.specs.Calls.{number_of}
use Rattle.machine.specs.State.{State}
use Rattle.machine.specs.Results.{Result}
use Rattle.machine.specs.Grants.{Grants, fresh_grants}
use Rattle.machine.specs.Machine.{step}
use Rattle.history.specs.History.{Waiting, Aborting, Ended, Delivery}
use Rattle.history.specs.Recorded.{run_from, fresh_run, history_by}
use Rattle.history.specs.Claim.{Claim}
use Rattle.history.specs.Tied.{NotesFirst}
use Rattle.machine.proofs.Calls.Ticks.{ticks_kept}
use Rattle.machine.proofs.Lists.{clash}
use Rattle.history.proofs.Computed.{computed}
use Rattle.examples.proofs.Refuting.{unended}
use Rattle.examples.proofs.Wrong.{idler, remover, copier, boaster, taker, marker, repeater, thief, noter}
use Rattle.examples.proofs.Wrong.{lifo, hider, ghost, latecomer, refiller}

head_of : List ℕ → ℕ
head_of [] = 0
head_of (x ∷ l) = x

-- Threads 1 and 2 wait to send under badge 7; thread 3 runs, which may receive and abort.
abbrev pub two_lookups : List Call → List Call
two_lookups l =
    CreateThread 1 10 ∷ CreateThread 2 10 ∷ CreateEndpoint 0 ∷ Grant 1 0 1 7 ∷ Grant 2 0 1 7 ∷ Send 0 7 100
    ∷ Send 0 7 101 ∷ CreateThread 3 20 ∷ Grant 3 0 10 0 ∷ l

-- reported_ended: the second call 12 is answered 0, and the abort stands.
pub idler_fails :
    Claim (two_lookups (Abort 0 1 7 ∷ Abort 0 1 7 ∷ []))
    (history_by idler (two_lookups (Abort 0 1 7 ∷ Abort 0 1 7 ∷ []))) → ⊥
unfolding computed idler
idler_fails C = (C.reported_ended _ (inl refl) refl).ended.found

-- removed_exactly: the waiter of badge 8 is removed by the abort of badge 7.
abbrev one_other : List Call
one_other =
    CreateThread 1 10 ∷ CreateEndpoint 0 ∷ Grant 1 0 1 8 ∷ Send 0 8 200 ∷ CreateThread 3 20 ∷ Grant 3 0 8 0
    ∷ Abort 0 5 7 ∷ []

pub remover_fails : Claim one_other (history_by remover one_other) → ⊥
unfolding computed remover
remover_fails C = omega (arith, ap length (C.removed_exactly _ (inr (_, inl refl, refl))))

-- counted: nobody was looked at, and the answer counts 5.
abbrev none_queued : List Call
none_queued = CreateThread 1 10 ∷ CreateEndpoint 0 ∷ Grant 1 0 8 0 ∷ Abort 0 5 7 ∷ []

pub copier_fails : Claim none_queued (history_by copier none_queued) → ⊥
unfolding computed copier
copier_fails C = omega (arith, C.counted _ (inl refl))

-- reported_ended: the first call 12 is answered 0 with a waiter left.
pub boaster_fails :
    Claim (two_lookups (Abort 0 1 7 ∷ [])) (history_by boaster (two_lookups (Abort 0 1 7 ∷ []))) → ⊥
unfolding computed boaster
boaster_fails C = (C.reported_ended _ (inl refl) refl).ended.found

-- no_old_message: the delete ends the abort, and the receive after it takes a message queued under badge 7 before.
abbrev closed_then_taken : List Call
closed_then_taken =
    CreateThread 1 10 ∷ CreateThread 2 10 ∷ CreateThread 4 10 ∷ CreateEndpoint 0 ∷ Grant 1 0 1 7 ∷ Grant 2 0 1 7
    ∷ Grant 4 0 1 7 ∷ Send 0 7 100 ∷ Send 0 7 101 ∷ Send 0 7 102 ∷ CreateThread 3 20 ∷ Grant 3 0 14 0 ∷ Abort 0 1 7
    ∷ Delete 0 1 ∷ Receive 0 ∷ []

over : Ended
over =
    record {
      abort =
          record {
            endpoint = 0;
            badge = 7;
            began = 12;
            onto = 7 ∷ 8 ∷ 9 ∷ [];
            looked = 7 ∷ [];
            removed = 7 ∷ [];
          };
      by = 13;
      members = [];
    }

taken : Delivery
taken = record { place = 14; endpoint = 0; badge = 7; message = 102; queue = 9 ∷ []; handed = 9 ∷ [] }

pub taker_fails : Claim closed_then_taken (history_by taker closed_then_taken) → ⊥
unfolding computed taker over taken
taker_fails C = clash refl (C.no_old_message over (inl refl) taken (inl refl) (omega arith) 9 (inl refl))

-- not_more: the end mark's thread is destroyed, made anew and queues behind another, and the abort looks at both.
abbrev mark_again : List Call
mark_again =
    CreateThread 1 10 ∷ CreateThread 2 10 ∷ CreateThread 4 10 ∷ CreateEndpoint 0 ∷ Grant 1 0 1 7 ∷ Grant 2 0 1 8
    ∷ Grant 4 0 1 8 ∷ Send 0 7 100 ∷ Send 0 8 101 ∷ Send 0 8 102 ∷ CreateThread 3 20 ∷ Grant 3 0 8 0 ∷ Abort 0 1 7
    ∷ DestroyThread 4 ∷ CreateThread 5 40 ∷ Grant 5 0 1 8 ∷ Send 0 8 103 ∷ CreateThread 4 40 ∷ Grant 4 0 1 8
    ∷ Send 0 8 104 ∷ Abort 0 9 7 ∷ []

pub marker_fails : Claim mark_again (history_by marker mark_again) → ⊥
unfolding computed marker ghost
marker_fails C = omega (arith, C.not_more _ (inr (_, inl refl, refl)))

-- not_twice: broken off at a kept waiter, the abort looks at it again.
abbrev two_others : List Call
two_others =
    CreateThread 1 10 ∷ CreateThread 2 10 ∷ CreateEndpoint 0 ∷ Grant 1 0 1 8 ∷ Grant 2 0 1 8 ∷ Send 0 8 100
    ∷ Send 0 8 101 ∷ CreateThread 3 20 ∷ Grant 3 0 8 0 ∷ Abort 0 1 7 ∷ Abort 0 1 7 ∷ []

looked_again : Aborting
looked_again =
    record { endpoint = 0; badge = 7; began = 9; onto = 5 ∷ 6 ∷ []; looked = 5 ∷ 5 ∷ []; removed = [] }

pub repeater_fails : Claim two_others (history_by repeater two_others) → ⊥
unfolding computed repeater looked_again
repeater_fails C = (C.not_twice looked_again (inl (0, refl))).0 (inl refl)

-- every_look_of_an_abort: refused by 20, the call has removed the waiter of badge 8.
abbrev nobody_runs : List Call
nobody_runs = CreateThread 1 10 ∷ CreateEndpoint 0 ∷ Grant 1 0 1 8 ∷ Send 0 8 200 ∷ Abort 0 5 7 ∷ []

pub thief_fails : Claim nobody_runs (history_by thief nobody_runs) → ⊥
unfolding computed thief
thief_fails C = omega (arith, ap length C.every_look_of_an_abort)

-- reported_ended: thread 3's first abort has ended, by thread 6's call, and its note is used up in call 14; its next is
-- broken off in call 19, and call 20 is answered 0.
abbrev noted_work : List Call
noted_work =
    two_lookups
    (Abort 0 1 7 ∷ CreateThread 6 30 ∷ Grant 6 0 8 0 ∷ Abort 0 5 7 ∷ DestroyThread 6 ∷ Abort 0 1 7 ∷ Wait 0
    ∷ Send 0 7 102 ∷ Send 0 7 103 ∷ Interrupt 0 ∷ Abort 0 1 7 ∷ Abort 0 1 7 ∷ [])

pub noter_fails : Claim noted_work (history_by noter noted_work) → ⊥
unfolding computed noter
noter_fails = unended noted_work (history_by noter noted_work) refl refl

latest : Delivery
latest = record { place = 9; endpoint = 0; badge = 7; message = 101; queue = 5 ∷ 6 ∷ []; handed = 5 ∷ [] }

not_the_later : some (Send 0 7 100) ≡ some (Send 0 7 101) → ⊥
not_the_later h = let z : ◌≡◌ {A = ℕ} 100 101 = cc in omega (arith, z)

-- hands_over: of two messages the later is handed over.
pub lifo_fails : Claim (two_lookups (Receive 0 ∷ [])) (history_by lifo (two_lookups (Receive 0 ∷ []))) → ⊥
unfolding computed lifo head_of latest
lifo_fails C =
    let H = C.hands_over latest (inl refl) in
    let m : 5 ≡ H.message = ap head_of H.handed in
    not_the_later (ap (get_elem? (two_lookups (Receive 0 ∷ []))) m ∙ H.queued_by)

-- queues_are: who came by a call 7 does not send.
abbrev one_lookup : List Call
one_lookup = CreateThread 1 10 ∷ CreateEndpoint 0 ∷ Grant 1 0 1 7 ∷ Send 0 7 100 ∷ []

pub hider_fails : Claim one_lookup (history_by hider one_lookup) → ⊥
unfolding computed hider
hider_fails C = omega (arith, ap (λ (w : Waiting). length (w.messages 0)) (C.queues_are _ (inl refl)))

-- looks_at_waiters: the second call 12 counts a look at a thread that has gone.
abbrev gone_lookup : List Call
gone_lookup =
    CreateThread 1 10 ∷ CreateThread 2 10 ∷ CreateEndpoint 0 ∷ Grant 1 0 1 7 ∷ Grant 2 0 1 8 ∷ Send 0 7 100
    ∷ Send 0 8 101 ∷ CreateThread 3 20 ∷ Grant 3 0 8 0 ∷ Abort 0 1 7 ∷ DestroyThread 2 ∷ Abort 0 5 7 ∷ []

pub ghost_fails : Claim gone_lookup (history_by ghost gone_lookup) → ⊥
unfolding computed ghost
ghost_fails C = C.looks_at_waiters _ (inl refl) _ (inl refl)

-- NotesFirst: the endpoint of thread 1's abort is deleted, and its next abort call there is refused by 23.
abbrev pub noted_gone : List Call
noted_gone =
    CreateThread 2 5 ∷ CreateEndpoint 0 ∷ Grant 2 0 1 7 ∷ Send 0 7 100 ∷ CreateThread 3 5 ∷ Grant 3 0 1 7
    ∷ Send 0 7 101 ∷ CreateThread 1 10 ∷ Grant 1 0 8 0 ∷ Abort 0 1 7 ∷ CreateThread 6 11 ∷ Grant 6 0 4 0
    ∷ Delete 0 9 ∷ DestroyThread 6 ∷ []

pub latecomer_fails : NotesFirst latecomer → ⊥
unfolding computed latecomer
latecomer_fails N =
    let q : ◌≡◌ {A = ℕ} 23 0 = ap (λ (x : Answer). x.code) (N noted_gone 1 0 5 7 refl refl refl refl) in
    omega arith

-- "Nothing else changes a thread's ticks" than creation, destruction and the tick: a yield does.
abbrev TicksKept : (Grants → State → Call → Result) → Type 0
TicksKept f =
    (g : Grants) (s : State) (c : Call) → (number_of c ≡ 1 → ⊥) → (number_of c ≡ 2 → ⊥) → (number_of c ≡ 6 → ⊥)
    → (u : ℕ)
    → ((f g s c).state.threads u).ticks ≡ (s.threads u).ticks

pub step_keeps : TicksKept step
step_keeps = ticks_kept

pub refiller_fails : TicksKept refiller → ⊥
unfolding computed refiller
refiller_fails K =
    let q : ◌≡◌ {A = ℕ} 5 4 =
    K fresh_grants (run_from step (CreateThread 1 10 ∷ Tick ∷ []) fresh_run).state Yield (λ h. omega arith)
    (λ h. omega arith) (λ h. omega arith) 1 in omega arith
