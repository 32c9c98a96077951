-- Machines that hand over, lose, hide, double or reorder a message, and what the claim says to each.
use Prim.Native.Nat.{ℕ, suc}
use mathlib.Core.Path.{◌≡◌, refl, sym, ap, subst, ◌∙◌}
use mathlib.Core.Logic.{inl, inr}
use mathlib.Core.Bool.{Bool, true, false, ◌&&◌, not}
use mathlib.Core.Option.{Option, none, some, some-injective}
use mathlib.Core.List.{List, [], ◌∷◌}
use native.Mathlib.Omega.{arith}
use lib.ListN.{length}
use lib.Dec.{eqb}
use Rattle.calls.specs.declared.Call.{Call}
use Rattle.calls.specs.declared.Call.TheVariants.{CreateThread, DestroyThread, SetPriority, CreateEndpoint}
use Rattle.calls.specs.declared.Call.TheVariants.{Interrupt, Tick, Send, Receive, Yield, Wait, Delete, Abort}
use Rattle.calls.specs.declared.Call.TheVariants.{Grant}
use Rattle.calls.specs.Calls.{number_of}
use Rattle.machine.specs.Lists.{pick, first}
use Rattle.machine.specs.State.{State, Thread, set_endpoint, set_thread, able, with_place}
use Rattle.machine.specs.Scheduling.{choose}
use Rattle.machine.specs.Endpoints.{is_sending, receivers, pending_of, leave_endpoint, join_endpoint, wake_from}
use Rattle.machine.specs.Results.{Result}
use Rattle.calls.specs.Answers.{plain, is_accepted}
use Rattle.machine.specs.Grants.{Grants}
use Rattle.machine.specs.Machine.{is_able, step}
use Rattle.history.specs.History.{Waiting, Step, waiting_by, is_in}
use Rattle.history.specs.Recorded.{history_by}
use Rattle.history.specs.Claim.{Claim, In}
use Rattle.history.specs.Queues.{nobody_queued}
use Rattle.history.specs.Blocks.{no_blocks}
use Rattle.machine.proofs.Preserved.Ready.{none_some}
use Rattle.history.proofs.Computed.{computed}

abbrev pub instead : State → Result → Result
instead s r = record { state = s; answer = r.answer; looks = r.looks }

-- limbo: an interrupt takes the cursor's waiter out of the queue.
abbrev lost : List ℕ → State → State
lost [] s = s
lost (w ∷ l) s = leave_endpoint w 0 s

abbrev in_limbo : State → Bool
in_limbo s = is_sending (s.threads 2).place && not (is_in 2 (s.endpoints 0).waiters)

abbrev found : Option ℕ → State → State
found none s = s
found (some t) s = choose (wake_from 0 t 2 (s.threads 2).badge (s.threads 2).message s)

unfoldable pub limbo : Grants → State → Call → Result
limbo g s c =
    pick (eqb (number_of c) 5) (instead (lost (pending_of (s.endpoints 0).abort) (step g s c).state) (step g s c))
    (pick (eqb (number_of c) 6 && in_limbo s)
    (instead (found (first (receivers s.threads (s.endpoints 0).waiters)) s) (step g s c)) (step g s c))

abbrev pub two : List Call → List Call
two l =
    CreateThread 1 10 ∷ CreateThread 2 10 ∷ CreateEndpoint 0 ∷ Grant 1 0 1 7 ∷ Grant 2 0 1 7 ∷ Send 0 7 100
    ∷ Send 0 7 101 ∷ CreateThread 3 20 ∷ Grant 3 0 14 0 ∷ l

abbrev pub queued0 : Waiting → ℕ
queued0 w = length (w.queues 0)

-- queues_are, at the interrupt, and so after whatever comes then.
abbrev in_limbo_lem : List Call
in_limbo_lem = two (Abort 0 1 7 ∷ Interrupt 0 ∷ Abort 0 5 7 ∷ Receive 0 ∷ Tick ∷ [])

pub limbo_fails : Claim in_limbo_lem (history_by limbo in_limbo_lem) → ⊥
unfolding computed limbo
limbo_fails C = omega (arith, ap queued0 (C.queues_are _ (inr (inr (inr (inl refl))))))

badge_in7 : Call → ℕ
badge_in7 (CreateThread t p) = 0
badge_in7 (DestroyThread t) = 0
badge_in7 (SetPriority t p) = 0
badge_in7 (CreateEndpoint f) = 0
badge_in7 (Interrupt l) = 0
badge_in7 Tick = 0
badge_in7 (Send f c m) = suc c
badge_in7 (Receive f) = 0
badge_in7 Yield = 0
badge_in7 (Wait l) = 0
badge_in7 (Delete f a) = 0
badge_in7 (Abort f a c) = 0
badge_in7 (Grant t f r c) = 0

abbrev badge_of : Option Call → ℕ
badge_of none = 0
badge_of (some c) = badge_in7 c

-- handed_own: a tick hands the old message.
pub limbo_hands : Claim in_limbo_lem (history_by limbo in_limbo_lem) → ⊥
unfolding computed limbo badge_in7
limbo_hands C =
    let H = C.handed_own _ (inl refl) 3 _ refl in
    let q : ◌≡◌ {A = ℕ} 0 (suc 7) = ap badge_of H.made ∙ ap badge_in7 H.gives.own in omega (arith, q)

-- undead: call 2 is answered 0 and does nothing.
unfoldable pub undead : Grants → State → Call → Result
undead g s c =
    pick (eqb (number_of c) 2 && is_accepted (step g s c).answer) (record { state = s; answer = plain 0; looks = [] })
    (step g s c)

abbrev destroyed : List Call
destroyed =
    CreateThread 1 10 ∷ CreateEndpoint 0 ∷ Grant 1 0 1 7 ∷ Send 0 7 100 ∷ CreateThread 3 20 ∷ Grant 3 0 2 0
    ∷ DestroyThread 1 ∷ Receive 0 ∷ []

-- queues_are
pub undead_fails : Claim destroyed (history_by undead destroyed) → ⊥
unfolding computed undead
undead_fails C = omega (arith, ap queued0 (C.queues_are _ (inr (inl refl))))

-- parrot: a receiver that waits is handed an old message of another.
abbrev pub with_words : ℕ → ℕ → Thread → Thread
with_words b m x =
    record {
      place = x.place;
      priority = x.priority;
      ticks = x.ticks;
      outcome = x.outcome;
      badge = b;
      message = m;
      debt = x.debt;
    }

-- Thread 1 has been handed a message where it waited, and thread 2 waits to send.
abbrev pub test : Thread → Thread → Bool
test x y = is_able x.place && eqb x.outcome 2 && is_sending y.place

-- Their badges and messages are exchanged.
unfoldable pub swapped : (ℕ → Thread) → ℕ → Thread
swapped f t =
    pick (eqb t 1) (with_words (f 2).badge (f 2).message (f 1))
    (pick (eqb t 2) (with_words (f 1).badge (f 1).message (f 2)) (f t))

unfoldable pub exchanged_if : Bool → (ℕ → Thread) → ℕ → Thread
exchanged_if true f = swapped f
exchanged_if false f = f

unfoldable pub exchanged : (ℕ → Thread) → ℕ → Thread
exchanged f = exchanged_if (test (f 1) (f 2)) f

-- The state so seen.
abbrev pub muddle : State → State
muddle s =
    record {
      threads = exchanged s.threads;
      runs = s.runs;
      levels = s.levels;
      endpoints = s.endpoints;
      lines = s.lines;
    }

abbrev pub muddled : Result → Result
muddled r = record { state = muddle r.state; answer = r.answer; looks = r.looks }

-- The machine.
unfoldable pub parrot : Grants → State → Call → Result
parrot g s c = muddled (step g (muddle s) c)

abbrev old_handed : List Call
old_handed =
    CreateThread 5 10 ∷ CreateThread 2 10 ∷ CreateEndpoint 0 ∷ CreateEndpoint 1 ∷ Grant 5 0 1 8 ∷ Grant 2 0 1 7
    ∷ Send 0 8 99 ∷ Send 0 7 100 ∷ CreateThread 3 20 ∷ Grant 3 0 12 0 ∷ Abort 0 1 7 ∷ Delete 0 1
    ∷ CreateThread 1 30 ∷ Grant 1 1 2 0 ∷ Receive 1 ∷ Grant 3 1 1 9 ∷ Send 1 9 500 ∷ []

-- handed_own
pub parrot_fails : Claim old_handed (history_by parrot old_handed) → ⊥
unfolding computed parrot exchanged exchanged_if swapped badge_in7
parrot_fails C =
    let H = C.handed_own _ (inl refl) 1 _ refl in
    let q : ◌≡◌ {A = ℕ} (suc 9) (suc 7) = ap badge_of H.made ∙ ap badge_in7 H.gives.own in omega (arith, q)

-- After a call of this number something else is done to the state.
unfoldable pub meddles : ℕ → (State → State) → Grants → State → Call → Result
meddles n f g s c = pick (eqb (number_of c) n) (instead (f (step g s c).state) (step g s c)) (step g s c)

abbrev with_queue : ℕ → List ℕ → State → State
with_queue e q s =
    set_endpoint e (record { status = (s.endpoints e).status; waiters = q; abort = (s.endpoints e).abort }) s

abbrev head_of : List ℕ → ℕ
head_of [] = 0
head_of (x ∷ l) = x

abbrev first0 : Waiting → ℕ
first0 w = head_of (w.queues 0)

-- A grant drops a waiter, a tick turns the queue about, a tick queues one twice, an interrupt moves one elsewhere:
-- queues_are.
pub dropper_fails : Claim (two []) (history_by (meddles 13 (with_queue 0 [])) (two [])) → ⊥
unfolding computed meddles
dropper_fails C = omega (arith, ap queued0 (C.queues_are _ (inl refl)))

pub shuffler_fails : Claim (two (Tick ∷ [])) (history_by (meddles 6 (with_queue 0 (2 ∷ 1 ∷ []))) (two (Tick ∷ []))) → ⊥
unfolding computed meddles
shuffler_fails C = omega (arith, ap first0 (C.queues_are _ (inl refl)))

pub doubler_fails : Claim (two (Tick ∷ [])) (history_by (meddles 6 (with_queue 0 (1 ∷ 2 ∷ 2 ∷ []))) (two (Tick ∷ [])))
    → ⊥
unfolding computed meddles
doubler_fails C = omega (arith, ap queued0 (C.queues_are _ (inl refl)))

pub mover_fails :
    Claim (two (Interrupt 0 ∷ []))
    (history_by (meddles 5 (λ s. join_endpoint 2 1 (leave_endpoint 2 0 s))) (two (Interrupt 0 ∷ []))) → ⊥
unfolding computed meddles
mover_fails C = omega (arith, ap queued0 (C.queues_are _ (inl refl)))

-- A send answered 1 queues nobody; a delete takes the last instead of the first: queues_are.
pub nobody_fails : Claim (two []) (history_by (meddles 7 (with_queue 0 [])) (two [])) → ⊥
unfolding computed meddles
nobody_fails C = omega (arith, ap queued0 (C.queues_are _ (inl refl)))

pub tail_fails :
    Claim (two (Delete 0 1 ∷ [])) (history_by (meddles 11 (with_queue 0 (1 ∷ []))) (two (Delete 0 1 ∷ []))) → ⊥
unfolding computed meddles
tail_fails C = omega (arith, ap first0 (C.queues_are _ (inl refl)))

-- A tick writes an old message into a block: handed_own.
pub scribbler_fails :
    Claim (two (Tick ∷ []))
    (history_by (meddles 6 (λ s. set_thread 3 (with_place able 2 7 100 (s.threads 3)) s)) (two (Tick ∷ []))) → ⊥
unfolding computed meddles badge_in7
scribbler_fails C =
    let H = C.handed_own _ (inl refl) 3 _ refl in
    let q : ◌≡◌ {A = ℕ} 0 (suc 7) = ap badge_of H.made ∙ ap badge_in7 H.gives.own in omega (arith, q)

-- A send answered 0 wakes its receiver with nothing: every_handing.
abbrev pub to_waiting : List Call
to_waiting =
    CreateThread 1 30 ∷ CreateEndpoint 0 ∷ Grant 1 0 2 0 ∷ Receive 0 ∷ CreateThread 3 20 ∷ Grant 3 0 1 9
    ∷ Send 0 9 500 ∷ []

unfoldable pub endpoint_in7 : Call → ℕ
endpoint_in7 (CreateThread t p) = 9
endpoint_in7 (DestroyThread t) = 9
endpoint_in7 (SetPriority t p) = 9
endpoint_in7 (CreateEndpoint f) = 9
endpoint_in7 (Interrupt l) = 9
endpoint_in7 Tick = 9
endpoint_in7 (Send f c m) = f
endpoint_in7 (Receive f) = 9
endpoint_in7 Yield = 9
endpoint_in7 (Wait l) = 9
endpoint_in7 (Delete f a) = 9
endpoint_in7 (Abort f a c) = 9
endpoint_in7 (Grant t f r c) = 9

abbrev pub endpoint_of : Option Call → ℕ
endpoint_of none = 9
endpoint_of (some c) = endpoint_in7 c

unfoldable pub mute : Grants → State → Call → Result
mute g s c = meddles 7 (λ r. set_thread 1 (with_place able 1 0 0 (r.threads 1)) r) g s c

abbrev no_step : Step
no_step =
    record {
      place = 0;
      before = nobody_queued;
      was = waiting_by (λ t. 0) [] nobody_queued;
      kept = waiting_by (λ t. 0) [] nobody_queued;
      found = waiting_by (λ t. 0) [] nobody_queued;
      handed = λ t. none;
      kept_blocks = no_blocks;
      found_blocks = no_blocks;
    }

abbrev pub latest_of : List Step → Step
latest_of [] = no_step
latest_of (x ∷ l) = x

abbrev last6 : Step
last6 = latest_of (history_by mute to_waiting).books.steps

-- every_handing
pub mute_fails : Claim to_waiting (history_by mute to_waiting) → ⊥
unfolding computed meddles mute endpoint_in7
mute_fails C =
    let G = C.every_handing 6 0 9 500 (plain 0) refl refl refl in go G.0 G.1 G.2 G.3 G.4
  where
    at1 : (t : ℕ) → t ≡ 1 → last6.handed t ≡ some (record { badge = 9; message = 500 }) → ⊥
    at1 t z q = none_some refl (subst (λ (u : ℕ). last6.handed u ≡ some (record { badge = 9; message = 500 })) z q)

    is1 : (t : ℕ) → last6.handed t ≡ some (record { badge = 9; message = 500 }) → t ≡ 1
    is1 t q =
        let H = C.handed_own last6 (inl refl) t _ q in
        let e : 0 ≡ H.gives.endpoint = ap endpoint_of H.made ∙ ap endpoint_in7 H.gives.own in
        let f : some 1 ≡ some t =
        ap (λ (k : ℕ). first (last6.before.queues k)) e ∙ H.gives.longest in sym (some-injective 1 t f)

    go : (x : Step) (t : ℕ) → In x (history_by mute to_waiting).books.steps → x.place ≡ 6
        → x.handed t ≡ some (record { badge = 9; message = 500 }) → ⊥
    go x t (inl p) n q =
        let k = subst (λ (y : Step). y.handed t ≡ some (record { badge = 9; message = 500 })) p q in at1 t (is1 t k) k
    go x t (inr (inl p)) n q = omega (arith, sym (ap (λ (y : Step). y.place) p) ∙ n)
    go x t (inr (inr (inl p))) n q = omega (arith, sym (ap (λ (y : Step). y.place) p) ∙ n)
    go x t (inr (inr (inr (inl p)))) n q = omega (arith, sym (ap (λ (y : Step). y.place) p) ∙ n)
    go x t (inr (inr (inr (inr (inl p))))) n q = omega (arith, sym (ap (λ (y : Step). y.place) p) ∙ n)
    go x t (inr (inr (inr (inr (inr (inl p)))))) n q = omega (arith, sym (ap (λ (y : Step). y.place) p) ∙ n)
    go x t (inr (inr (inr (inr (inr (inr (inl p))))))) n q = omega (arith, sym (ap (λ (y : Step). y.place) p) ∙ n)
    go x t (inr (inr (inr (inr (inr (inr (inr p))))))) n q = absurd p
