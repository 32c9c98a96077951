-- The statements on who hears an abort's end bite: machines in which a member does not hear it, or somebody hears it
-- who is no member, and the statement that each makes false.
use Prim.Native.Nat.{ℕ}
use mathlib.Core.Path.{◌≡◌, refl, ap}
use mathlib.Core.Logic.{inl, inr}
use mathlib.Core.Bool.{Bool, true, false, ◌&&◌, not}
use mathlib.Core.Option.{Option, none, some}
use mathlib.Core.List.{List, [], ◌∷◌, ◌++◌}
use native.Mathlib.Omega.{arith}
use lib.Dec.{eqb}
use lib.ListN.{length, take, drop}
use Rattle.calls.specs.declared.Answer.{Answer}
use Rattle.calls.specs.declared.Call.{Call}
use Rattle.calls.specs.declared.Call.TheVariants.{CreateThread, DestroyThread, SetPriority, CreateEndpoint}
use Rattle.calls.specs.declared.Call.TheVariants.{Tick, Send, Yield, Abort, Grant}
use Rattle.calls.specs.Calls.{number_of, endpoint_of}
use Rattle.machine.specs.Lists.{pick, without, first, Mem}
use Rattle.machine.specs.State.{State, Debt, nothing, works, noted, Endpoint, set_thread, with_debt}
use Rattle.machine.specs.Endpoints.{under_abort, is_aborting, members_of, drop_debt}
use Rattle.machine.specs.Results.{Result}
use Rattle.calls.specs.Answers.{is_accepted}
use Rattle.machine.specs.Grants.{Grants}
use Rattle.machine.specs.Aborts.{join, has_note}
use Rattle.machine.specs.Machine.{is_running, step}
use Rattle.history.specs.History.{Aborting, Ended, Reported, NamedLook}
use Rattle.history.specs.Walk.{is_none}
use Rattle.history.specs.Recorded.{history_by}
use Rattle.history.specs.Claim.{Claim}
use Rattle.history.specs.Tied.{NotesFirst}
use Rattle.history.specs.Heard.{Twice, SameAbort}
use Rattle.history.proofs.Computed.{computed}
use Rattle.examples.proofs.Histories.{joiners}
use Rattle.examples.proofs.Refuting.{unended, looks_astray}
use Rattle.examples.proofs.Wrong.{instead12, with_state, note_for}
use Rattle.examples.proofs.Bites.{two_lookups, noted_gone}

-- The case of two joiners: who began is broken off in call 16 and calls again in call 26, with more calls made behind
-- call 16; a joiner is broken off in call 18 and calls again in call 28.
abbrev beginner : List Call → Twice
beginner more =
    record {
      thread = 11;
      endpoint = 0;
      badge = 7;
      before = take 16 joiners;
      once = 1;
      between = more ++ take 9 (drop 17 joiners);
      again = 5;
    }

abbrev joiner : Twice
joiner =
    record {
      thread = 12;
      endpoint = 0;
      badge = 7;
      before = take 18 joiners;
      once = 1;
      between = take 9 (drop 19 joiners);
      again = 5;
    }

-- The abort of both, and a look that removes the new holder's message.
abbrev sixteen : Reported
sixteen = record { endpoint = 0; badge = 7; began = 16 }

abbrev removed : ℕ → NamedLook
removed w = record { waiter = w; removed = true }

-- The thread leaves its set or loses its note; so does it after a call, if the flag says so.
abbrev let_go : Option ℕ → State → State
let_go none s = s
let_go (some t) s = drop_debt t s

abbrev quits : Bool → Option ℕ → Result → Result
quits b o r = with_state (pick b (let_go o r.state) r.state) r

-- The members of the set but the caller.
abbrev others : Option ℕ → List ℕ → List ℕ
others none l = l
others (some t) l = without t l

-- Whoever joins those who work on an abort keeps nothing, and when it calls again begins a new one.
unfoldable pub forgetful : Grants → State → Call → Result
forgetful g s c =
    instead12
    (λ e a b.
    quits (eqb (step g s (Abort e a b)).answer.code 2 && not (is_none (others s.runs (members_of e s)))) s.runs
    (step g s (Abort e a b)))
    c (step g s c)

pub forgetful_fails : SameAbort forgetful → ⊥
unfolding computed forgetful
forgetful_fails = looks_astray forgetful joiner sixteen (removed 24) refl refl refl (inl refl) refl refl

-- Nor does the claim hold of it: call 28 looks at a waiter for no abort.
pub forgetful_strays : Claim joiners (history_by forgetful joiners) → ⊥
unfolding computed forgetful
forgetful_strays C = omega (arith, ap length C.every_look_of_an_abort)

-- A refusal with this code takes its caller from the set: of a message under the aborted badge, or without the right.
unfoldable pub sulker : ℕ → Grants → State → Call → Result
sulker n g s c = quits (eqb (step g s c).answer.code n) s.runs (step g s c)

pub sulker_26_fails : SameAbort (sulker 26) → ⊥
unfolding computed sulker
sulker_26_fails =
    looks_astray (sulker 26) (beginner (Grant 11 0 9 7 ∷ Send 0 7 9 ∷ [])) sixteen (removed 26) refl refl refl
    (inl refl) refl refl

pub sulker_29_fails : SameAbort (sulker 29) → ⊥
unfolding computed sulker
sulker_29_fails =
    looks_astray (sulker 29) (beginner (Send 0 7 9 ∷ [])) sixteen (removed 25) refl refl refl (inl refl) refl refl

-- A tick takes whoever runs from the set.
unfoldable pub ticker : Grants → State → Call → Result
ticker g s c = quits (eqb (number_of c) 6) s.runs (step g s c)

pub ticker_fails : SameAbort ticker → ⊥
unfolding computed ticker
ticker_fails = looks_astray ticker (beginner (Tick ∷ [])) sixteen (removed 25) refl refl refl (inl refl) refl refl

-- Whoever is displaced leaves the set.
abbrev stops : Option ℕ → Option ℕ → Bool
stops none o = false
stops (some t) o = not (is_running t o)

unfoldable pub deserter : Grants → State → Call → Result
deserter g s c = quits (stops s.runs (step g s c).state.runs) s.runs (step g s c)

pub deserter_fails : SameAbort deserter → ⊥
unfolding computed deserter
deserter_fails = looks_astray deserter (beginner []) sixteen (removed 24) refl refl refl (inl refl) refl refl

-- The notes that a call leaves with those who were members before it: who gets one has it if the test says so.
abbrev hearing : Bool → Debt → Debt → Debt
hearing k nothing d = d
hearing k (noted e b) d = d
hearing k (works e) nothing = nothing
hearing k (works e) (works f) = works f
hearing k (works e) (noted f b) = pick k (noted f b) nothing

abbrev heard_by : (ℕ → Bool) → State → Result → Result
heard_by test s r =
    with_state
    (record {
      threads = λ t. with_debt (hearing (test t) (s.threads t).debt (r.state.threads t).debt) (r.state.threads t);
      runs = r.state.runs;
      levels = r.state.levels;
      endpoints = r.state.endpoints;
      lines = r.state.lines;
    }) r

-- Nobody hears of an abort that a call of this number ends, 12 or 11.
unfoldable pub mute : ℕ → Grants → State → Call → Result
mute n g s c = heard_by (λ t. not (eqb (number_of c) n)) s (step g s c)

pub mute_12_fails : SameAbort (mute 12) → ⊥
unfolding computed mute
mute_12_fails = looks_astray (mute 12) (beginner []) sixteen (removed 24) refl refl refl (inl refl) refl refl

-- NotesFirst: the endpoint is gone, and the call is refused by 23.
pub mute_11_fails : NotesFirst (mute 11) → ⊥
unfolding computed mute
mute_11_fails N =
    let q : ◌≡◌ {A = ℕ} 23 0 = ap (λ (x : Answer). x.code) (N noted_gone 1 0 5 7 refl refl refl refl) in
    omega arith

-- The lowest member alone hears of it.
unfoldable pub favourer : Grants → State → Call → Result
favourer g s c =
    heard_by (λ t. is_running t (first (others s.runs (members_of (endpoint_of c) s)))) s (step g s c)

pub favourer_fails : SameAbort favourer → ⊥
unfolding computed favourer
favourer_fails = looks_astray favourer joiner sixteen (removed 24) refl refl refl (inl refl) refl refl

-- Whose call ends an abort gets a note too.
unfoldable pub blabber : Grants → State → Call → Result
blabber g s c =
    instead12
    (λ e a b.
    with_state
    (pick (eqb (step g s (Abort e a b)).answer.code 0) (note_for s.runs e b (step g s (Abort e a b)).state)
    (step g s (Abort e a b)).state)
    (step g s (Abort e a b)))
    c (step g s c)

-- reported_ended: thread 3's abort ends in call 3, with nobody to look at; then a message is queued, and call 7 is
-- answered 0.
abbrev ended_alone : List Call
ended_alone =
    CreateThread 3 20 ∷ CreateEndpoint 0 ∷ Grant 3 0 8 0 ∷ Abort 0 5 7 ∷ CreateThread 4 30 ∷ Grant 4 0 1 7
    ∷ Send 0 7 102 ∷ Abort 0 5 7 ∷ []

pub blabber_fails : Claim ended_alone (history_by blabber ended_alone) → ⊥
unfolding computed blabber
blabber_fails = unended ended_alone (history_by blabber ended_alone) refl refl

-- Whoever yields stays in its set.
abbrev keeping : Option ℕ → State → State → State
keeping none s r = r
keeping (some t) s r = set_thread t (with_debt (s.threads t).debt (r.threads t)) r

unfoldable pub clinger : Grants → State → Call → Result
clinger g s c =
    with_state (pick (eqb (number_of c) 9) (keeping s.runs s (step g s c).state) (step g s c).state) (step g s c)

-- reported_ended: thread 3 begins in call 9 and leaves the set; thread 6 ends the abort in call 13, a message is
-- queued, and call 18 is answered 0.
abbrev left_then_ended : List Call
left_then_ended =
    two_lookups
    (Abort 0 1 7 ∷ Yield ∷ CreateThread 6 30 ∷ Grant 6 0 8 0 ∷ Abort 0 5 7 ∷ DestroyThread 6 ∷ CreateThread 4 30
    ∷ Grant 4 0 1 7 ∷ Send 0 7 102 ∷ Abort 0 5 7 ∷ [])

pub clinger_fails : Claim left_then_ended (history_by clinger left_then_ended) → ⊥
unfolding computed clinger
clinger_fails = unended left_then_ended (history_by clinger left_then_ended) refl refl

-- Whoever works on another badge's abort on the way to its own is in its set.
abbrev joins : Bool → Option ℕ → ℕ → State → State
joins false o e s = s
joins true none e s = s
joins true (some t) e s = join t e s

unfoldable pub helper : Grants → State → Call → Result
helper g s c =
    instead12
    (λ e a b.
    with_state
    (joins
    (eqb (step g s (Abort e a b)).answer.code 2 && is_aborting ((step g s (Abort e a b)).state.endpoints e).abort)
    s.runs e (step g s (Abort e a b)).state)
    (step g s (Abort e a b)))
    c (step g s c)

-- reported_ended: thread 5 is broken off in call 15 in the abort that 3 began in call 12 and ends in call 17; a
-- message is queued, and its call 22 is answered 0.
abbrev helped_then_ended : List Call
helped_then_ended =
    CreateThread 1 10 ∷ CreateThread 2 10 ∷ CreateThread 4 10 ∷ CreateEndpoint 0 ∷ Grant 1 0 1 7 ∷ Grant 2 0 1 7
    ∷ Grant 4 0 1 7 ∷ Send 0 7 100 ∷ Send 0 7 101 ∷ Send 0 7 102 ∷ CreateThread 3 20 ∷ Grant 3 0 8 0 ∷ Abort 0 1 7
    ∷ CreateThread 5 30 ∷ Grant 5 0 8 0 ∷ Abort 0 1 8 ∷ SetPriority 5 10 ∷ Abort 0 5 7 ∷ SetPriority 5 30
    ∷ CreateThread 6 40 ∷ Grant 6 0 1 7 ∷ Send 0 7 103 ∷ Abort 0 5 7 ∷ []

pub helper_fails : Claim helped_then_ended (history_by helper helped_then_ended) → ⊥
unfolding computed helper
helper_fails = unended helped_then_ended (history_by helper helped_then_ended) refl refl

-- Answered from its note, its caller is in the set of a new abort that stands there under the badge.
abbrev had_note : Option ℕ → ℕ → ℕ → State → Bool
had_note none e b s = false
had_note (some t) e b s = has_note e b (s.threads t).debt

unfoldable pub twin : Grants → State → Call → Result
twin g s c =
    instead12
    (λ e a b.
    with_state
    (joins
    (is_accepted (step g s (Abort e a b)).answer
    && (had_note s.runs e b s && under_abort b (s.endpoints e).abort)) s.runs e (step g s (Abort e a b)).state)
    (step g s (Abort e a b)))
    c (step g s c)

-- reported_ended: thread 3 begins in call 9 and 6 ends that in call 12; 6 begins anew in call 21 and is broken off, 3
-- is answered from its note in call 23, and 6 ends its abort in call 25. A message is queued, and 3's call 30 is
-- answered 0.
abbrev noted_twice : List Call
noted_twice =
    two_lookups
    (Abort 0 1 7 ∷ CreateThread 6 30 ∷ Grant 6 0 8 0 ∷ Abort 0 5 7 ∷ CreateThread 4 40 ∷ Grant 4 0 1 7 ∷ Send 0 7 102
    ∷ CreateThread 5 40 ∷ Grant 5 0 1 7 ∷ Send 0 7 103 ∷ SetPriority 4 5 ∷ SetPriority 5 5 ∷ Abort 0 1 7
    ∷ SetPriority 6 15 ∷ Abort 0 5 7 ∷ SetPriority 6 30 ∷ Abort 0 5 7 ∷ CreateThread 7 40 ∷ Grant 7 0 1 7
    ∷ Send 0 7 104 ∷ SetPriority 6 15 ∷ Abort 0 5 7 ∷ [])

pub twin_fails : Claim noted_twice (history_by twin noted_twice) → ⊥
unfolding computed twin
twin_fails = unended noted_twice (history_by twin noted_twice) refl refl

-- An abort whose set is empty does not stand on.
abbrev ending : State → ℕ → Endpoint → Endpoint
ending s e x =
    record { status = x.status; waiters = x.waiters; abort = pick (is_none (members_of e s)) none x.abort }

abbrev emptied : State → State
emptied s =
    record {
      threads = s.threads;
      runs = s.runs;
      levels = s.levels;
      endpoints = λ e. ending s e (s.endpoints e);
      lines = s.lines;
    }

unfoldable pub quencher : Grants → State → Call → Result
quencher g s c = with_state (emptied (step g s c).state) (step g s c)

-- only_those: thread 3 leaves the set of the abort that it began in call 9, a message is queued in call 13, and call 14
-- looks at it.
abbrev left_alone : List Call
left_alone =
    two_lookups (Abort 0 1 7 ∷ Yield ∷ CreateThread 4 30 ∷ Grant 4 0 1 7 ∷ Send 0 7 102 ∷ Abort 0 5 7 ∷ [])

looked_past : Aborting
looked_past =
    record {
      endpoint = 0;
      badge = 7;
      began = 9;
      onto = 5 ∷ 6 ∷ [];
      looked = 5 ∷ 6 ∷ 13 ∷ [];
      removed = 5 ∷ 6 ∷ 13 ∷ [];
    }

quenched : Ended
quenched = record { abort = looked_past; by = 14; members = [] }

not_onto_13 : Mem 13 (5 ∷ 6 ∷ []) → ⊥
not_onto_13 (inl e) = omega (arith, e)
not_onto_13 (inr (inl e)) = omega (arith, e)
not_onto_13 (inr (inr z)) = z

pub quencher_fails : Claim left_alone (history_by quencher left_alone) → ⊥
unfolding computed quencher looked_past quenched
quencher_fails C =
    not_onto_13 (C.only_those looked_past (inr (quenched, inl refl, refl)) 13 (inr (inr (inl refl))))
