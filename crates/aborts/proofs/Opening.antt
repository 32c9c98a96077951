-- The way into the work: the note, the status, the caller's other debts, and the abort that stands at the endpoint.
use Prim.Native.Nat.{ℕ, ◌≤◌, ◌<◌, ◌^◌}
use mathlib.Core.Path.{◌≡◌, refl, sym, ◌∙◌, ap}
use mathlib.Core.Bool.{Bool, true, false}
use mathlib.Core.Option.{Option, none, some}
use mathlib.Core.List.{List, []}
use native.Mathlib.Omega.{arith}
use Rattle.std.specs.Prelude.{Ok, Err}
use Rattle.calls.specs.declared.Answer.{Answer}
use Rattle.calls.specs.declared.Refusal.{Refusal}
use Rattle.machine.specs.State.{State, Abort, Status, live}
use Rattle.machine.specs.Endpoints.{under_abort, is_aborting, drop_debt}
use Rattle.calls.specs.Answers.{plain, code_of}
use Rattle.machine.specs.Aborts.{work_other, under_badge, abort_from, abort_open, abort_at, abort_unless}
use Rattle.machine.specs.Aborts.{abort}
use Rattle.machine.specs.Sound.{Sound}
use Rattle.machine.proofs.Lists.{clash}
use Rattle.machine.proofs.Preserved.Mid.{sound_mid}
use Rattle.machine.proofs.Preserved.Debts.{mid_drop_debt, drop_debt_drops}
use Rattle.layout.specs.declared.Part.{Part}
use Rattle.layout.specs.Words.{abort_code}
use Rattle.layout.specs.Shows.{Shows}
use Rattle.store.specs.Steps.{Shown, Does, Tells}
use Rattle.store.specs.Store.{IsThread, IsEndpoint}
use Rattle.store.specs.Readings.{endpoint_in}
use Rattle.queues.specs.Queues.{Chooses}
use Rattle.debts.specs.Debts.{Says, InCall, under_in, noted_in}
use Rattle.endings.specs.Results.{Calling, Performs, Accepts}
use Rattle.endings.specs.Tests.{Tests, endpoint_open}
use Rattle.endings.proofs.Ends.{performs_as, performs_for, performs_after, does_for, shown_for}
use Rattle.endings.proofs.Tests.{shut_refused, open_live}
use Rattle.endings.proofs.Conditions.{mid_chooses, running_thread, running_calls}
use Rattle.own_aborts.specs.Own.{Open, Joining, Continues, own_begun, joined_on}
use Rattle.aborts.specs.Aborts.{unnoted}

-- By the abort that stands: none, one of this badge, or one of another.

no_abort : (k : Option Abort) {r : ℕ} → r ≡ abort_code k → r ≡ 0 → k ≡ none
no_abort none i z = refl
no_abort (some a) i z = absurd (omega arith)

joins_under :
    {t e : ℕ} {s : State} (b : ℕ) → Open t e s → under_abort b (s.endpoints e).abort ≡ true → Joining t e s
joins_under {t} {e} {s} b O u = record { opened = O; stands = go (s.endpoints e).abort u }
  where
    go : (k : Option Abort) → under_abort b k ≡ true → is_aborting k ≡ true
    go none h = absurd (clash h refl)
    go (some a) h = refl

module _ {m : List ℕ} {t e : ℕ} (b : ℕ) where
  module _ {r : ℕ} (T : Tells m (IsEndpoint e) r (endpoint_in Part.Aborting e)) (z : r ≡ 0) where
    pub opens_none :
        {n : List ℕ} {x : Answer} (a : ℕ) → Continues m 0 x (Open t e) (own_begun t e b a) n
        → Performs m n x (Open t e) (abort_open t e a b)
    unfolding abort_open abort_from
    opens_none a C =
        performs_as (C.performs [] refl)
        (λ s M O.
        ap (λ (k : Option Abort). abort_from k t e a b s)
        (sym (no_abort (s.endpoints e).abort (T.tells s M O.endpoint) z)))

  module _ {u : Bool} (U : Says m (IsEndpoint e) u (under_in e b)) where
    module _ (z : u ≡ true) where
      same_badge : (s : State) → Shows m s → Open t e s → under_abort b (s.endpoints e).abort ≡ true
      same_badge s M O = sym (U.says s M O.endpoint) ∙ z

      pub joining_shown : Shown m (Open t e) → Shown m (Joining t e)
      joining_shown S =
          record {
            state = S.state;
            shows = S.shows;
            holds = joins_under b S.holds (same_badge S.state S.shows S.holds);
          }

      pub opens_same :
          {n : List ℕ} {x : Answer} (a : ℕ) → Performs m n x (Joining t e) (joined_on t e a)
          → Performs m n x (Open t e) (abort_open t e a b)
      unfolding abort_open abort_from under_badge
      opens_same a F =
          performs_as (performs_for F (λ s M O. joins_under b O (same_badge s M O)))
          (λ s M O. go s (same_badge s M O))
        where
          go : (s : State) → under_abort b (s.endpoints e).abort ≡ true → joined_on t e a s ≡ abort_open t e a b s
          go s h = case (s.endpoints e).abort refl h
            where
              case : (k : Option Abort) → (s.endpoints e).abort ≡ k → under_abort b k ≡ true
                  → joined_on t e a s ≡ abort_from k t e a b s
              case none i h = absurd (clash h refl)
              case (some x) i h = ap (λ (q : Bool). under_badge q t e a b s) (sym h)

    module _ (z : u ≡ false) where
      pub opens_other :
          {n : List ℕ} {x : Answer} {r : ℕ} (a : ℕ) → Tells m (IsEndpoint e) r (endpoint_in Part.Aborting e)
          → (r ≡ 0 → ⊥)
          → Performs m n x (Open t e) (work_other t e a b) → Performs m n x (Open t e) (abort_open t e a b)
      unfolding abort_open abort_from under_badge
      opens_other {r = r} a T n F =
          performs_as F
          (λ s M O. go s (T.tells s M O.endpoint) (sym (U.says s M O.endpoint) ∙ z))
        where
          go : (s : State) → r ≡ endpoint_in Part.Aborting e s → under_abort b (s.endpoints e).abort ≡ false
              → work_other t e a b s ≡ abort_open t e a b s
          go s i h = case (s.endpoints e).abort i h
            where
              case : (k : Option Abort) → r ≡ abort_code k → under_abort b k ≡ false
                  → work_other t e a b s ≡ abort_from k t e a b s
              case none i h = absurd (n i)
              case (some x) i h = ap (λ (q : Bool). under_badge q t e a b s) (sym h)

-- The caller leaves its set, or loses its note.

open_dropped : {t e : ℕ} {s : State} → Open t e s → Open t e (drop_debt t s)
open_dropped {t} {e} {s} O =
    let D = drop_debt_drops s t in
    record {
      mid = mid_drop_debt s t O.mid;
      endpoint = O.endpoint;
      runs = D.keeps.runs ∙ O.runs;
      status = D.status e ∙ O.status;
    }

-- What the call asks of its numbers.
abbrev Numbers : ℕ → ℕ → ℕ → Type 0
Numbers e a b = (e ≤ 63) × (a ≤ 65535) × (b < 2 ^ 28)

module _ {m : List ℕ} {t e a b : ℕ} where
  pub calls_asked : Shown m (Calling t (Numbers e a b)) → Shown m (InCall t e)
  calls_asked S = shown_for S (λ s C. running_calls (sound_mid C.sound) C.runs C.numbers.0)

  pub note_asked : Shown m (Calling t (Numbers e a b)) → Shown m (IsThread t)
  note_asked S = shown_for S (λ s C. running_thread (sound_mid C.sound) C.runs)

  pub endpoint_asked : Shown m (Calling t (Numbers e a b)) → Shown m (IsEndpoint e)
  endpoint_asked S = shown_for S (λ s C. C.numbers.0)

  pub not_open :
      {why : Refusal} → Tests m (IsEndpoint e) (Err why) (endpoint_open e)
      → Performs m m (plain (code_of why)) (Calling t (Numbers e a b)) (unnoted t e a b)
  unfolding abort_at
  not_open T = shut_refused (λ x s. abort_at x t e a b s) (λ s C. C.numbers.0) (λ s. refl) T (λ s. refl)

  module _ (T : Tests m (IsEndpoint e) (Ok tt) (endpoint_open e)) where
    live_at : (s : State) → Shows m s → Calling t (Numbers e a b) s → live ≡ (s.endpoints e).status
    live_at s M C = open_live T s M C.numbers.0

    open_at : (s : State) → Shows m s → Calling t (Numbers e a b) s → Open t e s
    open_at s M C =
        record {
          mid = sound_mid C.sound;
          endpoint = C.numbers.0;
          runs = C.runs;
          status = sym (live_at s M C);
        }

    module _ {o : List ℕ} (D : Does m o (IsThread t) (drop_debt t)) where
      pub open_asked : Shown m (Calling t (Numbers e a b)) → Shown o (Open t e)
      open_asked S =
          let C = S.holds in
          record {
            state = drop_debt t S.state;
            shows = D.shows S.state S.shows (running_thread (sound_mid C.sound) C.runs);
            holds = open_dropped (open_at S.state S.shows C);
          }

      pub opened :
          {q : List ℕ} {x : Answer} → Performs o q x (Open t e) (abort_open t e a b)
          → Performs m q x (Calling t (Numbers e a b)) (unnoted t e a b)
      unfolding abort_at
      opened F =
          performs_as
          (performs_after
          (does_for D (λ s C. running_thread (sound_mid C.sound) C.runs))
          (λ s M C. open_dropped (open_at s M C)) F)
          (λ s M C. ap (λ (x : Status). abort_at x t e a b s) (live_at s M C))

-- The note.

dropped_chooses : (t : ℕ) {s : State} → Sound s → Chooses (drop_debt t s)
dropped_chooses t {s} S = mid_chooses (mid_drop_debt s t (sound_mid S))

pub dropped_asked :
    {m n : List ℕ} {t : ℕ} {N : Type 0} → Does m n (IsThread t) (drop_debt t) → Shown m (Calling t N) → Shown n Chooses
dropped_asked {t = t} D S =
    let C = S.holds in
    record {
      state = drop_debt t S.state;
      shows = D.shows S.state S.shows (running_thread (sound_mid C.sound) C.runs);
      holds = dropped_chooses t C.sound;
    }

module _ {m : List ℕ} {t e a b : ℕ} {u : Bool} (U : Says m (InCall t e) u (noted_in t e b)) where
  says_note : (s : State) → Shows m s → Calling t (Numbers e a b) s → u ≡ noted_in t e b s
  says_note s M C = U.says s M (running_calls (sound_mid C.sound) C.runs C.numbers.0)

  module _ (z : u ≡ true) {n : List ℕ} (D : Does m n (IsThread t) (drop_debt t)) where
    pub noted_answered :
        {o : List ℕ} {y : Answer} → Accepts n (plain 0) y Chooses o
        → Performs m o y (Calling t (Numbers e a b)) (abort t e a b)
    unfolding abort abort_unless
    noted_answered A =
        performs_as
        (performs_after
        (does_for D (λ s C. running_thread (sound_mid C.sound) C.runs)) (λ s M C. dropped_chooses t C.sound)
        (A.performs []))
        (λ s M C. ap (λ (q : Bool). abort_unless q t e a b s) (sym z ∙ says_note s M C))

  pub not_noted :
      {o : List ℕ} {x : Answer} → u ≡ false → Performs m o x (Calling t (Numbers e a b)) (unnoted t e a b)
      → Performs m o x (Calling t (Numbers e a b)) (abort t e a b)
  unfolding abort abort_unless
  not_noted z F =
      performs_as F (λ s M C. ap (λ (q : Bool). abort_unless q t e a b s) (sym z ∙ says_note s M C))
