-- Each arm asks no more than its call gives, and does what the machine does for that call.
use Prim.Native.Nat.{ℕ, zero, suc, ◌≤◌, ◌<◌, ◌^◌, ◌-◌}
use mathlib.Core.Path.{◌≡◌, refl, sym, ◌∙◌, ap, subst}
use mathlib.Core.Bool.{Bool, true, false, ◌&&◌}
use mathlib.Core.Option.{Option, none, some}
use mathlib.Core.List.{List}
use native.Mathlib.Omega.{arith}
use lib.Dec.{leb}
use Rattle.calls.specs.declared.Answer.{Answer}
use Rattle.calls.specs.declared.Call.{Call}
use Rattle.calls.specs.declared.Call.TheVariants.{CreateThread, DestroyThread, SetPriority, CreateEndpoint}
use Rattle.calls.specs.declared.Call.TheVariants.{Interrupt, Tick, Send, Receive, Yield, Wait, Delete, Abort, Grant}
use Rattle.calls.specs.Calls.{number_of, endpoint_of, in_range}
use Rattle.machine.specs.State.{State}
use Rattle.machine.specs.Results.{Result, refuse}
use Rattle.calls.specs.Answers.{plain}
use Rattle.machine.specs.Grants.{Grants, lacks, barred}
use Rattle.machine.specs.Aborts.{delete, abort}
use Rattle.machine.specs.Machine.{create_thread, destroy_thread, set_priority, create_endpoint, interrupt, tick, send}
use Rattle.machine.specs.Machine.{receive, yield, wait, grant, perform, perform_unless, perform_if, step}
use Rattle.machine.specs.Sound.{Sound}
use Rattle.machine.proofs.Lists.{clash}
use Rattle.calls.proofs.Ranges.{bounds}
use Rattle.layout.specs.Words.{link_of}
use Rattle.layout.specs.Shows.{Shows}
use Rattle.layout.proofs.Neat.{sound_neat}
use Rattle.layout.proofs.Tests.{Decides, tells_and, tells_leb}
use Rattle.store.specs.Steps.{Shown, Tells}
use Rattle.store.specs.Store.{Any}
use Rattle.store.specs.Readings.{running_in}
use Rattle.endings.specs.Results.{Asked, Calling, Performs}
use Rattle.endings.proofs.Ends.{refused, performs_as, performs_for}
use Rattle.dispatch.specs.Steps.{Ranged, Own, Served, Grantable, admitting, stepping}

-- An arm for call c, which anybody makes: N is what it asks of the numbers, f what it does.
pub record Arm (c : Call) (N : Type 0) (f : State → Result) : Type 0 where
  pub asks : Ranged c → N
  pub is : (s : State) → f s ≡ perform c s

-- An arm for call c, which the running thread t makes.
pub record OwnArm (t : ℕ) (c : Call) (N : Type 0) (f : State → Result) : Type 0 where
  pub asks : Ranged c → N
  pub is : (s : State) → s.runs ≡ some t → f s ≡ perform c s

positive : (l : ℕ) → (l ≡ 0 → ⊥) → 1 ≤ l
positive zero h = absurd (h refl)
positive (suc l) h = omega arith

-- The thread of a link runs, none for 0.
no_link : (r : Option ℕ) (link : ℕ) → link ≡ link_of r → link ≡ 0 → r ≡ none
no_link none link i z = refl
no_link (some u) link i z = absurd (omega arith)

link_runs : (r : Option ℕ) (link : ℕ) → link ≡ link_of r → 1 ≤ link → r ≡ some (link - 1)
link_runs none link i h = absurd (omega arith)
link_runs (some u) link i h = let j : u ≡ link - 1 = omega arith in ap some j

module _ {link : ℕ} {c d : Call} {N : Type 0} {f : State → Result} (e : c ≡ d) where
  asked : Arm d N f → (s : State) → Served link c s → Asked N s
  asked A s h = record { sound = h.sound; numbers = A.asks (subst (λ x. Ranged x) e h.numbers) }

  pub host_done :
      {m n : List ℕ} {a : Answer} → Arm d N f → Performs m n a (Asked N) f
      → Performs m n a (Served link c) (perform c)
  host_done A F =
      performs_as (performs_for F (λ s M h. asked A s h)) (λ s M h. A.is s ∙ ap (λ x. perform x s) (sym e))

module _ {t : ℕ} {c d : Call} {N : Type 0} {f : State → Result} (e : c ≡ d) where
  calling : OwnArm t d N f → (s : State) → Calling t (Own c) s → Calling t N s
  calling A s h =
      record { sound = h.sound; runs = h.runs; numbers = A.asks (subst (λ x. Ranged x) e h.numbers.0) }

  pub thread_done :
      {m n : List ℕ} {a : Answer} → OwnArm t d N f → Performs m n a (Calling t N) f
      → Performs m n a (Calling t (Own c)) (perform c)
  thread_done A F =
      performs_as (performs_for F (λ s M h. calling A s h))
      (λ s M h. A.is s h.runs ∙ ap (λ x. perform x s) (sym e))

-- The running thread's calls, under its link.
module _ {link : ℕ} {c : Call} (own : (7 ≤ number_of c) × (number_of c ≤ 12)) where
  served_call : (s : State) → Served link c s → Calling (link - 1) (Own c) s
  served_call s h =
      record {
        sound = h.sound;
        runs = link_runs s.runs link h.runner (h.made own.0 own.1);
        numbers = (h.numbers, own.0, own.1);
      }

  pub own_done :
      {m n : List ℕ} {a : Answer} → Performs m n a (Calling (link - 1) (Own c)) (perform c)
      → Performs m n a (Served link c) (perform c)
  own_done F = performs_for F (λ s M h. served_call s h)

-- The host's calls.

pub create_arm :
    (t p : ℕ) → Arm (CreateThread t p) ((t ≤ 255) × (p ≤ 255)) (create_thread t p)
unfolding perform
create_arm t p = record { asks = bounds (CreateThread t p); is = λ s. refl }

pub destroy_arm : (t : ℕ) → Arm (DestroyThread t) (t ≤ 255) (destroy_thread t)
unfolding perform
destroy_arm t = record { asks = bounds (DestroyThread t); is = λ s. refl }

pub priority_arm :
    (t p : ℕ) → Arm (SetPriority t p) ((t ≤ 255) × (p ≤ 255)) (set_priority t p)
unfolding perform
priority_arm t p = record { asks = bounds (SetPriority t p); is = λ s. refl }

pub endpoint_arm : (e : ℕ) → Arm (CreateEndpoint e) (e ≤ 63) (create_endpoint e)
unfolding perform
endpoint_arm e = record { asks = bounds (CreateEndpoint e); is = λ s. refl }

pub interrupt_arm : (l : ℕ) → Arm (Interrupt l) (l ≤ 31) (interrupt l)
unfolding perform
interrupt_arm l = record { asks = bounds (Interrupt l); is = λ s. refl }

pub tick_arm : Arm Tick (Unit {0}) tick
unfolding perform
tick_arm = record { asks = λ h. tt; is = λ s. refl }

pub grant_arm : (t e k b : ℕ) → Arm (Grant t e k b) (Grantable t e k b) (grant t e)
unfolding perform
grant_arm t e k b = record { asks = bounds (Grant t e k b); is = λ s. refl }

-- The running thread's.

module _ (t : ℕ) where
  pub send_arm :
      (e b x : ℕ) → OwnArm t (Send e b x) ((e ≤ 63) × (b < 2 ^ 28) × (x < 2 ^ 28))
      (send t e b x)
  unfolding perform
  send_arm e b x = record { asks = bounds (Send e b x); is = λ s h. rw h }

  pub receive_arm : (e : ℕ) → OwnArm t (Receive e) (e ≤ 63) (receive t e)
  unfolding perform
  receive_arm e = record { asks = bounds (Receive e); is = λ s h. rw h }

  pub yield_arm : OwnArm t Yield (Unit {0}) (yield t)
  unfolding perform
  yield_arm = record { asks = λ h. tt; is = λ s h. rw h }

  pub wait_arm : (l : ℕ) → OwnArm t (Wait l) (l ≤ 31) (wait t l)
  unfolding perform
  wait_arm l = record { asks = bounds (Wait l); is = λ s h. rw h }

  pub delete_arm : (e a : ℕ) → OwnArm t (Delete e a) (e ≤ 63) (delete t e a)
  unfolding perform
  delete_arm e a = record { asks = λ h. (bounds (Delete e a) h).0; is = λ s h. rw h }

  pub abort_arm :
      (e a b : ℕ) → OwnArm t (Abort e a b)
      ((e ≤ 63) × (a ≤ 65535) × (b < 2 ^ 28)) (abort t e a b)
  unfolding perform
  abort_arm e a b =
      record {
        asks = λ h. let k = bounds (Abort e a b) h in (k.0, k.1.1, k.2);
        is = λ s h. rw h;
      }

-- A call of 7 to 12 with nobody running.
idle_refused :
    (c : Call) (s : State) → 7 ≤ number_of c → number_of c ≤ 12 → s.runs ≡ none → refuse 20 s ≡ perform c s
unfolding perform
idle_refused (CreateThread t p) s h k r = absurd (omega arith)
idle_refused (DestroyThread t) s h k r = absurd (omega arith)
idle_refused (SetPriority t p) s h k r = absurd (omega arith)
idle_refused (CreateEndpoint e) s h k r = absurd (omega arith)
idle_refused (Interrupt l) s h k r = absurd (omega arith)
idle_refused Tick s h k r = absurd (omega arith)
idle_refused (Send e b m) s h k r = rw r
idle_refused (Receive e) s h k r = rw r
idle_refused Yield s h k r = rw r
idle_refused (Wait l) s h k r = rw r
idle_refused (Delete e a) s h k r = rw r
idle_refused (Abort e a b) s h k r = rw r
idle_refused (Grant t e j b) s h k r = absurd (omega arith)

-- A call that is not one of 7 to 12 needs no right.
host_free : (c : Call) → leb 7 (number_of c) && leb (number_of c) 12 ≡ false → (w : ℕ) → lacks w c ≡ false
unfolding lacks
host_free (CreateThread t p) h w = refl
host_free (DestroyThread t) h w = refl
host_free (SetPriority t p) h w = refl
host_free (CreateEndpoint e) h w = refl
host_free (Interrupt l) h w = refl
host_free Tick h w = refl
host_free (Send e b m) h w = absurd (clash refl h)
host_free (Receive e) h w = absurd (clash refl h)
host_free Yield h w = refl
host_free (Wait l) h w = refl
host_free (Delete e a) h w = absurd (clash refl h)
host_free (Abort e a b) h w = absurd (clash refl h)
host_free (Grant t e r b) h w = refl

-- What is known once the tests of a call have passed: for one of 7 to 12 a thread runs, and lacks nothing.
pub record May (link : ℕ) (g : Grants) (c : Call) : Type 0 where
  pub made : 7 ≤ number_of c → number_of c ≤ 12 → 1 ≤ link
  pub has : 7 ≤ number_of c → number_of c ≤ 12 → lacks (g (link - 1) (endpoint_of c)) c ≡ false

-- The call is one of 7 to 12.
abbrev own : Call → Bool
own c = leb 7 (number_of c) && leb (number_of c) 12

own_tells : (c : Call) → Decides (own c) ((7 ≤ number_of c) × (number_of c ≤ 12))
own_tells c = tells_and (tells_leb 7 (number_of c)) (tells_leb (number_of c) 12)

module _ {link : ℕ} (g : Grants) (c : Call) where
  pub own_may : (link ≡ 0 → ⊥) → lacks (g (link - 1) (endpoint_of c)) c ≡ false → May link g c
  own_may n k = record { made = λ l h. positive link n; has = λ l h. k }

  pub host_may : own c ≡ false → May link g c
  host_may z =
      record {
        made = λ l h. absurd (clash ((own_tells c).back (l, h)) z);
        has = λ l h. absurd (clash ((own_tells c).back (l, h)) z);
      }

-- Whether somebody runs, and whose call it is.
module _ {m : List ℕ} {link : ℕ} (c : Call) (R : Tells m Any link running_in) where
  pub thread_within : Shown m (Asked (Ranged c)) → link - 1 ≤ 255
  thread_within S = go S.state.runs refl (R.tells S.state S.shows tt)
    where
      go : (o : Option ℕ) → S.state.runs ≡ o → link ≡ link_of o → link - 1 ≤ 255
      go none i j = omega (arith, j)
      go (some t) i j = omega (arith, j, (sound_neat S.state S.holds.sound).runs_small t i)

  -- Under the grants g: 20, 29, or the call.
  module _ (g : Grants) where
    pub nobody_calls :
        own c ≡ true → link ≡ 0 → Performs m m (plain 20) (Asked (Ranged c)) (admitting g c)
    unfolding perform_unless
    nobody_calls h z =
        let range = (own_tells c).holds h in
        performs_as (refused 20 refl)
        (λ s M k.
        let none_runs = no_link s.runs link (R.tells s M tt) z in
        idle_refused c s range.0 range.1 none_runs
        ∙ ap (λ o. perform_unless (barred o g c) c s) (sym none_runs))

    pub lacking :
        (link ≡ 0 → ⊥) → lacks (g (link - 1) (endpoint_of c)) c ≡ true
        → Performs m m (plain 29) (Asked (Ranged c)) (admitting g c)
    unfolding perform_unless
    lacking n b =
        performs_as (refused 29 refl)
        (λ s M k.
        let runs = link_runs s.runs link (R.tells s M tt) (positive link n) in
        ap (λ x. perform_unless x c s) (sym (ap (λ o. barred o g c) runs ∙ b)))

    module _ (Y : May link g c) where
      served : (s : State) → Shows m s → Asked (Ranged c) s → Served link c s
      served s M k = record { sound = k.sound; numbers = k.numbers; runner = R.tells s M tt; made = Y.made }

      pub served_asked : Shown m (Asked (Ranged c)) → Shown m (Served link c)
      served_asked S = record { state = S.state; shows = S.shows; holds = served S.state S.shows S.holds }

      unbarred : (s : State) → Shows m s → barred s.runs g c ≡ false
      unbarred s M = go s.runs refl (own c) refl
        where
          go : (o : Option ℕ) → s.runs ≡ o → (b : Bool) → own c ≡ b → barred o g c ≡ false
          go none i b j = refl
          go (some t) i false j = host_free c j (g t (endpoint_of c))
          go (some t) i true j =
              let range = (own_tells c).holds j in
              let k : link ≡ suc t = R.tells s M tt ∙ ap link_of i in
              let l : t ≡ link - 1 = omega arith in
              ap (λ (u : ℕ). lacks (g u (endpoint_of c)) c) l ∙ Y.has range.0 range.1

      pub served_done :
          {n : List ℕ} {a : Answer} → Performs m n a (Served link c) (perform c)
          → Performs m n a (Asked (Ranged c)) (admitting g c)
      unfolding perform_unless
      served_done F =
          performs_as (performs_for F served) (λ s M k. ap (λ x. perform_unless x c s) (sym (unbarred s M)))

-- The range is tried first.
module _ {m : List ℕ} {b : Bool} (c : Call) (r : b ≡ in_range c) where
  module _ (g : Grants) where
    pub out_of_range : b ≡ false → Performs m m (plain 19) Sound (stepping g c)
    unfolding step perform_if
    out_of_range z =
        performs_as (refused 19 refl) (λ s M k. ap (λ x. perform_if x g c s) (sym z ∙ r))

    pub range_done :
        {n : List ℕ} {a : Answer} → b ≡ true → Performs m n a (Asked (Ranged c)) (admitting g c)
        → Performs m n a Sound (stepping g c)
    unfolding step perform_if
    range_done z F =
        performs_as (performs_for F (λ s M k. record { sound = k; numbers = sym r ∙ z }))
        (λ s M k. ap (λ x. perform_if x g c s) (sym z ∙ r))
