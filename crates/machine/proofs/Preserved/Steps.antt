-- Every call keeps the tables sound, and fresh tables are sound.
use Prim.Native.Nat.{ℕ}
use mathlib.Core.Path.{◌≡◌, refl}
use mathlib.Core.Bool.{Bool, true, false}
use mathlib.Core.Option.{Option, none, some}
use Rattle.calls.specs.declared.Call.{Call}
use Rattle.calls.specs.declared.Call.TheVariants.{CreateThread, DestroyThread, SetPriority, CreateEndpoint}
use Rattle.calls.specs.declared.Call.TheVariants.{Interrupt, Tick, Send, Receive, Yield, Wait, Delete, Abort}
use Rattle.calls.specs.declared.Call.TheVariants.{Grant}
use Rattle.calls.specs.Calls.{in_range}
use Rattle.machine.specs.State.{State, Status, missing, live, closing, fresh_state}
use Rattle.machine.specs.Results.{Result}
use Rattle.machine.specs.Grants.{Grants, barred}
use Rattle.machine.specs.Machine.{is_absent, by_caller, grant_at, grant_if, grant, perform, perform_unless}
use Rattle.machine.specs.Machine.{perform_if, step}
use Rattle.machine.specs.Sound.{Sound}
use Rattle.calls.proofs.Ranges.{bounds}
use Rattle.machine.proofs.Preserved.Mid.{sound_mid}
use Rattle.machine.proofs.Preserved.Ready.{none_some}
use Rattle.machine.proofs.Preserved.Sites.{differ, not_at, not_awaited}
use Rattle.machine.proofs.Preserved.Choosing.{choose_sound}
use Rattle.machine.proofs.Preserved.Threads.{create_sound, destroy_sound, priority_sound, tick_sound}
use Rattle.machine.proofs.Preserved.Threads.{yield_sound}
use Rattle.machine.proofs.Preserved.Transfers.{endpoint_sound, send_sound, receive_sound}
use Rattle.machine.proofs.Preserved.Interrupts.{interrupt_sound, wait_sound}
use Rattle.machine.proofs.Preserved.Debts.{nothing_works}
use Rattle.machine.proofs.Preserved.Deletes.{delete_sound}
use Rattle.machine.proofs.Preserved.Aborts.{abort_sound}

-- The running thread's call: nobody running is refused.
by_caller_lem :
    (f : ℕ → State → Result) (s : State) → Sound s → ((t : ℕ) → s.runs ≡ some t → Sound (f t s).state)
    → Sound (by_caller s.runs f s).state
by_caller_lem f s S h = go s.runs refl
  where
    go : (r : Option ℕ) → s.runs ≡ r → Sound (by_caller r f s).state
    go none e = S
    go (some t) e = h t e

-- Nothing has changed: whoever runs goes on.
grant_sound : (s : State) (t e : ℕ) → Sound s → Sound (grant t e s).state
unfolding grant grant_if grant_at
grant_sound s t e S = go (is_absent (s.threads t).place)
  where
    at : (x : Status) → Sound (grant_at x s).state
    at missing = S
    at live = choose_sound s (sound_mid S)
    at closing = choose_sound s (sound_mid S)

    go : (x : Bool) → Sound (grant_if x e s).state
    go true = S
    go false = at (s.endpoints e).status

perform_sound : (s : State) (c : Call) → Sound s → in_range c ≡ true → Sound (perform c s).state
unfolding perform
perform_sound s (CreateThread t p) S h =
    let k = bounds (CreateThread t p) h in create_sound s t p S k.0 k.1
perform_sound s (DestroyThread t) S h = destroy_sound s t S
perform_sound s (SetPriority t p) S h =
    priority_sound s t p S (bounds (SetPriority t p) h).1
perform_sound s (CreateEndpoint e) S h = endpoint_sound s e S (bounds (CreateEndpoint e) h)
perform_sound s (Interrupt l) S h = interrupt_sound s l S (bounds (Interrupt l) h)
perform_sound s Tick S h = tick_sound s S
perform_sound s (Send e b m) S h =
    let k = bounds (Send e b m) h in by_caller_lem _ s S (λ t r. send_sound s t e S r b m k.1 k.2)
perform_sound s (Receive e) S h = by_caller_lem _ s S (λ t r. receive_sound s t e S r)
perform_sound s Yield S h = by_caller_lem _ s S (λ t r. yield_sound s t S r)
perform_sound s (Wait l) S h = by_caller_lem _ s S (λ t r. wait_sound s t l S r (bounds (Wait l) h))
perform_sound s (Delete e a) S h =
    by_caller_lem _ s S (λ t r. delete_sound t e a s S r (bounds (Delete e a) h).0)
perform_sound s (Abort e a b) S h =
    let k = bounds (Abort e a b) h in by_caller_lem _ s S (λ t r. abort_sound t e a b s S r k.0 k.2)
perform_sound s (Grant t e r b) S h = grant_sound s t e S

-- Make tables fresh: no thread, endpoint or pending line.
pub fresh_sound : Sound fresh_state
fresh_sound =
    record {
      ranges =
          record {
            numbers = λ t present. absurd (present refl);
            unused_thread = λ t h. refl;
            unused_endpoint = λ e h. refl;
            unused_line = λ l h. refl;
            abort_badge = λ e a h. absurd (none_some refl h);
          };
      queues =
          record {
            running = λ t h. absurd (none_some refl h);
            ready = λ t p. (λ m. absurd m, λ r. absurd (differ r.0.0 refl refl));
            ready_once = λ p. tt;
            queued = λ t e. (λ m. absurd m, λ q. absurd (not_at refl refl refl q));
            queued_once = λ e. tt;
            one_kind = λ e t u h k. absurd (differ h refl refl);
            on_line = λ t l. (λ h. absurd (not_awaited refl h), λ h. absurd (differ h refl refl));
          };
      chosen =
          record { none_above = λ t u h. absurd (none_some refl h); none_ready = λ h u r. differ r.0 refl refl };
      statuses = record { empty = λ e h. refl; no_abort = λ e h. refl };
      marks = record { part = λ e a h. absurd (none_some refl h); none_outside = λ e t a h. absurd (none_some refl h) };
      members = record { stands = λ e t h. absurd (nothing_works refl h) };
      outcomes = record { blocked = λ t h. refl; stored = λ t h. (refl, refl) };
    }

-- Every call, whatever its numbers, leaves sound tables sound.
pub step_sound : (g : Grants) (s : State) (c : Call) → Sound s → Sound (step g s c).state
unfolding step perform_if perform_unless
step_sound g s c S = go (in_range c) refl
  where
    unless : (x : Bool) → in_range c ≡ true → Sound (perform_unless x c s).state
    unless true h = S
    unless false h = perform_sound s c S h

    go : (b : Bool) → in_range c ≡ b → Sound (perform_if b g c s).state
    go true h = unless (barred s.runs g c) h
    go false h = S
