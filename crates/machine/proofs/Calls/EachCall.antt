-- One pass over all calls: a relation of states that holds of the small steps which calls are made of holds of every
-- call.
use Prim.Native.Nat.{ℕ, zero, suc, ◌-◌, ◌≤◌}
use mathlib.Core.Path.{◌≡◌, refl}
use mathlib.Core.Bool.{Bool, true, false}
use mathlib.Core.Option.{Option, none, some}
use lib.Dec.{lit≤}
use Rattle.calls.specs.declared.Call.{Call}
use Rattle.calls.specs.declared.Call.TheVariants.{CreateThread, DestroyThread, SetPriority, CreateEndpoint}
use Rattle.calls.specs.declared.Call.TheVariants.{Interrupt, Tick, Send, Receive, Yield, Wait, Delete, Abort}
use Rattle.calls.specs.declared.Call.TheVariants.{Grant}
use Rattle.calls.specs.Calls.{number_of, in_range}
use Rattle.machine.specs.State.{State, Place, absent, able, sending, receiving, waiting, Status, missing, live}
use Rattle.machine.specs.State.{closing, Endpoint, Line, quiet, pending, awaited, absent_thread, set_thread}
use Rattle.machine.specs.State.{set_endpoint, with_ticks}
use Rattle.machine.specs.Scheduling.{enqueue, unqueue, stand_down}
use Rattle.machine.specs.Endpoints.{join_endpoint, drop_debt}
use Rattle.machine.specs.Results.{Result}
use Rattle.machine.specs.Grants.{Grants, barred}
use Rattle.machine.specs.Aborts.{delete, abort}
use Rattle.machine.specs.Machine.{create_if, create_thread, destroy_if, destroy_thread, leave, leave_ready, is_absent}
use Rattle.machine.specs.Machine.{is_running, change_unless, move_ready, priority_if, set_priority, create_at}
use Rattle.machine.specs.Machine.{create_endpoint, fire, interrupt, leave_ticks, tick_for, tick, send_to, send_unless}
use Rattle.machine.specs.Machine.{send_at, send, receive_from, receive_at, receive, yield, wait_at, wait, by_caller}
use Rattle.machine.specs.Machine.{perform, grant_at, grant_if, grant, perform_unless, perform_if, step}
use Rattle.machine.proofs.Calls.Changes.{Steps, still_same, still_leave, still_thread, same_passes, chosen}
use Rattle.machine.proofs.Calls.Changes.{wake_passes, wake_from_passes, block_passes, queue_passes, drop_passes}
use Rattle.machine.proofs.Calls.Changes.{delete_passes, abort_passes}

-- What is asked of the call c in state s beside.
pub record Suits (u : ℕ) (C : ℕ → Type 0) (R : State → State → Type 0) (s : State) (c : Call) : Type 0 where
  pub created : (t p : ℕ) → c ≡ CreateThread t p → is_absent (s.threads t).place ≡ true → u ≡ t → ⊥
  pub destroyed : (t : ℕ) → c ≡ DestroyThread t → is_absent (s.threads t).place ≡ false → u ≡ t → ⊥
  pub opened :
      (e : ℕ) (x : Endpoint) → c ≡ CreateEndpoint e → (s.endpoints e).status ≡ missing → R s (set_endpoint e x s)
  pub ticked : (t n : ℕ) → c ≡ Tick → R s (set_thread t (with_ticks n (s.threads t)) s)
  pub caller : (t : ℕ) → s.runs ≡ some t → 7 ≤ number_of c → number_of c ≤ 12 → C t

module _ {u : ℕ} {C : ℕ → Type 0} {R : State → State → Type 0} (L : Steps u C R) where
  -- The other calls of threads

  send_to_passes : (x : Option ℕ) (t e b m : ℕ) (s : State) → R s (send_to x t e b m s).state
  unfolding send_to
  send_to_passes none t e b m s =
      chosen L (L.both (queue_passes L t e s) (block_passes L t _ b m (join_endpoint t e s)))
  send_to_passes (some r) t e b m s = chosen L (wake_from_passes L e r 2 b m s)

  send_unless_passes : (x : Bool) (t e b m : ℕ) (s : State) → C t → R s (send_unless x t e b m s).state
  unfolding send_unless
  send_unless_passes true t e b m s c = same_passes L s
  send_unless_passes false t e b m s c = L.both (drop_passes L t s c) (send_to_passes _ t e b m (drop_debt t s))

  send_passes : (x : Status) (t e b m : ℕ) (s : State) → C t → R s (send_at x t e b m s).state
  unfolding send_at
  send_passes missing t e b m s c = same_passes L s
  send_passes closing t e b m s c = same_passes L s
  send_passes live t e b m s c = send_unless_passes _ t e b m s c

  receive_from_passes : (x : Option ℕ) (t e : ℕ) (s : State) → R s (receive_from x t e s).state
  unfolding receive_from
  receive_from_passes none t e s =
      chosen L (L.both (queue_passes L t e s) (block_passes L t _ 0 0 (join_endpoint t e s)))
  receive_from_passes (some v) t e s = chosen L (wake_from_passes L e v 1 0 0 s)

  receive_passes : (x : Status) (t e : ℕ) (s : State) → C t → R s (receive_at x t e s).state
  unfolding receive_at
  receive_passes missing t e s c = same_passes L s
  receive_passes closing t e s c = same_passes L s
  receive_passes live t e s c = L.both (drop_passes L t s c) (receive_from_passes _ t e (drop_debt t s))

  yield_passes : (t : ℕ) (s : State) → C t → R s (yield t s).state
  unfolding yield stand_down enqueue
  yield_passes t s c = chosen L (L.both (drop_passes L t s c) (L.still (still_same (drop_debt t s))))

  wait_passes : (x : Line) (t l : ℕ) (s : State) → C t → R s (wait_at x t l s).state
  unfolding wait_at
  wait_passes quiet t l s c =
      chosen L
      (L.both (drop_passes L t s c) (L.both (L.still (still_same (drop_debt t s))) (block_passes L t _ 0 0 _)))
  wait_passes pending t l s c = chosen L (L.both (drop_passes L t s c) (L.still (still_same (drop_debt t s))))
  wait_passes (awaited v) t l s c = same_passes L s

  -- The host's calls

  create_passes :
      (x : Bool) (t p : ℕ) (s : State) → (x ≡ true → u ≡ t → ⊥) → R s (create_if x t p s).state
  unfolding create_if enqueue
  create_passes false t p s h = same_passes L s
  create_passes true t p s h = chosen L (L.both (L.other t _ s (h refl)) (L.still (still_same (set_thread t _ s))))

  leave_passes : (p : Place) (t : ℕ) (s : State) → R s (leave p t s)
  unfolding leave leave_ready unqueue
  leave_passes absent t s = same_passes L s
  leave_passes able t s = ready (is_running t s.runs)
    where
      ready : (x : Bool) → R s (leave_ready x t s)
      ready true = L.still (still_same s)
      ready false = L.still (still_same s)
  leave_passes (sending e) t s = L.still (still_leave t e s)
  leave_passes (receiving e) t s = L.still (still_leave t e s)
  leave_passes (waiting l) t s = L.still (still_same s)

  destroy_passes : (x : Bool) (t : ℕ) (s : State) → (x ≡ false → u ≡ t → ⊥) → R s (destroy_if x t s).state
  unfolding destroy_if drop_debt
  destroy_passes true t s h = same_passes L s
  destroy_passes false t s h =
      chosen L
      (L.both (L.other t _ s (h refl))
      (L.both (leave_passes _ t (drop_debt t s)) (L.other t absent_thread _ (h refl))))

  move_passes : (x : Bool) (t p : ℕ) (s : State) → R s (move_ready x t p s)
  unfolding move_ready enqueue unqueue
  move_passes true t p s = L.still (still_thread s t _ refl refl)
  move_passes false t p s = L.still (still_thread s t _ refl refl)

  change_passes : (x : Bool) (t p : ℕ) (s : State) → R s (change_unless x t p s)
  unfolding change_unless
  change_passes true t p s = same_passes L s
  change_passes false t p s = move_passes _ t p s

  priority_passes : (x : Bool) (t p : ℕ) (s : State) → R s (priority_if x t p s).state
  unfolding priority_if
  priority_passes true t p s = same_passes L s
  priority_passes false t p s = chosen L (change_passes _ t p s)

  endpoint_passes :
      (x : Status) (e : ℕ) (s : State) → (x ≡ missing → (y : Endpoint) → R s (set_endpoint e y s))
      → R s (create_at x e s).state
  unfolding create_at
  endpoint_passes missing e s h = chosen L (h refl _)
  endpoint_passes live e s h = same_passes L s
  endpoint_passes closing e s h = same_passes L s

  fire_passes : (x : Line) (l : ℕ) (s : State) → R s (fire x l s)
  unfolding fire
  fire_passes quiet l s = L.still (still_same s)
  fire_passes pending l s = same_passes L s
  fire_passes (awaited t) l s = L.both (L.still (still_same s)) (wake_passes L t 5 0 0 _)

  left_passes :
      (n t : ℕ) (s : State) → ((k : ℕ) → R s (set_thread t (with_ticks k (s.threads t)) s)) → R s (leave_ticks n t s)
  unfolding leave_ticks stand_down enqueue
  left_passes zero t s h = L.both (h 5) (L.still (still_same (set_thread t (with_ticks 5 (s.threads t)) s)))
  left_passes (suc n) t s h = h (suc n)

  tick_passes :
      (o : Option ℕ) (s : State) → ((t k : ℕ) → R s (set_thread t (with_ticks k (s.threads t)) s)) → R s (tick_for o s)
  unfolding tick_for
  tick_passes none s h = same_passes L s
  tick_passes (some t) s h = left_passes ((s.threads t).ticks - 1) t s (h t)

  grant_at_passes : (x : Status) (s : State) → R s (grant_at x s).state
  unfolding grant_at
  grant_at_passes missing s = same_passes L s
  grant_at_passes live s = chosen L (same_passes L s)
  grant_at_passes closing s = chosen L (same_passes L s)

  grant_passes : (x : Bool) (e : ℕ) (s : State) → R s (grant_if x e s).state
  unfolding grant_if
  grant_passes true e s = same_passes L s
  grant_passes false e s = grant_at_passes _ s

  -- Every call

  caller_passes :
      (o : Option ℕ) (f : ℕ → State → Result) (s : State) → s.runs ≡ o
      → ((t : ℕ) → s.runs ≡ some t → R s (f t s).state) → R s (by_caller o f s).state
  caller_passes none f s e h = same_passes L s
  caller_passes (some t) f s e h = h t e

  pub perform_passes : (c : Call) (s : State) → Suits u C R s c → R s (perform c s).state
  unfolding perform create_thread destroy_thread set_priority create_endpoint interrupt tick send receive wait delete
      abort
      grant
  perform_passes (CreateThread t p) s S = create_passes _ t p s (S.created t p refl)
  perform_passes (DestroyThread t) s S = destroy_passes _ t s (S.destroyed t refl)
  perform_passes (SetPriority t p) s S = priority_passes _ t p s
  perform_passes (CreateEndpoint e) s S = endpoint_passes _ e s (λ x y. S.opened e y refl x)
  perform_passes (Interrupt l) s S = chosen L (fire_passes _ l s)
  perform_passes Tick s S = chosen L (tick_passes _ s (λ t k. S.ticked t k refl))
  perform_passes (Send e b m) s S =
      caller_passes _ (λ t. send t e b m) s refl (λ t r. send_passes _ t e b m s (S.caller t r (lit≤ tt) (lit≤ tt)))
  perform_passes (Receive e) s S =
      caller_passes _ (λ t. receive t e) s refl (λ t r. receive_passes _ t e s (S.caller t r (lit≤ tt) (lit≤ tt)))
  perform_passes Yield s S =
      caller_passes _ (λ t. yield t) s refl (λ t r. yield_passes t s (S.caller t r (lit≤ tt) (lit≤ tt)))
  perform_passes (Wait l) s S =
      caller_passes _ (λ t. wait t l) s refl (λ t r. wait_passes _ t l s (S.caller t r (lit≤ tt) (lit≤ tt)))
  perform_passes (Delete e a) s S =
      caller_passes _ (λ t. delete t e a) s refl (λ t r. delete_passes L _ t e a s (S.caller t r (lit≤ tt) (lit≤ tt)))
  perform_passes (Abort e a b) s S =
      caller_passes _ (λ t. abort t e a b) s refl
      (λ t r. abort_passes L _ t e a b s (S.caller t r (lit≤ tt) (lit≤ tt)))
  perform_passes (Grant t e r b) s S = grant_passes _ e s

-- What holds of the state as it was and of the state after the call is performed holds after the call.
pub stepped :
    (g : Grants) (s : State) (c : Call) (P : State → Type 0) → P s → P (perform c s).state → P (step g s c).state
unfolding step perform_if perform_unless
stepped g s c P h k = go (in_range c)
  where
    unless : (y : Bool) → P (perform_unless y c s).state
    unless true = h
    unless false = k

    go : (x : Bool) → P (perform_if x g c s).state
    go true = unless (barred s.runs g c)
    go false = h
