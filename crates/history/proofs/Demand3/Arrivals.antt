-- Calls 7 to 10, in which the caller may block; and so all of calls 1 to 10.
use Prim.Native.Nat.{ℕ}
use mathlib.Core.Path.{◌≡◌, refl, sym, ◌∙◌, ap, subst}
use mathlib.Core.Logic.{inl, inr}
use mathlib.Core.Bool.{Bool, true, false}
use mathlib.Core.Option.{Option, none, some}
use lib.Dec.{eqb}
use Rattle.calls.specs.declared.Call.{Call}
use Rattle.calls.specs.declared.Call.TheVariants.{CreateThread, DestroyThread, SetPriority, CreateEndpoint}
use Rattle.calls.specs.declared.Call.TheVariants.{Interrupt, Tick, Send, Receive, Yield, Wait, Delete, Abort}
use Rattle.calls.specs.declared.Call.TheVariants.{Grant}
use Rattle.calls.specs.Calls.{in_range}
use Rattle.machine.specs.Lists.{put, first}
use Rattle.machine.specs.State.{State, Thread, Place, able, sending, receiving, waiting, Status, missing, live}
use Rattle.machine.specs.State.{closing, Endpoint, Line, quiet, pending, awaited, set_line, with_place}
use Rattle.machine.specs.Scheduling.{enqueue, stand_down, block}
use Rattle.machine.specs.Endpoints.{senders, receivers, under_abort, join_endpoint, wake_from, drop_debt}
use Rattle.machine.specs.Results.{Result, blocked}
use Rattle.machine.specs.Grants.{Grants, barred}
use Rattle.machine.specs.Machine.{is_absent, create_thread, destroy_thread, set_priority, send_to, send_unless, send_at}
use Rattle.machine.specs.Machine.{send, receive_from, receive_at, receive, yield, wait_at, wait, by_caller, perform}
use Rattle.machine.specs.Machine.{grant_at, grant_if, grant, perform_unless, perform_if, step}
use Rattle.machine.specs.Sound.{Sound}
use Rattle.history.specs.Sorts.{Sort, other, destroys, waits, receives, yields, removes, looks, sort_of}
use Rattle.history.specs.History.{queues?}
use Rattle.machine.proofs.Lists.{put_all}
use Rattle.history.proofs.Demand3.Standing.{waiter_call}
use Rattle.machine.proofs.Preserved.Sites.{differ}
use Rattle.machine.proofs.Preserved.Statuses.{keeps_place}
use Rattle.machine.proofs.Preserved.Debts.{mid_drop_debt, drop_debt_drops}
use Rattle.history.proofs.Demand3.Leaving.{leaves_self, leaves_then, leaves_wake_from, leaves_drop_debt}
use Rattle.machine.proofs.Calls.Ticks.{is_absent_lem}
use Rattle.history.proofs.Demand3.Owing.{Still, still_self, still_then, still_thread}
use Rattle.history.proofs.Demand3.Owing.{still_wake_from}
use Rattle.machine.proofs.Running.{choose_keeps}
use Rattle.history.proofs.Demand3.Blocking.{JoinsTail, CallerBlocks, leaves_choose, still_choose}
use Rattle.machine.specs.Mid.{Mid}
use Rattle.machine.proofs.Preserved.Mid.{sound_mid}
use Rattle.history.proofs.Demand3.HostCalls.{drops_of, Sheds, keeps, sheds, Arrival, idle, blocks, turn_refused}
use Rattle.history.proofs.Demand3.HostCalls.{turn_create, turn_destroy, turn_priority, turn_endpoint}
use Rattle.history.proofs.Demand3.HostCalls.{turn_interrupt, turn_tick}

turn_yield : (s : State) (t : ℕ) → s.runs ≡ some t → Arrival s Yield (yield t s)
unfolding yield stand_down enqueue
turn_yield s t runs =
    idle (leaves_choose s _ (leaves_drop_debt t s)) refl
    (sheds t runs (still_choose (drop_debt t s) _ (still_self (drop_debt t s))))

module _ (s : State) (S : Sound s) (t : ℕ) (runs : s.runs ≡ some t) where
  -- What the caller owes is dropped, and then it blocks at a place.
  block_at :
      (c : Call) (p : Place) (b m : ℕ) → waiter_call p b m ≡ some c → queues? (sort_of c) 1 ≡ true → (x : State)
      → x.threads ≡ put (drop_debt t s).threads t (with_place p 0 b m ((drop_debt t s).threads t))
      → ((e : ℕ) → (x.endpoints e).abort ≡ ((drop_debt t s).endpoints e).abort)
      → ((e : ℕ) → (x.endpoints e).status ≡ ((drop_debt t s).endpoints e).status)
      → ((e : ℕ) → JoinsTail t ((drop_debt t s).endpoints e).waiters (x.endpoints e).waiters)
      → CallerBlocks s c (blocked x)
  block_at c p b m calls queues x threads abort status joins =
      record {
        caller = t;
        runs = runs;
        answer = refl;
        queues = queues;
        between = drop_debt t s;
        leaves = leaves_drop_debt t s;
        able =
            ap (λ (q : Place). waiter_call q ((drop_debt t s).threads t).badge ((drop_debt t s).threads t).message)
            stands;
        aside = λ e a h i. differ ((M.marks.part e a h).sends t i) stands refl;
        entry = with_place p 0 b m ((drop_debt t s).threads t);
        calls = calls;
        threads = (choose_keeps x).threads ∙ threads;
        abort = λ e. ap (λ (y : ℕ → Endpoint). (y e).abort) (choose_keeps x).endpoints ∙ abort e;
        status = λ e. ap (λ (y : ℕ → Endpoint). (y e).status) (choose_keeps x).endpoints ∙ status e;
        joins =
            λ e.
            subst (λ (y : ℕ → Endpoint). JoinsTail t ((drop_debt t s).endpoints e).waiters (y e).waiters)
            (sym (choose_keeps x).endpoints) (joins e);
      }
    where
      M : Mid (drop_debt t s)
      M = mid_drop_debt s t (sound_mid S)

      stands : ((drop_debt t s).threads t).place ≡ able
      stands = keeps_place (drop_debt_drops s t).keeps t ∙ S.queues.running t runs

  -- and so it does at the tail of a queue.
  block_queue :
      (c : Call) (p : Place) (e b m : ℕ) → waiter_call p b m ≡ some c → queues? (sort_of c) 1 ≡ true
      → CallerBlocks s c (blocked (block t p b m (join_endpoint t e (drop_debt t s))))
  unfolding block join_endpoint
  block_queue c p e b m calls queues =
      block_at c p b m calls queues (block t p b m (join_endpoint t e (drop_debt t s))) refl
      (put_all (λ f y. y.abort ≡ ((drop_debt t s).endpoints f).abort) (drop_debt t s).endpoints e _ refl (λ f n. refl))
      (put_all (λ f y. y.status ≡ ((drop_debt t s).endpoints f).status) (drop_debt t s).endpoints e _ refl
      (λ f n. refl))
      (put_all (λ f y. JoinsTail t ((drop_debt t s).endpoints f).waiters y.waiters) (drop_debt t s).endpoints e _
      (inr refl) (λ f n. inl refl))

  -- A call that blocks drops what the caller owes.
  sheds_block :
      (c : Call) (p : Place) (b m : ℕ) → drops_of (sort_of c) s.runs ≡ some t → (x : State) → Still (drop_debt t s) x
      → Sheds s c (blocked (block t p b m x))
  unfolding block
  sheds_block c p b m drops x H =
      sheds t drops
      (still_choose (drop_debt t s) (block t p b m x)
      (still_then (drop_debt t s) x (block t p b m x) H (still_thread x t _ refl)))

  still_join : (e : ℕ) → Still (drop_debt t s) (join_endpoint t e (drop_debt t s))
  unfolding join_endpoint
  still_join e = still_self (drop_debt t s)

  turn_wait : (l : ℕ) → Arrival s (Wait l) (wait t l s)
  unfolding wait wait_at block
  turn_wait l = go (s.lines l)
    where
      go : (x : Line) → Arrival s (Wait l) (wait_at x t l s)
      go quiet =
          blocks (block_at (Wait l) (waiting l) 0 0 refl refl _ refl (λ e. refl) (λ e. refl) (λ e. inl refl))
          (sheds_block (Wait l) (waiting l) 0 0 runs (set_line l (awaited t) (drop_debt t s))
          (still_self (drop_debt t s)))
      go pending =
          idle (leaves_choose s _ (leaves_drop_debt t s)) refl
          (sheds t runs (still_choose (drop_debt t s) _ (still_self (drop_debt t s))))
      go (awaited u) = turn_refused s (Wait l) 27 refl refl

  turn_send_to : (o : Option ℕ) (e b m : ℕ) → Arrival s (Send e b m) (send_to o t e b m (drop_debt t s))
  unfolding send_to
  turn_send_to none e b m =
      blocks (block_queue (Send e b m) (sending e) e b m refl refl)
      (sheds_block (Send e b m) (sending e) b m runs _ (still_join e))
  turn_send_to (some r) e b m =
      idle
      (leaves_choose s _
      (leaves_then s (drop_debt t s) (wake_from e r 2 b m (drop_debt t s)) (leaves_drop_debt t s)
      (leaves_wake_from (drop_debt t s) e r 2 b m))) refl
      (sheds t runs (still_choose (drop_debt t s) _ (still_wake_from (drop_debt t s) e r 2 b m)))

  turn_send : (e b m : ℕ) → Arrival s (Send e b m) (send t e b m s)
  unfolding send send_at send_unless
  turn_send e b m = go (s.endpoints e).status
    where
      unless : (x : Bool) → Arrival s (Send e b m) (send_unless x t e b m s)
      unless true = turn_refused s (Send e b m) 26 refl refl
      unless false = turn_send_to (first (receivers s.threads (s.endpoints e).waiters)) e b m

      go : (x : Status) → Arrival s (Send e b m) (send_at x t e b m s)
      go missing = turn_refused s (Send e b m) 23 refl refl
      go live = unless (under_abort b (s.endpoints e).abort)
      go closing = turn_refused s (Send e b m) 25 refl refl

  turn_receive_from : (o : Option ℕ) (e : ℕ) → Arrival s (Receive e) (receive_from o t e (drop_debt t s))
  unfolding receive_from
  turn_receive_from none e =
      blocks (block_queue (Receive e) (receiving e) e 0 0 refl refl)
      (sheds_block (Receive e) (receiving e) 0 0 runs _ (still_join e))
  turn_receive_from (some u) e =
      idle
      (leaves_choose s _
      (leaves_then s (drop_debt t s) (wake_from e u 1 0 0 (drop_debt t s)) (leaves_drop_debt t s)
      (leaves_wake_from (drop_debt t s) e u 1 0 0))) refl
      (sheds t runs (still_choose (drop_debt t s) _ (still_wake_from (drop_debt t s) e u 1 0 0)))

  turn_receive : (e : ℕ) → Arrival s (Receive e) (receive t e s)
  unfolding receive receive_at
  turn_receive e = go (s.endpoints e).status
    where
      go : (x : Status) → Arrival s (Receive e) (receive_at x t e s)
      go missing = turn_refused s (Receive e) 23 refl refl
      go live = turn_receive_from (first (senders s.threads (s.endpoints e).waiters)) e
      go closing = turn_refused s (Receive e) 25 refl refl

-- Call 13 changes nothing of the state.
module _ (s : State) (t e r b : ℕ) where
  turn_grant_at : (x : Status) → Arrival s (Grant t e r b) (grant_at x s)
  unfolding grant_at
  turn_grant_at missing = turn_refused s (Grant t e r b) 23 refl refl
  turn_grant_at live = idle (leaves_choose s s (leaves_self s)) refl (keeps refl (still_choose s s (still_self s)))
  turn_grant_at closing = idle (leaves_choose s s (leaves_self s)) refl (keeps refl (still_choose s s (still_self s)))

turn_grant : (s : State) (x : Bool) (t e r b : ℕ) → Arrival s (Grant t e r b) (grant_if x e s)
unfolding grant_if
turn_grant s true t e r b = turn_refused s (Grant t e r b) 21 refl refl
turn_grant s false t e r b = turn_grant_at s t e r b (s.endpoints e).status

-- Every call but 11 and 12.
abbrev pub Simple : Sort → Type 0
Simple other = Unit {0}
Simple (destroys t) = Unit {0}
Simple waits = Unit {0}
Simple (receives e) = Unit {0}
Simple yields = Unit {0}
Simple (removes e) = ⊥
Simple (looks e a b) = ⊥

turn_caller :
    (s : State) (c : Call) (f : ℕ → State → Result) → queues? (sort_of c) 20 ≡ false
    → ((t : ℕ) → s.runs ≡ some t → Arrival s c (f t s)) → Arrival s c (by_caller s.runs f s)
turn_caller s c f q h = go s.runs refl
  where
    go : (o : Option ℕ) → s.runs ≡ o → Arrival s c (by_caller o f s)
    go none e = turn_refused s c 20 refl q
    go (some t) e = h t e

turn_perform : (s : State) → Sound s → (c : Call) → Simple (sort_of c) → Arrival s c (perform c s)
unfolding perform create_thread destroy_thread set_priority grant
turn_perform s S (CreateThread t p) _ =
    turn_create s (is_absent (s.threads t).place) t p
    (λ h. ap (λ (x : Thread). x.debt) (S.ranges.unused_thread t (is_absent_lem (s.threads t).place h)))
turn_perform s S (DestroyThread t) _ = turn_destroy s (is_absent (s.threads t).place) t
turn_perform s S (SetPriority t p) _ = turn_priority s (is_absent (s.threads t).place) t p
turn_perform s S (CreateEndpoint e) _ = turn_endpoint s S e
turn_perform s S (Interrupt l) _ = turn_interrupt s l
turn_perform s S Tick _ = turn_tick s
turn_perform s S (Send e b m) _ = turn_caller s (Send e b m) (λ t. send t e b m) refl (λ t r. turn_send s S t r e b m)
turn_perform s S (Receive e) _ = turn_caller s (Receive e) (λ t. receive t e) refl (λ t r. turn_receive s S t r e)
turn_perform s S Yield _ = turn_caller s Yield (λ t. yield t) refl (λ t r. turn_yield s t r)
turn_perform s S (Wait l) _ = turn_caller s (Wait l) (λ t. wait t l) refl (λ t r. turn_wait s S t r l)
turn_perform s S (Delete e a) n = absurd n
turn_perform s S (Abort e a b) n = absurd n
turn_perform s S (Grant t e r b) _ = turn_grant s (is_absent (s.threads t).place) t e r b

-- A refused call makes nobody a waiter.
refused_name : (x : Sort) (n : ℕ) → eqb n 1 ≡ false → queues? x n ≡ false
refused_name other n h = refl
refused_name (destroys t) n h = refl
refused_name waits n h = h
refused_name (receives e) n h = h
refused_name yields n h = refl
refused_name (removes e) n h = refl
refused_name (looks e a b) n h = refl

pub turn : (g : Grants) (s : State) → Sound s → (c : Call) → Simple (sort_of c) → Arrival s c (step g s c)
unfolding step perform_if perform_unless
turn g s S c n = go (in_range c)
  where
    unless : (b : Bool) → Arrival s c (perform_unless b c s)
    unless true = turn_refused s c 29 refl (refused_name (sort_of c) 29 refl)
    unless false = turn_perform s S c n

    go : (b : Bool) → Arrival s c (perform_if b g c s)
    go true = unless (barred s.runs g c)
    go false = turn_refused s c 19 refl (refused_name (sort_of c) 19 refl)
