-- A call of 1 to 10: nobody comes to wait who did not wait before, or the caller blocks; and whose debts go. Calls 1
-- to 6, by which nobody comes to wait.
use Prim.Native.Nat.{ℕ, zero, suc, ◌-◌}
use mathlib.Core.Path.{◌≡◌, refl, sym, ap, subst}
use mathlib.Core.Logic.{inl}
use mathlib.Core.Bool.{Bool, true, false, ◌&&◌, not}
use mathlib.Core.Option.{Option, none, some}
use mathlib.Core.List.{List}
use lib.Dec.{eqb}
use Rattle.calls.specs.declared.Call.{Call}
use Rattle.calls.specs.declared.Call.TheVariants.{CreateThread, DestroyThread, SetPriority, CreateEndpoint}
use Rattle.calls.specs.declared.Call.TheVariants.{Interrupt, Tick}
use Rattle.machine.specs.Lists.{Mem}
use Rattle.machine.specs.State.{State, Place, absent, able, sending, receiving, waiting, nothing, Status, missing}
use Rattle.machine.specs.State.{live, closing, Line, quiet, pending, awaited, absent_thread, set_thread}
use Rattle.machine.specs.Scheduling.{enqueue, unqueue, stand_down, wake}
use Rattle.machine.specs.Endpoints.{leave_endpoint, drop_debt}
use Rattle.machine.specs.Results.{Result, refuse}
use Rattle.calls.specs.Answers.{plain, is_accepted}
use Rattle.machine.specs.Machine.{is_able, is_running, create_if, leave_ready, leave, destroy_if, move_ready}
use Rattle.machine.specs.Machine.{change_unless, priority_if, create_at, create_endpoint, fire, interrupt, leave_ticks}
use Rattle.machine.specs.Machine.{tick_for, tick}
use Rattle.machine.specs.Sound.{Sound}
use Rattle.history.specs.Sorts.{Sort, other, destroys, waits, receives, yields, removes, looks, sort_of}
use Rattle.history.specs.History.{queues?}
use Rattle.machine.proofs.Preserved.Debts.{live_present, drop_debt_drops}
use Rattle.history.proofs.Demand3.Leaving.{NobodyComes, no_call, leaves_clear, leaves_self, leaves_then}
use Rattle.history.proofs.Demand3.Leaving.{leaves_thread, leaves_endpoint, leaves_queue, leaves_drop_debt}
use Rattle.history.proofs.Sublists.{sub_none}
use Rattle.history.proofs.Demand3.Owing.{Still, still_self, still_then, still_thread}
use Rattle.history.proofs.Demand3.Owing.{still_leave_endpoint}
use Rattle.history.proofs.Demand3.Blocking.{CallerBlocks, leaves_choose, still_choose}

-- Whose debts an accepted call drops: its caller's, the second argument, or those of the thread that it destroys.
abbrev pub drops_of : Sort → Option ℕ → Option ℕ
drops_of other o = none
drops_of (destroys t) o = some t
drops_of waits o = o
drops_of (receives e) o = o
drops_of yields o = o
drops_of (removes e) o = o
drops_of (looks e a b) o = o

-- A refused call drops none.
abbrev pub drops_if : Bool → Sort → Option ℕ → Option ℕ
drops_if true c o = drops_of c o
drops_if false c o = none

-- The call drops those debts, and leaves the others.
pub data Sheds (s : State) (c : Call) (r : Result) : Type 0 where
  keeps : drops_if (is_accepted r.answer) (sort_of c) s.runs ≡ none → Still s r.state → Sheds s c r
  sheds :
      (t : ℕ) → drops_if (is_accepted r.answer) (sort_of c) s.runs ≡ some t → Still (drop_debt t s) r.state
      → Sheds s c r

pub data Arrival (s : State) (c : Call) (r : Result) : Type 0 where
  idle : NobodyComes s r.state → queues? (sort_of c) r.answer.code ≡ false → Sheds s c r → Arrival s c r
  blocks : CallerBlocks s c r → Sheds s c r → Arrival s c r

module _ (s : State) where
  -- A refused call.
  pub turn_refused :
      (c : Call) (n : ℕ) → is_accepted (plain n) ≡ false → queues? (sort_of c) n ≡ false → Arrival s c (refuse n s)
  turn_refused c n h q =
      idle (leaves_self s) q (keeps (ap (λ (b : Bool). drops_if b (sort_of c) s.runs) h) (still_self s))

  pub turn_create :
      (b : Bool) (t p : ℕ) → (b ≡ true → (s.threads t).debt ≡ nothing)
      → Arrival s (CreateThread t p) (create_if b t p s)
  unfolding create_if enqueue
  turn_create false t p free = turn_refused (CreateThread t p) 22 refl refl
  turn_create true t p free =
      idle (leaves_choose s _ (leaves_clear s t _ refl)) refl
      (keeps refl (still_choose s _ (still_thread s t _ (sym (free refl)))))

  leaves_leave : (p : Place) (t : ℕ) (r : State) → NobodyComes r (set_thread t absent_thread (leave p t r))
  unfolding leave leave_ready unqueue
  leaves_leave absent t r = leaves_clear r t absent_thread refl
  leaves_leave able t r = go (is_running t r.runs)
    where
      go : (b : Bool) → NobodyComes r (set_thread t absent_thread (leave_ready b t r))
      go true = leaves_clear r t absent_thread refl
      go false = leaves_clear r t absent_thread refl
  leaves_leave (sending e) t r = leaves_queue r e t absent_thread refl
  leaves_leave (receiving e) t r = leaves_queue r e t absent_thread refl
  leaves_leave (waiting l) t r = leaves_clear r t absent_thread refl

  still_leave :
      (p : Place) (t : ℕ) (r : State) → (r.threads t).debt ≡ nothing
      → Still r (set_thread t absent_thread (leave p t r))
  unfolding leave leave_ready unqueue leave_endpoint
  still_leave absent t r h = still_thread r t absent_thread (sym h)
  still_leave able t r h = go (is_running t r.runs)
    where
      go : (b : Bool) → Still r (set_thread t absent_thread (leave_ready b t r))
      go true = still_thread r t absent_thread (sym h)
      go false = still_thread r t absent_thread (sym h)
  still_leave (sending e) t r h =
      still_then r (leave_endpoint t e r) (set_thread t absent_thread (leave_endpoint t e r))
      (still_leave_endpoint r t e)
      (still_thread (leave_endpoint t e r) t absent_thread (sym h))
  still_leave (receiving e) t r h =
      still_then r (leave_endpoint t e r) (set_thread t absent_thread (leave_endpoint t e r))
      (still_leave_endpoint r t e)
      (still_thread (leave_endpoint t e r) t absent_thread (sym h))
  still_leave (waiting l) t r h = still_thread r t absent_thread (sym h)

  pub turn_destroy : (b : Bool) (t : ℕ) → Arrival s (DestroyThread t) (destroy_if b t s)
  unfolding destroy_if
  turn_destroy true t = turn_refused (DestroyThread t) 21 refl refl
  turn_destroy false t =
      idle
      (leaves_choose s _
      (leaves_then s (drop_debt t s)
      (set_thread t absent_thread (leave (s.threads t).place t (drop_debt t s))) (leaves_drop_debt t s)
      (leaves_leave (s.threads t).place t (drop_debt t s)))) refl
      (sheds t refl
      (still_choose (drop_debt t s) _
      (still_leave (s.threads t).place t (drop_debt t s) (drop_debt_drops s t).debt)))

  leaves_move : (b : Bool) (t p : ℕ) → NobodyComes s (move_ready b t p s)
  unfolding move_ready enqueue unqueue
  leaves_move true t p = leaves_thread s t _ (λ c h. h)
  leaves_move false t p = leaves_thread s t _ (λ c h. h)

  still_move : (b : Bool) (t p : ℕ) → Still s (move_ready b t p s)
  unfolding move_ready enqueue unqueue
  still_move true t p = still_thread s t _ refl
  still_move false t p = still_thread s t _ refl

  leaves_change : (b : Bool) (t p : ℕ) → NobodyComes s (change_unless b t p s)
  unfolding change_unless
  leaves_change true t p = leaves_self s
  leaves_change false t p = leaves_move (is_able (s.threads t).place && not (is_running t s.runs)) t p

  still_change : (b : Bool) (t p : ℕ) → Still s (change_unless b t p s)
  unfolding change_unless
  still_change true t p = still_self s
  still_change false t p = still_move (is_able (s.threads t).place && not (is_running t s.runs)) t p

  pub turn_priority : (b : Bool) (t p : ℕ) → Arrival s (SetPriority t p) (priority_if b t p s)
  unfolding priority_if
  turn_priority true t p = turn_refused (SetPriority t p) 21 refl refl
  turn_priority false t p =
      idle (leaves_choose s _ (leaves_change (eqb (s.threads t).priority p) t p)) refl
      (keeps refl (still_choose s _ (still_change (eqb (s.threads t).priority p) t p)))

  leaves_fire : (x : Line) (l : ℕ) → NobodyComes s (fire x l s)
  unfolding fire wake enqueue
  leaves_fire quiet l = leaves_self s
  leaves_fire pending l = leaves_self s
  leaves_fire (awaited t) l = leaves_thread s t _ (λ c h. no_call refl h)

  still_fire : (x : Line) (l : ℕ) → Still s (fire x l s)
  unfolding fire wake enqueue
  still_fire quiet l = still_self s
  still_fire pending l = still_self s
  still_fire (awaited t) l = still_thread s t _ refl

  pub turn_interrupt : (l : ℕ) → Arrival s (Interrupt l) (interrupt l s)
  unfolding interrupt
  turn_interrupt l =
      idle (leaves_choose s _ (leaves_fire (s.lines l) l)) refl
      (keeps refl (still_choose s _ (still_fire (s.lines l) l)))

  leaves_ticks : (n t : ℕ) → NobodyComes s (leave_ticks n t s)
  unfolding leave_ticks stand_down enqueue
  leaves_ticks zero t = leaves_thread s t _ (λ c h. h)
  leaves_ticks (suc n) t = leaves_thread s t _ (λ c h. h)

  still_ticks : (n t : ℕ) → Still s (leave_ticks n t s)
  unfolding leave_ticks stand_down enqueue
  still_ticks zero t = still_thread s t _ refl
  still_ticks (suc n) t = still_thread s t _ refl

  leaves_tick : (o : Option ℕ) → NobodyComes s (tick_for o s)
  unfolding tick_for
  leaves_tick none = leaves_self s
  leaves_tick (some t) = leaves_ticks ((s.threads t).ticks - 1) t

  still_tick : (o : Option ℕ) → Still s (tick_for o s)
  unfolding tick_for
  still_tick none = still_self s
  still_tick (some t) = still_ticks ((s.threads t).ticks - 1) t

  pub turn_tick : Arrival s Tick (tick s)
  unfolding tick
  turn_tick =
      idle (leaves_choose s _ (leaves_tick s.runs)) refl (keeps refl (still_choose s _ (still_tick s.runs)))

-- With sound tables

module _ (s : State) (S : Sound s) where
  nobody : (e t : ℕ) → (s.endpoints e).status ≡ missing → (s.threads t).place ≡ sending e → ⊥
  nobody e t h p =
      subst (λ (l : List ℕ). Mem t l) (S.statuses.empty e h) ((S.queues.queued t e).1 (inl p))

  pub turn_endpoint : (e : ℕ) → Arrival s (CreateEndpoint e) (create_endpoint e s)
  unfolding create_endpoint create_at
  turn_endpoint e = go (s.endpoints e).status refl
    where
      go : (x : Status) → (s.endpoints e).status ≡ x → Arrival s (CreateEndpoint e) (create_at x e s)
      go missing h =
          idle
          (leaves_choose s _
          (leaves_endpoint s e _ (rw (bare h) tt) (sub_none (s.endpoints e).waiters)
          (λ t p k. absurd (nobody e t h p)))) refl
          (keeps refl (still_choose s _ (still_self s)))
        where
          bare : (s.endpoints e).status ≡ missing → (s.endpoints e).abort ≡ none
          bare h = S.statuses.no_abort e (λ l. live_present l h)
      go live h = turn_refused s (CreateEndpoint e) 24 refl refl
      go closing h = turn_refused s (CreateEndpoint e) 24 refl refl
