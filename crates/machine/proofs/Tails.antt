-- Who goes to the tail of its level: whoever yields or has spent its ticks, a new thread, a woken one, and a ready one
-- whose priority changes. In every state; the chooser then takes a head, or puts the displaced thread at its own.
use Prim.Native.Nat.{ℕ, ◌-◌, ◌≤◌}
use mathlib.Core.Path.{◌≡◌, refl, sym, ◌∙◌, ap}
use mathlib.Core.Bool.{Bool, true, false, ◌&&◌, not}
use mathlib.Core.Option.{Option, none, some}
use mathlib.Core.List.{List, [], ◌∷◌, ◌++◌}
use native.Mathlib.Omega.{arith}
use borrow.Author.Tests.{ne_eqb}
use Rattle.calls.specs.declared.Call.{Call}
use Rattle.calls.specs.declared.Call.TheVariants.{CreateThread, SetPriority, Interrupt, Tick, Send, Receive}
use Rattle.calls.specs.declared.Call.TheVariants.{Yield}
use Rattle.calls.specs.Calls.{endpoint_of, in_range}
use Rattle.machine.specs.Lists.{first}
use Rattle.machine.specs.State.{State, Thread, Place, absent, able, live, quiet, awaited, with_place}
use Rattle.machine.specs.State.{set_thread, set_line, with_ticks, with_priority, message_taken, message_received}
use Rattle.machine.specs.State.{line_fired, nothing}
use Rattle.machine.specs.Scheduling.{enqueue, unqueue, stand_down, wake, choose}
use Rattle.machine.specs.Results.{Result}
use Rattle.machine.specs.Grants.{Grants, lacks}
use Rattle.machine.specs.Endpoints.{senders, receivers, under_abort, leave_endpoint, wake_from, drop_debt}
use Rattle.machine.specs.Machine.{is_absent, is_able, is_running, create_if, create_thread, move_ready, change_unless}
use Rattle.machine.specs.Machine.{priority_if, set_priority, fire, interrupt, leave_ticks, tick_for, tick, send_to}
use Rattle.machine.specs.Machine.{send_unless, send_at, send, receive_from, receive_at, receive, yield, by_caller}
use Rattle.machine.specs.Machine.{perform, step}
use Rattle.machine.specs.Work.{GoesLast}
use Rattle.machine.proofs.Lists.{put_same, put_other}
use Rattle.machine.proofs.Permits.{performed, needs_none, has_right}
use Rattle.machine.proofs.Preserved.Statuses.{Keeps}
use Rattle.machine.proofs.Preserved.Debts.{drop_debt_drops}

-- In r t stands last of its level in s, behind all who stood there.
abbrev pub Last : ℕ → State → State → Type 0
Last t s r = r.levels (s.threads t).priority ≡ s.levels (s.threads t).priority ++ (t ∷ [])

-- By the two steps: whoever stands down, and whoever is woken.

pub stands_down_tail : (s : State) (t : ℕ) → Last t s (stand_down t s)
unfolding stand_down enqueue
stands_down_tail s t = put_same s.levels (s.threads t).priority _

stands_down_idle : (s : State) (t : ℕ) → (stand_down t s).runs ≡ none
unfolding stand_down enqueue
stands_down_idle s t = refl

pub wakes_tail : (s : State) (t o b m : ℕ) → Last t s (wake t o b m s)
unfolding wake enqueue
wakes_tail s t o b m =
    rw (put_same s.threads t (with_place able o b m (s.threads t))) (put_same s.levels (s.threads t).priority _)

-- What is last in a state with the levels and priorities of s is last in s.
last_kept : {s d : State} (t : ℕ) (r : State) → Keeps s d → Last t d r → Last t s r
last_kept {s} {d} t r K L =
    let e : (d.threads t).priority ≡ (s.threads t).priority = ap (λ (x : Thread). x.priority) (K.thread t) in
    (rw e at L) ∙ ap (λ (l : List ℕ). l ++ (t ∷ [])) (K.level (s.threads t).priority)

wakes_from : (s : State) (e t c o b m : ℕ) → Last t s (wake_from e t o b m (drop_debt c s))
unfolding wake_from leave_endpoint
wakes_from s e t c o b m =
    last_kept t (wake_from e t o b m (drop_debt c s)) (drop_debt_drops s c).keeps
    (wakes_tail (leave_endpoint t e (drop_debt c s)) t o b m)

-- By the calls.
module _ (g : Grants) (s : State) (t : ℕ) where
  -- A call of the host, or one that needs no right.
  plainly : (c : Call) → in_range c ≡ true → ((w : ℕ) → lacks w c ≡ false) → (step g s c).state ≡ (perform c s).state
  plainly c range free = ap (λ (r : Result). r.state) (performed g s c range (needs_none s.runs g c free))

  pub yields_last : s.runs ≡ some t → GoesLast g s Yield t (s.threads t).priority none
  unfolding perform lacks yield
  yields_last runs =
      record {
        handed = stand_down t (drop_debt t s);
        chosen =
            plainly Yield refl (λ w. refl) ∙ ap (λ (o : Option ℕ). (by_caller o (λ u. yield u) s).state) runs;
        last =
            last_kept t (stand_down t (drop_debt t s)) (drop_debt_drops s t).keeps (stands_down_tail (drop_debt t s) t);
        runs = stands_down_idle (drop_debt t s) t;
      }

  pub spends_last : s.runs ≡ some t → (s.threads t).ticks ≤ 1 → GoesLast g s Tick t (s.threads t).priority none
  unfolding perform lacks tick tick_for leave_ticks
  spends_last runs spent =
      let x = with_ticks 5 (s.threads t) in
      let z : (s.threads t).ticks - 1 ≡ 0 = omega arith in
      record {
        handed = stand_down t (set_thread t x s);
        chosen = plainly Tick refl (λ w. refl) ∙ rw (runs, z);
        last = rw (put_same s.threads t x) at (stands_down_tail (set_thread t x s) t);
        runs = stands_down_idle (set_thread t x s) t;
      }

  pub creates_last :
      (p : ℕ) → in_range (CreateThread t p) ≡ true → (s.threads t).place ≡ absent
      → GoesLast g s (CreateThread t p) t p s.runs
  unfolding perform lacks create_thread create_if enqueue
  creates_last p range free =
      let x : Thread =
      record { place = able; priority = p; ticks = 5; outcome = 0; badge = 0; message = 0; debt = nothing } in
      record {
        handed = enqueue t (set_thread t x s);
        chosen = plainly (CreateThread t p) range (λ w. refl) ∙ rw free;
        last = rw (put_same s.threads t x) (put_same s.levels p _);
        runs = refl;
      }

  -- "A changed priority moves a ready thread to the new tail."
  pub moves_last :
      (p : ℕ) → in_range (SetPriority t p) ≡ true → (s.threads t).place ≡ able → is_running t s.runs ≡ false
      → ((s.threads t).priority ≡ p → ⊥) → GoesLast g s (SetPriority t p) t p s.runs
  unfolding perform lacks set_priority priority_if change_unless move_ready enqueue unqueue
  moves_last p range ready idle differs =
      let x = with_priority p (s.threads t) in
      let q = (s.threads t).priority in
      record {
        handed = enqueue t (set_thread t x (unqueue t s));
        chosen =
            plainly (SetPriority t p) range (λ w. refl)
            ∙ ap (λ (x : Place). (priority_if (is_absent x) t p s).state) ready
            ∙ ap (λ (b : Bool). choose (change_unless b t p s)) (ne_eqb q p differs)
            ∙ ap (λ (x : Place). choose (move_ready (is_able x && not (is_running t s.runs)) t p s)) ready
            ∙ ap (λ (b : Bool). choose (move_ready (not b) t p s)) idle;
        last =
            rw (put_same s.threads t x)
            (put_same (unqueue t s).levels p _ ∙ ap (λ (l : List ℕ). l ++ (t ∷ []))
            (put_other s.levels q p _ (λ e. differs (sym e))));
        runs = refl;
      }

  -- A woken thread: by a line that fires, by a send to it, by a receive from it.

  pub fires_last :
      (l : ℕ) → in_range (Interrupt l) ≡ true → s.lines l ≡ awaited t
      → GoesLast g s (Interrupt l) t (s.threads t).priority s.runs
  unfolding perform lacks interrupt fire wake enqueue
  fires_last l range waits =
      record {
        handed = wake t line_fired 0 0 (set_line l quiet s);
        chosen = plainly (Interrupt l) range (λ w. refl) ∙ rw waits;
        last = wakes_tail (set_line l quiet s) t line_fired 0 0;
        runs = refl;
      }

  module _ (c e : ℕ) (runs : s.runs ≡ some c) (up : (s.endpoints e).status ≡ live) where
    permitted :
        (d : Call) → in_range d ≡ true → lacks (g c (endpoint_of d)) d ≡ false
        → (step g s d).state ≡ (perform d s).state
    permitted d range right =
        ap (λ (r : Result). r.state) (performed g s d range (has_right s.runs g d c runs right))

    pub hands_last :
        (b m : ℕ) → in_range (Send e b m) ≡ true → lacks (g c e) (Send e b m) ≡ false
        → under_abort b (s.endpoints e).abort ≡ false
        → first (receivers s.threads (s.endpoints e).waiters) ≡ some t
        → GoesLast g s (Send e b m) t (s.threads t).priority s.runs
    unfolding perform lacks send send_at send_unless send_to wake_from leave_endpoint wake enqueue
    hands_last b m range right clear waits =
        record {
          handed = wake_from e t message_received b m (drop_debt c s);
          chosen = permitted (Send e b m) range right ∙ rw (runs, up, clear, waits);
          last = wakes_from s e t c message_received b m;
          runs = (drop_debt_drops s c).keeps.runs;
        }

    pub takes_last :
        in_range (Receive e) ≡ true → lacks (g c e) (Receive e) ≡ false
        → first (senders s.threads (s.endpoints e).waiters) ≡ some t
        → GoesLast g s (Receive e) t (s.threads t).priority s.runs
    unfolding perform lacks receive receive_at receive_from wake_from leave_endpoint wake enqueue
    takes_last range right waits =
        record {
          handed = wake_from e t message_taken 0 0 (drop_debt c s);
          chosen = permitted (Receive e) range right ∙ rw (runs, up, waits);
          last = wakes_from s e t c message_taken 0 0;
          runs = (drop_debt_drops s c).keeps.runs;
        }
