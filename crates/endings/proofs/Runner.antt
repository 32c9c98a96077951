-- Whoever runs stands in no queue: so it is in a sound state, and each step of the calls on threads keeps it.
use Prim.Native.Nat.{ℕ, ◌≤◌}
use mathlib.Core.Path.{◌≡◌, refl, ◌∙◌, ap}
use mathlib.Core.Logic.{⊎_elim}
use mathlib.Core.Bool.{Bool, true, false}
use mathlib.Core.Option.{none, some}
use mathlib.Core.List.{[], ◌∷◌, ◌++◌}
use Rattle.machine.specs.Lists.{Mem, without}
use Rattle.machine.specs.State.{State, Thread, Place, absent, able, sending, receiving, waiting, Endpoint}
use Rattle.machine.specs.State.{set_thread}
use Rattle.machine.specs.Scheduling.{enqueue, unqueue, stand_down}
use Rattle.machine.specs.Endpoints.{passing, leave_endpoint}
use Rattle.machine.specs.Machine.{is_running, leave_ready, leave}
use Rattle.machine.proofs.Lists.{put_all, at_tail, inserted_only, mem_without}
use Rattle.machine.specs.Mid.{Mid}
use Rattle.machine.proofs.Preserved.Ready.{none_some}
use Rattle.machine.proofs.Preserved.Sites.{not_at}
use Rattle.machine.proofs.Preserved.Aborts.{running_present}
use Rattle.queues.specs.Queues.{Chooses}
use Rattle.endings.proofs.Conditions.{free_of, present_level, running_thread}

-- u, in range, stands in no queue.
pub record InNoQueue (s : State) (u : ℕ) : Type 0 where
  pub thread : u ≤ 255
  pub priority : (s.threads u).priority ≤ 255
  pub level : (p : ℕ) → Mem u (s.levels p) → ⊥
  pub waiter : (e : ℕ) → Mem u (s.endpoints e).waiters → ⊥

abbrev pub RunnerApart : State → Type 0
RunnerApart s = (u : ℕ) → s.runs ≡ some u → InNoQueue s u

pub apart_chooses : {s : State} → RunnerApart s → Chooses s
apart_chooses {s} A =
    record {
      running = λ u r.
          let O = A u r in
          record { thread = O.thread; level = O.priority; free = free_of s u O.level O.waiter };
    }

pub mid_apart : {s : State} → Mid s → RunnerApart s
mid_apart M u r =
    record {
      thread = running_thread M r;
      priority = present_level M (running_present M r);
      level = λ p m. ((M.queues.ready u p).0 m).0.1 r;
      waiter = λ e m. not_at (M.queues.running u r) refl refl ((M.queues.queued u e).0 m);
    }

-- Nobody runs.
pub apart_none : {s : State} → s.runs ≡ none → RunnerApart s
apart_none e u r = absurd (none_some e r)

pub stood_apart : (t : ℕ) (s : State) → RunnerApart (stand_down t s)
unfolding stand_down enqueue
stood_apart t s u r = absurd (none_some refl r)

-- An entry with a priority in range.
pub apart_thread : {s : State} (t : ℕ) (x : Thread) → x.priority ≤ 255 → RunnerApart s → RunnerApart (set_thread t x s)
apart_thread {s} t x h A u r =
    let O = A u r in
    record {
      thread = O.thread;
      priority =
          put_all (λ k y. s.runs ≡ some k → y.priority ≤ 255) s.threads t x (λ e. h)
          (λ k n e. (A k e).priority) u r;
      level = O.level;
      waiter = O.waiter;
    }

-- Another joins a level, and somebody leaves a queue.
pub apart_enqueue : {s : State} (t : ℕ) → (s.runs ≡ some t → ⊥) → RunnerApart s → RunnerApart (enqueue t s)
unfolding enqueue
apart_enqueue {s} t n A u r =
    let O = A u r in
    let p = (s.threads t).priority in
    record {
      thread = O.thread;
      priority = O.priority;
      level =
          put_all (λ k l. Mem u l → ⊥) s.levels p (s.levels p ++ (t ∷ []))
          (λ m. ⊎_elim (O.level p) (λ e. n (r ∙ ap some e)) (inserted_only (at_tail t (s.levels p)) u m))
          (λ k _. O.level k);
      waiter = O.waiter;
    }

pub apart_unqueue : {s : State} (t : ℕ) → RunnerApart s → RunnerApart (unqueue t s)
unfolding unqueue
apart_unqueue {s} t A u r =
    let O = A u r in
    let p = (s.threads t).priority in
    record {
      thread = O.thread;
      priority = O.priority;
      level =
          put_all (λ k l. Mem u l → ⊥) s.levels p (without t (s.levels p))
          (λ m. O.level p (mem_without t u (s.levels p) m).0) (λ k _. O.level k);
      waiter = O.waiter;
    }

apart_endpoint : {s : State} (t e : ℕ) → RunnerApart s → RunnerApart (leave_endpoint t e s)
unfolding leave_endpoint
apart_endpoint {s} t e A u r =
    let O = A u r in
    record {
      thread = O.thread;
      priority = O.priority;
      level = O.level;
      waiter =
          put_all (λ k (y : Endpoint). Mem u y.waiters → ⊥) s.endpoints e
          (record {
            status = (s.endpoints e).status;
            waiters = without t (s.endpoints e).waiters;
            abort = passing t (s.endpoints e).abort;
          })
          (λ m. O.waiter e (mem_without t u (s.endpoints e).waiters m).0) (λ k _. O.waiter k);
    }

apart_ready : {s : State} (t : ℕ) (b : Bool) → RunnerApart s → RunnerApart (leave_ready b t s)
unfolding leave_ready
apart_ready t true A = apart_none refl
apart_ready t false A = apart_unqueue t A

pub apart_leave : {s : State} (t : ℕ) (x : Place) → RunnerApart s → RunnerApart (leave x t s)
unfolding leave
apart_leave t absent A = A
apart_leave {s} t able A = apart_ready t (is_running t s.runs) A
apart_leave t (sending e) A = apart_endpoint t e A
apart_leave t (receiving e) A = apart_endpoint t e A
apart_leave t (waiting l) A =
    λ u r.
    let O = A u r in
    record { thread = O.thread; priority = O.priority; level = O.level; waiter = O.waiter }
