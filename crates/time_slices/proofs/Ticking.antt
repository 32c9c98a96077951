-- Tick and yield: what their steps ask, and that they come to what the machine's calls come to.
use Prim.Native.Nat.{ℕ, zero, suc, ◌-◌, ◌≤◌}
use mathlib.Core.Path.{◌≡◌, refl, sym, ◌∙◌, ap, subst}
use mathlib.Core.Option.{Option, none, some}
use mathlib.Core.List.{List}
use native.Mathlib.Omega.{arith}
use Rattle.calls.specs.declared.Answer.{Answer}
use Rattle.machine.specs.State.{State, with_ticks}
use Rattle.machine.specs.Scheduling.{stand_down}
use Rattle.machine.specs.Endpoints.{drop_debt}
use Rattle.machine.specs.Results.{done}
use Rattle.machine.specs.Machine.{leave_ticks, tick_for, tick, yield}
use Rattle.machine.proofs.Lists.{put_same}
use Rattle.machine.specs.Mid.{Mid}
use Rattle.machine.proofs.Preserved.Mid.{sound_mid}
use Rattle.machine.proofs.Preserved.Aborts.{running_present}
use Rattle.machine.proofs.Preserved.Debts.{mid_drop_debt, drop_debt_drops}
use Rattle.layout.specs.Words.{link_of, queues_of}
use Rattle.layout.specs.Shows.{Shows}
use Rattle.store.specs.Steps.{Shown, Does, Tells}
use Rattle.store.specs.Store.{IsThread, Any, ticking}
use Rattle.store.specs.Readings.{running_in}
use Rattle.blocks.specs.declared.Block.{Block}
use Rattle.blocks.specs.Blocks.{refilled, ticked_block, LoadsBlock, IsBlock, SetsBlock}
use Rattle.blocks.proofs.Moves.{ticks_told, ticked_block_lem, ticked_thread}
use Rattle.queues.specs.Queues.{Loose, Chooses}
use Rattle.queues.proofs.Joining.{shown_next, and_then}
use Rattle.scheduler.proofs.Choosing.{runner}
use Rattle.endings.specs.Results.{Asked, Calling, Performs}
use Rattle.endings.proofs.Ends.{performs_after, does_for, shown_for}
use Rattle.endings.proofs.Conditions.{running_thread, running_loose, present_level}
use Rattle.time_slices.specs.Ticks.{ticking_for}
use Rattle.endings.proofs.Runner.{RunnerApart, mid_apart, apart_chooses, apart_thread, stood_apart}

-- The running thread t.
abbrev Caller : ℕ → State → Type 0
Caller t = Calling t (Unit {0})

module _ {t : ℕ} (s : State) (h : Caller t s) where
  caller_small : t ≤ 255
  caller_small = running_thread (sound_mid h.sound) h.runs

  caller_least : 1 ≤ (s.threads t).ticks
  caller_least =
      (h.sound.ranges.numbers t (running_present (sound_mid h.sound) h.runs)).ticks_least

  -- Its ticks change, and it is in no queue.
  ticked_loose : (n : ℕ) → Loose t (ticking t n s)
  unfolding queues_of
  ticked_loose n =
      let L = running_loose (sound_mid h.sound) h.runs in
      record { thread = L.thread; level = rw (put_same s.threads t) L.level; free = L.free }

pub caller_asked : {m : List ℕ} {t : ℕ} → Shown m (Caller t) → Shown m (IsThread t)
caller_asked S = shown_for S caller_small

some_left : (t : ℕ) (s : State) (k : ℕ) → 1 ≤ k → ticking t (refilled k) s ≡ leave_ticks k t s
unfolding leave_ticks
some_left t s zero h = absurd (omega arith)
some_left t s (suc k) h = refl

least : (r : ℕ) → 1 ≤ r → (r ≡ 1 → ⊥) → 1 ≤ r - 1
least zero k z = absurd (omega arith)
least (suc zero) k z = absurd (z refl)
least (suc (suc r)) k z = omega arith

-- A tick taken, by the thread's block b: the number 1 is that of the last.
module _ {m : List ℕ} {t : ℕ} {b r : Block} (L : LoadsBlock m t b) (e : r ≡ ticked_block b) where
  told : (s : State) → Shows m s → Caller t s → b.ticks ≡ (s.threads t).ticks
  told s M h = (ticks_told L).tells s M (caller_small s h)

  pub store_asked : Shown m (Caller t) → Shown m (IsThread t) × IsBlock r
  store_asked S = ticked_block_lem L e (caller_asked S)

  module _ {n : List ℕ} (D : SetsBlock m t r n) where
    taken : Does m n (Caller t) (ticking t (refilled (b.ticks - 1)))
    taken = does_for (ticked_thread L e D) caller_small

    pub stand_asked : Shown m (Caller t) → Shown n (Loose t)
    stand_asked S = shown_next taken (λ s M h. ticked_loose s h (refilled (b.ticks - 1))) S

    pub last_tick :
        {o : List ℕ} → b.ticks ≡ 1 → Does n o (Loose t) (stand_down t) → Does m o (Caller t) (tick_for (some t))
    unfolding tick_for leave_ticks
    last_tick {o} z E =
        record {
          shows = λ s M h.
              let k : zero ≡ (s.threads t).ticks - 1 = omega (arith, told s M h) in
              let j : refilled (b.ticks - 1) ≡ 5 = ap (λ (y : ℕ). refilled (y - 1)) z in
              subst (λ (y : ℕ). Shows o (leave_ticks y t s)) k
              (subst (λ (y : ℕ). Shows o (stand_down t (ticking t y s))) j
              ((and_then taken (λ s M h. ticked_loose s h (refilled (b.ticks - 1))) E).shows s M h));
        }

    pub one_tick : (b.ticks ≡ 1 → ⊥) → Does m n (Caller t) (tick_for (some t))
    unfolding tick_for
    one_tick z =
        record {
          shows = λ s M h.
              let k = told s M h in
              subst (λ (y : ℕ). Shows n (leave_ticks (y - 1) t s)) k
              (subst (λ (y : State). Shows n y) (some_left t s (b.ticks - 1) (more s k (caller_least s h)))
              (taken.shows s M h));
        }
      where
        more : (s : State) → b.ticks ≡ (s.threads t).ticks → 1 ≤ (s.threads t).ticks → 1 ≤ b.ticks - 1
        more s k j = least b.ticks (subst (λ (y : ℕ). 1 ≤ y) (sym k) j) z

-- The thread that runs, if one does.
module _ {m : List ℕ} {link : ℕ} (L : Tells m Any link running_in) where
  pub nobody_ticks : link ≡ 0 → Does m m (Asked (Unit {0})) ticking_for
  unfolding tick_for
  nobody_ticks z = record { shows = λ s M h. go s M s.runs (L.tells s M tt) }
    where
      go : (s : State) → Shows m s → (x : Option ℕ) → link ≡ link_of x → Shows m (tick_for x s)
      go s M none k = M
      go s M (some t) k = absurd (omega arith)

  module _ (n : link ≡ 0 → ⊥) where
    calls : (s : State) → Shows m s → Asked (Unit {0}) s → Caller (link - 1) s
    calls s M h = record { sound = h.sound; runs = runner L n s M; numbers = tt }

-- Whoever runs is in no queue after a tick.

apart_ticks :
    {t : ℕ} (s : State) → (s.threads t).priority ≤ 255 → (n : ℕ) → RunnerApart s → RunnerApart (leave_ticks n t s)
unfolding leave_ticks
apart_ticks {t} s h zero A = stood_apart t (ticking t 5 s)
apart_ticks {t} s h (suc n) A = apart_thread t (with_ticks (suc n) (s.threads t)) h A

apart_tick : {s : State} → Mid s → (x : Option ℕ) → s.runs ≡ x → RunnerApart (tick_for x s)
unfolding tick_for
apart_tick M none r = mid_apart M
apart_tick {s} M (some t) r =
    apart_ticks s (present_level M (running_present M r)) ((s.threads t).ticks - 1) (mid_apart M)

tick_apart : (s : State) → Asked (Unit {0}) s → Chooses (ticking_for s)
tick_apart s h = apart_chooses (apart_tick (sound_mid h.sound) s.runs refl)

-- Tick.
module _ {m n : List ℕ} (D : Does m n (Asked (Unit {0})) ticking_for) where
  pub tick_chooses : Shown m (Asked (Unit {0})) → Shown n Chooses
  tick_chooses S = shown_next D (λ s M h. tick_apart s h) S

  pub ticked : {k : List ℕ} {a : Answer} → Performs n k a Chooses done → Performs m k a (Asked (Unit {0})) tick
  unfolding tick
  ticked F = performs_after D (λ s M h. tick_apart s h) F

-- Yield.

pub yield_asked : {m : List ℕ} {t : ℕ} → Shown m (Caller t) → Shown m (IsThread t)
yield_asked S = shown_for S (λ s h. running_thread (sound_mid h.sound) h.runs)

module _ {m n : List ℕ} {t : ℕ} (D : Does m n (IsThread t) (drop_debt t)) where
  drops : Does m n (Caller t) (drop_debt t)
  drops = does_for D (λ s h. running_thread (sound_mid h.sound) h.runs)

  loose : (s : State) → Shows m s → Caller t s → Loose t (drop_debt t s)
  loose s M h =
      running_loose (mid_drop_debt s t (sound_mid h.sound)) ((drop_debt_drops s t).keeps.runs ∙ h.runs)

  pub down_asked : Shown m (Caller t) → Shown n (Loose t)
  down_asked S = shown_next drops loose S

  module _ {o : List ℕ} (E : Does n o (Loose t) (stand_down t)) where
    pub yield_chooses : Shown m (Caller t) → Shown o Chooses
    yield_chooses S = shown_next (and_then drops loose E) (λ s M h. apart_chooses (stood_apart t (drop_debt t s))) S

    pub yielded : {k : List ℕ} {a : Answer} → Performs o k a Chooses done → Performs m k a (Caller t) (yield t)
    unfolding yield
    yielded F =
        performs_after (and_then drops loose E) (λ s M h. apart_chooses (stood_apart t (drop_debt t s))) F
