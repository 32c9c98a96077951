-- An interrupt on a line: what the steps ask, and that together they are the machine's.
use Prim.Native.Nat.{ℕ, zero, suc, ◌-◌, ◌≤◌}
use mathlib.Core.Path.{◌≡◌, refl, sym, subst}
use mathlib.Core.List.{List}
use native.Mathlib.Omega.{arith}
use Rattle.calls.specs.declared.Answer.{Answer}
use Rattle.machine.specs.State.{State, Line, quiet, pending, awaited, set_line}
use Rattle.machine.specs.Scheduling.{wake}
use Rattle.machine.specs.Results.{done}
use Rattle.machine.specs.Machine.{fire, interrupt}
use Rattle.machine.specs.Mid.{Mid}
use Rattle.machine.proofs.Preserved.Mid.{sound_mid}
use Rattle.machine.proofs.Preserved.Waking.{mid_wake_line}
use Rattle.layout.specs.Words.{line_code, queues_of}
use Rattle.layout.specs.Shows.{Shows}
use Rattle.store.specs.Steps.{Shown, Does, Tells}
use Rattle.store.specs.Store.{IsLine, SetsLine}
use Rattle.store.specs.Readings.{line_in}
use Rattle.queues.specs.Queues.{Loose, Chooses}
use Rattle.endings.specs.Results.{Asked, Performs}
use Rattle.endings.proofs.Ends.{performs_as, performs_after}
use Rattle.endings.proofs.Conditions.{running_loose, mid_chooses, awaited_loose}
use Rattle.lines.specs.Firing.{firing}
use Rattle.queues.proofs.Joining.{shown_next}

-- Every number is that of a line.
pub line_of : (c : ℕ) → (x : Line) × (line_code x ≡ c)
line_of zero = (quiet, refl)
line_of (suc zero) = (pending, refl)
line_of (suc (suc t)) = (awaited t, refl)

-- Whatever the line becomes, it has nobody in a queue.

line_loose : (s : State) {t : ℕ} (l : ℕ) (x y : Line) → Loose t (set_line l x s) → Loose t (set_line l y s)
unfolding queues_of
line_loose s l x y L = record { thread = L.thread; level = L.level; free = L.free }

pub line_chooses : {s : State} (l : ℕ) (x : Line) → Mid s → Chooses (set_line l x s)
unfolding queues_of
line_chooses {s} l x M =
    record {
      running = λ t r.
          let L : Loose t s = running_loose M r in
          record { thread = L.thread; level = L.level; free = L.free };
    }

module _ {m : List ℕ} {l r : ℕ} (T : Tells m (IsLine l) r (line_in l)) where
  pub fired_quiet : {n : List ℕ} → r ≡ 0 → SetsLine m l 1 n → Does m n (Asked (l ≤ 31)) (firing l)
  unfolding fire
  fired_quiet {n} z W =
      record { shows = λ s M h. go s M h (s.lines l) (T.tells s M h.numbers) }
    where
      go : (s : State) → Shows m s → Asked (l ≤ 31) s → (x : Line) → r ≡ line_code x → Shows n (fire x l s)
      go s M h quiet k = (W.does pending refl).shows s M h.numbers
      go s M h pending k = absurd (omega arith)
      go s M h (awaited t) k = absurd (omega arith)

  pub fired_pending : r ≡ 1 → Does m m (Asked (l ≤ 31)) (firing l)
  unfolding fire
  fired_pending z =
      record { shows = λ s M h. go s M (s.lines l) (T.tells s M h.numbers) }
    where
      go : (s : State) → Shows m s → (x : Line) → r ≡ line_code x → Shows m (fire x l s)
      go s M quiet k = absurd (omega arith)
      go s M pending k = M
      go s M (awaited t) k = absurd (omega arith)

  module _ (z : 2 ≤ r) where
    waiter_is : (s : State) → Shows m s → Asked (l ≤ 31) s → s.lines l ≡ awaited (r - 2)
    waiter_is s M h = go (s.lines l) (T.tells s M h.numbers)
      where
        go : (x : Line) → r ≡ line_code x → x ≡ awaited (r - 2)
        go quiet k = absurd (omega arith)
        go pending k = absurd (omega arith)
        go (awaited t) k = let j : t ≡ r - 2 = omega arith in rw (← j)

    waiter_loose : (s : State) (x : Line) → Shows m s → Asked (l ≤ 31) s → Loose (r - 2) (set_line l x s)
    waiter_loose s x M h = line_loose s l quiet x (awaited_loose (sound_mid h.sound) (waiter_is s M h))

    pub waiter_asked :
        {n : List ℕ} {code : ℕ} → SetsLine m l code n → Shown m (Asked (l ≤ 31)) → Shown n (Loose (r - 2))
    waiter_asked {code = code} W S =
        let v = line_of code in
        record {
          state = set_line l v.0 S.state;
          shows = (W.does v.0 v.1).shows S.state S.shows S.holds.numbers;
          holds = waiter_loose S.state v.0 S.shows S.holds;
        }

    pub fired_awaited :
        {n o : List ℕ} → SetsLine m l 0 n → Does n o (Loose (r - 2)) (wake (r - 2) 5 0 0)
        → Does m o (Asked (l ≤ 31)) (firing l)
    unfolding fire
    fired_awaited {o = o} W D =
        record {
          shows = λ s M h.
              subst (λ (x : Line). Shows o (fire x l s)) (sym (waiter_is s M h))
              (D.shows (set_line l quiet s) ((W.does quiet refl).shows s M h.numbers) (waiter_loose s quiet M h));
        }

-- Whoever runs after it stands in no queue.
fired_chooses : (l : ℕ) (s : State) → Asked (l ≤ 31) s → Chooses (firing l s)
unfolding fire
fired_chooses l s h = go (s.lines l) refl
  where
    M : Mid s
    M = sound_mid h.sound

    go : (x : Line) → s.lines l ≡ x → Chooses (fire x l s)
    go quiet k = line_chooses l pending M
    go pending k = mid_chooses M
    go (awaited t) k = mid_chooses (mid_wake_line s l t M k)

module _ {m n : List ℕ} {l : ℕ} (F : Does m n (Asked (l ≤ 31)) (firing l)) where
  pub fired_asked : Shown m (Asked (l ≤ 31)) → Shown n Chooses
  fired_asked S = shown_next F (λ s M h. fired_chooses l s h) S

  pub interrupted :
      {o : List ℕ} {a : Answer} → Performs n o a Chooses done → Performs m o a (Asked (l ≤ 31)) (interrupt l)
  unfolding interrupt
  interrupted D = performs_as (performs_after F (λ s M h. fired_chooses l s h) D) (λ s M h. refl)
