-- Calls 1, 2, 3, 6 and 9, about one thread, keep the tables sound.
use Prim.Native.Nat.{ℕ, zero, suc, ◌≤◌, ◌-◌}
use mathlib.Core.Path.{◌≡◌, refl, sym, ◌∙◌, ap}
use mathlib.Core.Logic.{inl, inr}
use mathlib.Core.Bool.{Bool, true, false, ◌&&◌, not}
use mathlib.Core.Option.{Option, none, some}
use mathlib.Core.List.{List, [], ◌∷◌, ◌++◌}
use native.Mathlib.Omega.{arith}
use lib.Dec.{eqb}
use borrow.Author.Tests.{eqb-true, eqb-false}
use Rattle.machine.specs.Lists.{put, without}
use Rattle.machine.specs.State.{State, Thread, Place, absent, able, sending, receiving, waiting, nothing}
use Rattle.machine.specs.State.{Endpoint, Line, quiet, absent_thread, set_thread, set_line, with_priority}
use Rattle.machine.specs.State.{with_ticks}
use Rattle.machine.specs.Scheduling.{enqueue, unqueue, stand_down}
use Rattle.machine.specs.Endpoints.{is_aborting, leave_endpoint, drop_debt}
use Rattle.machine.specs.Machine.{is_absent, is_able, is_running, create_if, create_thread, leave_ready, leave}
use Rattle.machine.specs.Machine.{destroy_if, destroy_thread, move_ready, change_unless, priority_if, set_priority}
use Rattle.machine.specs.Machine.{leave_ticks, tick_for, tick, yield}
use Rattle.machine.specs.Sound.{Sound}
use Rattle.machine.proofs.Lists.{clash, put_same, put_other, put_all, at_tail}
use Rattle.machine.specs.Mid.{Mid}
use Rattle.machine.proofs.Preserved.Mid.{sound_mid}
use Rattle.machine.proofs.Preserved.Parts.{At, Entry, Levels, Site, LinesFit, parts, whole}
use Rattle.machine.proofs.Preserved.Ready.{Else, put_else, put_keeps, put_place, none_some, some_one}
use Rattle.machine.proofs.Preserved.Ready.{levels_aside}
use Rattle.machine.proofs.Preserved.Ready.{levels_runs, levels_stop, levels_join, levels_leave}
use Rattle.machine.proofs.Preserved.Sites.{differ, not_at, at_one, left, left_aborting, site_aside, site_leave}
use Rattle.machine.proofs.Preserved.Sites.{site_same}
use Rattle.machine.proofs.Preserved.Sites.{lines_aside, lines_leave, lines_same, sets_same}
use Rattle.machine.proofs.Preserved.Waking.{mid_stand_down}
use Rattle.machine.proofs.Preserved.Choosing.{choose_sound}
use Rattle.machine.proofs.Preserved.Statuses.{keeps_place}
use Rattle.machine.proofs.Preserved.Debts.{Drops, mid_drop_debt, drop_debt_drops}

is_running_lem : {t : ℕ} (r : Option ℕ) → is_running t r ≡ true → r ≡ some t
is_running_lem none e = absurd (clash e refl)
is_running_lem {t} (some u) e = ap some (eqb-true u t e)

pub not_running : {t : ℕ} (r : Option ℕ) → is_running t r ≡ false → r ≡ some t → ⊥
not_running none e h = none_some refl h
not_running {t} (some u) e h = eqb-false u t e (some_one refl h)

-- 1

abbrev new_thread : ℕ → Thread
new_thread p =
    record { place = able; priority = p; ticks = 5; outcome = 0; badge = 0; message = 0; debt = nothing }

new_entry : (t p : ℕ) → t ≤ 255 → p ≤ 255 → Entry t (new_thread p)
new_entry t p ht hp =
    record {
      numbers =
          λ n. record {
            thread = ht;
            priority = hp;
            ticks_least = omega arith;
            ticks_most = omega arith;
            outcome = omega arith;
            badge = omega arith;
            message = omega arith;
            debt = tt;
          };
      unused = λ h. absurd (differ h refl refl);
      blocked = λ h. refl;
      stored = λ h. (refl, refl);
    }

mid_new :
    (s : State) (t p : ℕ) → Mid s → (s.threads t).place ≡ absent → t ≤ 255 → p ≤ 255
    → Mid (enqueue t (set_thread t (new_thread p) s))
unfolding enqueue
mid_new s t p M gone ht hp =
    let P = parts M in
    let f = s.threads in
    let g = put f t (new_thread p) in
    let q = (g t).priority in
    let away = put_else f t (new_thread p) in
    let now = put_place f t (new_thread p) in
    whole
    (record {
      entry = put_all (λ u y. Entry u y) f t (new_thread p) (new_entry t p ht hp) (λ u n. P.entry u);
      site = λ e. site_aside t f g away e (P.site e) (not_at gone refl refl) (not_at now refl refl);
      levels =
          levels_join t f g away (put s.levels q (s.levels q ++ (t ∷ []))) q P.levels
          (λ h. differ gone h refl) now
          refl (at_tail t (s.levels q)) (put_same s.levels q _) (put_else s.levels q _);
      lines = lines_aside t f g away P.lines (λ l h. differ gone h refl) (λ l h. differ now h refl);
      sets =
          sets_same f g s.endpoints s.endpoints
          (put_keeps (λ y. y.debt) f t (new_thread p) (sym (ap (λ (y : Thread). y.debt) ((P.entry t).unused gone))))
          (λ e. refl) P.sets;
    })

-- "A thread starts with 5 ticks and outcome 0": create thread.
pub create_sound :
    (s : State) (t p : ℕ) → Sound s → t ≤ 255 → p ≤ 255 → Sound (create_thread t p s).state
unfolding create_thread create_if
create_sound s t p S ht hp = go (s.threads t).place refl
  where
    go : (x : Place) → (s.threads t).place ≡ x → Sound (create_if (is_absent x) t p s).state
    go absent e = choose_sound (enqueue t (set_thread t (new_thread p) s)) (mid_new s t p (sound_mid S) e ht hp)
    go able e = S
    go (sending k) e = S
    go (receiving k) e = S
    go (waiting l) e = S

-- 2

gone_entry : (t : ℕ) → Entry t absent_thread
gone_entry t =
    record {
      numbers = λ n. absurd (n refl);
      unused = λ h. refl;
      blocked = λ h. refl;
      stored = λ h. (refl, refl);
    }

-- The threads without t.
abbrev gone : (ℕ → Thread) → ℕ → ℕ → Thread
gone f t = put f t absent_thread

module _ (s : State) (t : ℕ) (M : Mid s) (free : (s.threads t).debt ≡ nothing) where
  away : Else t s.threads (gone s.threads t)
  away = put_else s.threads t absent_thread

  now : (gone s.threads t t).place ≡ absent
  now = put_place s.threads t absent_thread

  -- t is gone; what is left to show is of the queues and lines that it has left.
  mid_gone :
      (runs : Option ℕ) (levels : ℕ → List ℕ) (ends : ℕ → Endpoint) (lines : ℕ → Line)
      → Levels (gone s.threads t) runs levels → ((e : ℕ) → Site (gone s.threads t) e (ends e))
      → ((e : ℕ) → is_aborting (ends e).abort ≡ is_aborting (s.endpoints e).abort)
      → LinesFit (gone s.threads t) lines
      → Mid (record { threads = gone s.threads t; runs = runs; levels = levels; endpoints = ends; lines = lines })
  mid_gone runs levels ends lines L S aborting K =
      let P = parts M in
      let f = s.threads in
      whole
      (record {
        entry = put_all (λ u y. Entry u y) f t absent_thread (gone_entry t) (λ u n. P.entry u);
        site = S;
        levels = L;
        lines = K;
        sets =
            sets_same f (gone f t) s.endpoints ends (put_keeps (λ y. y.debt) f t absent_thread (sym free)) aborting
            P.sets;
      })

  site_away : (e : ℕ) → (At (s.threads t).place e → ⊥) → Site (gone s.threads t) e (s.endpoints e)
  site_away e out =
      site_aside t s.threads (gone s.threads t) away e ((parts M).site e) out (not_at now refl refl)

  lines_away : ((l : ℕ) → (s.threads t).place ≡ waiting l → ⊥) → LinesFit (gone s.threads t) s.lines
  lines_away off =
      lines_aside t s.threads (gone s.threads t) away (parts M).lines off (λ l h. differ now h refl)

  levels_away : ((s.threads t).place ≡ able → ⊥) → Levels (gone s.threads t) s.runs s.levels
  levels_away unable =
      levels_aside t s.threads (gone s.threads t) away (parts M).levels unable (λ h. differ now h refl)

  mid_leave_ready :
      (b : Bool) → is_running t s.runs ≡ b → (s.threads t).place ≡ able
      → Mid (set_thread t absent_thread (leave_ready b t s))
  unfolding leave_ready unqueue
  mid_leave_ready true e was =
      mid_gone none s.levels s.endpoints s.lines
      (levels_stop t s.threads (gone s.threads t) away (parts M).levels (is_running_lem s.runs e)
      (λ h. differ now h refl))
      (λ k. site_away k (not_at was refl refl)) (λ k. refl) (lines_away (λ l h. differ was h refl))
  mid_leave_ready false e was =
      let p = (s.threads t).priority in
      mid_gone s.runs (put s.levels p (without t (s.levels p))) s.endpoints s.lines
      (levels_leave t s.threads (gone s.threads t) away _ p (parts M).levels (not_running s.runs e)
      (λ h. differ now h refl) refl (put_same s.levels p _) (put_else s.levels p _))
      (λ k. site_away k (not_at was refl refl)) (λ k. refl) (lines_away (λ l h. differ was h refl))

  mid_leave_endpoint : (e : ℕ) → At (s.threads t).place e → Mid (set_thread t absent_thread (leave_endpoint t e s))
  unfolding leave_endpoint
  mid_leave_endpoint e Q =
      let x = left t (s.endpoints e) in
      let g = gone s.threads t in
      mid_gone s.runs s.levels (put s.endpoints e x) s.lines (levels_away (λ h. not_at h refl refl Q))
      (put_all (λ k y. Site g k y) s.endpoints e x
      (site_leave t s.threads g away e ((parts M).site e) (not_at now refl refl))
      (λ k n. site_away k (λ h. n (at_one Q h))))
      (put_keeps (λ y. is_aborting y.abort) s.endpoints e x (left_aborting t (s.endpoints e)))
      (lines_away (λ l h. not_at h refl refl Q))

  mid_leave_line : (l : ℕ) → (s.threads t).place ≡ waiting l → Mid (set_thread t absent_thread (set_line l quiet s))
  mid_leave_line l on =
      mid_gone s.runs s.levels s.endpoints (put s.lines l quiet) (levels_away (λ h. differ h on refl))
      (λ k. site_away k (not_at on refl refl)) (λ k. refl)
      (lines_leave t s.threads (gone s.threads t) away (parts M).lines _ l on (λ k h. differ now h refl)
      (put_same s.lines l quiet) (put_else s.lines l quiet))

  mid_leave :
      (x : Place) → (x ≡ absent → ⊥) → (s.threads t).place ≡ x → Mid (set_thread t absent_thread (leave x t s))
  unfolding leave
  mid_leave absent present e = absurd (present refl)
  mid_leave able present e = mid_leave_ready (is_running t s.runs) refl e
  mid_leave (sending k) present e = mid_leave_endpoint k (inl e)
  mid_leave (receiving k) present e = mid_leave_endpoint k (inr e)
  mid_leave (waiting l) present e = mid_leave_line l e

-- "A destroyed thread leaves any queue or line": destroy thread.
pub destroy_sound : (s : State) (t : ℕ) → Sound s → Sound (destroy_thread t s).state
unfolding destroy_thread destroy_if
destroy_sound s t S = go (is_absent (s.threads t).place) refl
  where
    D : Drops t s (drop_debt t s)
    D = drop_debt_drops s t

    go : (b : Bool) → is_absent (s.threads t).place ≡ b → Sound (destroy_if b t s).state
    go true e = S
    go false e =
        choose_sound (set_thread t absent_thread (leave (s.threads t).place t (drop_debt t s)))
        (mid_leave (drop_debt t s) t (mid_drop_debt s t (sound_mid S)) D.debt (s.threads t).place
        (λ h. clash (ap is_absent h) e) (keeps_place D.keeps t))

-- 3 and 6: a thread's entry changes, but not its place, badge or debt.

module _ (s : State) (t : ℕ) (x : Thread) (M : Mid s) where
  mid_entry :
      x.place ≡ (s.threads t).place → x.badge ≡ (s.threads t).badge → x.debt ≡ (s.threads t).debt → Entry t x
      → (levels : ℕ → List ℕ) → Levels (put s.threads t x) s.runs levels
      → Mid
      (record {
        threads = put s.threads t x;
        runs = s.runs;
        levels = levels;
        endpoints = s.endpoints;
        lines = s.lines;
      })
  mid_entry place badge debt E levels L =
      let P = parts M in
      let f = s.threads in
      let places = put_keeps (λ y. y.place) f t x place in
      whole
      (record {
        entry = put_all (λ u y. Entry u y) f t x E (λ u n. P.entry u);
        site =
            λ e. site_same f (put f t x) e places (put_keeps (λ y. y.badge) f t x badge)
            (P.site e);
        levels = L;
        lines = lines_same f (put f t x) places P.lines;
        sets = sets_same f (put f t x) s.endpoints s.endpoints (put_keeps (λ y. y.debt) f t x debt) (λ e. refl)
            P.sets;
      })

-- Another priority and other ticks.
entry_changed :
    (t p n : ℕ) (x : Thread) → Entry t x → (x.place ≡ absent → ⊥) → p ≤ 255 → 1 ≤ n → n ≤ 5
    → Entry t (with_ticks n (with_priority p x))
entry_changed t p n x E present low least most =
    let N = E.numbers present in
    record {
      numbers =
          λ k. record {
            thread = N.thread;
            priority = low;
            ticks_least = least;
            ticks_most = most;
            outcome = N.outcome;
            badge = N.badge;
            message = N.message;
            debt = N.debt;
          };
      unused = λ k. absurd (present k);
      blocked = E.blocked;
      stored = E.stored;
    }

module _ (s : State) (t p : ℕ) (M : Mid s) (present : (s.threads t).place ≡ absent → ⊥) (low : p ≤ 255) where
  entry_priority : Entry t (with_priority p (s.threads t))
  entry_priority =
      let E = (parts M).entry t in
      let N = E.numbers present in
      entry_changed t p (s.threads t).ticks (s.threads t) E present low N.ticks_least N.ticks_most

  -- t is not moved: it runs, or it is blocked.
  mid_set :
      Levels (put s.threads t (with_priority p (s.threads t))) s.runs s.levels
      → Mid (set_thread t (with_priority p (s.threads t)) s)
  mid_set =
      mid_entry s t (with_priority p (s.threads t)) M refl refl refl
      entry_priority s.levels

  mid_set_blocked : ((s.threads t).place ≡ able → ⊥) → Mid (set_thread t (with_priority p (s.threads t)) s)
  mid_set_blocked unable =
      let f = s.threads in
      let x = with_priority p (f t) in
      mid_set
      (levels_aside t f (put f t x) (put_else f t x) (parts M).levels unable
      (λ h. unable (sym (put_place f t x) ∙ h)))

  mid_set_running : s.runs ≡ some t → Mid (set_thread t (with_priority p (s.threads t)) s)
  mid_set_running r =
      let f = s.threads in
      let x = with_priority p (f t) in
      mid_set
      (levels_runs t f (put f t x) (put_else f t x) (parts M).levels r
      (put_place f t x ∙ (parts M).levels.running t r))

  mid_move_ready : (s.threads t).place ≡ able → (s.runs ≡ some t → ⊥) → Mid (move_ready true t p s)
  unfolding move_ready enqueue unqueue
  mid_move_ready was idle =
      let f = s.threads in
      let x = with_priority p (f t) in
      let g = put f t x in
      let q = (f t).priority in
      let less = put s.levels q (without t (s.levels q)) in
      mid_entry s t x M refl refl refl entry_priority _
      (levels_join t (gone f t) g (λ u n. put_other f t u x n ∙ sym (put_other f t u absent_thread n)) _ (g t).priority
      (levels_leave t f (gone f t) (put_else f t absent_thread) less q (parts M).levels idle absentee refl
      (put_same s.levels q _) (put_else s.levels q _))
      absentee (put_place f t x ∙ was) refl (at_tail t (less (g t).priority)) (put_same less (g t).priority _)
      (put_else less (g t).priority _))
    where
      absentee : (gone s.threads t t).place ≡ able → ⊥
      absentee h = differ h (put_place s.threads t absent_thread) refl

  mid_change :
      (x : Place) → (s.threads t).place ≡ x → (b : Bool) → is_running t s.runs ≡ b
      → Mid (move_ready (is_able x && not b) t p s)
  unfolding move_ready
  mid_change absent e b r = absurd (present e)
  mid_change able e true r = mid_set_running (is_running_lem s.runs r)
  mid_change able e false r = mid_move_ready e (not_running s.runs r)
  mid_change (sending k) e b r = mid_set_blocked (λ h. differ h e refl)
  mid_change (receiving k) e b r = mid_set_blocked (λ h. differ h e refl)
  mid_change (waiting l) e b r = mid_set_blocked (λ h. differ h e refl)

-- "A changed priority moves a ready thread to the new tail; the same priority changes nothing": set priority.
pub priority_sound : (s : State) (t p : ℕ) → Sound s → p ≤ 255 → Sound (set_priority t p s).state
unfolding set_priority priority_if change_unless
priority_sound s t p S low = go (is_absent (s.threads t).place) refl
  where
    unless :
        (b : Bool) → is_absent (s.threads t).place ≡ false → Mid (change_unless b t p s)
    unless true e = sound_mid S
    unless false e =
        mid_change s t p (sound_mid S) (λ h. clash (ap is_absent h) e) low (s.threads t).place refl
        (is_running t s.runs) refl

    go : (b : Bool) → is_absent (s.threads t).place ≡ b → Sound (priority_if b t p s).state
    go true e = S
    go false e =
        let b = eqb (s.threads t).priority p in
        choose_sound (change_unless b t p s) (unless b e)

-- 6

mid_ticks :
    (s : State) (t n : ℕ) → Mid s → s.runs ≡ some t → 1 ≤ n → n ≤ 5 → Mid (set_thread t (with_ticks n (s.threads t)) s)
mid_ticks s t n M r least most =
    let P = parts M in
    let f = s.threads in
    let x = with_ticks n (f t) in
    let was = P.levels.running t r in
    let present : (f t).place ≡ absent → ⊥ = λ h. differ was h refl in
    let low = ((P.entry t).numbers present).priority in
    mid_entry s t x M refl refl refl (entry_changed t (f t).priority n (f t) (P.entry t) present low least most)
    s.levels
    (levels_runs t f (put f t x) (put_else f t x) P.levels r (put_place f t x ∙ was))

-- "A tick takes one from the running thread; at 0 it has 5 again and goes to its tail": tick.
pub tick_sound : (s : State) → Sound s → Sound (tick s).state
unfolding tick tick_for leave_ticks
tick_sound s S = choose_sound (tick_for s.runs s) (go s.runs refl)
  where
    M : Mid s
    M = sound_mid S

    left_ticks :
        (t : ℕ) → s.runs ≡ some t → (n : ℕ) → n ≤ 5 → Mid (leave_ticks n t s)
    left_ticks t r zero most =
        mid_stand_down (set_thread t (with_ticks 5 (s.threads t)) s) t (mid_ticks s t 5 M r (omega arith) (omega arith))
        r
    left_ticks t r (suc n) most = mid_ticks s t (suc n) M r (omega arith) most

    go : (r : Option ℕ) → s.runs ≡ r → Mid (tick_for r s)
    go none r = M
    go (some t) r =
        let was = M.queues.running t r in
        let N = M.ranges.numbers t (λ h. differ was h refl) in
        left_ticks t r ((s.threads t).ticks - 1) (omega (arith, N.ticks_most))

-- 9

-- "Yield puts the caller at its tail": yield.
pub yield_sound : (s : State) (t : ℕ) → Sound s → s.runs ≡ some t → Sound (yield t s).state
unfolding yield
yield_sound s t S r =
    choose_sound (stand_down t (drop_debt t s))
    (mid_stand_down (drop_debt t s) t (mid_drop_debt s t (sound_mid S)) ((drop_debt_drops s t).keeps.runs ∙ r))
