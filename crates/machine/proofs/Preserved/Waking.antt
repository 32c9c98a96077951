-- Waking and blocking: what the moves of one thread between running, ready, an endpoint and a line leave of Mid.
use Prim.Native.Nat.{ℕ, ◌≤◌, ◌<◌, ◌^◌}
use mathlib.Core.Path.{◌≡◌, refl, sym, ◌∙◌, ap}
use mathlib.Core.Logic.{inl, inr}
use mathlib.Core.Bool.{false}
use mathlib.Core.Option.{Option, none, some}
use mathlib.Core.List.{List, [], ◌∷◌, ◌++◌}
use native.Mathlib.Omega.{arith}
use Rattle.machine.specs.Lists.{put}
use Rattle.machine.specs.State.{State, Thread, Place, absent, able, sending, receiving, waiting, live, quiet}
use Rattle.machine.specs.State.{awaited, absent_thread, with_place, set_runs, set_level, set_line}
use Rattle.machine.specs.Scheduling.{enqueue, enqueue_first, stand_down, stand_back, wake, block}
use Rattle.machine.specs.Endpoints.{under_abort, is_aborting, join_endpoint, leave_endpoint, wake_from}
use Rattle.machine.specs.Sound.{Queued, Numbers, Stores}
use Rattle.machine.proofs.Lists.{put_same, put_other, put_all, Inserted, at_head, at_tail}
use Rattle.machine.specs.Mid.{Mid}
use Rattle.machine.proofs.Preserved.Parts.{At, Entry, Levels, Site, parts, whole}
use Rattle.machine.proofs.Preserved.Ready.{Else, put_else, put_keeps, put_place, levels_stop, levels_join}
use Rattle.machine.proofs.Preserved.Sites.{differ, not_at, at_one, left, left_aborting, joined, not_awaited}
use Rattle.machine.proofs.Preserved.Sites.{site_aside}
use Rattle.machine.proofs.Preserved.Sites.{site_leave, site_join, lines_aside, lines_leave, lines_join}
use Rattle.machine.proofs.Preserved.Sites.{sets_same}

-- The threads with t at another place, with another outcome, badge and message.
abbrev moved : (ℕ → Thread) → ℕ → Place → ℕ → ℕ → ℕ → ℕ → Thread
moved f t p o b m = put f t (with_place p o b m (f t))

-- An outcome, badge and message that a thread at a place may have.
record Carries (p : Place) (o b m : ℕ) : Type 0 where
  pub outcome : o ≤ 5
  pub badge : b < 2 ^ 28
  pub message : m < 2 ^ 28
  pub present : p ≡ absent → ⊥
  pub blocked : (p ≡ able → ⊥) → o ≡ 0
  pub stored : (Stores p o → ⊥) → (b ≡ 0) × (m ≡ 0)

module _ (f : ℕ → Thread) (t : ℕ) (p : Place) (o b m : ℕ) where
  moved_place : (moved f t p o b m t).place ≡ p
  moved_place = put_place f t (with_place p o b m (f t))

  moved_badge : (moved f t p o b m t).badge ≡ b
  moved_badge = ap (λ (y : Thread). y.badge) (put_same f t (with_place p o b m (f t)))

  moved_else : Else t f (moved f t p o b m)
  moved_else = put_else f t (with_place p o b m (f t))

  moved_debt : (u : ℕ) → (moved f t p o b m u).debt ≡ (f u).debt
  moved_debt = put_keeps (λ y. y.debt) f t (with_place p o b m (f t)) refl

  moved_entry :
      ((u : ℕ) → Entry u (f u)) → ((f t).place ≡ absent → ⊥) → Carries p o b m
      → (u : ℕ) → Entry u (moved f t p o b m u)
  moved_entry E present F =
      put_all (λ u y. Entry u y) f t (with_place p o b m (f t))
      (record {
        numbers =
            λ n. record {
              thread = N.thread;
              priority = N.priority;
              ticks_least = N.ticks_least;
              ticks_most = N.ticks_most;
              outcome = F.outcome;
              badge = F.badge;
              message = F.message;
              debt = N.debt;
            };
        unused = λ h. absurd (F.present h);
        blocked = F.blocked;
        stored = F.stored;
      }) (λ u n. E u)
    where
      N : Numbers t (f t)
      N = (E t).numbers present

carries_able : {o b m : ℕ} → o ≤ 5 → b < 2 ^ 28 → m < 2 ^ 28 → ((o ≡ 2 → ⊥) → (b ≡ 0) × (m ≡ 0)) → Carries able o b m
carries_able ho hb hm bare =
    record {
      outcome = ho;
      badge = hb;
      message = hm;
      present = λ h. differ h refl refl;
      blocked = λ h. absurd (h refl);
      stored = bare;
    }

-- A blocked thread t is woken with the outcome and joins its tail: the ready queues.
levels_wake :
    (f : ℕ → Thread) (t o b m : ℕ) {runs : Option ℕ} (L : ℕ → List ℕ) → Levels f runs L → ((f t).place ≡ able → ⊥)
    → (let g = moved f t able o b m in Levels g runs (put L (g t).priority (L (g t).priority ++ (t ∷ []))))
levels_wake f t o b m L S unable =
    let g = moved f t able o b m in
    levels_join t f g (moved_else f t able o b m) _ (g t).priority S unable (moved_place f t able o b m) refl
    (at_tail t (L (g t).priority)) (put_same L (g t).priority _) (put_else L (g t).priority _)

-- t is woken from the queue of endpoint e.
pub mid_wake_from :
    (s : State) (e t o b m : ℕ) → Mid s → Queued s t e → o ≤ 5 → b < 2 ^ 28 → m < 2 ^ 28
    → ((o ≡ 2 → ⊥) → (b ≡ 0) × (m ≡ 0)) → Mid (wake_from e t o b m s)
unfolding wake_from wake leave_endpoint enqueue
mid_wake_from s e t o b m M Q ho hb hm bare =
    let P = parts M in
    let f = s.threads in
    let g = moved f t able o b m in
    let x = left t (s.endpoints e) in
    let now = moved_place f t able o b m in
    let away = moved_else f t able o b m in
    whole
    (record {
      entry = moved_entry f t able o b m P.entry (λ h. not_at h refl refl Q) (carries_able ho hb hm bare);
      site =
          put_all (λ k y. Site g k y) s.endpoints e x (site_leave t f g away e (P.site e) (not_at now refl refl))
          (λ k n. site_aside t f g away k (P.site k) (λ h. n (at_one Q h)) (not_at now refl refl));
      levels = levels_wake f t o b m s.levels P.levels (λ h. not_at h refl refl Q);
      lines = lines_aside t f g away P.lines (λ l h. not_at h refl refl Q) (λ l h. differ now h refl);
      sets =
          sets_same f g s.endpoints (put s.endpoints e x) (moved_debt f t able o b m)
          (put_keeps (λ y. is_aborting y.abort) s.endpoints e x (left_aborting t (s.endpoints e))) P.sets;
    })

-- The waiter t on line l is woken.
pub mid_wake_line :
    (s : State) (l t : ℕ) → Mid s → s.lines l ≡ awaited t → Mid (wake t 5 0 0 (set_line l quiet s))
unfolding wake enqueue
mid_wake_line s l t M waits =
    let P = parts M in
    let f = s.threads in
    let g = moved f t able 5 0 0 in
    let now = moved_place f t able 5 0 0 in
    let away = moved_else f t able 5 0 0 in
    let on = (P.lines.on_line t l).0 waits in
    whole
    (record {
      entry =
          moved_entry f t able 5 0 0 P.entry (λ h. differ h on refl)
          (carries_able (omega arith) (omega arith) (omega arith) (λ h. (refl, refl)));
      site = λ e. site_aside t f g away e (P.site e) (not_at on refl refl) (not_at now refl refl);
      levels = levels_wake f t 5 0 0 s.levels P.levels (λ h. differ h on refl);
      lines =
          lines_leave t f g away P.lines (put s.lines l quiet) l on (λ k h. differ now h refl)
          (put_same s.lines l quiet) (put_else s.lines l quiet);
      sets = sets_same f g s.endpoints s.endpoints (moved_debt f t able 5 0 0) (λ e. refl) P.sets;
    })

-- The running thread t joins its level's queue, which becomes l, and nobody runs.
mid_stand :
    (s : State) (t : ℕ) {l : List ℕ} → Mid s → s.runs ≡ some t → Inserted t (s.levels (s.threads t).priority) l
    → Mid (set_level (s.threads t).priority l (set_runs none s))
mid_stand s t {l} M r I =
    let P = parts M in
    let f = s.threads in
    let g = put f t absent_thread in
    let p = (f t).priority in
    let now = put_place f t absent_thread in
    let gone : (g t).place ≡ able → ⊥ = λ h. differ h now refl in
    whole
    (record {
      entry = P.entry;
      site = P.site;
      levels =
          levels_join t g f (λ u n. sym (put_other f t u absent_thread n)) (put s.levels p l) p
          (levels_stop t f g (put_else f t absent_thread) P.levels r gone) gone (P.levels.running t r) refl I
          (put_same s.levels p l) (put_else s.levels p l);
      lines = P.lines;
      sets = P.sets;
    })

-- It goes to its tail where it stands down, and to its head where it is displaced.

pub mid_stand_down : (s : State) (t : ℕ) → Mid s → s.runs ≡ some t → Mid (stand_down t s)
unfolding stand_down enqueue
mid_stand_down s t M r = mid_stand s t M r (at_tail t (s.levels (s.threads t).priority))

pub mid_stand_back : (s : State) (t : ℕ) → Mid s → s.runs ≡ some t → Mid (stand_back t s)
unfolding stand_back enqueue_first
mid_stand_back s t M r = mid_stand s t M r (at_head t (s.levels (s.threads t).priority))

-- The running thread t blocks at the tail of the queue of endpoint e.
module _ (s : State) (t e : ℕ) (M : Mid s) (r : s.runs ≡ some t) (up : (s.endpoints e).status ≡ live) where
  mid_queue :
      (p : Place) (b m : ℕ) → At p e → Carries p 0 b m
      → (p ≡ sending e → (u : ℕ) → (s.threads u).place ≡ receiving e → ⊥)
      → (p ≡ receiving e → (u : ℕ) → (s.threads u).place ≡ sending e → ⊥)
      → (p ≡ sending e → under_abort b (s.endpoints e).abort ≡ false) → Mid (block t p b m (join_endpoint t e s))
  unfolding block join_endpoint
  mid_queue p b m at F no_receiver no_sender clear =
      let P = parts M in
      let f = s.threads in
      let g = moved f t p 0 b m in
      let x = joined t (s.endpoints e) in
      let was = P.levels.running t r in
      let now = moved_place f t p 0 b m in
      let away = moved_else f t p 0 b m in
      whole
      (record {
        entry = moved_entry f t p 0 b m P.entry (λ h. differ was h refl) F;
        site =
            put_all (λ k y. Site g k y) s.endpoints e x
            (site_join t f g away e (P.site e) up (not_at was refl refl) (rw now at) (λ h. no_receiver (sym now ∙ h))
            (λ h. no_sender (sym now ∙ h)) (λ h. rw (moved_badge f t p 0 b m) (clear (sym now ∙ h))))
            (λ k n. site_aside t f g away k (P.site k) (not_at was refl refl) (λ h. n (at_one at (rw now at h))));
        levels = levels_stop t f g away P.levels r (λ h. not_at (sym now ∙ h) refl refl at);
        lines = lines_aside t f g away P.lines (λ l h. differ was h refl) (λ l h. not_at (sym now ∙ h) refl refl at);
        sets =
            sets_same f g s.endpoints (put s.endpoints e x) (moved_debt f t p 0 b m)
            (put_keeps (λ y. is_aborting y.abort) s.endpoints e x refl) P.sets;
      })

  pub mid_block_send :
      (b m : ℕ) → b < 2 ^ 28 → m < 2 ^ 28 → ((u : ℕ) → (s.threads u).place ≡ receiving e → ⊥)
      → under_abort b (s.endpoints e).abort ≡ false → Mid (block t (sending e) b m (join_endpoint t e s))
  mid_block_send b m hb hm no_receiver clear =
      mid_queue (sending e) b m (inl refl)
      (record {
        outcome = omega arith;
        badge = hb;
        message = hm;
        present = λ h. differ h refl refl;
        blocked = λ h. refl;
        stored = λ h. absurd (h tt);
      })
      (λ h. no_receiver) (λ h. absurd (differ h refl refl)) (λ h. clear)

  pub mid_block_receive :
      ((u : ℕ) → (s.threads u).place ≡ sending e → ⊥) → Mid (block t (receiving e) 0 0 (join_endpoint t e s))
  mid_block_receive no_sender =
      mid_queue (receiving e) 0 0 (inr refl)
      (record {
        outcome = omega arith;
        badge = omega arith;
        message = omega arith;
        present = λ h. differ h refl refl;
        blocked = λ h. refl;
        stored = λ h. (refl, refl);
      })
      (λ h. absurd (differ h refl refl)) (λ h. no_sender) (λ h. absurd (differ h refl refl))

-- The running thread t blocks on line l, which has no waiter.
pub mid_block_line :
    (s : State) (t l : ℕ) → Mid s → s.runs ≡ some t → l ≤ 31 → s.lines l ≡ quiet
    → Mid (block t (waiting l) 0 0 (set_line l (awaited t) s))
unfolding block
mid_block_line s t l M r low free =
    let P = parts M in
    let f = s.threads in
    let g = moved f t (waiting l) 0 0 0 in
    let was = P.levels.running t r in
    let now = moved_place f t (waiting l) 0 0 0 in
    let away = moved_else f t (waiting l) 0 0 0 in
    whole
    (record {
      entry =
          moved_entry f t (waiting l) 0 0 0 P.entry (λ h. differ was h refl)
          (record {
            outcome = omega arith;
            badge = omega arith;
            message = omega arith;
            present = λ h. differ h refl refl;
            blocked = λ h. refl;
            stored = λ h. (refl, refl);
          });
      site = λ e. site_aside t f g away e (P.site e) (not_at was refl refl) (not_at now refl refl);
      levels = levels_stop t f g away P.levels r (λ h. differ h now refl);
      lines =
          lines_join t f g away P.lines (put s.lines l (awaited t)) l low (λ k h. differ was h refl) now
          (λ u h. not_awaited free h) (put_same s.lines l (awaited t)) (put_else s.lines l (awaited t));
      sets = sets_same f g s.endpoints s.endpoints (moved_debt f t (waiting l) 0 0 0) (λ e. refl) P.sets;
    })
