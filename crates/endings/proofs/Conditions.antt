-- What the steps ask holds in the middle of every call.
use Prim.Native.Nat.{ℕ, ◌≤◌, ◌<◌}
use mathlib.Core.Path.{◌≡◌, refl, sym, subst}
use mathlib.Core.Logic.{◌⊎◌, inl, inr, ⊎_elim}
use mathlib.Core.Bool.{true}
use mathlib.Core.Option.{Option, none, some}
use mathlib.Core.List.{List, [], ◌∷◌}
use native.Mathlib.Omega.{arith}
use Rattle.machine.specs.Lists.{put, without, Mem}
use Rattle.machine.specs.State.{State, Place, absent, able, sending, receiving, Abort, awaited, quiet}
use Rattle.machine.specs.State.{Endpoint, missing_endpoint, set_line}
use Rattle.machine.specs.Endpoints.{is_aborting, pending_of}
use Rattle.machine.specs.Scheduling.{unqueue}
use Rattle.machine.specs.Sound.{Present, Ready, Queued}
use Rattle.machine.specs.Mid.{Mid}
use Rattle.machine.proofs.Lists.{Same, same, other, same?, clash, put_same, put_other, mem_without}
use Rattle.machine.proofs.Preserved.Sites.{differ, not_at}
use Rattle.machine.proofs.Preserved.Aborts.{running_present}
use Rattle.layout.specs.Words.{queues_of}
use Rattle.layout.proofs.Addresses.{below?}
use Rattle.layout.proofs.Standing.{queue?, Queue, level, endpoint, queues_level, queues_endpoint}
use Rattle.links.specs.Links.{Free}
use Rattle.store.specs.Store.{creating, prioritising}
use Rattle.queues.specs.Queues.{Loose, InLevel, Chooses, ToEndpoint, InEndpoint}
use Rattle.debts.specs.Debts.{PairInRange, InCall, AllAt, Alike, BeginsAbort}

-- A thread is in no queue if it is in no level's and no endpoint's.
pub free_of :
    (s : State) (t : ℕ) → ((p : ℕ) → Mem t (s.levels p) → ⊥) → ((e : ℕ) → Mem t (s.endpoints e).waiters → ⊥)
    → Free (queues_of s) t
free_of s t levels waiters q h = go (queue? q h)
  where
    go : Queue q → Mem t (queues_of s q) → ⊥
    go (level k) m = levels q (rw (queues_level s q k) at m)
    go (endpoint e k i) m = waiters e (rw (i, queues_endpoint s e) at m)

-- A missing endpoint has no abort.
no_abort : {x : Endpoint} {a : Abort} {A : Type 0} → x ≡ missing_endpoint → x.abort ≡ some a → A
no_abort {x} {a} h k = let z : ◌≡◌ {A = ℕ} 0 1 = cc in absurd (omega arith)

module _ {s : State} (M : Mid s) where
  -- Who runs, and who is blocked on a line or absent, stands in no queue.

  pub running_free : {t : ℕ} → s.runs ≡ some t → Free (queues_of s) t
  running_free {t} r =
      free_of s t (λ p m. ((M.queues.ready t p).0 m).0.1 r)
      (λ e m. not_at (M.queues.running t r) refl refl ((M.queues.queued t e).0 m))

  pub apart_free :
      {t : ℕ} {x : Place} → (s.threads t).place ≡ x → (((s.threads t).place ≡ able) → ⊥)
      → ((e : ℕ) → Queued s t e → ⊥) → Free (queues_of s) t
  apart_free {t} h a q =
      free_of s t (λ p m. a ((M.queues.ready t p).0 m).0.0) (λ e m. q e ((M.queues.queued t e).0 m))

  pub present_thread_lem : {t : ℕ} → Present s t → t ≤ 255
  present_thread_lem {t} p = (M.ranges.numbers t p).thread

  pub present_level : {t : ℕ} → Present s t → (s.threads t).priority ≤ 255
  present_level {t} p = (M.ranges.numbers t p).priority

  -- The running thread.

  pub running_thread : {t : ℕ} → s.runs ≡ some t → t ≤ 255
  running_thread r = present_thread_lem (running_present M r)

  pub running_loose : {t : ℕ} → s.runs ≡ some t → Loose t s
  running_loose r =
      record {
        thread = running_thread r;
        level = present_level (running_present M r);
        free = running_free r;
      }

  pub mid_chooses : Chooses s
  mid_chooses = record { running = λ t r. running_loose r }

  pub running_comes : {t e : ℕ} → s.runs ≡ some t → e ≤ 63 → ToEndpoint t e s
  running_comes r h = record { thread = running_thread r; endpoint = h; free = running_free r }

  -- A ready thread stands in its level's queue, a queued one at its endpoint.

  pub ready_stands : {t : ℕ} → Ready s t → InLevel t s
  ready_stands {t} a =
      let p : Present s t = λ k. differ a.0 k refl in
      record {
        thread = present_thread_lem p;
        level = present_level p;
        stands = (M.queues.ready t (s.threads t).priority).1 (a, refl);
      }

  pub queued_present : {t e : ℕ} → Queued s t e → Present s t
  queued_present (inl h) k = differ h k refl
  queued_present (inr h) k = differ h k refl

  pub queued_waits : {t e : ℕ} → Queued s t e → e ≤ 63 → InEndpoint t e s
  queued_waits {t} {e} q h =
      record {
        thread = present_thread_lem (queued_present q);
        level = present_level (queued_present q);
        endpoint = h;
        stands = (M.queues.queued t e).1 q;
        part =
            λ a k. let p = M.marks.part e a k in (p.before, p.behind, p.within);
      }

  pub first_waits : {t e : ℕ} {l : List ℕ} → (s.endpoints e).waiters ≡ t ∷ l → e ≤ 63 → InEndpoint t e s
  first_waits {t} {e} {l} k h =
      queued_waits ((M.queues.queued t e).0 (subst (λ (x : List ℕ). Mem t x) (sym k) (inl refl))) h

  -- Sets, notes and aborts.

  pub stands_small : {e : ℕ} {a : Abort} → (s.endpoints e).abort ≡ some a → e ≤ 63
  stands_small {e} {a} k = go (below? e 64)
    where
      go : (e < 64) ⊎ (64 ≤ e) → e ≤ 63
      go (inl h) = omega arith
      go (inr h) = no_abort (M.ranges.unused_endpoint e h) k

  aborting_small : {e : ℕ} → is_aborting (s.endpoints e).abort ≡ true → e ≤ 63
  aborting_small {e} = go (s.endpoints e).abort refl
    where
      go : (x : Option Abort) → (s.endpoints e).abort ≡ x → is_aborting x ≡ true → e ≤ 63
      go none k h = absurd (clash h refl)
      go (some a) k h = stands_small k

  pub running_range : {t e : ℕ} → s.runs ≡ some t → e ≤ 63 → PairInRange t e s
  running_range r h = record { thread = running_thread r; endpoint = h }

  pub running_calls : {t e : ℕ} → s.runs ≡ some t → e ≤ 63 → InCall t e s
  running_calls {t} r h =
      record { range = running_range r h; set = λ f d. aborting_small (M.members.stands f t d) }

  pub mid_alike : {e : ℕ} → e ≤ 63 → Alike e s
  mid_alike {e} h = record { endpoint = h; alike = go (s.endpoints e).waiters refl }
    where
      all : (l : List ℕ) → (s.endpoints e).waiters ≡ l → (w : ℕ) → Mem w l → Queued s w e
          → AllAt (sending e) e s ⊎ AllAt (receiving e) e s
      all l k w m (inl q) =
          inl (λ u n. ⊎_elim (λ z. z) (λ z. absurd (M.queues.one_kind e w u q z)) ((M.queues.queued u e).0 n))
      all l k w m (inr q) =
          inr (λ u n. ⊎_elim (λ z. absurd (M.queues.one_kind e u w z q)) (λ z. z) ((M.queues.queued u e).0 n))

      go : (l : List ℕ) → (s.endpoints e).waiters ≡ l → AllAt (sending e) e s ⊎ AllAt (receiving e) e s
      go [] k = inl (λ u m. absurd (subst (λ (x : List ℕ). Mem u x) k m))
      go (w ∷ l) k =
          all (w ∷ l) k w (inl refl)
          ((M.queues.queued w e).0 (subst (λ (x : List ℕ). Mem w x) (sym k) (inl refl)))

  pub running_begins : {t e : ℕ} → s.runs ≡ some t → e ≤ 63 → BeginsAbort t e s
  running_begins r h = record { thread = running_thread r; waiters = mid_alike h }

  pub pending_queued :
      {w e : ℕ} {l : List ℕ} → pending_of (s.endpoints e).abort ≡ w ∷ l → (s.threads w).place ≡ sending e
  pending_queued {w} {e} {l} k = go (s.endpoints e).abort refl k
    where
      go : (x : Option Abort) → (s.endpoints e).abort ≡ x → pending_of x ≡ w ∷ l → (s.threads w).place ≡ sending e
      go none j i = let z : ◌≡◌ {A = ℕ} 0 1 = cc in absurd (omega arith)
      go (some a) j i =
          (M.marks.part e a j).sends w (subst (λ (x : List ℕ). Mem w x) (sym i) (inl refl))

  pub pending_endpoint : {w e : ℕ} {l : List ℕ} → pending_of (s.endpoints e).abort ≡ w ∷ l → e ≤ 63
  pending_endpoint {w} {e} {l} k = go (s.endpoints e).abort refl k
    where
      go : (x : Option Abort) → (s.endpoints e).abort ≡ x → pending_of x ≡ w ∷ l → e ≤ 63
      go none j i = let z : ◌≡◌ {A = ℕ} 0 1 = cc in absurd (omega arith)
      go (some a) j i = stands_small j

-- A thread just made, one woken from its line, and a ready one that has left its level's queue to get another priority.

pub created_loose :
    {s : State} {t p : ℕ} → Mid s → (s.threads t).place ≡ absent → t ≤ 255 → p ≤ 255 → Loose t (creating t p s)
unfolding queues_of
created_loose {s} {t} {p} M h n k =
    record {
      thread = n;
      level = rw (put_same s.threads t) k;
      free = apart_free M h (λ a. differ h a refl) (λ e. not_at h refl refl);
    }

pub awaited_loose : {s : State} {t l : ℕ} → Mid s → s.lines l ≡ awaited t → Loose t (set_line l quiet s)
unfolding queues_of
awaited_loose {s} {t} {l} M h =
    let w = (M.queues.on_line t l).0 h in
    let p : Present s t = λ k. differ w k refl in
    record {
      thread = present_thread_lem M p;
      level = present_level M p;
      free = apart_free M w (λ a. differ w a refl) (λ e. not_at w refl refl);
    }

pub moved_loose :
    {s : State} {t p : ℕ} → Mid s → Ready s t → p ≤ 255 → Loose t (prioritising t p (unqueue t s))
unfolding unqueue
moved_loose {s} {t} {p} M a k =
    record {
      thread = (ready_stands M a).thread;
      level = rw (put_same s.threads t) k;
      free = free_of (prioritising t p (unqueue t s)) t levels waiters;
    }
  where
    levels :
        (q : ℕ) → Mem t (put s.levels (s.threads t).priority (without t (s.levels (s.threads t).priority)) q)
        → ⊥
    levels q m = go (same? q (s.threads t).priority)
      where
        go : Same q (s.threads t).priority → ⊥
        go (same e _) = (mem_without t t _ (rw (e, put_same s.levels (s.threads t).priority) at m)).1 refl
        go (other d _) =
            d (sym ((M.queues.ready t q).0 (rw (put_other s.levels (s.threads t).priority q _ d) at m)).1)

    waiters : (e : ℕ) → Mem t (s.endpoints e).waiters → ⊥
    waiters e m = not_at a.0 refl refl ((M.queues.queued t e).0 m)
