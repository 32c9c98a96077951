-- Leaving a level's queue and an endpoint's: what it asks, and what it does.
use Prim.Native.Nat.{ℕ, suc}
use mathlib.Core.Path.{◌≡◌, refl, sym, ◌∙◌, ap, subst}
use mathlib.Core.Logic.{inl}
use mathlib.Core.Bool.{true, false}
use mathlib.Core.List.{List, [], ◌∷◌}
use native.Mathlib.Omega.{arith}
use Rattle.machine.specs.Lists.{put, without, Mem}
use Rattle.machine.specs.State.{State, Endpoint, set_endpoint}
use Rattle.machine.specs.Scheduling.{unqueue, wake, occupied}
use Rattle.machine.specs.Endpoints.{leave_endpoint, wake_from}
use Rattle.machine.proofs.Lists.{put_same, put_again}
use Rattle.layout.specs.Addresses.{endpoint_queue}
use Rattle.layout.specs.declared.Field.{Field}
use Rattle.layout.specs.Words.{first_of, queues_of}
use Rattle.layout.specs.Shows.{Linked, Shows}
use Rattle.layout.proofs.Standing.{queues_level, queues_endpoint as endpoint_queue_lem}
use Rattle.links.specs.Links.{Leavable, Leads, LeavesQueue, First}
use Rattle.links.proofs.Neatness.{linked_neat, free_leave}
use Rattle.layout.proofs.Chains.{first_zero}
use Rattle.store.specs.Steps.{Shown, Does, Tells}
use Rattle.store.specs.Store.{IsThread}
use Rattle.store.specs.Readings.{thread_in}
use Rattle.store.specs.Levels.{SetsLevel}
use Rattle.queues.specs.Queues.{Loose, InLevel, InLevelAt, HeadAt, InEndpoint, leave_level, passing_at}
use Rattle.queues.proofs.Changed.{queues_endpoint, level_marked, level_unmarked, waited, waiters_linked}
use Rattle.queues.proofs.Joining.{shown_next, and_then}

-- Leaving the queue of level p.

occupied_by : (t : ℕ) (l : List ℕ) → Mem t l → occupied l ≡ true
occupied_by t [] k = absurd k
occupied_by t (u ∷ l) k = refl

occupied_first : (l : List ℕ) → (first_of l ≡ 0 → ⊥) → occupied l ≡ true
occupied_first [] n = absurd (n refl)
occupied_first (u ∷ l) n = refl

stands_first : (t : ℕ) (l : List ℕ) → first_of l ≡ suc t → Mem t l
stands_first t [] e = absurd (omega arith)
stands_first t (u ∷ l) e = let i : t ≡ u = omega arith in inl i

module _ {m : List ℕ} {p t : ℕ} where
  abbrev pub leavable_level : Shown m (InLevelAt p t) → Leavable m p t
  leavable_level S =
      record {
        size = S.shows.size;
        queue = omega (arith, S.holds.level);
        queues = queues_of S.state;
        linked = S.shows.links;
        stands = rw (queues_level S.state p S.holds.level) S.holds.stands;
      }

  pub leading_level : Shown m (HeadAt p t) → Leads m p t
  leading_level S =
      let s = S.state in
      let e = queues_level s p S.holds.level in
      record {
        leavable =
            leavable_level
            (record {
              state = s;
              shows = S.shows;
              holds = record { level = S.holds.level; stands = stands_first t (s.levels p) S.holds.first };
            });
        first = rw e S.holds.first;
      }

  module _ {n : List ℕ} (U : LeavesQueue m p t n) where
    unlinked : (s : State) → Shows m s → InLevelAt p t s → Linked n (put (queues_of s) p (without t (s.levels p)))
    unlinked s M h =
        let e = queues_level s p h.level in
        rw e at (U.links (queues_of s) M.links (rw e h.stands))

    first_left :
        {r : ℕ} → First n p r → (s : State) → Shows m s → InLevelAt p t s → r ≡ first_of (without t (s.levels p))
    first_left F s M h =
        F.first (put (queues_of s) p (without t (s.levels p))) (unlinked s M h)
        ∙ ap first_of (put_same (queues_of s) p (without t (s.levels p)))

    pub emptied :
        {r : ℕ} {o : List ℕ} → First n p r → r ≡ 0 → SetsLevel n p false o → Does m o (InLevelAt p t) (leave_level p t)
    emptied F z D =
        record {
          shows = λ s M h.
              let k = first_zero (without t (s.levels p)) (sym (first_left F s M h) ∙ z) in
              level_marked p (without t (s.levels p)) h.level M U.kept (unlinked s M h) D
              (sym (ap occupied k));
        }

    pub still_occupied :
        {r : ℕ} → First n p r → (r ≡ 0 → ⊥) → Does m n (InLevelAt p t) (leave_level p t)
    still_occupied F z =
        record {
          shows = λ s M h.
              let f = first_left F s M h in
              level_unmarked p (without t (s.levels p)) h.level M U.kept (unlinked s M h)
              (occupied_first (without t (s.levels p)) (λ k. z (f ∙ k))
              ∙ sym (occupied_by t (s.levels p) h.stands));
        }

-- Leaving the queue of the thread's own level.

module _ {m : List ℕ} {t p : ℕ} (R : Tells m (IsThread t) p (thread_in Field.Priority t)) where
  own_level : (s : State) → Shows m s → InLevel t s → InLevelAt p t s
  own_level s M h =
      let e = R.tells s M h.thread in record { level = rw e h.level; stands = rw e h.stands }

  pub unqueued : {n : List ℕ} → Does m n (InLevelAt p t) (leave_level p t) → Does m n (InLevel t) (unqueue t)
  unfolding unqueue
  unqueued D =
      record { shows = λ s M h. rw (R.tells s M h.thread) at (D.shows s M (own_level s M h)) }

-- Leaving the queue of endpoint e, whose marks have passed on.

set_twice : (e : ℕ) (x y : Endpoint) (s : State) → set_endpoint e y (set_endpoint e x s) ≡ set_endpoint e y s
set_twice e x y s =
    ap (λ f. record { threads = s.threads; runs = s.runs; levels = s.levels; endpoints = f; lines = s.lines })
    (put_again s.endpoints e x y)

module _ {m n : List ℕ} {t e : ℕ} (P : Does m n (InEndpoint t e) (passing_at t e)) where
  still_stands : (s : State) → InEndpoint t e s → Mem t (queues_of (passing_at t e s) (endpoint_queue e))
  still_stands s h = rw (endpoint_queue_lem (passing_at t e s) e, put_same s.endpoints e) h.stands

  pub leavable_endpoint : Shown m (InEndpoint t e) → Leavable n (endpoint_queue e) t
  leavable_endpoint S =
      let M = P.shows S.state S.shows S.holds in
      record {
        size = M.size;
        queue = omega (arith, S.holds.endpoint);
        queues = queues_of (passing_at t e S.state);
        linked = M.links;
        stands = still_stands S.state S.holds;
      }

  pub left : {o : List ℕ} → LeavesQueue n (endpoint_queue e) t o → Does m o (InEndpoint t e) (leave_endpoint t e)
  unfolding leave_endpoint
  left {o} U = record { shows = λ s M h. go s M h }
    where
      go : (s : State) → Shows m s → InEndpoint t e s → Shows o (leave_endpoint t e s)
      go s M h =
          let z = passing_at t e s in
          let N : Shows n z = P.shows s M h in
          let L : Linked o (put (queues_of z) (endpoint_queue e) (without t (queues_of z (endpoint_queue e)))) =
          U.links (queues_of z) N.links (still_stands s h) in
          let K : Shows o (waited e (without t (z.endpoints e).waiters) z) =
          waiters_linked z e (without t (z.endpoints e).waiters) h.endpoint N U.kept
          (rw (endpoint_queue_lem z e) at L) in
          subst (λ k. Shows o k) (set_twice e _ _ s) (rw (put_same s.endpoints e) at K)

-- Who has left an endpoint's queue is in none, and may be woken.

left_loose : {m : List ℕ} {t e : ℕ} (s : State) → Shows m s → InEndpoint t e s → Loose t (leave_endpoint t e s)
unfolding leave_endpoint
left_loose {m} {t} {e} s M h =
    record {
      thread = h.thread;
      level = h.level;
      free = λ q g k.
          free_leave (endpoint_queue e) t (linked_neat M.links) (omega (arith, h.endpoint))
          (rw (endpoint_queue_lem s e) h.stands) q g
          (rw (endpoint_queue_lem s e) (rw (queues_endpoint s e _ h.endpoint q) at k));
    }

module _ {m n : List ℕ} {t e : ℕ} (D : Does m n (InEndpoint t e) (leave_endpoint t e)) where
  pub left_shown : Shown m (InEndpoint t e) → Shown n (Loose t)
  left_shown = shown_next D left_loose

  pub woken_from :
      {o : List ℕ} (x b k : ℕ) → Does n o (Loose t) (wake t x b k) → Does m o (InEndpoint t e) (wake_from e t x b k)
  unfolding wake_from
  woken_from x b k E = and_then D left_loose E
