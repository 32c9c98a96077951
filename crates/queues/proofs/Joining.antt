-- Joining a queue: what it asks, what it does, and steps one after the other that end in it.
use Prim.Native.Nat.{ℕ, ◌≤◌}
use mathlib.Core.Path.{◌≡◌, refl}
use mathlib.Core.Bool.{true}
use mathlib.Core.Option.{Option, none}
use mathlib.Core.List.{List, [], ◌∷◌, ◌++◌}
use native.Mathlib.Omega.{arith}
use Rattle.machine.specs.Lists.{put}
use Rattle.machine.specs.State.{State, Place, able, set_runs, set_level}
use Rattle.machine.specs.Scheduling.{enqueue, enqueue_first, stand_down, stand_back, wake, block, occupied}
use Rattle.machine.specs.Endpoints.{join_endpoint}
use Rattle.machine.proofs.Lists.{put_same}
use Rattle.layout.specs.Addresses.{endpoint_queue}
use Rattle.layout.specs.declared.Field.{Field}
use Rattle.layout.specs.Words.{queues_of}
use Rattle.layout.specs.Shows.{Linked, Shows}
use Rattle.layout.proofs.Standing.{queues_level, queues_endpoint}
use Rattle.links.specs.Links.{JoinsQueue, JoinsFirst, JoinsLast}
use Rattle.store.specs.Steps.{Shown, Does, Tells}
use Rattle.store.specs.Store.{IsThread, placing, SetsPlace, SetsRunning}
use Rattle.store.specs.Readings.{thread_in}
use Rattle.store.specs.Levels.{SetsLevel}
use Rattle.queues.specs.Queues.{Loose, ToEndpoint, BlocksAt}
use Rattle.queues.proofs.Changed.{level_marked, waiters_linked}

-- One step after another.

module _ {m n : List ℕ} {P Q : State → Type 0} {f : State → State} (D : Does m n P f)
    (q : (s : State) → Shows m s → P s → Q (f s)) where
  pub shown_next : Shown m P → Shown n Q
  shown_next S =
      record {
        state = f S.state;
        shows = D.shows S.state S.shows S.holds;
        holds = q S.state S.shows S.holds;
      }

  pub and_then : {o : List ℕ} {g : State → State} → Does n o Q g → Does m o P (λ s. g (f s))
  and_then E = record { shows = λ s M h. E.shows (f s) (D.shows s M h) (q s M h) }

-- Joining a level's queue.

module _ {m : List ℕ} {t p : ℕ} (R : Tells m (IsThread t) p (thread_in Field.Priority t)) where
  pub level_of_lem : (s : State) → Shows m s → Loose t s → p ≡ (s.threads t).priority
  level_of_lem s M h = R.tells s M h.thread

  module _ {place : List ℕ → List ℕ} {n : List ℕ} (J : JoinsQueue place m p t n) where
    -- At whichever end it joins.
    joined_level :
        {o : List ℕ} → ((l : List ℕ) → true ≡ occupied (place l)) → SetsLevel n p true o → (s : State) → Shows m s
        → Loose t s → Shows o (set_level (s.threads t).priority (place (s.levels (s.threads t).priority)) s)
    joined_level {o} filled D s M h = go (level_of_lem s M h)
      where
        go : p ≡ (s.threads t).priority
            → Shows o (set_level (s.threads t).priority (place (s.levels (s.threads t).priority)) s)
        go e =
            let k : p ≤ 255 = omega (arith, h.level) in
            let L : Linked n (put (queues_of s) p (place (queues_of s p))) =
            J.links (queues_of s) M.links h.free in
            rw (← e)
            (level_marked p (place (s.levels p)) k M J.kept (rw (queues_level s p k) at L) D
            (filled (s.levels p)))

  pub enqueued : {n o : List ℕ} → JoinsLast m p t n → SetsLevel n p true o → Does m o (Loose t) (enqueue t)
  unfolding enqueue
  enqueued J D = record { shows = joined_level J filled D }
    where
      filled : (l : List ℕ) → true ≡ occupied (l ++ (t ∷ []))
      filled [] = refl
      filled (u ∷ l) = refl

  pub enqueued_first : {n o : List ℕ} → JoinsFirst m p t n → SetsLevel n p true o → Does m o (Loose t) (enqueue_first t)
  unfolding enqueue_first
  enqueued_first J D = record { shows = joined_level J (λ l. refl) D }

-- A thread in no queue is in none after a step on its words.

pub loose_runs : {t : ℕ} (r : Option ℕ) (s : State) → Loose t s → Loose t (set_runs r s)
unfolding queues_of
loose_runs r s h = record { thread = h.thread; level = h.level; free = h.free }

pub loose_placed :
    {t : ℕ} (p : Place) (o b x : ℕ) (s : State) → Loose t s → Loose t (placing t p o b x s)
unfolding queues_of
loose_placed {t} p o b x s h =
    record { thread = h.thread; level = rw (put_same s.threads t) h.level; free = h.free }

-- Steps that end in joining.

module _ {t : ℕ} {m n : List ℕ} where
  stopped : SetsRunning m 0 n → Does m n (Loose t) (set_runs none)
  stopped R = record { shows = λ s M h. (R.does none refl).shows s M tt }

  pub stopped_shown : Shown m (Loose t) → SetsRunning m 0 n → Shown n (Loose t)
  stopped_shown S R = shown_next (stopped R) (λ s _ h. loose_runs none s h) S

  pub stood_down : {o : List ℕ} → SetsRunning m 0 n → Does n o (Loose t) (enqueue t) → Does m o (Loose t) (stand_down t)
  unfolding stand_down
  stood_down R E = and_then (stopped R) (λ s _ h. loose_runs none s h) E

  pub stood_back :
      {o : List ℕ} → SetsRunning m 0 n → Does n o (Loose t) (enqueue_first t) → Does m o (Loose t) (stand_back t)
  unfolding stand_back
  stood_back R E = and_then (stopped R) (λ s _ h. loose_runs none s h) E

module _ {t : ℕ} {m n : List ℕ} (o b x : ℕ) where
  roused : SetsPlace m t 1 o b x n → Does m n (Loose t) (placing t able o b x)
  roused P = record { shows = λ s M h. (P.does able refl).shows s M h.thread }

  pub roused_shown : Shown m (Loose t) → SetsPlace m t 1 o b x n → Shown n (Loose t)
  roused_shown S P = shown_next (roused P) (λ s _ h. loose_placed able o b x s h) S

  pub woken :
      {k : List ℕ} → SetsPlace m t 1 o b x n → Does n k (Loose t) (enqueue t) → Does m k (Loose t) (wake t o b x)
  unfolding wake
  woken P E = and_then (roused P) (λ s _ h. loose_placed able o b x s h) E

-- Nobody runs, and the thread is at its place.
module _ {t : ℕ} {m n : List ℕ} (R : SetsRunning m 0 n) where
  pub halted_shown : Shown m (IsThread t) → Shown n (IsThread t)
  halted_shown S =
      record {
        state = set_runs none S.state;
        shows = (R.does none refl).shows S.state S.shows tt;
        holds = S.holds;
      }

  pub blocked : {o : List ℕ} (code b x : ℕ) → SetsPlace n t code 0 b x o → BlocksAt m t code b x o
  unfolding block
  blocked code b x P =
      record {
        does = λ p e.
            record { shows = λ s M h. (P.does p e).shows (set_runs none s) ((R.does none refl).shows s M tt) h };
      }

-- Joining an endpoint's queue.
module _ {m : List ℕ} {t e : ℕ} where
  pub joined : {n : List ℕ} → JoinsLast m (endpoint_queue e) t n → Does m n (ToEndpoint t e) (join_endpoint t e)
  unfolding join_endpoint
  joined {n} J = record { shows = λ s M h. go s M h }
    where
      go : (s : State) → Shows m s → ToEndpoint t e s → Shows n (join_endpoint t e s)
      go s M h =
          let L : Linked n (put (queues_of s) (endpoint_queue e) (queues_of s (endpoint_queue e) ++ (t ∷ []))) =
          J.links (queues_of s) M.links h.free in
          waiters_linked s e ((s.endpoints e).waiters ++ (t ∷ [])) h.endpoint M J.kept
          (rw (queues_endpoint s e) at L)
