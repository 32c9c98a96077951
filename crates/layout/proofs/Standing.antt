-- Where threads stand in a state whose numbers and queues are sound: in the one queue that place and priority name.
use Prim.Native.Nat.{ℕ, ◌-◌, ◌≤◌, ◌<◌}
use mathlib.Core.Path.{◌≡◌, refl, sym, ◌∙◌, ap₂, subst}
use mathlib.Core.Logic.{◌⊎◌, inl, inr}
use mathlib.Core.List.{List}
use native.Mathlib.Omega.{arith}
use borrow.Author.Tests.{lt-ltb, le-ltb}
use Rattle.machine.specs.Lists.{Mem, Distinct}
use Rattle.machine.specs.State.{State, Place, absent, able, sending, receiving, waiting}
use Rattle.machine.specs.Sound.{Present, Queued, Ranges, Queues}
use Rattle.layout.specs.Addresses.{endpoint_queue}
use Rattle.layout.specs.Words.{queues_of, queue_at, queue_of}
use Rattle.layout.proofs.Addresses.{below?}
use Rattle.layout.proofs.RoundTrip.{not_absent}

-- The queues of the levels and of the endpoints.

pub queues_level : (s : State) (p : ℕ) → p ≤ 255 → queues_of s p ≡ s.levels p
unfolding queues_of
queues_level s p h = rw (lt-ltb p 256 (omega arith))

pub queues_endpoint : (s : State) (e : ℕ) → queues_of s (endpoint_queue e) ≡ (s.endpoints e).waiters
unfolding queues_of
queues_endpoint s e =
    let d : endpoint_queue e - 256 ≡ e = omega arith in
    rw (le-ltb (endpoint_queue e) 256 (omega arith), d)

-- Each queue is that of a level or of an endpoint.
pub data Queue (q : ℕ) : Type 0 where
  level : q ≤ 255 → Queue q
  endpoint : (e : ℕ) → e ≤ 63 → q ≡ endpoint_queue e → Queue q

pub queue? : (q : ℕ) → q ≤ 319 → Queue q
queue? q h = go (below? q 256)
  where
    go : (q < 256) ⊎ (256 ≤ q) → Queue q
    go (inl g) = level (omega arith)
    go (inr g) = endpoint (q - 256) (omega arith) (omega arith)

-- A property of every level's and every endpoint's list is one of every queue.
pub each_queue :
    (s : State) (P : List ℕ → Type 0) → ((p : ℕ) → P (s.levels p)) → ((e : ℕ) → P (s.endpoints e).waiters)
    → (q : ℕ) → q ≤ 319 → P (queues_of s q)
each_queue s P f g q h = go (queue? q h)
  where
    go : Queue q → P (queues_of s q)
    go (level k) = rw (queues_level s q k) (f q)
    go (endpoint e k i) = rw (i, queues_endpoint s e) (g e)

-- The number of the queue that a place and a priority name.
abbrev number : Place → ℕ → ℕ
number absent p = 320
number able p = p
number (sending e) p = endpoint_queue e
number (receiving e) p = endpoint_queue e
number (waiting l) p = 320

-- The queue in which a thread stands.
pub record StandsIn (s : State) (t : ℕ) : Type 0 where
  pub queue : ℕ
  pub small : queue ≤ 319
  pub here : queues_of s queue ≡ queue_of s t

module _ (s : State) (R : Ranges s) (Q : Queues s) where
  -- Whoever stands in a queue is present.

  pub ready_present : (t p : ℕ) → Mem t (s.levels p) → Present s t
  ready_present t p m = not_absent ((Q.ready t p).0 m).0.0 (omega arith)

  pub queued_present : (t e : ℕ) → Mem t (s.endpoints e).waiters → Present s t
  queued_present t e m = go ((Q.queued t e).0 m)
    where
      go : ((s.threads t).place ≡ sending e) ⊎ ((s.threads t).place ≡ receiving e) → Present s t
      go (inl h) = not_absent h (omega arith)
      go (inr h) = not_absent h (omega arith)

  -- A level with somebody is at most 255, an endpoint with somebody at most 63.

  pub level_small : (t p : ℕ) → Mem t (s.levels p) → p ≤ 255
  level_small t p m = subst (λ (k : ℕ). k ≤ 255) ((Q.ready t p).0 m).1 (R.numbers t (ready_present t p m)).priority

  pub endpoint_small : (t e : ℕ) → Mem t (s.endpoints e).waiters → e ≤ 63
  endpoint_small t e m = go (below? e 64)
    where
      go : (e < 64) ⊎ (64 ≤ e) → e ≤ 63
      go (inl h) = omega arith
      go (inr h) = absurd (rw (R.unused_endpoint e h) at m)

  -- A thread stands in no queue but the one that place and priority name.
  pub stands_there : (t q : ℕ) → q ≤ 319 → Mem t (queues_of s q) → queues_of s q ≡ queue_of s t
  unfolding queue_of
  stands_there t q h m = go (queue? q h)
    where
      by_place : (e : ℕ) → ((s.threads t).place ≡ sending e) ⊎ ((s.threads t).place ≡ receiving e)
          → (s.endpoints e).waiters ≡ queue_at s (s.threads t).place (s.threads t).priority
      by_place e (inl i) = rw i
      by_place e (inr i) = rw i

      go : Queue q → queues_of s q ≡ queue_at s (s.threads t).place (s.threads t).priority
      go (level k) =
          let r = (Q.ready t q).0 (rw (queues_level s q k) at m) in
          queues_level s q k ∙ ap₂ (queue_at s) (sym r.0.0) (sym r.1)
      go (endpoint e k i) =
          let here : queues_of s q ≡ (s.endpoints e).waiters = rw (i, queues_endpoint s e) in
          here ∙ by_place e ((Q.queued t e).0 (rw here at m))

  -- And the queue that they name, if the thread stands there, is one of the 320.
  pub stands : (t : ℕ) → Mem t (queue_of s t) → StandsIn s t
  unfolding queue_of
  stands t m = go (s.threads t).place refl m
    where
      at_endpoint : (e : ℕ) → Mem t (s.endpoints e).waiters → (s.endpoints e).waiters ≡ queue_of s t → StandsIn s t
      at_endpoint e k i =
          record {
            queue = endpoint_queue e;
            small = omega (arith, endpoint_small t e k);
            here = queues_endpoint s e ∙ i;
          }

      go : (p : Place) → (s.threads t).place ≡ p → Mem t (queue_at s p (s.threads t).priority) → StandsIn s t
      go absent i k = absurd k
      go able i k =
          let small = level_small t (s.threads t).priority k in
          record {
            queue = (s.threads t).priority;
            small = omega arith;
            here = queues_level s (s.threads t).priority small ∙ rw i;
          }
      go (sending e) i k = at_endpoint e k (rw i)
      go (receiving e) i k = at_endpoint e k (rw i)
      go (waiting l) i k = absurd k

  -- The queue in which a thread stands has the number that they name, so it is one.
  stands_number : (t q : ℕ) → q ≤ 319 → Mem t (queues_of s q) → number (s.threads t).place (s.threads t).priority ≡ q
  stands_number t q h m = go (queue? q h)
    where
      by_place : (e : ℕ) → Queued s t e → number (s.threads t).place (s.threads t).priority ≡ endpoint_queue e
      by_place e (inl i) = rw i
      by_place e (inr i) = rw i

      go : Queue q → number (s.threads t).place (s.threads t).priority ≡ q
      go (level k) = let r = (Q.ready t q).0 (rw (queues_level s q k) at m) in rw r.0.0 r.1
      go (endpoint e k i) = by_place e ((Q.queued t e).0 (rw (i, queues_endpoint s e) at m)) ∙ sym i

  pub queue_apart :
      (q r t : ℕ) → q ≤ 319 → r ≤ 319 → Mem t (queues_of s q) → Mem t (queues_of s r) → q ≡ r
  queue_apart q r t h g m n = sym (stands_number t q h m) ∙ stands_number t r g n

  pub queue_distinct : (q : ℕ) → q ≤ 319 → Distinct (queues_of s q)
  queue_distinct = each_queue s Distinct Q.ready_once Q.queued_once

  pub queue_small : (q t : ℕ) → q ≤ 319 → Mem t (queues_of s q) → t ≤ 255
  queue_small q t h =
      each_queue s (λ l. Mem t l → t ≤ 255) (λ p m. (R.numbers t (ready_present t p m)).thread)
      (λ e m. (R.numbers t (queued_present t e m)).thread) q h
