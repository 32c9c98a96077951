-- A memory whose words are those of a neat state and whose links join its queues: what words and walks tell of it.
use Prim.Native.Nat.{ℕ, suc, ◌≤◌}
use mathlib.Core.Path.{◌≡◌, refl, ap}
use mathlib.Core.Bool.{not}
use mathlib.Core.Option.{some}
use mathlib.Core.List.{List, [], ◌∷◌}
use native.Mathlib.Omega.{arith}
use lib.Dec.{eqb}
use borrow.Author.Tests.{ne_eqb}
use Rattle.machine.specs.Lists.{Mem}
use Rattle.machine.specs.State.{State, Place, able}
use Rattle.machine.specs.Scheduling.{occupied}
use Rattle.summary.specs.Levels.{word_of, top_of}
use Rattle.summary.proofs.Masks.{bits_agree}
use Rattle.layout.specs.declared.Field.{Field}
use Rattle.layout.specs.declared.Slot.{Slot}
use Rattle.layout.specs.declared.Link.{Link}
use Rattle.layout.specs.Addresses.{ValidSlot, at, link_at, word, endpoint_queue}
use Rattle.layout.specs.Words.{place_code, first_of, occupied_in, content, queues_of}
use Rattle.layout.specs.Shows.{Chain}
use Rattle.layout.proofs.Chains.{chain_first}
use Rattle.layout.proofs.RoundTrip.{PlaceSmall}
use Rattle.layout.proofs.Standing.{queues_level, queues_endpoint}
use Rattle.layout.proofs.Neat.{NeatState}
use Rattle.layout.proofs.Tests.{Decides, tells_and, tells_not, tells_eqb, tells_place, tells_some}
use Rattle.soundness.specs.Checks.{thread_at, ready_test, level_test, occupied_at}
use Rattle.soundness.proofs.Tests.{every, tells_every}
use Rattle.soundness.proofs.Following.{level_split, walk_along}

pub record Reads (m : List ℕ) (s : State) : Type 0 where
  pub neat : NeatState s
  pub slots : (a : Slot) → ValidSlot a → word m (at a) ≡ content s a
  pub chains : (q : ℕ) → q ≤ 319 → Chain m q 0 (queues_of s q) 0

-- The links join the queue of a level, and that of an endpoint.
pub level_chain :
    (m : List ℕ) (s : State) (p : ℕ) → p ≤ 255 → Chain m p 0 (queues_of s p) 0 → Chain m p 0 (s.levels p) 0
level_chain m s p h c = rw (queues_level s p h) at c

-- The summary of levels that have a first is that of the state's.

module _ (m : List ℕ) (s : State) (c : (p : ℕ) → p ≤ 255 → Chain m p 0 (s.levels p) 0) where
  pub same_occupied : (p : ℕ) → p ≤ 255 → occupied_at m p ≡ occupied_in s p
  same_occupied p h = rw (chain_first m p 0 (s.levels p) (c p h)) (go (s.levels p))
    where
      go : (l : List ℕ) → not (eqb (first_of l) 0) ≡ occupied l
      go [] = refl
      go (t ∷ l) = rw (ne_eqb (suc t) 0 (omega arith))

  pub same_word : (w : ℕ) → w ≤ 7 → word_of (occupied_at m) w ≡ word_of (occupied_in s) w
  unfolding word_of
  same_word w h = bits_agree 32 _ _ (λ k i. same_occupied _ (omega arith))

  pub same_top : top_of (occupied_at m) ≡ top_of (occupied_in s)
  unfolding top_of
  same_top = bits_agree 8 _ _ (λ w i. ap (λ (n : ℕ). not (eqb n 0)) (same_word w (omega arith)))

module _ (m : List ℕ) (s : State) (R : Reads m s) where
  pub level_joined : (p : ℕ) → p ≤ 255 → Chain m p 0 (s.levels p) 0
  level_joined p h = level_chain m s p h (R.chains p (omega arith))

  pub end_joined : (e : ℕ) → e ≤ 63 → Chain m (endpoint_queue e) 0 (s.endpoints e).waiters 0
  end_joined e h = rw (queues_endpoint s e) at (R.chains (endpoint_queue e) (omega arith))

  -- Places, the running thread, the ready ones.

  pub tells_seat :
      (t : ℕ) (q : Place) → t ≤ 255 → PlaceSmall q
      → Decides (eqb (thread_at m Field.Place t) (place_code q)) ((s.threads t).place ≡ q)
  tells_seat t q h g =
      rw (R.slots (Slot.Thread Field.Place t) h)
      (tells_place (s.threads t).place q (R.neat.threads t).place_small g)

  pub tells_runs : (t : ℕ) → Decides (eqb (word m (at Slot.Running)) (suc t)) (s.runs ≡ some t)
  tells_runs t = rw (R.slots Slot.Running tt) (tells_some s.runs t)

  pub tells_ready :
      (p t : ℕ) → t ≤ 255
      → Decides (ready_test m p t)
      ((((s.threads t).place ≡ able) × ((s.threads t).priority ≡ p)) × (s.runs ≡ some t → ⊥))
  unfolding ready_test
  tells_ready p t h =
      tells_and
      (tells_and (tells_seat t able h tt)
      (rw (R.slots (Slot.Thread Field.Priority t) h) (tells_eqb (s.threads t).priority p)))
      (tells_not (tells_runs t))

  pub tells_level :
      (p : ℕ) → p ≤ 255
      → Decides (level_test m p)
      ((t : ℕ) → Mem t (s.levels p)
      → (((s.threads t).place ≡ able) × ((s.threads t).priority ≡ p)) × (s.runs ≡ some t → ⊥))
  unfolding level_test
  tells_level p h =
      rw (
        level_split m p 257 (word m (link_at (Link.Head p))) 0,
        walk_along m p (s.levels p) (level_joined p h) (R.neat.ready_small p) (every (ready_test m p)),
      )
      (tells_every (ready_test m p) _ (s.levels p) (λ t k. tells_ready p t (R.neat.ready_small p t k)))
