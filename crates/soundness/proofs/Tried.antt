-- All tests at once: each of them passes; and what is left of them where the memory is read as a neat state.
use Prim.Native.Nat.{ℕ, ◌<◌}
use mathlib.Core.Path.{◌≡◌}
use mathlib.Core.Logic.{◌⊎◌, ◌↔◌}
use mathlib.Core.Bool.{true}
use mathlib.Core.Option.{some}
use mathlib.Core.List.{List}
use native.Mathlib.Omega.{arith}
use Rattle.machine.specs.Lists.{Mem}
use Rattle.machine.specs.State.{State, able}
use Rattle.layout.specs.declared.Part.{Part}
use Rattle.layout.specs.declared.Link.{Link}
use Rattle.layout.specs.Addresses.{link_at, word}
use Rattle.layout.proofs.Tests.{Decides, tells_map, tells_and, tells_below}
use Rattle.soundness.specs.Checks.{endpoint_at, block_test, level_test, status_test, abort_test, waiters_test}
use Rattle.soundness.specs.Checks.{endpoint_test, line_test, summary_test, running_test, unused_test, placed_test}
use Rattle.soundness.specs.Checks.{good_test}
use Rattle.soundness.proofs.Tests.{tells_itself}
use Rattle.soundness.proofs.Reading.{Reads, tells_level}
use Rattle.soundness.proofs.Blocks.{NamesWaiter, WorkStands, tells_block}
use Rattle.soundness.proofs.Ends.{status_passes, abort_passes}
use Rattle.soundness.proofs.Waiters.{AllAlike, NoneOutside, tells_waiters}
use Rattle.soundness.proofs.Lines.{Fires, tells_line, NoneAbove, tells_running, summary_passes, unused_passes}
use Rattle.soundness.proofs.Placed.{InQueue, Belongs, tells_placed}

-- Each test passes.
pub record Tried (m : List ℕ) : Type 0 where
  pub blocks : (t : ℕ) → t < 256 → block_test m t ≡ true
  pub levels : (p : ℕ) → p < 256 → level_test m p ≡ true
  pub ends :
      (e : ℕ) → e < 64
      → ((status_test (endpoint_at m Part.Status e) m e ≡ true)
      × (abort_test (endpoint_at m Part.Aborting e) m e ≡ true))
      × (waiters_test m e ≡ true)
  pub lines : (l : ℕ) → l < 32 → line_test m l ≡ true
  pub summary : summary_test m ≡ true
  pub running : running_test m ≡ true
  pub unused : (i : ℕ) → i < 534 → unused_test m i ≡ true
  pub placed : (t : ℕ) → t < 256 → placed_test m t ≡ true

pub tells_tried : (m : List ℕ) → Decides (good_test m) (Tried m)
unfolding good_test endpoint_test
tells_tried m =
    tells_map
    (λ r.
    record {
      blocks = r.0.0.0.0.0.0.0;
      levels = r.0.0.0.0.0.0.1;
      ends = r.0.0.0.0.0.1;
      lines = r.0.0.0.0.1;
      summary = r.0.0.0.1;
      running = r.0.0.1;
      unused = r.0.1;
      placed = r.1;
    })
    (λ T.
    (((((((T.blocks, T.levels), T.ends), T.lines), T.summary), T.running), T.unused), T.placed))
    (tells_and (tells_and (tells_and (tells_and (tells_and (tells_and (tells_and
    (tells_below 256 _ _ (λ t h. tells_itself)) (tells_below 256 _ _ (λ p h. tells_itself)))
    (tells_below 64 _ _ (λ e h. tells_and (tells_and tells_itself tells_itself) tells_itself)))
    (tells_below 32 _ _ (λ l h. tells_itself))) tells_itself) tells_itself)
    (tells_below 534 _ _ (λ i h. tells_itself))) (tells_below 256 _ _ (λ t h. tells_itself)))

-- What is left of the tests.
pub record Untried (m : List ℕ) (s : State) : Type 0 where
  pub threads : (t : ℕ) → t < 256 → NamesWaiter s t × WorkStands s t
  pub levels :
      (p : ℕ) → p < 256 → (t : ℕ) → Mem t (s.levels p)
      → (((s.threads t).place ≡ able) × ((s.threads t).priority ≡ p)) × (s.runs ≡ some t → ⊥)
  pub waiters : (e : ℕ) → e < 64 → AllAlike s e × NoneOutside s e
  pub lines : (l : ℕ) → l < 32 → Fires s l
  pub running : NoneAbove s s.runs
  pub placed :
      (t : ℕ) → t < 256
      → (InQueue s t ↔ Belongs s t)
      × (InQueue s t ⊎ ((word m (link_at (Link.Next t)) ≡ 0) × (word m (link_at (Link.Prev t)) ≡ 0)))

module _ (m : List ℕ) (s : State) (R : Reads m s) where
  pub left_of : Tried m → Untried m s
  left_of T =
      record {
        threads = λ t h. (tells_block m s R t (omega arith)).holds (T.blocks t h);
        levels = λ p h. (tells_level m s R p (omega arith)).holds (T.levels p h);
        waiters = λ e h. (tells_waiters m s R e (omega arith)).holds (T.ends e h).1;
        lines = λ l h. (tells_line m s R l (omega arith)).holds (T.lines l h);
        running = (tells_running m s R).holds T.running;
        placed = λ t h. (tells_placed m s R t (omega arith)).holds (T.placed t h);
      }

  pub tried_of : Untried m s → Tried m
  tried_of L =
      record {
        blocks = λ t h. (tells_block m s R t (omega arith)).back (L.threads t h);
        levels = λ p h. (tells_level m s R p (omega arith)).back (L.levels p h);
        ends = λ e h. (
          (status_passes m s R e (omega arith), abort_passes m s R e (omega arith)),
          (tells_waiters m s R e (omega arith)).back (L.waiters e h),
        );
        lines = λ l h. (tells_line m s R l (omega arith)).back (L.lines l h);
        summary = summary_passes m s R;
        running = (tells_running m s R).back L.running;
        unused = unused_passes m s R;
        placed = λ t h. (tells_placed m s R t (omega arith)).back (L.placed t h);
      }
