-- Lines, the running thread, the summary: where their tests pass the words are those of what is read off them; and what
-- the tests tell of a memory that is read as a neat state.
use Prim.Native.Nat.{ℕ, zero, suc, ◌+◌, ◌≤◌, ◌<◌}
use mathlib.Core.Path.{◌≡◌, refl, sym, ◌∙◌, ap, subst}
use mathlib.Core.Logic.{◌⊎◌}
use mathlib.Core.Bool.{true, not}
use mathlib.Core.Option.{Option, none, some}
use mathlib.Core.List.{List, [], ◌∷◌}
use native.Mathlib.Omega.{arith}
use lib.Dec.{leb}
use borrow.Author.Tests.{le-leb}
use Rattle.machine.specs.State.{State, able, waiting, Line, quiet, pending, awaited}
use Rattle.machine.specs.Scheduling.{occupied}
use Rattle.summary.specs.Levels.{word_of, top_of}
use Rattle.layout.specs.declared.Field.{Field}
use Rattle.layout.specs.declared.Slot.{Slot}
use Rattle.layout.specs.Addresses.{at, word}
use Rattle.layout.specs.Words.{link_of, first_of, line_code}
use Rattle.layout.specs.Decode.{line_by}
use Rattle.layout.proofs.Tests.{Decides, tells_true, tells_false, tells_map, tells_and, tells_or, tells_eqb, tells_leb}
use Rattle.layout.proofs.Tests.{tells_below}
use Rattle.soundness.specs.Checks.{thread_at, line_from, line_test, occupied_at, summary_test, running_from}
use Rattle.soundness.specs.Checks.{running_test}
use Rattle.soundness.specs.Checks.{unused_test}
use Rattle.soundness.proofs.Tests.{tells_itself}
use Rattle.soundness.proofs.Reading.{Reads, level_joined, same_occupied, same_word, same_top, tells_seat}

-- Lines

abbrev Awaited : List ℕ → ℕ → ℕ → Type 0
Awaited m l zero = Unit {0}
Awaited m l (suc zero) = Unit {0}
Awaited m l (suc (suc t)) = (t ≤ 255) × (thread_at m Field.Place t ≡ 130 + l)

tells_from : (m : List ℕ) (l w : ℕ) → Decides (line_from w m l) (Awaited m l w)
unfolding line_from
tells_from m l zero = tells_true tt
tells_from m l (suc zero) = tells_true tt
tells_from m l (suc (suc t)) = tells_and (tells_leb t 255) (tells_eqb _ (130 + l))

line_again : (m : List ℕ) (l w : ℕ) → Awaited m l w → line_code (line_by w) ≡ w
unfolding line_by
line_again m l zero h = refl
line_again m l (suc zero) h = refl
line_again m l (suc (suc t)) h = rw (le-leb t 255 h.0)

-- Where the test passes, the word is that of the line read off it.
pub line_word :
    (m : List ℕ) (l : ℕ) → line_test m l ≡ true
    → line_code (line_by (word m (at (Slot.Line l)))) ≡ word m (at (Slot.Line l))
unfolding line_test
line_word m l h = line_again m l (word m (at (Slot.Line l))) ((tells_from m l (word m (at (Slot.Line l)))).holds h)

-- A line's waiter waits on it.
abbrev pub Fires : State → ℕ → Type 0
Fires s l = (t : ℕ) → s.lines l ≡ awaited t → (s.threads t).place ≡ waiting l

pub tells_line : (m : List ℕ) (s : State) (R : Reads m s) (l : ℕ) → l ≤ 31 → Decides (line_test m l) (Fires s l)
unfolding line_test
tells_line m s R l h = rw (R.slots (Slot.Line l) h) (go (s.lines l) refl)
  where
    none_there : {x : Line} → s.lines l ≡ x → line_code x ≤ 1 → Fires s l
    none_there {x} i k t e = absurd (omega (arith, ap line_code (sym i ∙ e)))

    go : (x : Line) → s.lines l ≡ x → Decides (line_from (line_code x) m l) (Fires s l)
    go quiet i = tells_map (λ _. none_there i (omega arith)) (λ _. tt) (tells_from m l 0)
    go pending i = tells_map (λ _. none_there i (omega arith)) (λ _. tt) (tells_from m l 1)
    go (awaited u) i =
        let small = R.neat.line_small l u i in
        let seat = tells_seat m s R u (waiting l) small h in
        let code = tells_eqb (thread_at m Field.Place u) (130 + l) in
        tells_map
        (λ k t e.
        let v : t ≡ u = (let z : awaited t ≡ awaited u = sym e ∙ i in cc) in
        subst (λ (n : ℕ). (s.threads n).place ≡ waiting l) (sym v) (seat.holds (code.back k.1)))
        (λ f. (small, code.holds (seat.back (f u i)))) (tells_from m l (suc (suc u)))

-- The summary and the unused words

pub tells_summary :
    (m : List ℕ)
    → Decides (summary_test m)
    (((w : ℕ) → w < 8 → word m (at (Slot.Summary w)) ≡ word_of (occupied_at m) w)
    × (word m (at Slot.Top) ≡ top_of (occupied_at m)))
unfolding summary_test
tells_summary m = tells_and (tells_below 8 _ _ (λ w h. tells_eqb _ _)) (tells_eqb _ _)

pub tells_unused : (m : List ℕ) (i : ℕ) → Decides (unused_test m i) (word m (at (Slot.Unused i)) ≡ 0)
unfolding unused_test
tells_unused m i = tells_eqb _ 0

-- The running thread

pub runs_in_range : (m : List ℕ) → running_test m ≡ true → word m (at Slot.Running) ≤ 256
unfolding running_test running_from
runs_in_range m h = go (word m (at Slot.Running)) h
  where
    go : (w : ℕ) → running_from w m ≡ true → w ≤ 256
    go zero i = omega arith
    go (suc t) i =
        let r : Decides (running_from (suc t) m) (((t ≤ 255) × (thread_at m Field.Place t ≡ 1)) × _)
        = tells_and (tells_and (tells_leb t 255) (tells_eqb _ 1)) tells_itself in
        omega (arith, (r.holds i).0.0)

-- Nobody ready is above the running thread; none is ready if none runs: by levels.
abbrev pub NoneAbove : State → Option ℕ → Type 0
NoneAbove s none = (p : ℕ) → p < 256 → s.levels p ≡ []
NoneAbove s (some t) =
    ((s.threads t).place ≡ able) × ((p : ℕ) → p < 256 → (p ≤ (s.threads t).priority) ⊎ (s.levels p ≡ []))

module _ (m : List ℕ) (s : State) (R : Reads m s) where
  tells_empty : (p : ℕ) → p < 256 → Decides (not (occupied_at m p)) (s.levels p ≡ [])
  tells_empty p h = rw (same_occupied m s (level_joined m s R) p (omega arith)) (go (s.levels p))
    where
      go : (l : List ℕ) → Decides (not (occupied l)) (l ≡ [])
      go [] = tells_true refl
      go (t ∷ l) = tells_false (λ e. omega (arith, ap first_of e))

  pub tells_running : Decides (running_test m) (NoneAbove s s.runs)
  unfolding running_test running_from
  tells_running = rw (R.slots Slot.Running tt) (go s.runs refl)
    where
      go : (o : Option ℕ) → s.runs ≡ o → Decides (running_from (link_of o) m) (NoneAbove s o)
      go none i = tells_below 256 _ _ tells_empty
      go (some t) i =
          let small = R.neat.runs_small t i in
          let low : (p : ℕ) → Decides (leb p (thread_at m Field.Priority t)) (p ≤ (s.threads t).priority)
          = λ p. rw (R.slots (Slot.Thread Field.Priority t) small) (tells_leb p (s.threads t).priority) in
          tells_map (λ r. (r.0.1, r.1)) (λ r. ((small, r.0), r.1))
          (tells_and (tells_and (tells_leb t 255) (tells_seat m s R t able small tt))
          (tells_below 256 _ _ (λ p k. tells_or (low p) (tells_empty p k))))

  -- The summary and the unused words pass.

  pub summary_passes : summary_test m ≡ true
  summary_passes =
      (tells_summary m).back (
        λ w h. R.slots (Slot.Summary w) (omega arith) ∙ sym (same_word m s (level_joined m s R) w (omega arith)),
        R.slots Slot.Top tt ∙ sym (same_top m s (level_joined m s R)),
      )

  pub unused_passes : (i : ℕ) → i < 534 → unused_test m i ≡ true
  unused_passes i h = (tells_unused m i).back (R.slots (Slot.Unused i) (omega arith))
