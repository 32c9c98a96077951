-- From the tests to the entries' promises.
use Rattle.std.proofs.Common.{◌≡◌, ℕ, ◌<◌, Bool, true, false, ◌&&◌, ◌⊎◌, ◌↔◌, List, length, replicate, sym, refl}
use Rattle.std.proofs.Common.{ap, ◌∙◌, inl, inr, ⊎_elim, true≢false, arith, eq-eqb}
use mathlib.Core.Option.{Option, none, some}
use lib.ListN.{length-replicate}
use Rattle.machine.specs.Lists.{pick}
use Rattle.machine.specs.State.{State, fresh_state}
use Rattle.machine.specs.Grants.{fresh_grants}
use Rattle.layout.proofs.Image.{image_fresh}
use Rattle.layout.specs.Addresses.{table_words, scratch_words, word}
use Rattle.layout.proofs.Ends.{none_some}
use Rattle.layout.specs.Words.{image}
use Rattle.layout.specs.Decode.{decode}
use Rattle.soundness.specs.Tables.{state_of}
use Rattle.grants.specs.Memory.{grant_words, grant_image, Bare, grants_test}
use Rattle.grants.proofs.Memory.{fresh_image, unsound_exactly}
use Rattle.soundness.specs.Checks.{good_test, met_below}
use Rattle.lent_tables.specs.Entries.{Lent, Sized, zeros, Checked, freshened, verdict}
use Rattle.lent_tables.specs.Entries.{checked}
use Rattle.sound_queues.specs.Met.{met_in}
use Rattle.soundness.proofs.Tables.{good_state}
use Rattle.sound_queues.proofs.Meeting.{none_met_lem}

-- A cleared scratch has those met before the first queue.
pub no_met : (m : List ℕ) {s : List ℕ} → s ≡ zeros → s ≡ met_in (met_below 0 m)
unfolding met_below
no_met m e = e ∙ none_met_lem

-- The length of a scratch that is cleared, and what clearing one of the right length leaves.
pub zeros_length : length zeros ≡ scratch_words
zeros_length = length-replicate {A = ℕ} scratch_words 0

pub cleared_length : {s : List ℕ} → s ≡ zeros → length s ≡ scratch_words
cleared_length e = ap length e ∙ zeros_length

-- What `passes` asks of the scratch.
pub ruleset walked = (no_met, cleared_length)

pub zeroed : (s : List ℕ) {a : List ℕ} → a ≡ replicate (length s) 0 → length s ≡ scratch_words → a ≡ zeros
zeroed s e h = e ∙ ap (λ (n : ℕ). replicate n 0) h

-- Check

-- Where the lengths are right, by both tests.
pub verdict_of :
    (m g : List ℕ) → length m ≡ table_words
    → ◌≡◌ {A = Checked} (verdict (state_of m) (grants_test g))
    (pick (good_test m && grants_test g) (record { code = 0; scratch = zeros }) (record { code = 17; scratch = zeros }))
verdict_of m g size = rw (good_state m size) (go (good_test m) (grants_test g))
  where
    go : (a b : Bool) → ◌≡◌ {A = Checked} (verdict (pick a (some (decode m)) none) b)
        (pick (a && b) (record { code = 0; scratch = zeros }) (record { code = 17; scratch = zeros }))
    go true true = refl
    go true false = refl
    go false b = refl

pub ruleset tried = (verdict_of, zeroed)

-- 17 exactly where the tables show no sound state, or a word of the grants has a badge without any right.
pub seventeen_exactly :
    (l : Lent) → Sized l
    → ((checked l).code ≡ 17)
    ↔ ((state_of l.tables ≡ none) ⊎ ((i : ℕ) × (i < grant_words) × Bare (word l.grants i)))
unfolding checked
seventeen_exactly l z =
    rw (
      eq-eqb (length l.tables) table_words z.0,
      eq-eqb (length l.grants) grant_words z.1,
      eq-eqb (length l.scratch) scratch_words z.2,
    )
    (go (state_of l.tables) (grants_test l.grants) refl (unsound_exactly l.grants))
  where
    go : {P : Type 0} (o : Option State) (b : Bool) → grants_test l.grants ≡ b
        → (grants_test l.grants ≡ false) ↔ P → ((verdict o b).code ≡ 17) ↔ ((o ≡ none) ⊎ P)
    go none b e u = (λ h. inl refl, λ h. refl)
    go (some s) false e u = (λ h. inr (u.0 e), λ h. refl)
    go (some s) true e u = (
      λ h. absurd (omega arith),
      ⊎_elim (λ h. none_some (sym h)) (λ p. absurd (true≢false (sym e ∙ u.1 p))),
    )

-- Make fresh

-- Tables and grants made fresh are those of the fresh state, and of nobody's rights.
pub fresh_left :
    (m g : List ℕ) → length m ≡ table_words → length g ≡ grant_words
    → freshened m g ≡ record { code = 0; tables = image fresh_state; grants = grant_image fresh_grants }
unfolding freshened
fresh_left m g h k = rw (eq-eqb (length m) table_words h, eq-eqb (length g) grant_words k)

pub tables_made :
    {a : List ℕ} (m : List ℕ) → a ≡ replicate (length m) 0 → length m ≡ table_words → a ≡ image fresh_state
tables_made m e h = e ∙ ap (λ (n : ℕ). replicate n 0) h ∙ sym image_fresh

pub grants_made :
    {a : List ℕ} (g : List ℕ) → a ≡ replicate (length g) 0 → length g ≡ grant_words → a ≡ grant_image fresh_grants
grants_made g e h = e ∙ ap (λ (n : ℕ). replicate n 0) h ∙ sym fresh_image

pub ruleset made = (tables_made, grants_made)
