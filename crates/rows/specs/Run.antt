-- How far a journal has been run on lent memory: what it holds, who runs, and what is still to come.
use Rattle.std.specs.Prelude.{ℕ, suc, ◌-◌, ◌≡◌, List, length}
use Rattle.std.proofs.Math.Option.{Option}
use Rattle.machine.specs.State.{State}
use Rattle.machine.specs.Grants.{Grants, SoundGrants}
use Rattle.machine.specs.Sound.{Sound}
use Rattle.journal.specs.Words.{read_at}
use Rattle.journal.specs.Course.{Course, course_from}
use Rattle.layout.specs.Addresses.{scratch_words}
use Rattle.layout.specs.Words.{image}
use Rattle.grants.specs.Memory.{grant_image}
use Rattle.lent_tables.specs.Entries.{Lent, lent}

-- The course of a journal from a word on, with this index next.
abbrev pub course_at : List ℕ → ℕ → ℕ → Grants → State → Course
course_at journal at i g s = course_from (suc (length journal - at)) (read_at journal at) i journal g s

-- The journal was run up to a word, with this index next: the memory holds the sound state and grants there, this
-- thread runs, and this course is still to come.
pub record Ran (journal : List ℕ) (at i : ℕ) (who : Option ℕ) (m : Lent) (rest : Course) : Type 0 where
  pub grants : Grants
  pub state : State
  pub sound_grants : SoundGrants grants
  pub sound : Sound state
  pub memory : m ≡ lent (image state) (grant_image grants) m.scratch
  pub scratch : length m.scratch ≡ scratch_words
  pub runs : who ≡ state.runs
  pub course : rest ≡ course_at journal at i grants state
