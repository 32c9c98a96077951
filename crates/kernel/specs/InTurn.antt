-- Calls made in turn: the first gets the tables and grants given, each later one those that the one before it left,
-- and nobody else writes them meanwhile. Each has a scratch of its own, of any length and content.
use Rattle.std.specs.Prelude.{ℕ, ◌≡◌, Bool, true, false, List, [], ◌∷◌, eqb, length}
use Rattle.calls.specs.declared.Answer.{Answer}
use Rattle.calls.specs.declared.Call.{Call}
use Rattle.machine.specs.Lists.{pick}
use Rattle.calls.specs.Answers.{plain}
use Rattle.machine.specs.Machine.{step}
use Rattle.history.specs.Recorded.{fresh_run, run_from, history_of}
use Rattle.history.specs.Claim.{Claim}
use Rattle.layout.specs.Addresses.{scratch_words}
use Rattle.layout.specs.Words.{image}
use Rattle.grants.specs.Memory.{grant_image}
use Rattle.lent_tables.specs.Entries.{lent, freshened, Called, called}

-- A call and the scratch lent with it.
pub record Attempt : Type 0 where
  pub call : Call
  pub scratch : List ℕ

-- The answers in order, and the tables and grants that the last call left.
pub record CalledAll : Type 0 where
  pub answers : List Answer
  pub tables : List ℕ
  pub grants : List ℕ

-- What one comes to on the tables m and the grants g.
abbrev pub tried : List ℕ → List ℕ → Attempt → Called
tried m g x = called (lent m g x.scratch) x.call

-- One more answer before the others.
abbrev pub answered_first : Answer → CalledAll → CalledAll
answered_first a r = record { answers = a ∷ r.answers; tables = r.tables; grants = r.grants }

unfoldable pub called_all : List Attempt → List ℕ → List ℕ → CalledAll
called_all [] m g = record { answers = []; tables = m; grants = g }
called_all (x ∷ l) m g =
    answered_first (tried m g x).answer (called_all l (tried m g x).left.tables (tried m g x).left.grants)

-- The calls that had a scratch of 256 words.
unfoldable pub made : List Attempt → List Call
made [] = []
made (x ∷ l) = pick (eqb (length x.scratch) scratch_words) (x.call ∷ made l) (made l)

-- The answers to all, given those to the calls made: to every other 16.
abbrev pub fill : Bool → List Answer → (List Answer → List Answer) → List Answer
fill false l f = plain 16 ∷ f l
fill true [] f = f []
fill true (a ∷ l) f = a ∷ f l

unfoldable pub filled : List Attempt → List Answer → List Answer
filled [] l = []
filled (x ∷ k) l = fill (eqb (length x.scratch) scratch_words) l (λ r. filled k r)

-- What becomes of the tables and grants that making fresh leaves.
abbrev pub from_fresh : List ℕ → List ℕ → List Attempt → CalledAll
from_fresh m g l = called_all l (freshened m g).tables (freshened m g).grants

-- "Its first call gets fresh tables, each later one the tables that the one before it left"; "grants start fresh and
-- pass on as the tables do"; the scratch's "content at entry doesn't matter". From the tables and grants that making
-- fresh leaves, whatever scratch each call has, the answers that the entry gives are those of the history of the calls
-- made, and 16 to the others, which change nothing; tables and grants are the memory of the machine's; and of that
-- history demand 3 holds.
pub record Demanded (m g : List ℕ) (l : List Attempt) : Type 0 where
  pub answers : (from_fresh m g l).answers ≡ filled l (history_of (made l)).answers
  pub tables : (from_fresh m g l).tables ≡ image (run_from step (made l) fresh_run).state
  pub grants : (from_fresh m g l).grants ≡ grant_image (run_from step (made l) fresh_run).grants
  pub claim : Claim (made l) (history_of (made l))
