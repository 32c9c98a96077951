-- Demand 1: "the lent table memory, with any words in it, is either refused unchanged by the numbers of document 01 or
-- holds sound tables after the call. The lent scratch is zeroed as stated there." So it is with the grants.
use Rattle.std.specs.Prelude.{ℕ, ◌≤◌, ◌≡◌, ◌⊎◌}
use Rattle.std.proofs.Math.Option.{none, some}
use Rattle.calls.specs.declared.Call.{Call}
use Rattle.machine.specs.State.{State}
use Rattle.calls.specs.Answers.{plain}
use Rattle.machine.specs.Grants.{Grants, SoundGrants}
use Rattle.machine.specs.Machine.{step, grants_by}
use Rattle.machine.specs.Refusals.{refusal_of}
use Rattle.machine.specs.Sound.{Sound}
use Rattle.layout.specs.Words.{image}
use Rattle.grants.specs.Memory.{grant_image}
use Rattle.lent_tables.specs.Entries.{Lent, lent, Sized, zeros, Called}

-- The memory shows the sound state s and the sound grants g.
pub record Holds (l : Lent) (g : Grants) (s : State) : Type 0 where
  pub sized : Sized l
  pub sound : Sound s
  pub tables : l.tables ≡ image s
  pub sound_grants : SoundGrants g
  pub grants : l.grants ≡ grant_image g

-- What the call c on the memory l comes to: one case for each cause of document 01's list, in its order, and one where
-- there is none.
pub data Kept (l : Lent) (c : Call) : Called → Type 0 where
  -- "tables not 4,096 words, or scratch not 256 | 16", or grants not 16,384; all are left
  lengths : (Sized l → ⊥) → Kept l c (record { answer = plain 16; left = l })
  -- "tables unsound | 17", or the grants: they are no sound state's memory, or that of no sound grants; both are left,
  -- and the scratch is all zero
  unsound :
      Sized l
      → ((s : State) → Sound s → l.tables ≡ image s → ⊥)
      ⊎ ((g : Grants) → SoundGrants g → l.grants ≡ grant_image g → ⊥)
      → Kept l c (record { answer = plain 17; left = lent l.tables l.grants zeros })
  -- 19 to 27, and 29: the list's number for the sound state and grants that they show; both are left, and the scratch
  -- is all zero
  refused :
      (g : Grants) (s : State) (n : ℕ) → Holds l g s → refusal_of g c s ≡ some n
      → Kept l c (record { answer = plain n; left = lent l.tables l.grants zeros })
  -- accepted: the machine's answer in the sound state and under the grants that they show, of code 0, 1 or 2; they
  -- hold the sound state and grants that the machine comes to, and the scratch is all zero
  holds :
      (g : Grants) (s : State) → Holds l g s → refusal_of g c s ≡ none
      → (step g s c).answer.code ≤ 2 → Sound (step g s c).state → SoundGrants (grants_by g s c)
      → Kept l c
      (record {
        answer = (step g s c).answer;
        left = lent (image (step g s c).state) (grant_image (grants_by g s c)) zeros;
      })
