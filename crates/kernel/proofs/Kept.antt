-- Demand 1 of the entry: for any words lent and any call, one of document 01's cases, and no other result is one.
use Prim.Native.Nat.{ℕ}
use mathlib.Core.Path.{◌≡◌, refl, sym, ◌∙◌, ap, subst}
use mathlib.Core.Logic.{◌⊎◌, inl, inr}
use mathlib.Core.Bool.{Bool, true, false}
use mathlib.Core.Option.{Option, none, some}
use mathlib.Core.List.{List}
use Rattle.calls.specs.declared.Call.{Call}
use Rattle.machine.specs.Lists.{pick}
use Rattle.machine.specs.State.{State}
use Rattle.machine.specs.Results.{Result}
use Rattle.calls.specs.Answers.{plain}
use Rattle.machine.specs.Grants.{Grants, grants_after, SoundGrants}
use Rattle.machine.specs.Refusals.{refusal_of}
use Rattle.machine.specs.Sound.{Sound}
use Rattle.machine.proofs.Lists.{clash}
use Rattle.machine.proofs.Granted.{refused_leave, grants_sound}
use Rattle.machine.proofs.Calls.Refusals.{refusal_number, refused_exactly, accepted_exactly}
use Rattle.machine.proofs.Preserved.Steps.{step_sound}
use Rattle.layout.specs.Words.{image}
use Rattle.layout.proofs.Ends.{none_some}
use Rattle.soundness.specs.Tables.{state_of}
use Rattle.soundness.proofs.Tables.{state_exact}
use Rattle.grants.specs.Memory.{Words32, grants_of, grant_image, grants_test}
use Rattle.grants.proofs.Memory.{of_image, image_sound, grants_exact}
use Rattle.lent_tables.specs.Entries.{Lent, lent, Sized, sized, zeros, Called, unsound as unsound_of, stepped, taken}
use Rattle.lent_tables.specs.Entries.{called}
use Rattle.kernel.specs.Kept.{Holds, Kept, lengths, unsound, refused, holds}
use Rattle.kernel.proofs.Entry.{called_of, sizes}

module _ (l : Lent) (c : Call) where
  -- A refusal by the list's number leaves tables and grants, which showed the state s and the grants g.
  refused_stepped :
      (g : Grants) (s : State) (n : ℕ) → Holds l g s → refusal_of g c s ≡ some n
      → called_of (plain n) (lent l.tables l.grants zeros) ≡ stepped g s c
  refused_stepped g s n H h =
      ap (λ (k : List ℕ). called_of (plain n) (lent k l.grants zeros)) H.tables
      ∙ ap (λ (k : List ℕ). called_of (plain n) (lent (image s) k zeros))
      (H.grants ∙ ap grant_image (sym (refused_leave (plain n) c g (refusal_number g c s n h))))
      ∙ ap
      (λ (r : Result).
      called_of r.answer (lent (image r.state) (grant_image (grants_after r.answer c g)) zeros))
      (sym (refused_exactly g c s n h))

  -- The memory holds the sound state s and the sound grants g.
  shown_kept : (g : Grants) (s : State) → Holds l g s → Kept l c (stepped g s c)
  shown_kept g s H = go (refusal_of g c s) refl
    where
      go : (o : Option ℕ) → refusal_of g c s ≡ o → Kept l c (stepped g s c)
      go none h =
          holds g s H h (accepted_exactly g c s h) (step_sound g s c H.sound) (grants_sound g s c H.sound_grants)
      go (some k) h = subst (λ (x : Called). Kept l c x) (refused_stepped g s k H h) (refused g s k H h)

  pub shown_called : (g : Grants) (s : State) → Holds l g s → stepped g s c ≡ called l c
  unfolding called
  shown_called g s H =
      rw (
        (sizes l).back H.sized,
        (state_exact l.tables s).1 (H.sound, H.tables),
        H.grants,
        image_sound g H.sound_grants,
        of_image g H.sound_grants,
      )

  -- The lengths are wrong.
  short_called : (Sized l → ⊥) → called_of (plain 16) l ≡ called l c
  unfolding called
  short_called h = go (sized l) refl
    where
      go : (b : Bool) → sized l ≡ b
          → called_of (plain 16) l
          ≡ pick b (taken (state_of l.tables) (grants_test l.grants) l c) (called_of (plain 16) l)
      go true i = absurd (h ((sizes l).holds i))
      go false i = refl

  -- They are right, and the tables no sound state's memory, or the grants no sound grants'.
  unsound_called :
      Words32 l.grants → Sized l
      → ((s : State) → Sound s → l.tables ≡ image s → ⊥)
      ⊎ ((g : Grants) → SoundGrants g → l.grants ≡ grant_image g → ⊥)
      → unsound_of l ≡ called l c
  unfolding called
  unsound_called w z h =
      rw ((sizes l).back z) (go (state_of l.tables) refl (grants_test l.grants) refl h)
    where
      go : (o : Option State) → state_of l.tables ≡ o → (p : Bool) → grants_test l.grants ≡ p
          → ((s : State) → Sound s → l.tables ≡ image s → ⊥)
          ⊎ ((g : Grants) → SoundGrants g → l.grants ≡ grant_image g → ⊥)
          → unsound_of l ≡ taken o p l c
      go none i p q h = refl
      go (some s) i false q h = refl
      go (some s) i true q (inl h) = let k = (state_exact l.tables s).0 i in absurd (h s k.0 k.1)
      go (some s) i true q (inr h) =
          let k = (grants_exact l.grants (grants_of l.grants) z.1 w).0 (q, refl) in
          absurd (h (grants_of l.grants) k.0 k.1)

-- Demand 1, for any words lent and any call.
pub demand1 : (l : Lent) (c : Call) → Words32 l.grants → Kept l c (called l c)
unfolding called
demand1 l c w = go (sized l) refl (state_of l.tables) refl (grants_test l.grants) refl
  where
    go : (b : Bool) → sized l ≡ b → (o : Option State) → state_of l.tables ≡ o
        → (p : Bool) → grants_test l.grants ≡ p → Kept l c (pick b (taken o p l c) (called_of (plain 16) l))
    go false h o i p q = lengths (λ z. clash ((sizes l).back z) h)
    go true h none i p q =
        unsound ((sizes l).holds h) (inl (λ s S e. none_some (sym i ∙ (state_exact l.tables s).1 (S, e))))
    go true h (some s) i false q =
        unsound ((sizes l).holds h)
        (inr (λ g S e. clash (image_sound g S) (ap grants_test (sym e) ∙ q)))
    go true h (some s) i true q =
        let z = (sizes l).holds h in
        let k = (state_exact l.tables s).0 i in
        let j = (grants_exact l.grants (grants_of l.grants) z.1 w).0 (q, refl) in
        shown_kept l c (grants_of l.grants) s
        (record { sized = z; sound = k.0; tables = k.1; sound_grants = j.0; grants = j.1 })

-- No other result is one of them: a core that answered otherwise, or left other tables, grants or another scratch,
-- would not keep it.
pub kept_only : (l : Lent) (c : Call) (x : Called) → Words32 l.grants → Kept l c x → x ≡ called l c
kept_only l c x w (lengths h) = short_called l c h
kept_only l c x w (unsound z h) = unsound_called l c w z h
kept_only l c x w (refused g s n H h) = refused_stepped l c g s n H h ∙ shown_called l c g s H
kept_only l c x w (holds g s H h k T U) = shown_called l c g s H
