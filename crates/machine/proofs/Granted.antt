-- The grants: sound after every call, and changed by call 13 and the two creations alone, in their own words.
use Prim.Native.Nat.{ℕ, zero, suc, ◌^◌, ◌≤◌, ◌<◌}
use mathlib.Core.Path.{◌≡◌, refl, sym, ◌∙◌, ap}
use mathlib.Core.Logic.{◌⊎◌, inl, inr}
use mathlib.Core.Bool.{Bool, true, false}
use native.Mathlib.Omega.{arith}
use borrow.Author.Tests.{le-leb, lt-leb}
use Rattle.calls.specs.declared.Answer.{Answer}
use Rattle.calls.specs.declared.Call.{Call}
use Rattle.calls.specs.declared.Call.TheVariants.{CreateThread, DestroyThread, SetPriority, CreateEndpoint}
use Rattle.calls.specs.declared.Call.TheVariants.{Interrupt, Tick, Send, Receive, Yield, Wait, Delete, Abort}
use Rattle.calls.specs.declared.Call.TheVariants.{Grant}
use Rattle.calls.specs.Calls.{number_of, in_range}
use Rattle.machine.specs.Lists.{pick, put}
use Rattle.machine.specs.State.{State}
use Rattle.calls.specs.Answers.{is_accepted}
use Rattle.machine.specs.Grants.{Grants, grant_word, regranted, grants_after, fresh_grants, SoundGrants}
use Rattle.machine.specs.Machine.{perform_if, step, grants_by}
use Rattle.machine.proofs.Lists.{Same, same, other, same?, put_same, put_other, put_all}
use Rattle.calls.proofs.Ranges.{bounds}

-- Exactly the word of call 13,
module _ (g : Grants) (t e r b : ℕ) where
  pub granted_word : regranted (Grant t e r b) g t e ≡ grant_word r b
  unfolding regranted
  granted_word =
      ap (λ (f : ℕ → ℕ). f e) (put_same g t (put (g t) e (grant_word r b))) ∙ put_same (g t) e (grant_word r b)

  pub granted_others : (u f : ℕ) → ((u ≡ t) × (f ≡ e) → ⊥) → regranted (Grant t e r b) g u f ≡ g u f
  unfolding regranted
  granted_others u f n = go (same? u t) (same? f e)
    where
      go : Same u t → Same f e → put g t (put (g t) e (grant_word r b)) u f ≡ g u f
      go (other h _) k = ap (λ (x : ℕ → ℕ). x f) (put_other g t u _ h)
      go (same h _) (same k _) = absurd (n (h, k))
      go (same h _) (other k _) =
          ap (λ (v : ℕ). put g t (put (g t) e (grant_word r b)) v f) h
          ∙ ap (λ (x : ℕ → ℕ). x f) (put_same g t (put (g t) e (grant_word r b)))
          ∙ put_other (g t) e f (grant_word r b) k
          ∙ ap (λ (v : ℕ). g v f) (sym h)

-- the row of a thread that is created,
module _ (g : Grants) (t p : ℕ) where
  pub row_cleared : (e : ℕ) → regranted (CreateThread t p) g t e ≡ 0
  unfolding regranted
  row_cleared e = ap (λ (f : ℕ → ℕ). f e) (put_same g t (λ f. 0))

  pub row_others : (u e : ℕ) → (u ≡ t → ⊥) → regranted (CreateThread t p) g u e ≡ g u e
  unfolding regranted
  row_others u e n = ap (λ (f : ℕ → ℕ). f e) (put_other g t u (λ f. 0) n)

-- and the column of an endpoint that is created.
module _ (g : Grants) (e : ℕ) where
  pub column_cleared : (t : ℕ) → regranted (CreateEndpoint e) g t e ≡ 0
  unfolding regranted
  column_cleared t = put_same (g t) e 0

  pub column_others : (t f : ℕ) → (f ≡ e → ⊥) → regranted (CreateEndpoint e) g t f ≡ g t f
  unfolding regranted
  column_others t f n = put_other (g t) e f 0 n

-- Other calls leave the grants,
pub others_leave :
    (c : Call) (g : Grants) → (number_of c ≡ 1 → ⊥) → (number_of c ≡ 4 → ⊥) → (number_of c ≡ 13 → ⊥)
    → regranted c g ≡ g
unfolding regranted
others_leave (CreateThread t p) g i j k = absurd (i refl)
others_leave (DestroyThread t) g i j k = refl
others_leave (SetPriority t p) g i j k = refl
others_leave (CreateEndpoint e) g i j k = absurd (j refl)
others_leave (Interrupt l) g i j k = refl
others_leave Tick g i j k = refl
others_leave (Send e b m) g i j k = refl
others_leave (Receive e) g i j k = refl
others_leave Yield g i j k = refl
others_leave (Wait l) g i j k = refl
others_leave (Delete e a) g i j k = refl
others_leave (Abort e a b) g i j k = refl
others_leave (Grant t e r b) g i j k = absurd (k refl)

-- "every refusal leaves the grants untouched",
pub refused_leave : (a : Answer) (c : Call) (g : Grants) → 2 < a.code → grants_after a c g ≡ g
unfolding grants_after
refused_leave a c g h = ap (λ (x : Bool). pick x (regranted c g) g) (lt-leb a.code 2 h)

-- and an accepted call makes them what it should.
pub accepted_grants : (a : Answer) (c : Call) (g : Grants) → a.code ≤ 2 → grants_after a c g ≡ regranted c g
unfolding grants_after
accepted_grants a c g h = ap (λ (x : Bool). pick x (regranted c g) g) (le-leb a.code 2 h)

-- Soundness

pub fresh_grants_sound : SoundGrants fresh_grants
fresh_grants_sound = record { words = λ t e. inl refl; unused = λ t e h. refl }

-- What SoundGrants says of the word w of thread t at endpoint e.
abbrev Entry : ℕ → ℕ → ℕ → Type 0
Entry t e w = ((w ≡ 0) ⊎ ((2 ^ 28 ≤ w) × (w < 2 ^ 32))) × ((255 < t) ⊎ (63 < e) → w ≡ 0)

entries : {g : Grants} → SoundGrants g → (t e : ℕ) → Entry t e (g t e)
entries S t e = (S.words t e, S.unused t e)

sound_entries : {g : Grants} → ((t e : ℕ) → Entry t e (g t e)) → SoundGrants g
sound_entries h = record { words = λ t e. (h t e).0; unused = λ t e. (h t e).1 }

no_grant : (t e : ℕ) → Entry t e 0
no_grant t e = (inl refl, λ h. refl)

word_sound :
    (r b : ℕ) → r ≤ 15 → b < 2 ^ 28 → (grant_word r b ≡ 0) ⊎ ((2 ^ 28 ≤ grant_word r b) × (grant_word r b < 2 ^ 32))
word_sound zero b h k = inl refl
word_sound (suc r) b h k = inr (omega arith, omega arith)

grant_sound : (t e r b : ℕ) → in_range (Grant t e r b) ≡ true → Entry t e (grant_word r b)
grant_sound t e r b range =
    let k = bounds (Grant t e r b) range in (word_sound r b k.2 k.3, λ h. absurd (within h k.0 k.1))
  where
    within : (255 < t) ⊎ (63 < e) → t ≤ 255 → e ≤ 63 → ⊥
    within (inl h) i j = omega arith
    within (inr h) i j = omega arith

regranted_sound : (g : Grants) → SoundGrants g → (c : Call) → in_range c ≡ true → SoundGrants (regranted c g)
unfolding regranted
regranted_sound g S (CreateThread t p) range =
    sound_entries
    (put_all (λ u row. (e : ℕ) → Entry u e (row e)) g t (λ e. 0) (λ e. no_grant t e) (λ u n e. entries S u e))
regranted_sound g S (DestroyThread t) range = S
regranted_sound g S (SetPriority t p) range = S
regranted_sound g S (CreateEndpoint e) range =
    sound_entries (λ t. put_all (Entry t) (g t) e 0 (no_grant t e) (λ f n. entries S t f))
regranted_sound g S (Interrupt l) range = S
regranted_sound g S Tick range = S
regranted_sound g S (Send e b m) range = S
regranted_sound g S (Receive e) range = S
regranted_sound g S Yield range = S
regranted_sound g S (Wait l) range = S
regranted_sound g S (Delete e a) range = S
regranted_sound g S (Abort e a b) range = S
regranted_sound g S (Grant t e r b) range =
    sound_entries
    (put_all (λ u row. (f : ℕ) → Entry u f (row f)) g t (put (g t) e (grant_word r b))
    (put_all (Entry t) (g t) e (grant_word r b) (grant_sound t e r b range) (λ f n. entries S t f))
    (λ u n f. entries S u f))

-- Every call leaves sound grants sound.
pub grants_sound :
    (g : Grants) (s : State) (c : Call) → SoundGrants g → SoundGrants (grants_by g s c)
unfolding step perform_if grants_after
grants_sound g s c S = go (in_range c) refl
  where
    after : (x : Bool) → in_range c ≡ true → SoundGrants (pick x (regranted c g) g)
    after true range = regranted_sound g S c range
    after false range = S

    go : (x : Bool) → in_range c ≡ x
        → SoundGrants (pick (is_accepted (perform_if x g c s).answer) (regranted c g) g)
    go true range = after (is_accepted (perform_if true g c s).answer) range
    go false range = S
