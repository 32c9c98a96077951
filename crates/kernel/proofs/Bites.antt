-- Demand 1 bites: of each wrong core of document 01's checklist, in its pure form, it is false.
use Prim.Native.Nat.{ℕ, ◌^◌, ◌≤◌, ◌<◌}
use mathlib.Core.Path.{◌≡◌, refl, sym, ◌∙◌, ap}
use mathlib.Core.Logic.{◌⊎◌, inl, inr, ⊎_elim}
use mathlib.Core.List.{List, [], ◌∷◌}
use native.Mathlib.Omega.{arith}
use lib.Dec.{leb}
use lib.ListN.{length, replicate, length-replicate}
use Rattle.calls.specs.declared.Call.{Call}
use Rattle.calls.specs.declared.Call.TheVariants.{CreateThread, CreateEndpoint, Tick, Yield}
use Rattle.machine.specs.Lists.{put, pick}
use Rattle.machine.specs.State.{State, Status, missing, live, closing, Endpoint, fresh_state}
use Rattle.calls.specs.Answers.{plain}
use Rattle.machine.specs.Grants.{Grants, lacks, regranted, grants_after, fresh_grants, SoundGrants}
use Rattle.machine.specs.Machine.{create_if, create_thread, create_at, create_endpoint, perform, perform_unless}
use Rattle.machine.specs.Machine.{perform_if}
use Rattle.machine.specs.Machine.{step, grants_by, tick}
use Rattle.machine.specs.Sound.{Sound}
use Rattle.machine.proofs.Lists.{put_all}
use Rattle.machine.proofs.Running.{choose_keeps}
use Rattle.machine.proofs.Granted.{fresh_grants_sound, grants_sound}
use Rattle.machine.proofs.Preserved.Steps.{step_sound, fresh_sound}
use Rattle.layout.specs.Addresses.{scratch_words}
use Rattle.layout.specs.Words.{image}
use Rattle.layout.proofs.Decode.{image_injective}
use Rattle.grants.specs.Memory.{Words32, grants_of, grant_image}
use Rattle.grants.proofs.Memory.{of_image, image_words}
use Rattle.lent_tables.specs.Entries.{Lent, lent, zeros, Called, stepped, called}
use Rattle.lent_tables.proofs.Verdict.{zeros_length}
use Rattle.kernel.specs.Kept.{Kept}
use Rattle.kernel.proofs.Kept.{kept_only}
use Rattle.kernel.proofs.InTurn.{called_image}

-- What a core makes of the lent memory and a call.
abbrev Core : Type 0
Core = Lent → Call → Called

abbrev Keeps : Core → Type 0
Keeps f = (l : Lent) (c : Call) → Words32 l.grants → Kept l c (f l c)

-- "A core that leaves tables untouched": it answers as it should.
abbrev untoucher : Core
untoucher l c =
    record {
      answer = (called l c).answer;
      left = lent l.tables (called l c).left.grants (called l c).left.scratch;
    }

-- One that leaves the grants untouched.
abbrev ungranter : Core
ungranter l c =
    record {
      answer = (called l c).answer;
      left = lent (called l c).left.tables l.grants (called l c).left.scratch;
    }

-- "One always answering 0": tables, grants and scratch are as they should be.
abbrev nodder : Core
nodder l c = record { answer = plain 0; left = (called l c).left }

-- "One refusing all calls", by the number n.
abbrev refuser : ℕ → Core
refuser n l c = record { answer = plain n; left = lent l.tables l.grants (called l c).left.scratch }

-- One that makes refused tables fresh.
abbrev clearer : Core
clearer l c =
    record {
      answer = (called l c).answer;
      left =
          lent (pick (leb 16 (called l c).answer.code) (image fresh_state) (called l c).left.tables)
          (called l c).left.grants (called l c).left.scratch;
    }

-- One that leaves the scratch.
abbrev leaver : Core
leaver l c =
    record {
      answer = (called l c).answer;
      left = lent (called l c).left.tables (called l c).left.grants l.scratch;
    }

-- On the memory of a sound state and sound grants a core that keeps demand 1 does what the machine does.
does :
    (f : Core) → Keeps f → (g : Grants) (s : State) (scratch : List ℕ) (c : Call) → SoundGrants g → Sound s
    → length scratch ≡ scratch_words → f (lent (image s) (grant_image g) scratch) c ≡ stepped g s c
does f K g s scratch c G S n =
    let l = lent (image s) (grant_image g) scratch in
    let w = image_words g G in
    kept_only l c (f l c) w (K l c w) ∙ called_image g s scratch c G S n

-- So it does where nobody has a right.
does_fresh :
    (f : Core) → Keeps f → (s : State) (scratch : List ℕ) (c : Call) → Sound s → length scratch ≡ scratch_words
    → f (lent (image s) (grant_image fresh_grants) scratch) c ≡ stepped fresh_grants s c
does_fresh f K s scratch c S n = does f K fresh_grants s scratch c fresh_grants_sound S n

-- The state after a first call: endpoint 0 is there.
abbrev one_endpoint : State
one_endpoint = (step fresh_grants fresh_state (CreateEndpoint 0)).state

one_sound : Sound one_endpoint
one_sound = step_sound fresh_grants fresh_state (CreateEndpoint 0) fresh_sound

status_code : Status → ℕ
status_code missing = 0
status_code live = 1
status_code closing = 2

one_there : status_code (one_endpoint.endpoints 0).status ≡ 1
unfolding step perform_if perform_unless perform create_endpoint create_at put status_code
one_there = ap (λ (x : ℕ → Endpoint). status_code (x 0).status) (choose_keeps _).endpoints

-- Its memory is not that of the fresh state.
apart : image fresh_state ≡ image one_endpoint → ⊥
unfolding status_code
apart e =
    let k = ap (λ (s : State). status_code (s.endpoints 0).status)
    (image_injective fresh_state one_endpoint fresh_sound one_sound e) in
    omega (arith, k, one_there)

-- The tables: an endpoint made on fresh tables is not there.
pub untoucher_fails : Keeps untoucher → ⊥
untoucher_fails K =
    let d = does_fresh untoucher K fresh_state zeros (CreateEndpoint 0) fresh_sound zeros_length in
    apart (ap (λ (x : Called). x.left.tables) d)

-- The grants: thread 0, which is absent, has a right that is not cleared when the thread is created.
abbrev one_grant : Grants
one_grant = put fresh_grants 0 (put (fresh_grants 0) 0 (2 ^ 28))

one_grant_sound : SoundGrants one_grant
one_grant_sound =
    record {
      words =
          put_all (λ (t : ℕ) (row : ℕ → ℕ). (e : ℕ) → (row e ≡ 0) ⊎ ((2 ^ 28 ≤ row e) × (row e < 2 ^ 32)))
          fresh_grants 0 (put (fresh_grants 0) 0 (2 ^ 28))
          (put_all (λ (e w : ℕ). (w ≡ 0) ⊎ ((2 ^ 28 ≤ w) × (w < 2 ^ 32))) (fresh_grants 0) 0 (2 ^ 28)
          (inr (omega arith, omega arith)) (λ e n. inl refl))
          (λ t n e. inl refl);
      unused =
          put_all (λ (t : ℕ) (row : ℕ → ℕ). (e : ℕ) → (255 < t) ⊎ (63 < e) → row e ≡ 0)
          fresh_grants 0 (put (fresh_grants 0) 0 (2 ^ 28))
          (put_all (λ (e w : ℕ). (255 < 0) ⊎ (63 < e) → w ≡ 0) (fresh_grants 0) 0 (2 ^ 28)
          (λ h. absurd (⊎_elim (λ k. omega arith) (λ k. omega arith) h)) (λ e n h. refl))
          (λ t n e h. refl);
    }

pub ungranter_fails : Keeps ungranter → ⊥
unfolding step perform_if perform_unless perform create_thread create_if grants_after regranted put
ungranter_fails K =
    let c = CreateThread 0 0 in
    let after : Grants = grants_by one_grant fresh_state c in
    let d = does ungranter K one_grant fresh_state zeros c one_grant_sound fresh_sound zeros_length in
    let e : one_grant ≡ after =
    sym (of_image one_grant one_grant_sound)
    ∙ ap (λ (x : Called). grants_of x.left.grants) d
    ∙ of_image after (grants_sound one_grant fresh_state c one_grant_sound) in
    let k : ◌≡◌ {A = ℕ} (2 ^ 28) 0 = ap (λ (g : Grants). g 0 0) e in
    omega (arith, k)

-- The answer: nobody runs on fresh tables, and a yield is answered 0 instead of 20.
pub nodder_fails : Keeps nodder → ⊥
unfolding step perform_if perform_unless perform lacks
nodder_fails K =
    let d = does_fresh nodder K fresh_state zeros Yield fresh_sound zeros_length in
    let k = ap (λ (x : Called). x.answer.code) d in
    omega (arith, k)

-- The answer: a tick is refused, which never is.
pub refuser_fails : (n : ℕ) → 16 ≤ n → Keeps (refuser n) → ⊥
unfolding step perform_if perform_unless perform tick lacks
refuser_fails n l K =
    let d = does_fresh (refuser n) K fresh_state zeros Tick fresh_sound zeros_length in
    let k = ap (λ (x : Called). x.answer.code) d in
    omega (arith, k)

-- The tables: a call out of range, made where an endpoint is, takes it away.
pub clearer_fails : Keeps clearer → ⊥
unfolding step perform_if
clearer_fails K =
    let c = CreateThread 256 0 in
    let e = called_image fresh_grants one_endpoint zeros c fresh_grants_sound one_sound zeros_length in
    let d = does_fresh clearer K one_endpoint zeros c one_sound zeros_length in
    apart
    (sym (ap (λ (x : Called). pick (leb 16 x.answer.code) (image fresh_state) x.left.tables) e)
    ∙ ap (λ (x : Called). x.left.tables) d)

head_of : List ℕ → ℕ
head_of [] = 0
head_of (x ∷ l) = x

-- The scratch: one of ones is left.
pub leaver_fails : Keeps leaver → ⊥
unfolding head_of
leaver_fails K =
    let ones : List ℕ = replicate scratch_words 1 in
    let d = does_fresh leaver K fresh_state ones Tick fresh_sound (length-replicate {A = ℕ} scratch_words 1) in
    let k = ap (λ (x : Called). head_of x.left.scratch) d in
    omega (arith, k)
