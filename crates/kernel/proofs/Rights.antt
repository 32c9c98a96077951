-- What the lent memory says of rights: by what a call is refused by 29, and that no refusal changes tables or grants.
use Prim.Native.Nat.{ℕ, ◌+◌, ◌*◌, ◌≤◌}
use mathlib.Core.Path.{◌≡◌, refl, sym, ◌∙◌, ap}
use mathlib.Core.Logic.{◌↔◌}
use mathlib.Core.Bool.{Bool, true, false}
use mathlib.Core.Option.{Option, none, some}
use mathlib.Core.List.{List}
use native.Mathlib.Omega.{arith}
use Rattle.calls.specs.declared.Call.{Call}
use Rattle.calls.specs.declared.Call.TheVariants.{CreateThread, DestroyThread, SetPriority, CreateEndpoint}
use Rattle.calls.specs.declared.Call.TheVariants.{Interrupt, Tick, Send, Receive, Yield, Wait, Delete, Abort, Grant}
use Rattle.calls.specs.Calls.{endpoint_of, in_range}
use Rattle.machine.specs.Lists.{pick}
use Rattle.machine.specs.State.{State}
use Rattle.calls.specs.Answers.{plain}
use Rattle.machine.specs.Machine.{step}
use Rattle.calls.proofs.Ranges.{bounds}
use Rattle.machine.proofs.Granted.{refused_leave}
use Rattle.machine.proofs.Calls.Answers.{refused_same}
use Rattle.machine.proofs.Calls.Rights as Machine
use Rattle.layout.specs.Addresses.{word}
use Rattle.layout.specs.Words.{image}
use Rattle.layout.proofs.Neat.{sound_neat}
use Rattle.soundness.specs.Tables.{state_of}
use Rattle.soundness.proofs.Tables.{state_exact}
use Rattle.grants.specs.Memory.{grants_of, grant_image, grants_test}
use Rattle.grants.proofs.Memory.{image_at, image_of}
use Rattle.lent_tables.specs.Entries.{Lent, sized, Called, stepped, taken, called}
use Rattle.kernel.specs.Rights.{Passed}
use Rattle.kernel.proofs.Entry.{called_of, sizes}
use Rattle.kernel.proofs.Kept.{shown_called}

endpoint_within : (c : Call) → in_range c ≡ true → endpoint_of c ≤ 63
endpoint_within (CreateThread t p) h = omega arith
endpoint_within (DestroyThread t) h = omega arith
endpoint_within (SetPriority t p) h = omega arith
endpoint_within (CreateEndpoint e) h = bounds (CreateEndpoint e) h
endpoint_within (Interrupt l) h = omega arith
endpoint_within Tick h = omega arith
endpoint_within (Send e b m) h = (bounds (Send e b m) h).0
endpoint_within (Receive e) h = bounds (Receive e) h
endpoint_within Yield h = omega arith
endpoint_within (Wait l) h = omega arith
endpoint_within (Delete e a) h = (bounds (Delete e a) h).0
endpoint_within (Abort e a b) h = (bounds (Abort e a b) h).0
endpoint_within (Grant t e r b) h = (bounds (Grant t e r b) h).1

module _ {l : Lent} {c : Call} {t : ℕ} (P : Passed l c t) where
  -- The word that the memory has for the caller at the call's endpoint is the grant.
  word_granted : word l.grants (64 * t + endpoint_of c) ≡ P.grants t (endpoint_of c)
  word_granted =
      ap (λ (m : List ℕ). word m (64 * t + endpoint_of c)) P.held.grants
      ∙ image_at P.grants t (endpoint_of c) ((sound_neat P.state P.held.sound).runs_small t P.runs)
      (endpoint_within c P.range)

  called_code : (called l c).answer.code ≡ (step P.grants P.state c).answer.code
  called_code = ap (λ (x : Called). x.answer.code) (sym (shown_called l c P.grants P.state P.held))

-- "Whether a thread lacks a right depends on its own grant word and its call and on nothing else: two runs that agree
-- there agree on that refusal once the earlier ones are passed."
pub right_alone :
    (l k : Lent) (c : Call) (t u : ℕ) → Passed l c t → Passed k c u
    → word l.grants (64 * t + endpoint_of c) ≡ word k.grants (64 * u + endpoint_of c)
    → ((called l c).answer.code ≡ 29) ↔ ((called k c).answer.code ≡ 29)
right_alone l k c t u P Q same =
    let m =
    Machine.right_alone P.grants Q.grants P.state Q.state c t u P.range P.runs Q.runs
    (sym (word_granted P) ∙ same ∙ word_granted Q) in
    (λ h. called_code Q ∙ m.0 (sym (called_code P) ∙ h), λ h. called_code P ∙ m.1 (sym (called_code Q) ∙ h))

-- "every refusal leaves the grants untouched", and the tables.
pub refused_untouched :
    (l : Lent) (c : Call) → 16 ≤ (called l c).answer.code
    → ((called l c).left.tables ≡ l.tables) × ((called l c).left.grants ≡ l.grants)
unfolding called
refused_untouched l c = go (sized l) refl (state_of l.tables) refl (grants_test l.grants)
  where
    stays :
        (s : State) → sized l ≡ true → state_of l.tables ≡ some s
        → 16 ≤ (step (grants_of l.grants) s c).answer.code
        → ((stepped (grants_of l.grants) s c).left.tables ≡ l.tables)
        × ((stepped (grants_of l.grants) s c).left.grants ≡ l.grants)
    stays s i j h =
        let g = grants_of l.grants in
        let R = refused_same g s c h in (
          ap image R.0 ∙ sym ((state_exact l.tables s).0 j).1,
          ap grant_image (refused_leave (step g s c).answer c g (omega (arith, h)))
              ∙ image_of l.grants ((sizes l).holds i).1,
        )

    go : (b : Bool) → sized l ≡ b → (o : Option State) → state_of l.tables ≡ o → (p : Bool)
        → 16 ≤ (pick b (taken o p l c) (called_of (plain 16) l)).answer.code
        → ((pick b (taken o p l c) (called_of (plain 16) l)).left.tables ≡ l.tables)
        × ((pick b (taken o p l c) (called_of (plain 16) l)).left.grants ≡ l.grants)
    go false i o j p h = (refl, refl)
    go true i none j p h = (refl, refl)
    go true i (some s) j false h = (refl, refl)
    go true i (some s) j true h = stays s i j h
