-- A call whose numbers are in range, and whose caller lacks no right, is performed.
use Prim.Native.Nat.{ℕ}
use mathlib.Core.Path.{◌≡◌, refl, ◌∙◌, ap}
use mathlib.Core.Bool.{Bool, true, false}
use mathlib.Core.Option.{Option, none, some}
use Rattle.calls.specs.declared.Call.{Call}
use Rattle.calls.specs.Calls.{endpoint_of, in_range}
use Rattle.machine.specs.State.{State}
use Rattle.calls.specs.Answers.{is_accepted}
use Rattle.machine.specs.Grants.{Grants, lacks, barred}
use Rattle.machine.specs.Machine.{perform, perform_unless, perform_if, step}
use Rattle.machine.proofs.Lists.{clash}

pub performed :
    (g : Grants) (s : State) (c : Call) → in_range c ≡ true → barred s.runs g c ≡ false → step g s c ≡ perform c s
unfolding step perform_if perform_unless
performed g s c range free =
    ap (λ (x : Bool). perform_if x g c s) range ∙ ap (λ (x : Bool). perform_unless x c s) free

-- Whoever runs, if the call needs no right,
pub needs_none : (o : Option ℕ) (g : Grants) (c : Call) → ((w : ℕ) → lacks w c ≡ false) → barred o g c ≡ false
needs_none none g c h = refl
needs_none (some t) g c h = h (g t (endpoint_of c))

-- or if the one that runs has it.
pub has_right :
    (o : Option ℕ) (g : Grants) (c : Call) (t : ℕ) → o ≡ some t → lacks (g t (endpoint_of c)) c ≡ false
    → barred o g c ≡ false
has_right o g c t runs h = ap (λ (o : Option ℕ). barred o g c) runs ∙ h

-- An accepted call has its numbers in range, and its caller lacks no right.
pub permitted :
    (g : Grants) (s : State) (c : Call) → is_accepted (step g s c).answer ≡ true
    → (in_range c ≡ true) × (barred s.runs g c ≡ false)
unfolding step perform_if perform_unless
permitted g s c = go (in_range c)
  where
    unless : (y : Bool) → is_accepted (perform_unless y c s).answer ≡ true → y ≡ false
    unless true i = absurd (clash i refl)
    unless false i = refl

    go : (x : Bool) → is_accepted (perform_if x g c s).answer ≡ true → (x ≡ true) × (barred s.runs g c ≡ false)
    go true i = (refl, unless (barred s.runs g c) i)
    go false i = absurd (clash i refl)
