-- Rights at an endpoint: who is refused by 29, and by what it is decided.
use Prim.Native.Nat.{ℕ, ◌≤◌}
use mathlib.Core.Path.{◌≡◌, refl, sym, ◌∙◌, ap, subst}
use mathlib.Core.Logic.{◌↔◌}
use mathlib.Core.Bool.{Bool, true, false, ◌&&◌, not, and-eq-true_iff}
use mathlib.Core.Option.{Option, none, some}
use native.Mathlib.Omega.{arith}
use lib.Dec.{eqb}
use borrow.Author.Tests.{eqb-true}
use Rattle.calls.specs.declared.Call.{Call}
use Rattle.calls.specs.declared.Call.TheVariants.{Send, Abort}
use Rattle.calls.specs.Calls.{endpoint_of, in_range}
use Rattle.machine.specs.State.{State}
use Rattle.machine.specs.Results.{Result}
use Rattle.machine.specs.Grants.{Grants, badge_in, grants?, lacks, barred}
use Rattle.machine.specs.Machine.{perform, perform_unless, perform_if, step}
use Rattle.machine.proofs.Lists.{clash}
use Rattle.machine.proofs.Calls.Shapes.{Shape, refused, plainly, granted, handed, removed, looked, perform_shape}

-- A call that is performed is never refused by 29.
performed_not_29 : (s : State) (c : Call) → in_range c ≡ true → (perform c s).answer.code ≡ 29 → ⊥
performed_not_29 s c range = go (perform_shape s c range)
  where
    go : {d : Call} {r : Result} → Shape s d r → r.answer.code ≡ 29 → ⊥
    go (refused n l m) h = omega arith
    go (plainly n r l m) h = omega arith
    go (granted r) h = omega arith
    go (handed b m r) h = omega arith
    go (removed n j r l i x k) h = omega arith
    go (looked n k r l i x) h = omega arith

-- A call whose numbers are in range is refused by 29 exactly where its caller is barred.
barred_exactly :
    (g : Grants) (s : State) (c : Call) → in_range c ≡ true
    → ((step g s c).answer.code ≡ 29) ↔ (barred s.runs g c ≡ true)
unfolding step perform_if perform_unless
barred_exactly g s c range =
    subst (λ (x : Bool). ((perform_if x g c s).answer.code ≡ 29) ↔ (barred s.runs g c ≡ true)) (sym range)
    (go (barred s.runs g c))
  where
    go : (x : Bool) → ((perform_unless x c s).answer.code ≡ 29) ↔ (x ≡ true)
    go true = (λ h. refl, λ h. refl)
    go false = (λ h. absurd (performed_not_29 s c range h), λ h. absurd (clash h refl))

-- "A missing right or wrong badge by 29, tried right after 20": once the numbers are in range and a thread runs, it is
-- decided there and then.
pub lacking_exactly :
    (g : Grants) (s : State) (c : Call) (t : ℕ) → in_range c ≡ true → s.runs ≡ some t
    → ((step g s c).answer.code ≡ 29) ↔ (lacks (g t (endpoint_of c)) c ≡ true)
lacking_exactly g s c t range runs =
    subst (λ (o : Option ℕ). ((step g s c).answer.code ≡ 29) ↔ (barred o g c ≡ true)) runs (barred_exactly g s c range)

-- Nobody else is refused by 29: the numbers are in range, and a thread runs.
pub lacking_only :
    (g : Grants) (s : State) (c : Call) → (step g s c).answer.code ≡ 29
    → (in_range c ≡ true) × ((t : ℕ) × (s.runs ≡ some t))
unfolding step perform_if
lacking_only g s c = go (in_range c) refl
  where
    runs : (o : Option ℕ) → s.runs ≡ o → barred o g c ≡ true → (t : ℕ) × (s.runs ≡ some t)
    runs none e h = absurd (clash h refl)
    runs (some t) e h = (t, e)

    go : (x : Bool) → in_range c ≡ x → (perform_if x g c s).answer.code ≡ 29
        → (in_range c ≡ true) × ((t : ℕ) × (s.runs ≡ some t))
    go true range h = (
      range,
      runs s.runs refl
          ((barred_exactly g s c range).0 (subst (λ (x : Bool). (perform_if x g c s).answer.code ≡ 29) (sym range) h)),
    )
    go false range h = absurd (omega arith)

-- "Whether a thread lacks a right depends on its own grant word and its call and on nothing else: two runs that agree
-- there agree on that refusal once the earlier ones are passed."
pub right_alone :
    (g k : Grants) (s z : State) (c : Call) (t u : ℕ) → in_range c ≡ true → s.runs ≡ some t → z.runs ≡ some u
    → g t (endpoint_of c) ≡ k u (endpoint_of c)
    → ((step g s c).answer.code ≡ 29) ↔ ((step k z c).answer.code ≡ 29)
right_alone g k s z c t u range runs runs' same =
    let x = lacking_exactly g s c t range runs in
    let y = lacking_exactly k z c u range runs' in
    let e : lacks (g t (endpoint_of c)) c ≡ lacks (k u (endpoint_of c)) c = ap (λ (w : ℕ). lacks w c) same in
    (λ h. y.1 (sym e ∙ x.0 h), λ h. x.1 (e ∙ y.0 h))

-- What the request is for: nobody sends under a badge that it was not granted there.
pub sent_granted :
    (g : Grants) (s : State) (e b m t : ℕ) → s.runs ≡ some t → (step g s (Send e b m)).answer.code ≤ 2
    → (grants? 1 (g t e) ≡ true) × (badge_in (g t e) ≡ b)
unfolding step perform_if perform_unless lacks
sent_granted g s e b m t runs = go (in_range (Send e b m))
  where
    has : (x : Bool) → (perform_unless (not x) (Send e b m) s).answer.code ≤ 2 → x ≡ true
    has true h = refl
    has false h = absurd (omega arith)

    parts : (grants? 1 (g t e) && eqb (badge_in (g t e)) b) ≡ true
        → (grants? 1 (g t e) ≡ true) × (badge_in (g t e) ≡ b)
    parts h =
        let k = (and-eq-true_iff (grants? 1 (g t e)) (eqb (badge_in (g t e)) b)).0 h in
        (k.0, eqb-true (badge_in (g t e)) b k.1)

    go : (x : Bool) → (perform_if x g (Send e b m) s).answer.code ≤ 2
        → (grants? 1 (g t e) ≡ true) × (badge_in (g t e) ≡ b)
    go true h =
        parts
        (has (grants? 1 (g t e) && eqb (badge_in (g t e)) b)
        (subst
        (λ (o : Option ℕ). (perform_unless (barred o g (Send e b m)) (Send e b m) s).answer.code ≤ 2) runs h))
    go false h = absurd (omega arith)

-- An abort needs its right alone, whatever badge is granted or aborted.
pub own_right_alone : (w e a b c : ℕ) → lacks w (Abort e a b) ≡ lacks w (Abort e a c)
unfolding lacks
own_right_alone w e a b c = refl
