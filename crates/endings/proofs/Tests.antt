-- The tests of a thread and of an endpoint: what a call is where one refuses, and what is so where it passes.
use Prim.Native.Nat.{ℕ, ◌≤◌}
use mathlib.Core.Path.{◌≡◌, refl, sym, ◌∙◌, ap, subst}
use mathlib.Core.Bool.{Bool, true, false}
use mathlib.Core.List.{List}
use native.Mathlib.Omega.{arith}
use Rattle.std.specs.Prelude.{Ok, Err}
use Rattle.std.specs.Prelude as code
use Rattle.std.specs.Result.{IsErrAnd}
use Rattle.std.proofs.lemmas.Result.{err_from_is_err_and}
use Rattle.calls.specs.declared.Accepted.{Accepted}
use Rattle.calls.specs.declared.Refusal.{Refusal}
use Rattle.calls.specs.Answers.{plain, code_of, answer_of}
use Rattle.machine.specs.State.{State, Status, missing, live, closing}
use Rattle.machine.specs.Results.{Result, refuse}
use Rattle.machine.specs.Machine.{is_absent}
use Rattle.layout.specs.Shows.{Shows}
use Rattle.store.specs.Store.{IsThread, IsEndpoint}
use Rattle.endings.specs.Results.{Performs}
use Rattle.endings.specs.Tests.{Test, Tests, unless_absent, thread_there, unless_missing, endpoint_there, if_live}
use Rattle.endings.specs.Tests.{endpoint_open}
use Rattle.endings.proofs.Ends.{refused, performs_as}

-- A test refuses for one cause, and passes or refuses.

one_cause : {v w : Refusal} → ◌≡◌ {A = Test} (Err v) (Err w) → v ≡ w
one_cause k = cc

no_pass : {w : Refusal} {A : Type 0} → ◌≡◌ {A = Test} (Err w) (Ok tt) → A
no_pass k = let z : ◌≡◌ {A = ℕ} 0 1 = cc in absurd (omega arith)

refuses : {v w : Refusal} (s : State) → ◌≡◌ {A = Test} (Err v) (Err w) → refuse (code_of v) s ≡ refuse (code_of w) s
refuses s k = ap (λ (x : Refusal). refuse (code_of x) s) (one_cause k)

-- A thread. The call that tests it is f, by whether it is absent.
module _ {m : List ℕ} {t : ℕ} where
  pub absent_refused :
      {P : State → Type 0} {why : Refusal} (f : Bool → State → Result)
      → Tests m (IsThread t) (Err why) (thread_there t) → ((s : State) → P s → t ≤ 255)
      → ((s : State) → refuse 21 s ≡ f true s)
      → Performs m m (plain (code_of why)) P (λ s. f (is_absent (s.threads t).place) s)
  absent_refused {why = why} f T small at =
      performs_as (refused (code_of why) refl)
      (λ s M h. go s (is_absent (s.threads t).place) (T.tests s M (small s h)))
    where
      go : (s : State) (b : Bool) → ◌≡◌ {A = Test} (Err why) (unless_absent b) → refuse (code_of why) s ≡ f b s
      go s true k = refuses s k ∙ at s
      go s false k = no_pass k

  pub there_present :
      Tests m (IsThread t) (Ok tt) (thread_there t) → (s : State) → Shows m s → t ≤ 255
      → is_absent (s.threads t).place ≡ false
  there_present T s M h = go (is_absent (s.threads t).place) (T.tests s M h)
    where
      go : (b : Bool) → ◌≡◌ {A = Test} (Ok tt) (unless_absent b) → b ≡ false
      go true k = no_pass (sym k)
      go false k = refl

-- An endpoint. The call that tests it is f, by its status.
module _ {m : List ℕ} {e : ℕ} where
  module _ {P : State → Type 0} {why : Refusal} (f : Status → State → Result) (small : (s : State) → P s → e ≤ 63)
      (none : (s : State) → refuse 23 s ≡ f missing s) where
    pub missing_refused :
        Tests m (IsEndpoint e) (Err why) (endpoint_there e)
        → Performs m m (plain (code_of why)) P (λ s. f (s.endpoints e).status s)
    missing_refused T =
        performs_as (refused (code_of why) refl)
        (λ s M h. go s (s.endpoints e).status (T.tests s M (small s h)))
      where
        go : (s : State) (x : Status) → ◌≡◌ {A = Test} (Err why) (unless_missing x)
            → refuse (code_of why) s ≡ f x s
        go s missing k = refuses s k ∙ none s
        go s live k = no_pass k
        go s closing k = no_pass k

    pub shut_refused :
        Tests m (IsEndpoint e) (Err why) (endpoint_open e) → ((s : State) → refuse 25 s ≡ f closing s)
        → Performs m m (plain (code_of why)) P (λ s. f (s.endpoints e).status s)
    shut_refused T shut =
        performs_as (refused (code_of why) refl)
        (λ s M h. go s (s.endpoints e).status (T.tests s M (small s h)))
      where
        go : (s : State) (x : Status) → ◌≡◌ {A = Test} (Err why) (if_live x) → refuse (code_of why) s ≡ f x s
        go s missing k = refuses s k ∙ none s
        go s live k = no_pass k
        go s closing k = refuses s k ∙ shut s

  pub there_standing :
      Tests m (IsEndpoint e) (Ok tt) (endpoint_there e) → (s : State) → Shows m s → e ≤ 63
      → (s.endpoints e).status ≡ missing → ⊥
  there_standing T s M h k = no_pass (sym (T.tests s M h ∙ ap unless_missing k))

  pub open_live :
      Tests m (IsEndpoint e) (Ok tt) (endpoint_open e) → (s : State) → Shows m s → e ≤ 63
      → live ≡ (s.endpoints e).status
  open_live T s M h = go (s.endpoints e).status (T.tests s M h)
    where
      go : (x : Status) → ◌≡◌ {A = Test} (Ok tt) (if_live x) → live ≡ x
      go missing k = no_pass (sym k)
      go live k = refl
      go closing k = no_pass (sym k)

-- A test's refusal, passed on by `?`, is the call's.
pub passed_on :
    {m n : List ℕ} {P : State → Type 0} {f : State → Result} (r : code.Result Accepted Refusal) (why : Refusal)
    → IsErrAnd r (λ (x : Refusal). x ≡ why) → Performs m n (plain (code_of why)) P f → Performs m n (answer_of r) P f
passed_on {m} {n} {P} {f} r why h F =
    let p = err_from_is_err_and r h in
    subst (λ (x : code.Result Accepted Refusal). Performs m n (answer_of x) P f) (sym (p.1 ∙ ap Err p.2)) F
