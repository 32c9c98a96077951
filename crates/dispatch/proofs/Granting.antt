-- The grants that a call leaves; and call 13's part of the tables: refused where the thread or the endpoint is absent,
-- else nothing changes.
use Prim.Native.Nat.{ℕ, ◌≤◌, ◌<◌}
use mathlib.Core.Path.{◌≡◌, refl, sym, ◌∙◌, ap, subst}
use mathlib.Core.Bool.{Bool, true, false}
use mathlib.Core.List.{List}
use native.Mathlib.Omega.{arith}
use lib.ListN.{length}
use Rattle.std.specs.Prelude.{Ok, Err}
use Rattle.std.specs.Prelude as code
use Rattle.std.specs.Result.{IsErr}
use Rattle.calls.specs.declared.Answer.{Answer}
use Rattle.calls.specs.declared.Accepted.{Accepted}
use Rattle.calls.specs.declared.Accepted.TheVariants.{Done, Blocked, Ended, BrokenOff, Received}
use Rattle.calls.specs.declared.Refusal.{Refusal}
use Rattle.calls.specs.declared.Refusal.TheVariants.{Length, Unsound, NoCall, Range, NobodyRuns, ThreadAbsent}
use Rattle.calls.specs.declared.Refusal.TheVariants.{ThreadPresent, EndpointAbsent, EndpointPresent}
use Rattle.calls.specs.declared.Refusal.TheVariants.{EndpointClosing, BadgeAborted, LineTaken, Short, NoRight, Limits}
use Rattle.calls.specs.declared.Call.{Call}
use Rattle.calls.specs.declared.Call.TheVariants.{CreateThread, DestroyThread, SetPriority, CreateEndpoint}
use Rattle.calls.specs.declared.Call.TheVariants.{Interrupt, Tick, Send, Receive, Yield, Wait, Delete, Abort, Grant}
use Rattle.calls.specs.Calls.{number_of}
use Rattle.machine.specs.Lists.{pick}
use Rattle.machine.specs.State.{State, Status, missing, live, closing}
use Rattle.machine.specs.Results.{done}
use Rattle.calls.specs.Answers.{plain, is_accepted, code_of, accepted_as, answer_of}
use Rattle.machine.specs.Grants.{Grants, regranted, grants_after}
use Rattle.machine.specs.Machine.{grant_at, grant_if, grant}
use Rattle.machine.proofs.Lists.{clash}
use Rattle.machine.proofs.Granted.{refused_leave, accepted_grants}
use Rattle.machine.proofs.Preserved.Choosing.{choose_same}
use Rattle.layout.specs.Shows.{Shows}
use Rattle.store.specs.Store.{IsThread, IsEndpoint}
use Rattle.endings.specs.Results.{Asked, Performs}
use Rattle.endings.specs.Tests.{Tests, thread_there, endpoint_there}
use Rattle.endings.proofs.Ends.{performs_as, performs_for}
use Rattle.endings.proofs.Tests.{absent_refused, there_present, missing_refused, there_standing}
use Rattle.grants.specs.Memory.{grant_words, grants_of, grant_image}
use Rattle.grants.proofs.Memory.{image_of}
use Rattle.dispatch.specs.Steps.{Grantable, Regrants}

-- Every refusal has a code above 2, and what is accepted none.

pub refusal_code : (why : Refusal) → 2 < code_of why
refusal_code Length = omega arith
refusal_code Unsound = omega arith
refusal_code NoCall = omega arith
refusal_code Range = omega arith
refusal_code NobodyRuns = omega arith
refusal_code ThreadAbsent = omega arith
refusal_code ThreadPresent = omega arith
refusal_code EndpointAbsent = omega arith
refusal_code EndpointPresent = omega arith
refusal_code EndpointClosing = omega arith
refusal_code BadgeAborted = omega arith
refusal_code LineTaken = omega arith
refusal_code Short = omega arith
refusal_code NoRight = omega arith
refusal_code Limits = omega arith

accepted_code : (a : Accepted) → (accepted_as a).code ≤ 2
accepted_code Done = omega arith
accepted_code Blocked = omega arith
accepted_code (Ended n) = omega arith
accepted_code (BrokenOff n) = omega arith
accepted_code (Received b m) = omega arith

-- A refused call leaves the grants' memory.
pub refused_grants :
    (g : List ℕ) (r : code.Result Accepted Refusal) (c : Call) → length g ≡ grant_words → IsErr r
    → Regrants g g (answer_of r) c
refused_grants g (Ok a) c size h = absurd (clash h refl)
refused_grants g (Err why) c size h =
    record {
      left =
          sym (ap grant_image (refused_leave (plain (code_of why)) c (grants_of g) (refusal_code why))
          ∙ image_of g size);
    }

-- So does one that leaves the grants, whatever it is answered.
pub left_grants :
    (g : List ℕ) (a : Answer) {c : Call} (d : Call) → c ≡ d → length g ≡ grant_words
    → regranted d (grants_of g) ≡ grants_of g → Regrants g g a c
unfolding grants_after
left_grants g a {c} d e size same =
    record { left = sym (ap grant_image (go (is_accepted a)) ∙ image_of g size) }
  where
    go : (x : Bool) → pick x (regranted c (grants_of g)) (grants_of g) ≡ grants_of g
    go true = ap (λ (k : Call). regranted k (grants_of g)) e ∙ same
    go false = refl

-- The running thread's calls leave them.
pub own_regrants : (c : Call) → 7 ≤ number_of c → number_of c ≤ 12 → (g : Grants) → regranted c g ≡ g
unfolding regranted
own_regrants (CreateThread t p) h k g = absurd (omega arith)
own_regrants (DestroyThread t) h k g = refl
own_regrants (SetPriority t p) h k g = refl
own_regrants (CreateEndpoint e) h k g = absurd (omega arith)
own_regrants (Interrupt l) h k g = refl
own_regrants Tick h k g = refl
own_regrants (Send e b m) h k g = refl
own_regrants (Receive e) h k g = refl
own_regrants Yield h k g = refl
own_regrants (Wait l) h k g = refl
own_regrants (Delete e a) h k g = refl
own_regrants (Abort e a b) h k g = refl
own_regrants (Grant t e r b) h k g = absurd (omega arith)

-- An accepted call leaves what it stores.
pub accepted_regrants :
    {g h : List ℕ} (a : Accepted) (c : Call) → h ≡ grant_image (regranted c (grants_of g))
    → Regrants g h (accepted_as a) c
accepted_regrants {g} a c e =
    record { left = e ∙ ap grant_image (sym (accepted_grants (accepted_as a) c (grants_of g) (accepted_code a))) }

-- What the call asks.
abbrev Given : ℕ → ℕ → State → Type 0
Given t e = Asked ((t ≤ 255) × (e ≤ 63))

pub for_grant :
    {m n : List ℕ} {a : Answer} {t e rights badge : ℕ} → Performs m n a (Given t e) (grant t e)
    → Performs m n a (Asked (Grantable t e rights badge)) (grant t e)
for_grant F = performs_for F (λ s M h. record { sound = h.sound; numbers = (h.numbers.0, h.numbers.1) })

module _ {m : List ℕ} {t e : ℕ} where
  pub grant_absent :
      {why : Refusal} → Tests m (IsThread t) (Err why) (thread_there t)
      → Performs m m (plain (code_of why)) (Given t e) (grant t e)
  unfolding grant grant_if
  grant_absent T = absent_refused (λ b s. grant_if b e s) T (λ s h. h.numbers.0) (λ s. refl)

  module _ (T : Tests m (IsThread t) (Ok tt) (thread_there t)) where
    -- The thread is there: the endpoint's status decides.
    by_status : (s : State) → Shows m s → Given t e s → grant_at (s.endpoints e).status s ≡ grant t e s
    unfolding grant grant_if
    by_status s M h = ap (λ (x : Bool). grant_if x e s) (sym (there_present T s M h.numbers.0))

    pub grant_missing :
        {why : Refusal} → Tests m (IsEndpoint e) (Err why) (endpoint_there e)
        → Performs m m (plain (code_of why)) (Given t e) (grant t e)
    unfolding grant_at
    grant_missing E =
        performs_as (missing_refused (λ x s. grant_at x s) (λ s h. h.numbers.1) (λ s. refl) E) by_status

    pub granted :
        Tests m (IsEndpoint e) (Ok tt) (endpoint_there e) → Performs m m (plain 0) (Given t e) (grant t e)
    unfolding grant_at
    granted E =
        performs_as
        (record { answers = λ s M h. refl; shows = λ s M h. subst (Shows m) (sym (choose_same s h.sound)) M })
        (λ s M h. go s (s.endpoints e).status (there_standing E s M h.numbers.1) ∙ by_status s M h)
      where
        go : (s : State) (x : Status) → (x ≡ missing → ⊥) → done s ≡ grant_at x s
        go s missing j = absurd (j refl)
        go s live j = refl
        go s closing j = refl
