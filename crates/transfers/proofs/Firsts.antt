-- The first waiter at a place, in a queue in which all send or all receive.
use Prim.Native.Nat.{ℕ, suc}
use mathlib.Core.Path.{◌≡◌, refl, sym, ◌∙◌, ap}
use mathlib.Core.Logic.{inl}
use mathlib.Core.Bool.{Bool}
use mathlib.Core.Option.{none, some}
use mathlib.Core.List.{List, [], ◌∷◌}
use native.Mathlib.Omega.{arith}
use Rattle.machine.specs.Lists.{Mem, only, first}
use Rattle.machine.specs.State.{State, Place}
use Rattle.machine.specs.Endpoints.{drop_debt}
use Rattle.machine.specs.Sound.{Queued}
use Rattle.machine.proofs.Lists.{mem_only}
use Rattle.machine.specs.Mid.{Mid}
use Rattle.machine.proofs.Preserved.Statuses.{Keeps, keeps_place}
use Rattle.machine.proofs.Preserved.Debts.{drop_debt_drops}
use Rattle.layout.specs.Words.{first_of}
use Rattle.layout.proofs.Chains.{first_zero}
use Rattle.debts.proofs.Firsts.{of_kind}

-- A link to the first of a list says whether it has one, and who it is.

pub first_none : {r : ℕ} (l : List ℕ) → r ≡ first_of l → r ≡ 0 → first l ≡ none
first_none l k z = ap first (first_zero l (sym k ∙ z))

pub first_some : {r u : ℕ} (l : List ℕ) → r ≡ first_of l → r ≡ suc u → first l ≡ some u
first_some [] k z = absurd (omega arith)
first_some {u = u} (x ∷ l) k z = let j : x ≡ u = omega arith in ap some j

first_stands : {r u : ℕ} (l : List ℕ) → r ≡ first_of l → r ≡ suc u → Mem u l
first_stands [] k z = absurd (omega arith)
first_stands (x ∷ l) k z = inl (omega arith)

-- Who is first of them waits there.
pub first_queued :
    {s : State} {r u : ℕ} → Mid s → (f : Place → Bool) (e : ℕ) → r ≡ first_of (of_kind f e s) → r ≡ suc u
    → Queued s u e
first_queued {s} {r} {u} M f e k z =
    (M.queues.queued u e).0
    (mem_only (λ t. f (s.threads t).place) u (s.endpoints e).waiters (first_stands (of_kind f e s) k z)).0

-- They are the same before and after a debt has gone.

only_same : (f g : ℕ → Bool) → ((u : ℕ) → f u ≡ g u) → (l : List ℕ) → only f l ≡ only g l
unfolding only
only_same f g h [] = refl
only_same f g h (x ∷ l) = rw (h x, only_same f g h l)

pub kind_kept : (f : Place → Bool) (e t : ℕ) (s : State) → of_kind f e (drop_debt t s) ≡ of_kind f e s
kind_kept f e t s =
    let K : Keeps s (drop_debt t s) = (drop_debt_drops s t).keeps in
    only_same (λ u. f ((drop_debt t s).threads u).place) (λ u. f (s.threads u).place)
    (λ u. ap f (keeps_place K u)) ((drop_debt t s).endpoints e).waiters
    ∙ ap (only (λ u. f (s.threads u).place)) (K.waiters e)
