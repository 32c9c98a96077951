-- The first waiter at a place, in a queue in which all send or all receive.
use Prim.Native.Nat.{ℕ, ◌+◌, ◌-◌, ◌≤◌}
use mathlib.Core.Path.{◌≡◌, refl, sym, ◌∙◌, ap}
use mathlib.Core.Bool.{Bool, true, false}
use mathlib.Core.Logic.{◌⊎◌, inl, inr}
use mathlib.Core.List.{List, [], ◌∷◌}
use native.Mathlib.Omega.{arith}
use Rattle.machine.specs.Lists.{only, Mem}
use Rattle.machine.specs.State.{State, Place, sending, receiving}
use Rattle.machine.specs.Endpoints.{is_sending, is_receiving}
use Rattle.machine.proofs.Lists.{only_nil, only_all, only_none}
use Rattle.layout.specs.Addresses.{endpoint_queue}
use Rattle.layout.specs.declared.Field.{Field}
use Rattle.layout.specs.Words.{place_code, first_of, queues_of}
use Rattle.layout.specs.Shows.{Shows}
use Rattle.layout.proofs.Standing.{queues_endpoint}
use Rattle.layout.proofs.Chains.{first_zero}
use Rattle.links.specs.Links.{First}
use Rattle.store.specs.Steps.{Shown, Tells}
use Rattle.store.specs.Store.{IsThread}
use Rattle.store.specs.Readings.{thread_in}
use Rattle.debts.specs.Debts.{AllAt, Alike, FirstAt}

-- Those of a kind among the waiters at e, in a state.
abbrev pub of_kind : (Place → Bool) → ℕ → State → List ℕ
of_kind f e s = only (λ t. f (s.threads t).place) (s.endpoints e).waiters

-- The first link is that of a waiter, if it is not 0.
pub first_waits : (r : ℕ) (l : List ℕ) → (r ≡ 0 → ⊥) → r ≡ first_of l → Mem (r - 1) l
first_waits r [] z k = absurd (z k)
first_waits r (u ∷ l) z k = inl (omega arith)

module _ (e : ℕ) {m : List ℕ} {r : ℕ} (F : First m (endpoint_queue e) r) where
  pub first_waiter : (s : State) → Shows m s → r ≡ first_of (s.endpoints e).waiters
  first_waiter s M = F.first (queues_of s) M.links ∙ ap first_of (queues_endpoint s e)

  pub waits : (s : State) → Shows m s → (r ≡ 0 → ⊥) → Mem (r - 1) (s.endpoints e).waiters
  waits s M z = first_waits r (s.endpoints e).waiters z (first_waiter s M)

  pub small : (s : State) → Shows m s → e ≤ 63 → (r ≡ 0 → ⊥) → r - 1 ≤ 255
  small s M h z = M.links.small (endpoint_queue e) (r - 1) (omega arith) (rw (queues_endpoint s e) (waits s M z))

  pub place_asked : (r ≡ 0 → ⊥) → Shown m (Alike e) → Shown m (IsThread (r - 1))
  place_asked z S =
      record { state = S.state; shows = S.shows; holds = small S.state S.shows S.holds.endpoint z }

  none_of : (f : Place → Bool) → r ≡ 0 → Tells m (Alike e) 0 (λ s. first_of (of_kind f e s))
  none_of f z =
      record {
        tells = λ s M A.
            let g : ℕ → Bool = λ t. f (s.threads t).place in
            let l : List ℕ = (s.endpoints e).waiters in
            sym (ap first_of (ap (only g) (first_zero l (sym (first_waiter s M) ∙ z)) ∙ only_nil g));
      }

  pub at_empty : {code : ℕ} → r ≡ 0 → FirstAt m e code 0
  at_empty z = record { sends = λ k. none_of is_sending z; receives = λ k. none_of is_receiving z }

  module _ {p : ℕ} (z : r ≡ 0 → ⊥) (P : Tells m (IsThread (r - 1)) p (thread_in Field.Place (r - 1))) where
    -- The first is at the place of which all are.
    place_is : (s : State) (x : Place) → Shows m s → e ≤ 63 → AllAt x e s → p ≡ place_code x
    place_is s x M h f = P.tells s M (small s M h z) ∙ ap place_code (f (r - 1) (waits s M z))

    -- All are of the kind, or none is.

    all_of : (s : State) (f : Place → Bool) (x : Place) → Shows m s → f x ≡ true → AllAt x e s
        → r ≡ first_of (of_kind f e s)
    all_of s f x M t a =
        first_waiter s M
        ∙ sym (ap first_of (only_all (λ u. f (s.threads u).place) (s.endpoints e).waiters (λ u k. ap f (a u k) ∙ t)))

    nobody_of : (s : State) (f : Place → Bool) (x : Place) → f x ≡ false → AllAt x e s → 0 ≡ first_of (of_kind f e s)
    nobody_of s f x t a =
        sym (ap first_of (only_none (λ u. f (s.threads u).place) (s.endpoints e).waiters (λ u k. ap f (a u k) ∙ t)))

    pub at_other : {code : ℕ} → (p ≡ code → ⊥) → FirstAt m e code 0
    at_other {code} d =
        record {
          sends = λ k. record { tells = λ s M A. no_sender k s M A.endpoint A.alike };
          receives = λ k. record { tells = λ s M A. no_receiver k s M A.endpoint A.alike };
        }
      where
        no_sender : code ≡ 2 + e → (s : State) → Shows m s → e ≤ 63
            → AllAt (sending e) e s ⊎ AllAt (receiving e) e s → 0 ≡ first_of (of_kind is_sending e s)
        no_sender k s M h (inl a) = absurd (d (place_is s (sending e) M h a ∙ sym k))
        no_sender k s M h (inr a) = nobody_of s is_sending (receiving e) refl a

        no_receiver : code ≡ 66 + e → (s : State) → Shows m s → e ≤ 63
            → AllAt (sending e) e s ⊎ AllAt (receiving e) e s → 0 ≡ first_of (of_kind is_receiving e s)
        no_receiver k s M h (inl a) = nobody_of s is_receiving (sending e) refl a
        no_receiver k s M h (inr a) = absurd (d (place_is s (receiving e) M h a ∙ sym k))

    pub at_place : {code : ℕ} → p ≡ code → FirstAt m e code r
    at_place {code} d =
        record {
          sends = λ k. record { tells = λ s M A. sender k s M A.endpoint A.alike };
          receives = λ k. record { tells = λ s M A. receiver k s M A.endpoint A.alike };
        }
      where
        sender : code ≡ 2 + e → (s : State) → Shows m s → e ≤ 63
            → AllAt (sending e) e s ⊎ AllAt (receiving e) e s → r ≡ first_of (of_kind is_sending e s)
        sender k s M h (inl a) = all_of s is_sending (sending e) M refl a
        sender k s M h (inr a) = let j : p ≡ 66 + e = place_is s (receiving e) M h a in absurd (omega arith)

        receiver : code ≡ 66 + e → (s : State) → Shows m s → e ≤ 63
            → AllAt (sending e) e s ⊎ AllAt (receiving e) e s → r ≡ first_of (of_kind is_receiving e s)
        receiver k s M h (inl a) = let j : p ≡ 2 + e = place_is s (sending e) M h a in absurd (omega arith)
        receiver k s M h (inr a) = all_of s is_receiving (receiving e) M refl a
