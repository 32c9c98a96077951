-- The removal of waiters from the head, turn by turn. What is left to do from the state reached, added to what has been
-- done, is what was to do from the beginning.
use Prim.Native.Nat.{ℕ, zero, suc, ◌+◌, ◌-◌, ◌<◌}
use mathlib.Core.Path.{◌≡◌, refl, sym, ◌∙◌, ap, subst}
use mathlib.Core.List.{List, [], ◌∷◌}
use native.Mathlib.Omega.{arith}
use Rattle.machine.specs.State.{State}
use Rattle.machine.specs.Endpoints.{wake_from}
use Rattle.machine.specs.Aborts.{Removal, one_more, remove_up_to}
use Rattle.layout.specs.Addresses.{endpoint_queue}
use Rattle.layout.specs.Words.{first_of}
use Rattle.layout.specs.Shows.{Shows}
use Rattle.links.specs.Links.{First}
use Rattle.layout.proofs.Chains.{first_zero}
use Rattle.store.specs.Steps.{Shown, Does}
use Rattle.queues.specs.Queues.{InEndpoint}
use Rattle.debts.proofs.Firsts.{first_waiter}
use Rattle.endings.proofs.Conditions.{first_waits}
use Rattle.deletes.specs.Deletes.{Closes, removal, Removes}
use Rattle.deletes.proofs.Closing.{closes_woken}

-- The removal of none, of those of an empty queue, and of the first and then others.

remove_none : (a e : ℕ) (s : State) → a ≡ 0 → removal a e s ≡ record { state = s; count = 0 }
unfolding remove_up_to
remove_none zero e s z = refl
remove_none (suc a) e s z = absurd (omega arith)

remove_empty : (a : ℕ) (l : List ℕ) (e : ℕ) (s : State) → l ≡ [] → remove_up_to a l e s
    ≡ record { state = s; count = 0 }
unfolding remove_up_to
remove_empty zero l e s k = refl
remove_empty (suc a) [] e s k = refl
remove_empty (suc a) (w ∷ l) e s k = let z : ◌≡◌ {A = ℕ} 0 1 = cc in absurd (omega arith)

remove_first :
    (a : ℕ) (l : List ℕ) (e w : ℕ) (s : State) → 0 < a
    → remove_up_to a (w ∷ l) e s ≡ one_more (removal (a - 1) e (wake_from e w 4 0 0 s))
unfolding remove_up_to
remove_first zero l e w s h = absurd (omega arith)
remove_first (suc a) l e w s h =
    let k : suc a - 1 ≡ a = omega arith in
    ap (λ (n : ℕ). one_more (removal n e (wake_from e w 4 0 0 s))) (sym k)

more_state : (r : Removal) → (one_more r).state ≡ r.state
unfolding one_more
more_state r = refl

more_count : (r : Removal) → (one_more r).count ≡ 1 + r.count
unfolding one_more
more_count r = omega arith

-- What the first link tells.
module _ (e : ℕ) {m : List ℕ} {r : ℕ} (F : First m (endpoint_queue e) r) (s : State) (M : Shows m s) where
  pub nobody : r ≡ 0 → (s.endpoints e).waiters ≡ []
  nobody z = first_zero (s.endpoints e).waiters (sym (first_waiter e F s M) ∙ z)

  pub somebody : (r ≡ 0 → ⊥) → (l : List ℕ) × ((s.endpoints e).waiters ≡ (r - 1) ∷ l)
  somebody z = go (s.endpoints e).waiters refl
    where
      go : (l : List ℕ) → (s.endpoints e).waiters ≡ l → (l : List ℕ) × ((s.endpoints e).waiters ≡ (r - 1) ∷ l)
      go [] k = absurd (z (first_waiter e F s M ∙ ap first_of k))
      go (w ∷ l) k =
          let i : r ≡ suc w = first_waiter e F s M ∙ ap first_of k in
          let j : w ≡ r - 1 = omega arith in
          (l, k ∙ ap (λ (u : ℕ). u ∷ l) j)

-- The state that is reached from s where n of the allowance a have left.
pub record Reached (m : List ℕ) (e a n : ℕ) (s : State) : Type 0 where
  pub state : State
  pub shows : Shows m state
  pub closes : Closes e state
  pub rest : (removal a e s).state ≡ (removal (a - n) e state).state
  pub counts : (removal a e s).count ≡ n + (removal (a - n) e state).count

-- The loop's invariant, after n turns from m₀ to m.
pub record Removing (m₀ m : List ℕ) (e a n : ℕ) : Type 0 where
  pub there : Shown m (Closes e)
  pub reached : (s : State) → Shows m₀ s → Closes e s → Reached m e a n s

pub removed_none : {m : List ℕ} {e a : ℕ} → Shown m (Closes e) → Removing m m e a 0
removed_none {m} {e} {a} S =
    record {
      there = S;
      reached = λ s M C.
          let z : a - 0 ≡ a = omega arith in
          record { state = s; shows = M; closes = C; rest = rw z refl; counts = rw z (omega arith) };
    }

module _ {m₀ m : List ℕ} {e a n : ℕ} (R : Removing m₀ m e a n) where
  -- Nothing is left to do.
  removed :
      ((s : State) → Shows m s → removal (a - n) e s ≡ record { state = s; count = 0 }) → Removes m₀ e a n m
  removed rest =
      record {
        counts = λ s M C.
            let G = R.reached s M C in
            let i : (removal (a - n) e G.state).count ≡ 0 = ap (λ (x : Removal). x.count) (rest G.state G.shows) in
            omega (arith, G.counts);
        shows = λ s M C.
            let G = R.reached s M C in
            let i = ap (λ (x : Removal). x.state) (rest G.state G.shows) in
            subst (λ (x : State). Shows m x) (sym (G.rest ∙ i)) G.shows;
      }

  pub removed_all : n ≡ a → Removes m₀ e a a m
  removed_all h =
      subst (λ (k : ℕ). Removes m₀ e a k m) h (removed (λ s M. remove_none (a - n) e s (omega arith)))

  module _ {r : ℕ} (F : First m (endpoint_queue e) r) where
    pub removed_some : r ≡ 0 → Removes m₀ e a n m
    removed_some z = removed (λ s M. remove_empty (a - n) (s.endpoints e).waiters e s (nobody e F s M z))

    module _ (z : r ≡ 0 → ⊥) where
      head_waits : (s : State) → Shows m s → Closes e s → InEndpoint (r - 1) e s
      head_waits s M C = first_waits C.mid (somebody e F s M z).1 C.endpoint

      pub wake_asked : Shown m (InEndpoint (r - 1) e)
      wake_asked =
          let S = R.there in
          record { state = S.state; shows = S.shows; holds = head_waits S.state S.shows S.holds }

      -- One more left.
      module _ (h : n < a) {o : List ℕ} (D : Does m o (InEndpoint (r - 1) e) (wake_from e (r - 1) 4 0 0)) where
        woken : (s : State) → Shows m s → Closes e s → Shows o (wake_from e (r - 1) 4 0 0 s)
        woken s M C = D.shows s M (head_waits s M C)

        closes : (s : State) → Shows m s → Closes e s → Closes e (wake_from e (r - 1) 4 0 0 s)
        closes s M C = closes_woken C (somebody e F s M z).1

        shorter :
            (s : State) → Shows m s
            → removal (a - n) e s ≡ one_more (removal (a - (n + 1)) e (wake_from e (r - 1) 4 0 0 s))
        shorter s M =
            let more : 0 < a - n = omega arith in
            let next : a - n - 1 ≡ a - (n + 1) = omega arith in
            let k = somebody e F s M z in
            ap (λ (l : List ℕ). remove_up_to (a - n) l e s) k.1
            ∙ rw next at (remove_first (a - n) k.0 e (r - 1) s more)

        one_left : (s : State) → Reached m e a n s → Reached o e a (n + 1) s
        one_left s G =
            let x : Removal = removal (a - (n + 1)) e (wake_from e (r - 1) 4 0 0 G.state) in
            let k = shorter G.state G.shows in
            let i : (removal (a - n) e G.state).count ≡ 1 + x.count =
            ap (λ (y : Removal). y.count) k ∙ more_count x in
            record {
              state = wake_from e (r - 1) 4 0 0 G.state;
              shows = woken G.state G.shows G.closes;
              closes = closes G.state G.shows G.closes;
              rest = G.rest ∙ ap (λ (y : Removal). y.state) k ∙ more_state x;
              counts = omega (arith, G.counts);
            }

        pub removing_more : Removing m₀ o e a (n + 1)
        removing_more =
            let S = R.there in
            record {
              there =
                  record {
                    state = wake_from e (r - 1) 4 0 0 S.state;
                    shows = woken S.state S.shows S.holds;
                    holds = closes S.state S.shows S.holds;
                  };
              reached = λ s M C. one_left s (R.reached s M C);
            }
