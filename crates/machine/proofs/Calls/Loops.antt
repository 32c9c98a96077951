-- The loops of delete and abort: where they stop, and that what they count is what they removed or looked at.
use Prim.Native.Nat.{ℕ, zero, suc, ◌+◌, ◌≤◌}
use mathlib.Core.Path.{◌≡◌, refl, ◌∙◌, ap}
use mathlib.Core.Logic.{◌⊎◌, inl, inr, ⊎_elim}
use mathlib.Core.List.{List, [], ◌∷◌}
use native.Mathlib.Omega.{arith}
use lib.ListN.{length}
use Rattle.machine.specs.Lists.{Distinct}
use Rattle.machine.specs.State.{State}
use Rattle.machine.specs.Endpoints.{wake_from}
use Rattle.machine.specs.Results.{Look}
use Rattle.machine.specs.Aborts.{Removal, one_more, remove_up_to, look, Looked, after_look, pending_at, look_up_to}
use Rattle.machine.proofs.Lists.{without_first}
use Rattle.machine.proofs.Calls.Marks.{wake_waiters, look_next}

-- From state s to state r, j have left the queue of e, if nobody stood in it twice.
abbrev pub Removed : State → ℕ → ℕ → State → Type 0
Removed s e j r =
    Distinct (s.endpoints e).waiters
    → j + length (r.endpoints e).waiters ≡ length (s.endpoints e).waiters

-- A removal of up to n waiters stops when none is left or n are removed; a queue gets shorter by what it counts.
pub record RemovesUpTo (n e : ℕ) (s : State) (r : Removal) : Type 0 where
  pub most : r.count ≤ n
  pub stop : ((r.state.endpoints e).waiters ≡ []) ⊎ (r.count ≡ n)
  pub sum : Removed s e r.count r.state

pub removes :
    (n : ℕ) (l : List ℕ) (e : ℕ) (s : State) → (s.endpoints e).waiters ≡ l → RemovesUpTo n e s (remove_up_to n l e s)
unfolding remove_up_to one_more
removes zero l e s h = record { most = omega arith; stop = inr refl; sum = λ d. omega arith }
removes (suc n) [] e s h = record { most = omega arith; stop = inl h; sum = λ d. omega arith }
removes (suc n) (w ∷ l) e s h = go (removes n _ e (wake_from e w 4 0 0 s) refl)
  where
    rest : Distinct (s.endpoints e).waiters → ((wake_from e w 4 0 0 s).endpoints e).waiters ≡ l
    rest d = wake_waiters e w s 4 0 0 ∙ rw h (without_first w l (rw h at d))

    more : (k : ℕ) (r : State) → Removed (wake_from e w 4 0 0 s) e k r → Removed s e (suc k) r
    more k r R d =
        let c : Distinct (w ∷ l) = rw h at d in
        omega (arith, R (rw (rest d) c.1), ap length (rest d), ap length h)

    go : {r : Removal} → RemovesUpTo n e (wake_from e w 4 0 0 s) r → RemovesUpTo (suc n) e s (one_more r)
    go {r} R =
        record {
          most = omega (arith, R.most);
          stop = ⊎_elim inl (λ k. inr (ap suc k)) R.stop;
          sum = more r.count r.state R.sum;
        }

-- From state s to state r, k fewer are pending at e, if nobody was pending twice.
abbrev pub Spent : State → ℕ → ℕ → State → Type 0
Spent s e k r = Distinct (pending_at e s) → k + length (pending_at e r) ≡ length (pending_at e s)

-- Up to n looks stop when nothing is left to look at or n are made; what is pending gets shorter by the looks.
pub record LooksUpTo (n e : ℕ) (s : State) (r : Looked) : Type 0 where
  pub most : length r.looks ≤ n
  pub stop : (pending_at e r.state ≡ []) ⊎ (length r.looks ≡ n)
  pub sum : Spent s e (length r.looks) r.state

pub looks : (n : ℕ) (l : List ℕ) (e : ℕ) (s : State) → pending_at e s ≡ l → LooksUpTo n e s (look_up_to n l e s)
unfolding look_up_to after_look
looks zero l e s h = record { most = omega arith; stop = inr refl; sum = λ d. omega arith }
looks (suc n) [] e s h = record { most = omega arith; stop = inl h; sum = λ d. omega arith }
looks (suc n) (w ∷ l) e s h = go (looks n _ e (look e w s) refl)
  where
    more : (k : ℕ) (r : State) → Spent (look e w s) e k r → Spent s e (suc k) r
    more k r R d =
        let c : Distinct (w ∷ l) = rw h at d in
        let g = look_next e w s l d h in
        omega (arith, R (rw g c.1), ap length g, ap length h)

    go : {r : Looked} {x : Look} → LooksUpTo n e (look e w s) r → LooksUpTo (suc n) e s (after_look x r)
    go {r} R =
        record {
          most = omega (arith, R.most);
          stop = ⊎_elim inl (λ k. inr (ap suc k)) R.stop;
          sum = more (length r.looks) r.state R.sum;
        }
