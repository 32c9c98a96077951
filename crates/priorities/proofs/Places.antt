-- What the number of a place and the link to the running thread tell: who is absent, who is ready.
use Prim.Native.Nat.{ℕ}
use mathlib.Core.Path.{◌≡◌, refl}
use mathlib.Core.Bool.{Bool, true, false, ◌&&◌, not}
use native.Mathlib.Omega.{arith}
use Rattle.machine.specs.State.{State, Place, absent, able, sending, receiving, waiting}
use Rattle.machine.specs.Machine.{is_absent, is_able, is_running}
use Rattle.machine.specs.Sound.{Ready}
use Rattle.machine.proofs.Lists.{clash}
use Rattle.machine.proofs.Preserved.Threads.{not_running}
use Rattle.layout.specs.Words.{place_code}
use Rattle.priorities.specs.Priorities.{ready_in}

-- Number 0 is that of an absent thread alone.

pub code_absent : {r : ℕ} (x : Place) → r ≡ place_code x → r ≡ 0 → x ≡ absent
code_absent absent k z = refl
code_absent able k z = absurd (omega arith)
code_absent (sending e) k z = absurd (omega arith)
code_absent (receiving e) k z = absurd (omega arith)
code_absent (waiting l) k z = absurd (omega arith)

pub code_present : {r : ℕ} (x : Place) → r ≡ place_code x → (r ≡ 0 → ⊥) → is_absent x ≡ false
code_present absent k n = absurd (n k)
code_present able k n = refl
code_present (sending e) k n = refl
code_present (receiving e) k n = refl
code_present (waiting l) k n = refl

-- Who is ready.

not-true : (b : Bool) → not b ≡ true → b ≡ false
not-true true e = absurd (clash e refl)
not-true false e = refl

not-false : (b : Bool) → not b ≡ false → b ≡ true
not-false true e = refl
not-false false e = absurd (clash refl e)

module _ (t : ℕ) (s : State) where
  pub ready_is : ready_in t s ≡ true → Ready s t
  ready_is e = go (s.threads t).place refl e
    where
      go :
          (x : Place) → (s.threads t).place ≡ x → (is_able x && not (is_running t s.runs)) ≡ true → Ready s t
      go absent p b = absurd (clash b refl)
      go able p b = (p, not_running s.runs (not-true (is_running t s.runs) b))
      go (sending k) p b = absurd (clash b refl)
      go (receiving k) p b = absurd (clash b refl)
      go (waiting l) p b = absurd (clash b refl)

  -- An able thread is ready or runs.
  pub able_idle : (s.threads t).place ≡ able → ready_in t s ≡ true → is_running t s.runs ≡ false
  able_idle p e = not-true (is_running t s.runs) (rw p at e)

  pub able_runs : (s.threads t).place ≡ able → ready_in t s ≡ false → is_running t s.runs ≡ true
  able_runs p e = not-false (is_running t s.runs) (rw p at e)
