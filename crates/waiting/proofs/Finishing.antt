-- The ends of a call: code 0, and code 1 of a caller that blocks.
use Prim.Native.Nat.{ℕ, zero, suc}
use mathlib.Core.Path.{◌≡◌, refl}
use mathlib.Core.List.{List, []}
use native.Mathlib.Omega.{arith}
use Rattle.calls.specs.declared.Answer.{Answer}
use Rattle.machine.specs.State.{State, Place, absent, able, sending}
use Rattle.machine.specs.Scheduling.{block}
use Rattle.calls.specs.Answers.{plain}
use Rattle.machine.proofs.Preserved.Ready.{none_some}
use Rattle.layout.specs.Words.{place_code}
use Rattle.store.specs.Steps.{Shown}
use Rattle.store.specs.Store.{IsThread}
use Rattle.queues.specs.Queues.{Chooses, BlocksAt}
use Rattle.queues.proofs.Joining.{shown_next}
use Rattle.endings.specs.Results.{Accepts}
use Rattle.endings.proofs.Ends.{performs_after}
use Rattle.waiting.specs.Waiting.{Suspends}

-- Every number is that of a place.
place_of : (c : ℕ) → (p : Place) × (place_code p ≡ c)
place_of zero = (absent, refl)
place_of (suc zero) = (able, refl)
place_of (suc (suc n)) = (sending n, omega arith)

-- Where a thread has blocked nobody runs.
blocked_chooses : (t : ℕ) (p : Place) (b x : ℕ) (s : State) → Chooses (block t p b x s)
unfolding block
blocked_chooses t p b x s = record { running = λ u r. absurd (none_some refl r) }

module _ {m n : List ℕ} {t code b x : ℕ} (B : BlocksAt m t code b x n) where
  pub blocked_asked : Shown m (IsThread t) → Shown n Chooses
  blocked_asked S =
      let v = place_of code in
      shown_next (B.does v.0 v.1) (λ s M h. blocked_chooses t v.0 b x s) S

  pub suspended : {r : Answer} {o : List ℕ} → Accepts n (plain 1) r Chooses o → Suspends m t code b x r o
  suspended A =
      record {
        performs = λ p k. performs_after (B.does p k) (λ s M h. blocked_chooses t p b x s) (A.performs []);
      }
