-- What the numbers of an abort and of a debt tell: the badge under abort, and the note of a thread.
use Prim.Native.Nat.{ℕ, ◌+◌, ◌≤◌}
use mathlib.Core.Path.{◌≡◌, refl, ap}
use mathlib.Core.Bool.{false}
use mathlib.Core.Option.{Option, none, some}
use mathlib.Core.List.{List}
use native.Mathlib.Omega.{arith}
use lib.Dec.{eqb}
use borrow.Author.Tests.{eq-eqb, ne_eqb}
use Rattle.machine.specs.State.{Debt, nothing, works, noted, Abort}
use Rattle.machine.specs.Endpoints.{under_abort}
use Rattle.machine.specs.Aborts.{has_note}
use Rattle.layout.specs.declared.Field.{Field}
use Rattle.layout.specs.declared.Part.{Part}
use Rattle.layout.specs.Words.{debt_code, note_code, abort_code, badge_code}
use Rattle.store.specs.Steps.{Tells}
use Rattle.store.specs.Store.{IsThread, IsEndpoint}
use Rattle.store.specs.Readings.{endpoint_in, thread_in}
use Rattle.debts.specs.Debts.{Says, InCall, under_in, noted_in}

-- The badge under abort.
module _ {m : List ℕ} {e r : ℕ} (b : ℕ) (T : Tells m (IsEndpoint e) r (endpoint_in Part.Aborting e)) where
  pub under_some :
      {c : ℕ} → (r ≡ 0 → ⊥) → Tells m (IsEndpoint e) c (endpoint_in Part.Aborted e)
      → Says m (IsEndpoint e) (eqb c b) (under_in e b)
  under_some {c} z U = record { says = λ s M h. go (s.endpoints e).abort (T.tells s M h) (U.tells s M h) }
    where
      go : (x : Option Abort) → r ≡ abort_code x → c ≡ badge_code x → eqb c b ≡ under_abort b x
      go none k j = absurd (z k)
      go (some a) k j = ap (λ y. eqb y b) j
