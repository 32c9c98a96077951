-- Create thread: what its steps ask, and that it comes to what the machine's call comes to.
use Prim.Native.Nat.{ℕ}
use mathlib.Core.Path.{◌≡◌, refl, sym, ap}
use mathlib.Core.Bool.{Bool}
use mathlib.Core.List.{List}
use Rattle.calls.specs.declared.Answer.{Answer}
use Rattle.machine.specs.State.{State, Place, absent, able}
use Rattle.machine.specs.Scheduling.{enqueue}
use Rattle.machine.specs.Results.{done}
use Rattle.calls.specs.Answers.{plain}
use Rattle.machine.specs.Machine.{is_absent, create_if, create_thread}
use Rattle.machine.proofs.Preserved.Mid.{sound_mid}
use Rattle.machine.proofs.Preserved.Sites.{differ}
use Rattle.layout.specs.declared.Field.{Field}
use Rattle.layout.specs.Shows.{Shows}
use Rattle.store.specs.Steps.{Shown, Does, Tells}
use Rattle.store.specs.Store.{IsThread, plain_thread, creating}
use Rattle.store.specs.Readings.{thread_in}
use Rattle.queues.specs.Queues.{Loose, Chooses}
use Rattle.queues.proofs.Joining.{shown_next, and_then}
use Rattle.endings.specs.Results.{Asked, Performs}
use Rattle.endings.proofs.Ends.{refused, performs_as, performs_after, does_for}
use Rattle.endings.proofs.Conditions.{created_loose}
use Rattle.priorities.specs.Priorities.{PriorityInRange}
use Rattle.endings.proofs.Runner.{mid_apart, apart_chooses, apart_thread, apart_enqueue}
use Rattle.priorities.proofs.Places.{code_absent, code_present}

-- What the call asks.
abbrev Given : ℕ → ℕ → State → Type 0
Given t p = Asked (PriorityInRange t p)

module _ {m : List ℕ} {t r : ℕ} (p : ℕ) (T : Tells m (IsThread t) r (thread_in Field.Place t)) where
  pub create_refused : (r ≡ 0 → ⊥) → Performs m m (plain 22) (Given t p) (create_thread t p)
  unfolding create_thread create_if
  create_refused n =
      performs_as (refused 22 refl)
      (λ s M h.
      sym
      (ap (λ (b : Bool). create_if b t p s) (code_present (s.threads t).place (T.tells s M h.numbers.0) n)))

  module _ (z : r ≡ 0) where
    missing : (s : State) → Shows m s → Given t p s → (s.threads t).place ≡ absent
    missing s M h = code_absent (s.threads t).place (T.tells s M h.numbers.0) z

    module _ {n : List ℕ} (D : Does m n (IsThread t) (creating t p)) where
      new : Does m n (Given t p) (creating t p)
      new = does_for D (λ s h. h.numbers.0)

      loose : (s : State) → Shows m s → Given t p s → Loose t (creating t p s)
      loose s M h = created_loose (sound_mid h.sound) (missing s M h) h.numbers.0 h.numbers.1

      pub enqueue_asked : Shown m (Given t p) → Shown n (Loose t)
      enqueue_asked S = shown_next new loose S

      module _ {o : List ℕ} (E : Does n o (Loose t) (enqueue t)) where
        made : Does m o (Given t p) (λ s. enqueue t (creating t p s))
        made = and_then new loose E

        chooses : (s : State) → Shows m s → Given t p s → Chooses (enqueue t (creating t p s))
        chooses s M h =
            let I = sound_mid h.sound in
            apart_chooses
            (apart_enqueue t (λ r. differ (missing s M h) (I.queues.running t r) refl)
            (apart_thread t (plain_thread able p 5) h.numbers.1 (mid_apart I)))

        pub create_chooses : Shown m (Given t p) → Shown o Chooses
        create_chooses S = shown_next made chooses S

        pub created :
            {k : List ℕ} {a : Answer} → Performs o k a Chooses done → Performs m k a (Given t p) (create_thread t p)
        unfolding create_thread create_if
        created F =
            performs_as (performs_after made chooses F)
            (λ s M h. sym (ap (λ (x : Place). create_if (is_absent x) t p s) (missing s M h)))
