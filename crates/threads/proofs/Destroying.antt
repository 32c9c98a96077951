-- Destroy thread: what its steps ask, and that it comes to what the machine's call comes to.
use Prim.Native.Nat.{ℕ, ◌≤◌}
use mathlib.Core.Path.{◌≡◌, refl, sym, ◌∙◌, ap}
use mathlib.Core.Bool.{Bool, false}
use mathlib.Core.List.{List}
use native.Mathlib.Omega.{arith}
use Rattle.calls.specs.declared.Answer.{Answer}
use Rattle.machine.specs.State.{State, Place, absent_thread, set_thread}
use Rattle.machine.specs.Endpoints.{drop_debt}
use Rattle.machine.specs.Results.{done}
use Rattle.calls.specs.Answers.{plain}
use Rattle.machine.specs.Machine.{is_absent, leave, destroy_if, destroy_thread}
use Rattle.machine.specs.Sound.{Present}
use Rattle.machine.proofs.Lists.{clash}
use Rattle.machine.proofs.Preserved.Mid.{sound_mid}
use Rattle.machine.proofs.Preserved.Statuses.{keeps_place}
use Rattle.machine.proofs.Preserved.Debts.{mid_drop_debt, drop_debt_drops}
use Rattle.layout.specs.declared.Field.{Field}
use Rattle.layout.specs.Words.{place_code}
use Rattle.layout.specs.Shows.{Shows}
use Rattle.store.specs.Steps.{Shown, Does, Tells}
use Rattle.store.specs.Store.{IsThread, clearing}
use Rattle.store.specs.Readings.{thread_in}
use Rattle.queues.specs.Queues.{Chooses}
use Rattle.queues.proofs.Joining.{shown_next, and_then}
use Rattle.endings.specs.Results.{Asked, Performs}
use Rattle.endings.proofs.Ends.{refused, performs_as, performs_after, does_for}
use Rattle.threads.specs.Threads.{Goes, leaving}
use Rattle.endings.proofs.Runner.{mid_apart, apart_chooses, apart_thread, apart_leave}
use Rattle.priorities.proofs.Places.{code_absent, code_present}
use Rattle.threads.proofs.Leaving.{mid_goes}

-- What the call asks.
abbrev Given : ℕ → State → Type 0
Given t = Asked (t ≤ 255)

-- Dropping its debt leaves the thread where it is.
dropped_place : (s : State) (t : ℕ) → ((drop_debt t s).threads t).place ≡ (s.threads t).place
dropped_place s t = keeps_place (drop_debt_drops s t).keeps t

module _ {m : List ℕ} {t r : ℕ} (T : Tells m (IsThread t) r (thread_in Field.Place t)) where
  pub destroy_refused : r ≡ 0 → Performs m m (plain 21) (Given t) (destroy_thread t)
  unfolding destroy_thread destroy_if
  destroy_refused z =
      performs_as (refused 21 refl)
      (λ s M h.
      sym
      (ap (λ (x : Place). destroy_if (is_absent x) t s)
      (code_absent (s.threads t).place (T.tells s M h.numbers) z)))

  module _ (z : r ≡ 0 → ⊥) where
    there : (s : State) → Shows m s → Given t s → is_absent (s.threads t).place ≡ false
    there s M h = code_present (s.threads t).place (T.tells s M h.numbers) z

    module _ {n : List ℕ} (D : Does m n (IsThread t) (drop_debt t)) where
      drops : Does m n (Given t) (drop_debt t)
      drops = does_for D (λ s h. h.numbers)

      goes : (s : State) → Shows m s → Given t s → Goes t r (drop_debt t s)
      goes s M h =
          let e = dropped_place s t in
          let present : Present (drop_debt t s) t = λ k. clash (ap is_absent (sym e ∙ k)) (there s M h) in
          mid_goes (mid_drop_debt s t (sound_mid h.sound)) present
          (T.tells s M h.numbers ∙ ap place_code (sym e))

      pub leave_asked : Shown m (Given t) → Shown n (Goes t r)
      leave_asked S = shown_next drops goes S

      module _ {o : List ℕ} (E : Does n o (Goes t r) (leaving t)) where
        leaves : Does m o (Given t) (λ s. leaving t (drop_debt t s))
        leaves = and_then drops goes E

        pub clear_asked : Shown m (Given t) → Shown o (IsThread t)
        clear_asked S = shown_next leaves (λ s M h. h.numbers) S

        module _ {k : List ℕ} (F : Does o k (IsThread t) (clearing t)) where
          clears : Does m k (Given t) (λ s. clearing t (leaving t (drop_debt t s)))
          clears = and_then leaves (λ s M h. h.numbers) F

          chooses : (s : State) → Shows m s → Given t s → Chooses (clearing t (leaving t (drop_debt t s)))
          chooses s M h =
              apart_chooses
              (apart_thread t absent_thread (omega arith)
              (apart_leave t ((drop_debt t s).threads t).place (mid_apart (mid_drop_debt s t (sound_mid h.sound)))))

          pub destroy_chooses : Shown m (Given t) → Shown k Chooses
          destroy_chooses S = shown_next clears chooses S

          pub destroyed :
              {l : List ℕ} {a : Answer} → Performs k l a Chooses done → Performs m l a (Given t) (destroy_thread t)
          unfolding destroy_thread destroy_if
          destroyed G =
              performs_as (performs_after clears chooses G)
              (λ s M h.
              ap (λ (x : Place). done (set_thread t absent_thread (leave x t (drop_debt t s)))) (dropped_place s t)
              ∙ sym (ap (λ (b : Bool). destroy_if b t s) (there s M h)))
