-- Set priority: what its steps ask, and that it comes to what the machine's call comes to.
use Prim.Native.Nat.{ℕ, ◌≤◌}
use mathlib.Core.Path.{◌≡◌, refl, sym, ◌∙◌, ap, subst}
use mathlib.Core.Bool.{Bool, true, false}
use mathlib.Core.List.{List}
use lib.Dec.{eqb}
use borrow.Author.Tests.{eq-eqb, ne_eqb}
use Rattle.std.specs.Prelude.{Ok, Err}
use Rattle.calls.specs.declared.Answer.{Answer}
use Rattle.calls.specs.declared.Refusal.{Refusal}
use Rattle.machine.specs.State.{State, Place, with_priority}
use Rattle.machine.specs.Scheduling.{enqueue, unqueue}
use Rattle.machine.specs.Results.{done}
use Rattle.calls.specs.Answers.{plain, code_of}
use Rattle.machine.specs.Machine.{is_absent, move_ready, change_unless, priority_if, set_priority}
use Rattle.machine.proofs.Lists.{clash}
use Rattle.machine.proofs.Preserved.Mid.{sound_mid}
use Rattle.layout.specs.declared.Field.{Field}
use Rattle.layout.specs.Shows.{Shows}
use Rattle.store.specs.Steps.{Shown, Does, Tells}
use Rattle.store.specs.Store.{IsThread, prioritising}
use Rattle.store.specs.Readings.{thread_in}
use Rattle.queues.specs.Queues.{Loose, InLevel, Chooses}
use Rattle.queues.proofs.Joining.{shown_next, and_then}
use Rattle.debts.specs.Debts.{Says}
use Rattle.endings.specs.Results.{Asked, Performs}
use Rattle.endings.specs.Tests.{Tests, thread_there}
use Rattle.endings.proofs.Tests.{absent_refused, there_present}
use Rattle.endings.proofs.Ends.{performs_as, performs_for, performs_after, shown_for}
use Rattle.endings.proofs.Conditions.{present_thread_lem, ready_stands, moved_loose, mid_chooses}
use Rattle.priorities.specs.Priorities.{PriorityInRange, ready_in, Changes, changing}
use Rattle.endings.proofs.Runner.{RunnerApart, mid_apart, apart_chooses, apart_thread, apart_enqueue}
use Rattle.endings.proofs.Runner.{apart_unqueue}
use Rattle.priorities.proofs.Places.{ready_is}

-- Changing the priority.

thread_small : {t p : ℕ} (s : State) → Changes t p s → t ≤ 255
thread_small s h = present_thread_lem (sound_mid h.sound) h.present

module _ {m : List ℕ} {t : ℕ} (p : ℕ) {b : Bool} (R : Says m (IsThread t) b (ready_in t)) where
  said : (s : State) → Shows m s → Changes t p s → b ≡ ready_in t s
  said s M h = R.says s M (thread_small s h)

  module _ (z : b ≡ true) where
    stands : (s : State) → Shows m s → Changes t p s → InLevel t s
    stands s M h = ready_stands (sound_mid h.sound) (ready_is t s (sym (said s M h) ∙ z))

    module _ {n : List ℕ} (D : Does m n (InLevel t) (unqueue t)) where
      leaves : Does m n (Changes t p) (unqueue t)
      leaves = record { shows = λ s M h. D.shows s M (stands s M h) }

      module _ {o : List ℕ} (E : Does n o (IsThread t) (prioritising t p)) where
        sets : Does m o (Changes t p) (λ s. prioritising t p (unqueue t s))
        sets = and_then leaves (λ s M h. thread_small s h) E

        loose : (s : State) → Shows m s → Changes t p s → Loose t (prioritising t p (unqueue t s))
        loose s M h = moved_loose (sound_mid h.sound) (ready_is t s (sym (said s M h) ∙ z)) h.level

        pub tail_asked : Shown m (Changes t p) → Shown o (Loose t)
        tail_asked S = shown_next sets loose S

        pub changed_ready : {k : List ℕ} → Does o k (Loose t) (enqueue t) → Does m k (Changes t p) (changing t p)
        unfolding move_ready unqueue
        changed_ready {k} F =
            record {
              shows = λ s M h.
                  subst (λ (x : Bool). Shows k (move_ready x t p s)) (sym z ∙ said s M h)
                  ((and_then sets loose F).shows s M h);
            }

  pub changed_else : {n : List ℕ} → b ≡ false → Does m n (IsThread t) (prioritising t p)
      → Does m n (Changes t p) (changing t p)
  unfolding move_ready
  changed_else {n} z D =
      record {
        shows = λ s M h.
            subst (λ (x : Bool). Shows n (move_ready x t p s)) (sym z ∙ said s M h) (D.shows s M (thread_small s h));
      }

-- Whoever runs is in no queue after it.

apart_moved :
    (t p : ℕ) (s : State) (b : Bool) → ready_in t s ≡ b → p ≤ 255 → RunnerApart s → RunnerApart (move_ready b t p s)
unfolding move_ready unqueue
apart_moved t p s true e h A =
    apart_enqueue t (ready_is t s e).1 (apart_thread t (with_priority p (s.threads t)) h (apart_unqueue t A))
apart_moved t p s false e h A = apart_thread t (with_priority p (s.threads t)) h A

change_chooses : {t p : ℕ} (s : State) → Changes t p s → Chooses (changing t p s)
change_chooses {t} {p} s h =
    apart_chooses (apart_moved t p s (ready_in t s) refl h.level (mid_apart (sound_mid h.sound)))

-- The call.

-- What the call asks.
abbrev Given : ℕ → ℕ → State → Type 0
Given t p = Asked (PriorityInRange t p)

pub same_asked : {m : List ℕ} {t p : ℕ} → Shown m (Given t p) → Shown m Chooses
same_asked S = shown_for S (λ s h. mid_chooses (sound_mid h.sound))

module _ {m : List ℕ} {t : ℕ} (p : ℕ) where
  pub priority_refused :
      {why : Refusal} → Tests m (IsThread t) (Err why) (thread_there t)
      → Performs m m (plain (code_of why)) (Given t p) (set_priority t p)
  unfolding set_priority priority_if
  priority_refused T = absent_refused (λ b. priority_if b t p) T (λ s h. h.numbers.0) (λ s. refl)

  module _ (T : Tests m (IsThread t) (Ok tt) (thread_there t)) where
    there : (s : State) → Shows m s → Given t p s → is_absent (s.threads t).place ≡ false
    there s M h = there_present T s M h.numbers.0

    changes : (s : State) → Shows m s → Given t p s → Changes t p s
    changes s M h =
        record {
          sound = h.sound;
          present = λ k. clash (ap is_absent k) (there s M h);
          level = h.numbers.1;
        }

    module _ {q : ℕ} (Q : Tells m (IsThread t) q (thread_in Field.Priority t)) where
      -- What the call comes to, by whether the priority is another.
      comes :
          (s : State) → Shows m s → Given t p s → (b : Bool) → eqb (s.threads t).priority p ≡ b
          → done (change_unless b t p s) ≡ set_priority t p s
      unfolding set_priority priority_if
      comes s M h b e =
          ap (λ (x : Bool). done (change_unless x t p s)) (sym e)
          ∙ sym (ap (λ (x : Bool). priority_if x t p s) (there s M h))

      pub priority_same :
          {k : List ℕ} {a : Answer} → q ≡ p → Performs m k a Chooses done
          → Performs m k a (Given t p) (set_priority t p)
      unfolding change_unless
      priority_same i F =
          performs_as (performs_for F (λ s M h. mid_chooses (sound_mid h.sound)))
          (λ s M h. comes s M h true (eq-eqb (s.threads t).priority p (sym (Q.tells s M h.numbers.0) ∙ i)))

      module _ {n : List ℕ} (D : Does m n (Changes t p) (changing t p)) where
        changed : Does m n (Given t p) (changing t p)
        changed = record { shows = λ s M h. D.shows s M (changes s M h) }

        chooses : (s : State) → Shows m s → Given t p s → Chooses (changing t p s)
        chooses s M h = change_chooses s (changes s M h)

        pub priority_chooses : Shown m (Given t p) → Shown n Chooses
        priority_chooses S = shown_next changed chooses S

        pub priority_changed :
            {k : List ℕ} {a : Answer} → (q ≡ p → ⊥) → Performs n k a Chooses done
            → Performs m k a (Given t p) (set_priority t p)
        unfolding change_unless
        priority_changed i F =
            performs_as (performs_after changed chooses F)
            (λ s M h.
            comes s M h false
            (ne_eqb (s.threads t).priority p (λ j. i (Q.tells s M h.numbers.0 ∙ j))))
