-- Ticks: "nothing else changes a thread's ticks" than creation, destruction and the tick.
use Prim.Native.Nat.{ℕ}
use mathlib.Core.Path.{◌≡◌, refl, sym, ◌∙◌, ap, subst}
use mathlib.Core.Bool.{Bool, true, false}
use mathlib.Core.Option.{Option, none, some}
use Rattle.calls.specs.declared.Call.{Call}
use Rattle.calls.specs.declared.Call.TheVariants.{DestroyThread}
use Rattle.calls.specs.Calls.{number_of}
use Rattle.machine.specs.State.{State, Thread, Place, absent, able, sending, receiving, waiting, Abort, Status}
use Rattle.machine.specs.State.{absent_thread, set_thread}
use Rattle.machine.specs.Scheduling.{choose}
use Rattle.machine.specs.Endpoints.{note_all, note, end_abort}
use Rattle.machine.specs.Grants.{Grants}
use Rattle.machine.specs.Machine.{is_absent, destroy_if, destroy_thread, perform, step}
use Rattle.machine.specs.Sound.{Present}
use Rattle.machine.proofs.Lists.{clash, put_same, put_other, put_all}
use Rattle.machine.proofs.Running.{choose_keeps}
use Rattle.machine.proofs.Calls.Changes.{Steps}
use Rattle.machine.proofs.Calls.EachCall.{perform_passes, stepped}

pub is_absent_lem : (p : Place) → is_absent p ≡ true → p ≡ absent
is_absent_lem absent e = refl
is_absent_lem able e = absurd (clash refl (sym e))
is_absent_lem (sending f) e = absurd (clash refl (sym e))
is_absent_lem (receiving f) e = absurd (clash refl (sym e))
is_absent_lem (waiting l) e = absurd (clash refl (sym e))

-- Thread u keeps its ticks.
abbrev Kept : ℕ → State → State → Type 0
Kept u s r = (r.threads u).ticks ≡ (s.threads u).ticks

-- Whoever calls.
abbrev Anyone : ℕ → Type 0
Anyone t = Unit {0}

module _ (u : ℕ) where
  note_ticks : (a : Option Abort) (e : ℕ) (s : State) → Kept u s (note a e s)
  unfolding note note_all
  note_ticks none e s = refl
  note_ticks (some a) e s = refl

  end_ticks : (x : Status) (e : ℕ) (s : State) → Kept u s (end_abort x e s)
  unfolding end_abort
  end_ticks x e s = note_ticks (s.endpoints e).abort e s

  ticks_steps : Steps u Anyone (Kept u)
  ticks_steps =
      record {
        both = λ x y. y ∙ x;
        still = λ x. x.ticks u;
        other = λ t x s n. ap (λ (y : Thread). y.ticks) (put_other s.threads t u x n);
        owes =
            λ t d s c. put_all (λ v y. y.ticks ≡ (s.threads v).ticks) s.threads t _ refl (λ v n. refl) u;
        opens = λ e x s h. refl;
        ends = end_ticks;
      }

-- "Nothing else changes a thread's ticks": no call but creation, destruction and the tick does,
pub ticks_kept :
    (g : Grants) (s : State) (c : Call) → (number_of c ≡ 1 → ⊥) → (number_of c ≡ 2 → ⊥) → (number_of c ≡ 6 → ⊥)
    → (u : ℕ) → ((step g s c).state.threads u).ticks ≡ (s.threads u).ticks
ticks_kept g s c i j k u =
    stepped g s c (Kept u s) refl
    (perform_passes (ticks_steps u) c s
    (record {
      created = λ t p e. absurd (i (ap number_of e));
      destroyed = λ t e. absurd (j (ap number_of e));
      opened = λ e x h m. refl;
      ticked = λ t n e. absurd (k (ap number_of e));
      caller = λ t r l m. tt;
    }))

-- A destroyed thread is absent.
destroyed_absent : (x : Bool) (t : ℕ) (s : State) → x ≡ false → ((destroy_if x t s).state.threads t).place ≡ absent
unfolding destroy_if
destroyed_absent true t s h = absurd (clash refl h)
destroyed_absent false t s h = gone _
  where
    gone : (r : State) → ((choose (set_thread t absent_thread r)).threads t).place ≡ absent
    gone r =
        ap (λ (f : ℕ → Thread). (f t).place) (choose_keeps (set_thread t absent_thread r)).threads
        ∙ ap (λ (y : Thread). y.place) (put_same r.threads t absent_thread)

-- and of a thread that is present before and after, no call but the tick.
pub ticks_kept_while_present :
    (g : Grants) (s : State) (c : Call) → (number_of c ≡ 6 → ⊥) → (u : ℕ) → Present s u → Present (step g s c).state u
    → ((step g s c).state.threads u).ticks ≡ (s.threads u).ticks
unfolding perform destroy_thread
ticks_kept_while_present g s c k u h i =
    stepped g s c (λ r. Present r u → Kept u s r) (λ p. refl)
    (λ p.
    perform_passes (ticks_steps u) c s
    (record {
      created = λ t q e a n. h (ap (λ (v : ℕ). (s.threads v).place) n ∙ is_absent_lem _ a);
      destroyed =
          λ t e a n.
          subst (λ (d : Call). Present (perform d s).state u) e p
          (ap (λ (v : ℕ). ((perform (DestroyThread t) s).state.threads v).place) n ∙ destroyed_absent _ t s a);
      opened = λ e x h m. refl;
      ticked = λ t n e. absurd (k (ap number_of e));
      caller = λ t r l m. tt;
    })) i
