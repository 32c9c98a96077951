-- A thread's block: what is read of it meets what Sound asks of one thread alone, and a thread that does is read back.
use Prim.Native.Nat.{ℕ, ◌-◌, ◌^◌, ◌≤◌, ◌<◌}
use mathlib.Core.Path.{◌≡◌, refl, sym, ◌∙◌, ap}
use mathlib.Core.Logic.{◌⊎◌, inl, inr}
use native.Mathlib.Omega.{arith}
use borrow.Author.Tests.{eq-eqb, ne_eqb}
use Rattle.machine.specs.State.{Thread, Place, absent, able, sending, receiving, waiting, Debt, nothing, works, noted}
use Rattle.machine.specs.State.{absent_thread}
use Rattle.machine.specs.Sound.{Stores, DebtInRange, Numbers}
use Rattle.machine.proofs.Lists.{Same, same, other, same?}
use Rattle.layout.specs.declared.Field.{Field}
use Rattle.layout.specs.Words.{thread_word, place_code}
use Rattle.layout.specs.Decode.{or_zero, place_of, debt_of, outcome_in, stored_in, present_thread, thread_by}
use Rattle.layout.specs.Decode.{thread_from}
use Rattle.layout.proofs.RoundTrip.{within_small, within_same, ticks_range, ticks_back, PlaceSmall, place_small}
use Rattle.layout.proofs.RoundTrip.{place_back, DebtSmall, debt_small, debt_back, not_absent}

-- What Sound asks of thread t alone.
pub record NeatThread (t : ℕ) (x : Thread) : Type 0 where
  pub place_small : PlaceSmall x.place
  pub debt_small : DebtSmall x.debt
  pub numbers : (x.place ≡ absent → ⊥) → Numbers t x
  pub unused : x.place ≡ absent → x ≡ absent_thread
  pub blocked : (x.place ≡ able → ⊥) → x.outcome ≡ 0
  pub stored : (Stores x.place x.outcome → ⊥) → (x.badge ≡ 0) × (x.message ≡ 0)

pub absent_neat : (t : ℕ) → NeatThread t absent_thread
absent_neat t =
    record {
      place_small = tt;
      debt_small = tt;
      numbers = λ n. absurd (n refl);
      unused = λ e. refl;
      blocked = λ n. refl;
      stored = λ n. (refl, refl);
    }

able? : (p : Place) → (p ≡ able) ⊎ (p ≡ able → ⊥)
able? absent = inr (λ e. omega (arith, ap place_code e))
able? able = inl refl
able? (sending e) = inr (λ f. omega (arith, ap place_code f))
able? (receiving e) = inr (λ f. omega (arith, ap place_code f))
able? (waiting l) = inr (λ f. omega (arith, ap place_code f))

pub absent? : (p : Place) → (p ≡ absent) ⊎ (p ≡ absent → ⊥)
absent? absent = inl refl
absent? able = inr (not_absent refl (omega arith))
absent? (sending e) = inr (not_absent refl (omega arith))
absent? (receiving e) = inr (not_absent refl (omega arith))
absent? (waiting l) = inr (not_absent refl (omega arith))

-- The outcome, the badge and the message read at a place.

outcome_small : (p : Place) (w : ℕ) → outcome_in p w ≤ 5
unfolding outcome_in
outcome_small absent w = omega arith
outcome_small able w = within_small 5 w
outcome_small (sending e) w = omega arith
outcome_small (receiving e) w = omega arith
outcome_small (waiting l) w = omega arith

outcome_blocked : (p : Place) (w : ℕ) → (p ≡ able → ⊥) → outcome_in p w ≡ 0
unfolding outcome_in
outcome_blocked absent w n = refl
outcome_blocked able w n = absurd (n refl)
outcome_blocked (sending e) w n = refl
outcome_blocked (receiving e) w n = refl
outcome_blocked (waiting l) w n = refl

outcome_back : (p : Place) (w : ℕ) → w ≤ 5 → ((p ≡ able → ⊥) → w ≡ 0) → outcome_in p w ≡ w
unfolding outcome_in
outcome_back p w h b = go (able? p)
  where
    go : (p ≡ able) ⊎ (p ≡ able → ⊥) → outcome_in p w ≡ w
    go (inl e) = rw e (within_same 5 w h)
    go (inr n) = outcome_blocked p w n ∙ sym (b n)

stores? : (p : Place) (o : ℕ) → Stores p o ⊎ (Stores p o → ⊥)
stores? absent o = inr (λ z. z)
stores? able o = go (same? o 2)
  where
    go : Same o 2 → (o ≡ 2) ⊎ (o ≡ 2 → ⊥)
    go (same e _) = inl e
    go (other n _) = inr n
stores? (sending e) o = inl tt
stores? (receiving e) o = inr (λ z. z)
stores? (waiting l) o = inr (λ z. z)

stored_some : (p : Place) (o w : ℕ) → Stores p o → stored_in p o w ≡ or_zero (2 ^ 28 - 1) w
unfolding stored_in
stored_some absent o w h = absurd h
stored_some able o w h = rw (eq-eqb o 2 h)
stored_some (sending e) o w h = refl
stored_some (receiving e) o w h = absurd h
stored_some (waiting l) o w h = absurd h

stored_none : (p : Place) (o w : ℕ) → (Stores p o → ⊥) → stored_in p o w ≡ 0
unfolding stored_in
stored_none absent o w n = refl
stored_none able o w n = rw (ne_eqb o 2 n)
stored_none (sending e) o w n = absurd (n tt)
stored_none (receiving e) o w n = refl
stored_none (waiting l) o w n = refl

stored_small : (p : Place) (o w : ℕ) → stored_in p o w < 2 ^ 28
stored_small p o w = go (stores? p o)
  where
    go : Stores p o ⊎ (Stores p o → ⊥) → stored_in p o w < 2 ^ 28
    go (inl h) = omega (arith, stored_some p o w h, within_small (2 ^ 28 - 1) w)
    go (inr n) = omega (arith, stored_none p o w n)

stored_back : (p : Place) (o w : ℕ) → w < 2 ^ 28 → ((Stores p o → ⊥) → w ≡ 0) → stored_in p o w ≡ w
stored_back p o w h b = go (stores? p o)
  where
    go : Stores p o ⊎ (Stores p o → ⊥) → stored_in p o w ≡ w
    go (inl k) = stored_some p o w k ∙ within_same (2 ^ 28 - 1) w (omega arith)
    go (inr n) = stored_none p o w n ∙ sym (b n)

-- What is read is neat.

pub debt_in_range : (d : Debt) → DebtSmall d → DebtInRange d
debt_in_range nothing h = tt
debt_in_range (works e) h = tt
debt_in_range (noted e b) h = h

present_neat :
    (t : ℕ) (p : Place) (w : Field → ℕ) → t ≤ 255 → PlaceSmall p → (p ≡ absent → ⊥) → NeatThread t (present_thread p w)
present_neat t p w h g n =
    record {
      place_small = g;
      debt_small = debt_small (w Field.Owes) (w Field.Note);
      numbers = λ _.
          record {
            thread = h;
            priority = within_small 255 (w Field.Priority);
            ticks_least = (ticks_range (w Field.Ticks)).0;
            ticks_most = (ticks_range (w Field.Ticks)).1;
            outcome = outcome_small p (w Field.Outcome);
            badge = stored_small p (outcome_in p (w Field.Outcome)) (w Field.Badge);
            message = stored_small p (outcome_in p (w Field.Outcome)) (w Field.Message);
            debt = debt_in_range (debt_of (w Field.Owes) (w Field.Note)) (debt_small (w Field.Owes) (w Field.Note));
          };
      unused = λ e. absurd (n e);
      blocked = outcome_blocked p (w Field.Outcome);
      stored = λ k. (
        stored_none p (outcome_in p (w Field.Outcome)) (w Field.Badge) k,
        stored_none p (outcome_in p (w Field.Outcome)) (w Field.Message) k,
      );
    }

neat_at : (t : ℕ) (p : Place) (w : Field → ℕ) → t ≤ 255 → PlaceSmall p → NeatThread t (thread_by p w)
neat_at t absent w h g = absent_neat t
neat_at t able w h g = present_neat t able w h g (not_absent refl (omega arith))
neat_at t (sending e) w h g = present_neat t (sending e) w h g (not_absent refl (omega arith))
neat_at t (receiving e) w h g = present_neat t (receiving e) w h g (not_absent refl (omega arith))
neat_at t (waiting l) w h g = present_neat t (waiting l) w h g (not_absent refl (omega arith))

pub thread_neat : (t : ℕ) (w : Field → ℕ) → t ≤ 255 → NeatThread t (thread_from w)
unfolding thread_from
thread_neat t w h = neat_at t (place_of (w Field.Place)) w h (place_small (w Field.Place))

-- A neat thread is read back.

module _ (t : ℕ) (x : Thread) (X : NeatThread t x) where
  present_back : (p : Place) → x.place ≡ p → (p ≡ absent → ⊥) → present_thread p (thread_word x) ≡ x
  present_back p e n = λ i.
      record {
        place = sym e i;
        priority = within_same 255 x.priority N.priority i;
        ticks = ticks_back x.ticks N.ticks_least N.ticks_most i;
        outcome = o i;
        badge = stored x.badge N.badge (λ k. (X.stored k).0) i;
        message = stored x.message N.message (λ k. (X.stored k).1) i;
        debt = debt_back x.debt X.debt_small i;
      }
    where
      N : Numbers t x
      N = X.numbers (λ f. n (sym e ∙ f))

      o : outcome_in p x.outcome ≡ x.outcome
      o = outcome_back p x.outcome N.outcome (λ k. X.blocked (λ f. k (sym e ∙ f)))

      stored : (w : ℕ) → w < 2 ^ 28 → ((Stores x.place x.outcome → ⊥) → w ≡ 0)
          → stored_in p (outcome_in p x.outcome) w ≡ w
      stored w h f = rw o (stored_back p x.outcome w h (rw e at f))

  back_at : (p : Place) → x.place ≡ p → thread_by p (thread_word x) ≡ x
  back_at absent e = sym (X.unused e)
  back_at able e = present_back able e (not_absent refl (omega arith))
  back_at (sending n) e = present_back (sending n) e (not_absent refl (omega arith))
  back_at (receiving n) e = present_back (receiving n) e (not_absent refl (omega arith))
  back_at (waiting l) e = present_back (waiting l) e (not_absent refl (omega arith))

  pub thread_back : thread_from (thread_word x) ≡ x
  unfolding thread_from
  thread_back = rw (place_back x.place X.place_small) (back_at x.place refl)

  -- Past the last index a neat thread is absent.
  pub beyond_absent : 255 < t → x ≡ absent_thread
  beyond_absent h = go (absent? x.place)
    where
      go : (x.place ≡ absent) ⊎ (x.place ≡ absent → ⊥) → x ≡ absent_thread
      go (inl e) = X.unused e
      go (inr n) = absurd (omega (arith, (X.numbers n).thread))
