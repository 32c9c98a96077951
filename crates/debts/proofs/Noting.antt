-- Notes for the members of a set: one thread after the other, and so all of them.
use Prim.Native.Nat.{ℕ, ◌+◌, ◌≤◌, ◌<◌}
use mathlib.Core.Path.{◌≡◌, refl, sym, ◌∙◌, ap, subst}
use mathlib.Core.Logic.{◌⊎◌, inl, inr}
use mathlib.Core.Bool.{Bool}
use mathlib.Core.Option.{Option, none, some}
use mathlib.Core.List.{List}
use native.Mathlib.Omega.{arith}
use lib.Dec.{ltb}
use borrow.Author.Tests.{eq-eqb, ne_eqb, lt-ltb, le-ltb}
use Rattle.machine.specs.Lists.{pick, put}
use Rattle.machine.specs.State.{State, Thread, Debt, nothing, works, noted, Abort, with_debt}
use Rattle.machine.specs.Endpoints.{informed, note_all, note}
use Rattle.machine.proofs.Lists.{Same, same, other, same?, put_same, put_other, put_self}
use Rattle.layout.specs.declared.Field.{Field}
use Rattle.layout.specs.declared.Part.{Part}
use Rattle.layout.specs.declared.Slot.{Slot}
use Rattle.layout.specs.Addresses.{ValidSlot, at, word}
use Rattle.layout.specs.Words.{debt_code, note_code, abort_code, badge_code, thread_word, content, queues_of}
use Rattle.layout.specs.Shows.{Shows}
use Rattle.layout.proofs.Addresses.{below?}
use Rattle.store.specs.Steps.{Shown, Does, Tells}
use Rattle.store.specs.Store.{IsThread, IsEndpoint, SetsDebt}
use Rattle.store.specs.Readings.{thread_in, endpoint_in}
use Rattle.debts.specs.Debts.{PairInRange, informed_thread, note_one, noting}

abbrev with_threads : State → (ℕ → Thread) → State
with_threads s f =
    record { threads = f; runs = s.runs; levels = s.levels; endpoints = s.endpoints; lines = s.lines }

-- One thread, by the number of its debt.
module _ {m : List ℕ} {t e r : ℕ} (b : ℕ) (T : Tells m (IsThread t) r (thread_in Field.Owes t)) where
  -- Whoever is no member keeps what it has.
  pub note_other : (r ≡ 1 + e → ⊥) → Does m m (PairInRange t e) (note_one t e b)
  note_other z =
      record {
        shows = λ s M R.
            subst (λ x. Shows m x) (sym (kept s (debt (s.threads t).debt (T.tells s M R.thread)))) M;
      }
    where
      debt : (d : Debt) → r ≡ debt_code d → informed e b d ≡ d
      debt nothing k = refl
      debt (works f) k = rw (ne_eqb f e (λ j. z (omega arith)))
      debt (noted f c) k = refl

      kept : (s : State) → informed e b (s.threads t).debt ≡ (s.threads t).debt → note_one t e b s ≡ s
      kept s k = ap (with_threads s) (put_self s.threads t _ (ap (λ d. with_debt d (s.threads t)) k))

  pub note_one_lem : {n : List ℕ} → r ≡ 1 + e → SetsDebt m t (65 + e) b n → Does m n (PairInRange t e) (note_one t e b)
  note_one_lem {n} z W =
      record {
        shows = λ s M R.
            let i = member (s.threads t).debt R.endpoint (T.tells s M R.thread) in
            (W.does (informed e b (s.threads t).debt) (ap debt_code i) (ap note_code i)).shows s M R.thread;
      }
    where
      member : (d : Debt) → e ≤ 63 → r ≡ debt_code d → informed e b d ≡ noted e b
      member nothing h k = absurd (omega arith)
      member (works f) h k = rw (eq-eqb f e (let i : f ≡ e = omega arith in i))
      member (noted f c) h k = absurd (omega arith)

-- The threads below n have their notes.
abbrev note_below : ℕ → ℕ → ℕ → State → State
note_below n e b s = with_threads s (λ t. pick (ltb t n) (informed_thread e b (s.threads t)) (s.threads t))

module _ (e b : ℕ) (s : State) where
  below_none : note_below 0 e b s ≡ s
  below_none = ap (with_threads s) (λ i t. go t i)
    where
      go : (t : ℕ) → pick (ltb t 0) (informed_thread e b (s.threads t)) (s.threads t) ≡ s.threads t
      go t = rw (le-ltb t 0 (omega arith))

  below_more : (n : ℕ) → note_one n e b (note_below n e b s) ≡ note_below (n + 1) e b s
  below_more n = ap (with_threads s) (λ i t. go t (same? t n) i)
    where
      f : ℕ → Thread
      f t = pick (ltb t n) (informed_thread e b (s.threads t)) (s.threads t)

      at_n : f n ≡ s.threads n
      at_n = rw (le-ltb n n (omega arith))

      passed : (t : ℕ) → (t ≡ n → ⊥) → (t < n) ⊎ (n ≤ t) → ltb t n ≡ ltb t (n + 1)
      passed t d (inl h) = lt-ltb t n h ∙ sym (lt-ltb t (n + 1) (omega arith))
      passed t d (inr h) = le-ltb t n h ∙ sym (le-ltb t (n + 1) (omega (arith, d)))

      go : (t : ℕ) → Same t n
          → put f n (informed_thread e b (f n)) t
          ≡ pick (ltb t (n + 1)) (informed_thread e b (s.threads t)) (s.threads t)
      go t (same j _) =
          rw (j, put_same f n (informed_thread e b (f n)), lt-ltb n (n + 1) (omega arith))
          (ap (informed_thread e b) at_n)
      go t (other d _) =
          put_other f n t (informed_thread e b (f n)) d
          ∙ ap (λ (x : Bool). pick x (informed_thread e b (s.threads t)) (s.threads t)) (passed t d (below? t n))

  -- No word tells of a thread above the last.
  below_all : {m : List ℕ} → Shows m (note_below 256 e b s) → Shows m (note_all e b s)
  unfolding note_all queues_of
  below_all {m} M = record { size = M.size; links = M.links; slots = slots }
    where
      slots : (a : Slot) → ValidSlot a → word m (at a) ≡ content (note_all e b s) a
      slots (Slot.Thread f t) h =
          M.slots (Slot.Thread f t) h
          ∙ ap (λ (x : Bool). thread_word (pick x (informed_thread e b (s.threads t)) (s.threads t)) f)
          (lt-ltb t 256 (omega arith))
      slots (Slot.Endpoint p k) h = M.slots (Slot.Endpoint p k) h
      slots (Slot.Line l) h = M.slots (Slot.Line l) h
      slots (Slot.Summary w) h = M.slots (Slot.Summary w) h
      slots Slot.Top h = M.slots Slot.Top h
      slots Slot.Running h = M.slots Slot.Running h
      slots (Slot.Unused i) h = M.slots (Slot.Unused i) h

-- The loop's invariant, after the threads below t from m₀ to m.
pub record NotedBelow (m₀ m : List ℕ) (e b t : ℕ) : Type 0 where
  pub within : t ≤ 256
  pub there : Shown m (IsEndpoint e)
  pub does : Does m₀ m (IsEndpoint e) (note_below t e b)

pub noted_none : {m : List ℕ} {e b : ℕ} → Shown m (IsEndpoint e) → NotedBelow m m e b 0
noted_none {m} {e} {b} S =
    record {
      within = omega arith;
      there = S;
      does = record { shows = λ s M h. subst (λ x. Shows m x) (sym (below_none e b s)) M };
    }

module _ {m₀ m : List ℕ} {e b t : ℕ} (N : NotedBelow m₀ m e b t) where
  range : (s : State) → t < 256 → e ≤ 63 → PairInRange t e s
  range s h k = record { thread = omega arith; endpoint = k }

  pub noted_more : {n : List ℕ} → t < 256 → Does m n (PairInRange t e) (note_one t e b) → NotedBelow m₀ n e b (t + 1)
  noted_more {n} h D =
      let S = N.there in
      record {
        within = omega arith;
        there =
            record {
              state = note_one t e b S.state;
              shows = D.shows S.state S.shows (range S.state h S.holds);
              holds = S.holds;
            };
        does =
            record {
              shows = λ s M k.
                  subst (λ x. Shows n x) (below_more e b s t)
                  (D.shows (note_below t e b s) (N.does.shows s M k) (range (note_below t e b s) h k));
            };
      }

  pub noted_all : 256 ≤ t → Does m₀ m (IsEndpoint e) (note_all e b)
  noted_all h =
      let i : t ≡ 256 = omega (arith, N.within) in
      record {
        shows = λ s M k. below_all e b s (subst (λ x. Shows m (note_below x e b s)) i (N.does.shows s M k));
      }

-- The set of the abort that stands, if one does.
module _ {m : List ℕ} {e r : ℕ} (T : Tells m (IsEndpoint e) r (endpoint_in Part.Aborting e)) where
  pub set_none : r ≡ 0 → Does m m (IsEndpoint e) (noting e)
  unfolding note
  set_none z = record { shows = λ s M h. go s M (s.endpoints e).abort (T.tells s M h) }
    where
      go : (s : State) → Shows m s → (x : Option Abort) → r ≡ abort_code x → Shows m (note x e s)
      go s M none k = M
      go s M (some a) k = absurd (omega arith)

  pub set_noted :
      {b : ℕ} {n : List ℕ} → (r ≡ 0 → ⊥) → Tells m (IsEndpoint e) b (endpoint_in Part.Aborted e)
      → Does m n (IsEndpoint e) (note_all e b) → Does m n (IsEndpoint e) (noting e)
  unfolding note
  set_noted {b} {n} z B D =
      record { shows = λ s M h. go s (s.endpoints e).abort (T.tells s M h) (B.tells s M h) (D.shows s M h) }
    where
      go : (s : State) (x : Option Abort) → r ≡ abort_code x → b ≡ badge_code x → Shows n (note_all e b s)
          → Shows n (note x e s)
      go s none k j N = absurd (z k)
      go s (some a) k j N = subst (λ c. Shows n (note_all e c s)) j N
