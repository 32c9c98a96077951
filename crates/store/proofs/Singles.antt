-- The line, and the thread that runs: after a store the memory shows the state with another there.
use Prim.Native.Nat.{ℕ}
use mathlib.Core.Path.{◌≡◌, refl, ap}
use mathlib.Core.Option.{Option}
use mathlib.Core.List.{List}
use lib.ListN.{set}
use Rattle.machine.specs.Lists.{put}
use Rattle.machine.specs.State.{State, Line, set_runs, set_line}
use Rattle.machine.proofs.Lists.{Same, same, other, same?, put_same, put_other}
use Rattle.layout.specs.declared.Slot.{Slot}
use Rattle.layout.specs.Addresses.{at}
use Rattle.layout.specs.Words.{line_code, content, queues_of}
use Rattle.store.specs.Store.{SetsRunning, SetsLine}
use Rattle.store.proofs.Words.{stored_shows}

pub line_does :
    (l : ℕ) {m n : List ℕ} (code : ℕ) → n ≡ set m (at (Slot.Line l)) code → SetsLine m l code n
unfolding queues_of
line_does l {m} {n} code e =
    record {
      does = λ x k.
          record {
            shows = λ s M h.
                stored_shows (Slot.Line l) m n code s (set_line l x s) h M e (rw (put_same s.lines l x) k)
                (λ b g d. rest s x b d) (λ q g. refl);
          };
    }
  where
    other_line : (s : State) (x : Line) (j : ℕ) → (Slot.Line j ≡ Slot.Line l → ⊥) → Same j l
        → line_code (put s.lines l x j) ≡ line_code (s.lines j)
    other_line s x j d (same k _) = absurd (d (ap Slot.Line k))
    other_line s x j d (other k _) = rw (put_other s.lines l j x k)

    rest : (s : State) (x : Line) (b : Slot) → (b ≡ Slot.Line l → ⊥) → content (set_line l x s) b ≡ content s b
    rest s x (Slot.Thread f t) d = refl
    rest s x (Slot.Endpoint p j) d = refl
    rest s x (Slot.Line j) d = other_line s x j d (same? j l)
    rest s x (Slot.Summary w) d = refl
    rest s x Slot.Top d = refl
    rest s x Slot.Running d = refl
    rest s x (Slot.Unused j) d = refl

pub running_does :
    {m n : List ℕ} (code : ℕ) → n ≡ set m (at Slot.Running) code → SetsRunning m code n
unfolding queues_of
running_does {m} {n} code e =
    record {
      does = λ r k.
          record {
            shows = λ s M h.
                stored_shows Slot.Running m n code s (set_runs r s) tt M e k (λ b g d. rest s r b d) (λ q g. refl);
          };
    }
  where
    rest : (s : State) (r : Option ℕ) (b : Slot) → (b ≡ Slot.Running → ⊥) → content (set_runs r s) b ≡ content s b
    rest s r (Slot.Thread f t) d = refl
    rest s r (Slot.Endpoint p j) d = refl
    rest s r (Slot.Line j) d = refl
    rest s r (Slot.Summary w) d = refl
    rest s r Slot.Top d = refl
    rest s r Slot.Running d = absurd (d refl)
    rest s r (Slot.Unused j) d = refl
