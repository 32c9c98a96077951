-- What an accepted call 12 comes to in the history: answered from a note, or walked from where the call found it.
use Prim.Native.Nat.{ℕ}
use mathlib.Core.Path.{◌≡◌, refl, ◌∙◌, ap}
use mathlib.Core.Bool.{Bool, true, false}
use mathlib.Core.Option.{Option, none, some}
use mathlib.Core.List.{List, [], map}
use native.Mathlib.Omega.{arith}
use Rattle.machine.specs.State.{State, Debt, nothing, works, noted}
use Rattle.machine.specs.Endpoints.{senders}
use Rattle.machine.specs.Results.{Result}
use Rattle.calls.specs.Answers.{is_accepted}
use Rattle.machine.specs.Aborts.{has_note}
use Rattle.history.specs.Sorts.{looks}
use Rattle.history.specs.History.{Reported, History, named_looks}
use Rattle.history.specs.Walk.{Walk, lets_go, is_note_of, report_if, walk, close}
use Rattle.history.specs.Outcomes.{apart, comes_in, walker_of, start_of, walked, walks, aborts_by, aborts_of}
use Rattle.history.specs.Outcomes.{outcome_of, outcome_if}
use Rattle.history.specs.Tied.{note_in, note_from}
use Rattle.history.proofs.Demand3.Together.{Gone, walk_at}
use Rattle.history.proofs.Demand3.Joining.{came_in}

-- The caller's note, in the history and in the machine.
pub note_is :
    (e b : ℕ) (o : Option Reported) (d : Debt) → note_from o ≡ note_in d → is_note_of e b o ≡ has_note e b d
note_is e b o d h = from o ∙ ap (has_note e b) h ∙ alone d
  where
    from : (o : Option Reported) → is_note_of e b o ≡ has_note e b (note_from o)
    from none = refl
    from (some r) = refl

    alone : (d : Debt) → has_note e b (note_in d) ≡ has_note e b d
    alone nothing = refl
    alone (works f) = refl
    alone (noted f c) = refl

-- The noted abort.
pub record Noted (o : Option Reported) (e b : ℕ) : Type 0 where
  pub of : Reported
  pub is : o ≡ some of
  pub endpoint : of.endpoint ≡ e
  pub badge : of.badge ≡ b

pub noted_of : (o : Option Reported) (e b : ℕ) → note_from o ≡ noted e b → Noted o e b
noted_of none e b h = let z : ◌≡◌ {A = ℕ} 0 1 = cc in absurd (omega arith)
noted_of (some r) e b h = record { of = r; is = refl; endpoint = cc; badge = cc }

-- What an accepted call 12 of thread t comes to, answered from a note or not.
module _ (t e a b : ℕ) (s : State) (r : Result) (h : History) (runs : s.runs ≡ some t)
    (accepted : is_accepted r.answer ≡ true) where
  pub outcome_noted :
      is_note_of e b (h.aborts.debts.notes t) ≡ true
      → outcome_if (is_accepted r.answer) (looks e a b) s.runs r h
      ≡ apart (lets_go t h.aborts.debts) (h.aborts.debts.notes t) r h
  unfolding outcome_if outcome_of aborts_of aborts_by
  outcome_noted p =
      ap (λ (x : Bool). outcome_if x (looks e a b) s.runs r h) accepted
      ∙ ap (λ (k : Option ℕ). aborts_of k e a b r h) runs ∙ ap (λ (x : Bool). aborts_by x t e a b r h) p

  pub outcome_walks :
      is_note_of e b (h.aborts.debts.notes t) ≡ false
      → outcome_if (is_accepted r.answer) (looks e a b) s.runs r h ≡ walks t e a b r h
  unfolding outcome_if outcome_of aborts_of aborts_by
  outcome_walks p =
      ap (λ (x : Bool). outcome_if x (looks e a b) s.runs r h) accepted
      ∙ ap (λ (k : Option ℕ). aborts_of k e a b r h) runs ∙ ap (λ (x : Bool). aborts_by x t e a b r h) p

-- What the history has of ended aborts and debts.
abbrev pub gone_of : History → Gone
gone_of h = record { ended = h.aborts.ended; debts = h.aborts.debts }

-- The walk starts where the call found the history.
abbrev pub start_at : ℕ → ℕ → ℕ → State → History → Walk
start_at t e b s h =
    walk_at h.since e s (h.aborts.standing e) (came_in t e b (h.aborts.standing e) (gone_of h))

pub start_is :
    (t e b : ℕ) (s : State) (h : History)
    → h.waiting.messages e ≡ map h.since (senders s.threads (s.endpoints e).waiters) → h.aborts.stray ≡ []
    → start_of t e b h ≡ start_at t e b s h
start_is t e b s h m p =
    ap (λ (k : List ℕ).
    record {
      standing = h.aborts.standing e;
      queued = k;
      ended = h.aborts.ended;
      debts = comes_in t e b (h.aborts.standing e) h.aborts.debts;
      stray = h.aborts.stray;
    }) m
    ∙ ap (λ (l : List ℕ).
    record {
      standing = h.aborts.standing e;
      queued = map h.since (senders s.threads (s.endpoints e).waiters);
      ended = h.aborts.ended;
      debts = comes_in t e b (h.aborts.standing e) h.aborts.debts;
      stray = l;
    }) p

pub walks_from :
    (t e a b : ℕ) (s : State) (r : Result) (h : History) (w : Walk)
    → h.waiting.messages e ≡ map h.since (senders s.threads (s.endpoints e).waiters) → h.aborts.stray ≡ []
    → close (walker_of t e b h)
    (walk (named_looks h.since r.looks) a (walker_of t e b h) (start_at t e b s h)) ≡ w
    → walks t e a b r h
    ≡ walked e
    (report_if (walk (named_looks h.since r.looks) a (walker_of t e b h) (start_at t e b s h)).standing b) w h
unfolding walks
walks_from t e a b s r h w m p q =
    ap (λ (x : Walk).
    walked e (report_if (walk (named_looks h.since r.looks) a (walker_of t e b h) x).standing b)
    (close (walker_of t e b h) (walk (named_looks h.since r.looks) a (walker_of t e b h) x)) h)
    (start_is t e b s h m p)
    ∙ ap (λ (x : Walk).
    walked e
    (report_if (walk (named_looks h.since r.looks) a (walker_of t e b h) (start_at t e b s h)).standing b) x h) q
