-- What each call comes to for the aborts of a list.
use Rattle.std.specs.Prelude.{ℕ, Bool, true, false, ◌&&◌, ◌∷◌, ◌++◌, map}
use Rattle.std.proofs.Math.Option.{Option, none, some}
use Rattle.machine.specs.Lists.{pick, put}
use Rattle.machine.specs.Results.{Result}
use Rattle.history.specs.Sorts.{Sort, other, destroys, waits, receives, yields, removes, looks}
use Rattle.history.specs.History.{Aborting, Reported, Debts, Aborts, History, is_in, named_looks}
use Rattle.history.specs.Walk.{joins_in, lets_go, hears, is_note_of, is_under, report_of, Walk, Walker, walk, close}
use Rattle.history.specs.Walk.{report_if}

-- What a call comes to for the aborts, and which one it reports.
pub record Outcome : Type 0 where
  pub aborts : Aborts
  pub reports : Option Reported

-- The call neither begins nor ends an abort and leaves these debts: whatever it looked at was looked at by none.
abbrev pub apart : Debts → Option Reported → Result → History → Outcome
apart d reports r h =
    record {
      aborts =
          record {
            standing = h.aborts.standing;
            ended = h.aborts.ended;
            debts = d;
            stray = map (λ v. h.since v.waiter) r.looks ++ h.aborts.stray;
          };
      reports = reports;
    }

abbrev pub unchanged : Result → History → Outcome
unchanged r h = apart h.aborts.debts none r h

-- The debts without those of the thread, if there is one.
abbrev pub let_go_by : Option ℕ → Debts → Debts
let_go_by none d = d
let_go_by (some t) d = lets_go t d

abbrev pub drops : Option ℕ → Result → History → Outcome
drops o r h = apart (let_go_by o h.aborts.debts) none r h

-- An accepted call 11 ends the abort that stands at its endpoint.
unfoldable pub deletes : Option Aborting → ℕ → Option ℕ → Result → History → Outcome
deletes none e o r h = drops o r h
deletes (some x) e o r h =
    record {
      aborts =
          record {
            standing = put h.aborts.standing e none;
            ended =
                record { abort = x; by = h.now; members = (let_go_by o h.aborts.debts).members e }
                ∷ h.aborts.ended;
            debts = hears e (report_of x) (let_go_by o h.aborts.debts);
            stray = (drops o r h).aborts.stray;
          };
      reports = none;
    }

-- A call 12 of thread t that is accepted and not answered from a note.

-- Such a call of t, which finds x standing at e: it is no other call if t works on that abort, under that badge.
abbrev pub goes_on : ℕ → ℕ → ℕ → Option Aborting → Debts → Bool
goes_on t e b x d = is_under b x && is_in t (d.members e)

-- An other call drops what t had to do with another abort.
abbrev pub lets_other : ℕ → ℕ → ℕ → Option Aborting → Debts → Debts
lets_other t e b x d = pick (goes_on t e b x d) d (lets_go t d)

-- The same badge is joined.
abbrev pub comes_in : ℕ → ℕ → ℕ → Option Aborting → Debts → Debts
comes_in t e b x d = pick (is_under b x) (joins_in t e (lets_other t e b x d)) (lets_other t e b x d)

abbrev pub walker_of : ℕ → ℕ → ℕ → History → Walker
walker_of t e b h = record { place = h.now; caller = t; endpoint = e; badge = b }

abbrev pub start_of : ℕ → ℕ → ℕ → History → Walk
start_of t e b h =
    record {
      standing = h.aborts.standing e;
      queued = h.waiting.messages e;
      ended = h.aborts.ended;
      debts = comes_in t e b (h.aborts.standing e) h.aborts.debts;
      stray = h.aborts.stray;
    }

-- Where a walk has come to, put back into the history.
abbrev pub walked : ℕ → Option Reported → Walk → History → Outcome
walked e reports w h =
    record {
      aborts =
          record {
            standing = put h.aborts.standing e w.standing;
            ended = w.ended;
            debts = w.debts;
            stray = w.stray;
          };
      reports = reports;
    }

unfoldable pub walks : ℕ → ℕ → ℕ → ℕ → Result → History → Outcome
walks t e a b r h =
    walked e
    (report_if (walk (named_looks h.since r.looks) a (walker_of t e b h) (start_of t e b h)).standing b)
    (close (walker_of t e b h)
    (walk (named_looks h.since r.looks) a (walker_of t e b h) (start_of t e b h))) h

-- A call 12 by thread t, accepted. It is answered from a note if t has a note of that endpoint and badge, the first
-- argument: it reports the noted abort and begins none, and the note goes.
unfoldable pub aborts_by : Bool → ℕ → ℕ → ℕ → ℕ → Result → History → Outcome
aborts_by true t e a b r h = apart (lets_go t h.aborts.debts) (h.aborts.debts.notes t) r h
aborts_by false t e a b r h = walks t e a b r h

unfoldable pub aborts_of : Option ℕ → ℕ → ℕ → ℕ → Result → History → Outcome
aborts_of none e a b r h = unchanged r h
aborts_of (some t) e a b r h = aborts_by (is_note_of e b (h.aborts.debts.notes t)) t e a b r h

-- An accepted call. The running thread, the second argument, makes calls 7 to 12.
unfoldable pub outcome_of : Sort → Option ℕ → Result → History → Outcome
outcome_of other o r h = unchanged r h
outcome_of (destroys t) o r h = drops (some t) r h
outcome_of waits o r h = drops o r h
outcome_of (receives e) o r h = drops o r h
outcome_of yields o r h = drops o r h
outcome_of (removes e) o r h = deletes (h.aborts.standing e) e o r h
outcome_of (looks e a b) o r h = aborts_of o e a b r h

-- A refused call comes to nothing.
unfoldable pub outcome_if : Bool → Sort → Option ℕ → Result → History → Outcome
outcome_if true k o r h = outcome_of k o r h
outcome_if false k o r h = unchanged r h
