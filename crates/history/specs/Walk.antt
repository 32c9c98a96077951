-- The aborts of a list: who works on them and who has a note, and a call 12 from look to look.
use Rattle.std.specs.Prelude.{ℕ, zero, suc, ◌-◌, Bool, true, false, ◌&&◌, not, List, [], ◌∷◌, ◌++◌, eqb}
use Rattle.std.proofs.Math.Option.{Option, none, some}
use Rattle.machine.specs.Lists.{pick, put, without, only}
use Rattle.history.specs.History.{Aborting, Ended, Reported, NamedLook, Debts, is_in}

-- Sets and notes

-- The abort that the caller t begins at e is worked on by t.
unfoldable pub takes_up : ℕ → ℕ → Debts → Debts
takes_up t e d = record { members = put d.members e (t ∷ []); notes = d.notes }

-- Whoever joins, t, works on it too.
abbrev pub joining : ℕ → List ℕ → List ℕ
joining t l = pick (is_in t l) l (l ++ (t ∷ []))

unfoldable pub joins_in : ℕ → ℕ → Debts → Debts
joins_in t e d = record { members = put d.members e (joining t (d.members e)); notes = d.notes }

-- "A thread leaves the set as an owner lost ownership before", and so it loses its note: by an accepted other call 7 to
-- 12 of its own, or its destruction. t does.
unfoldable pub lets_go : ℕ → Debts → Debts
lets_go t d = record { members = λ e. without t (d.members e); notes = put d.notes t none }

-- "When the abort ends, each member but the caller has a note": each member of the set at e, which its caller has left.
unfoldable pub hears : ℕ → Reported → Debts → Debts
hears e r d =
    record {
      members = put d.members e [];
      notes = λ u. pick (is_in u (d.members e)) (some r) (d.notes u);
    }

-- It ends by a call of t: the note is for the others.
abbrev pub hears_by : ℕ → ℕ → Reported → Debts → Debts
hears_by t e r d = hears e r (lets_go t d)

-- The note is of this endpoint and badge.
abbrev pub is_note_of : ℕ → ℕ → Option Reported → Bool
is_note_of e b none = false
is_note_of e b (some r) = eqb r.endpoint e && eqb r.badge b

-- The abort is of this badge.
abbrev pub is_under : ℕ → Option Aborting → Bool
is_under b none = false
is_under b (some x) = eqb x.badge b

-- Aborts

-- Of the senders that the abort began on, those still queued and not yet looked at by it.
unfoldable pub left_of : Aborting → List ℕ → List ℕ
left_of x queued = only (λ w. is_in w queued && not (is_in w x.looked)) x.onto

abbrev pub is_none : List ℕ → Bool
is_none [] = true
is_none (w ∷ l) = false

abbrev pub report_of : Aborting → Reported
report_of x = record { endpoint = x.endpoint; badge = x.badge; began = x.began }

-- A call 12 that was accepted and not answered from a note, in the middle of its looks: the abort that stands at its
-- endpoint, the names of the senders queued there, the aborts that have ended, who has to do with them and the looks
-- that belong to none.
pub record Walk : Type 0 where
  pub standing : Option Aborting
  pub queued : List ℕ
  pub ended : List Ended
  pub debts : Debts
  pub stray : List ℕ

-- The call: its place, its caller, its endpoint and badge.
pub record Walker : Type 0 where
  pub place : ℕ
  pub caller : ℕ
  pub endpoint : ℕ
  pub badge : ℕ

-- The call's own abort begins on the senders queued there at that moment, if allowance remains, the first argument.
unfoldable pub begins : ℕ → Walker → Walk → Walk
begins zero c w = w
begins (suc k) c w =
    record {
      standing =
          some (record {
            endpoint = c.endpoint;
            badge = c.badge;
            began = c.place;
            onto = w.queued;
            looked = [];
            removed = [];
          });
      queued = w.queued;
      ended = w.ended;
      debts = takes_up c.caller c.endpoint w.debts;
      stray = w.stray;
    }

-- The abort x ends in the call.
unfoldable pub ends : Aborting → Walker → Walk → Walk
ends x c w =
    record {
      standing = none;
      queued = w.queued;
      ended =
          record { abort = x; by = c.place; members = (lets_go c.caller w.debts).members c.endpoint }
          ∷ w.ended;
      debts = hears_by c.caller c.endpoint (report_of x) w.debts;
      stray = w.stray;
    }

-- Another badge's abort of which nothing is left ends, and the call's own begins.
unfoldable pub passes : Bool → Bool → Aborting → ℕ → Walker → Walk → Walk
passes true left x k c w = w
passes false false x k c w = w
passes false true x k c w = begins k c (ends x c w)

-- Between looks, with the allowance that remains.
unfoldable pub settles : Option Aborting → ℕ → Walker → Walk → Walk
settles none k c w = begins k c w
settles (some x) k c w = passes (eqb x.badge c.badge) (is_none (left_of x w.queued)) x k c w

unfoldable pub settle : ℕ → Walker → Walk → Walk
settle k c w = settles w.standing k c w

abbrev pub looked_at : NamedLook → Aborting → Aborting
looked_at v x =
    record {
      endpoint = x.endpoint;
      badge = x.badge;
      began = x.began;
      onto = x.onto;
      looked = x.looked ++ (v.waiter ∷ []);
      removed = pick v.removed (x.removed ++ (v.waiter ∷ [])) x.removed;
    }

-- A look belongs to the abort standing at its endpoint when it is made.
unfoldable pub takes : Option Aborting → NamedLook → Walk → Walk
takes none v w =
    record {
      standing = none;
      queued = w.queued;
      ended = w.ended;
      debts = w.debts;
      stray = v.waiter ∷ w.stray;
    }
takes (some x) v w =
    record {
      standing = some (looked_at v x);
      queued = pick v.removed (without v.waiter w.queued) w.queued;
      ended = w.ended;
      debts = w.debts;
      stray = w.stray;
    }

unfoldable pub take_look : NamedLook → Walk → Walk
take_look v w = takes w.standing v w

-- The looks in order, each after what there is to settle before it; then what there is to settle after the last.
unfoldable pub walk : List NamedLook → ℕ → Walker → Walk → Walk
walk [] k c w = settle k c w
walk (v ∷ l) k c w = walk l (k - 1) c (take_look v (settle k c w))

-- The call leaves none of the senders still queued and not yet looked at: the abort ends in it.
unfoldable pub closes : Option Aborting → Walker → Walk → Walk
closes none c w = w
closes (some x) c w = pick (is_none (left_of x w.queued)) (ends x c w) w

unfoldable pub close : Walker → Walk → Walk
close c w = closes w.standing c w

-- The call reports the abort that it began or found under its badge.
abbrev pub report_if : Option Aborting → ℕ → Option Reported
report_if none b = none
report_if (some x) b = pick (eqb x.badge b) (some (report_of x)) none
