-- The machine's sets and notes are the history's, step by step: dropping a debt, the beginning, joining and end of an
-- abort, and steps that leave them.
use Prim.Native.Nat.{ℕ}
use mathlib.Core.Path.{◌≡◌, refl, sym, ◌∙◌, ap}
use mathlib.Core.Logic.{inl, inr}
use mathlib.Core.Bool.{Bool, true, false, ◌||◌}
use mathlib.Core.Option.{none, some}
use mathlib.Core.List.{List, [], ◌∷◌, ◌++◌}
use native.Mathlib.Omega.{arith}
use lib.Dec.{eqb}
use borrow.Author.Tests.{eq-eqb, ne_eqb}
use Rattle.machine.specs.Lists.{pick, put, without}
use Rattle.machine.specs.State.{State, Thread, Debt, nothing, works, noted, Abort, Status, set_thread}
use Rattle.machine.specs.Endpoints.{works_at, leave_endpoint, wake_from, drop_debt, informed, note_all, note, end_abort}
use Rattle.machine.specs.Aborts.{join, begin}
use Rattle.history.specs.History.{Aborting, Ended, Reported, Debts, is_in}
use Rattle.history.specs.Walk.{takes_up, joining, joins_in, lets_go, hears, report_of}
use Rattle.history.specs.Claim.{In}
use Rattle.history.specs.Tied.{note_in, note_from, Tied}
use Rattle.machine.proofs.Lists.{Same, same, other, same?, put_all, put_same, put_other}
use Rattle.machine.proofs.Preserved.Statuses.{owing_same, owing_other}
use Rattle.machine.proofs.Preserved.Debts.{Drops, drop_debt_drops}
use Rattle.machine.proofs.Preserved.AbortSteps.{steady_wake_from}

-- Every debt is as it was.
abbrev pub Still : State → State → Type 0
Still s r = (t : ℕ) → (r.threads t).debt ≡ (s.threads t).debt

pub still_self : (s : State) → Still s s
still_self s t = refl

pub still_then : (s r q : State) → Still s r → Still r q → Still s q
still_then s r q P Q t = Q t ∙ P t

-- The entry of a thread changes, but for its debt.
pub still_thread : (s : State) (t : ℕ) (x : Thread) → x.debt ≡ (s.threads t).debt → Still s (set_thread t x s)
still_thread s t x h = put_all (λ u y. y.debt ≡ (s.threads u).debt) s.threads t x h (λ u n. refl)

pub still_leave_endpoint : (s : State) (t e : ℕ) → Still s (leave_endpoint t e s)
unfolding leave_endpoint
still_leave_endpoint s t e u = refl

pub still_wake_from : (s : State) (e t o b m : ℕ) → Still s (wake_from e t o b m s)
still_wake_from s e t o b m = (steady_wake_from e t s o b m).debt

-- Steps that leave them, while aborts may end.
pub tied_still :
    {f g : ℕ → Thread} {d : Debts} {l m : List Ended} → ((t : ℕ) → (g t).debt ≡ (f t).debt)
    → ((z : Ended) → In z l → In z m) → Tied f d l → Tied g d m
tied_still U more T =
    record {
      members = λ e t. T.members e t ∙ ap (works_at e) (sym (U t));
      notes = λ t. T.notes t ∙ ap note_in (sym (U t));
      heard = λ t r h. let z = T.heard t r h in (z.0, more z.0 z.1, z.2);
    }

-- Who is in a list from which t is taken, or that t has joined.

in_without : (t : ℕ) (l : List ℕ) → is_in t (without t l) ≡ false
unfolding without
in_without t [] = refl
in_without t (x ∷ l) = go (same? x t) (in_without t l)
  where
    go : Same x t → is_in t (without t l) ≡ false → is_in t (pick (eqb x t) (without t l) (x ∷ without t l)) ≡ false
    go (same i p) h = rw p h
    go (other i p) h = rw (p, ne_eqb t x (λ j. i (sym j))) h

pub in_others : (u t : ℕ) (l : List ℕ) → (u ≡ t → ⊥) → is_in u (without t l) ≡ is_in u l
unfolding without
in_others u t [] n = refl
in_others u t (x ∷ l) n = go (same? x t) (in_others u t l n)
  where
    go : Same x t → is_in u (without t l) ≡ is_in u l
        → is_in u (pick (eqb x t) (without t l) (x ∷ without t l)) ≡ (eqb u x || is_in u l)
    go (same i p) h = rw (p, ne_eqb u x (λ j. n (j ∙ i))) h
    go (other i p) h = rw p (ap (λ (b : Bool). eqb u x || b) h)

in_last : (t : ℕ) (l : List ℕ) → is_in t (l ++ (t ∷ [])) ≡ true
in_last t [] = rw (eq-eqb t t refl) refl
in_last t (x ∷ l) = rw (in_last t l) (go (eqb t x))
  where
    go : (b : Bool) → (b || true) ≡ true
    go true = refl
    go false = refl

in_before : (u t : ℕ) (l : List ℕ) → (u ≡ t → ⊥) → is_in u (l ++ (t ∷ [])) ≡ is_in u l
in_before u t [] n = rw (ne_eqb u t n) refl
in_before u t (x ∷ l) n = ap (λ (b : Bool). eqb u x || b) (in_before u t l n)

-- What holds of both lists holds of what is picked.
picked :
    (P : List ℕ → Type 0) (b : Bool) (x y : List ℕ) → (b ≡ true → P x) → (b ≡ false → P y) → P (pick b x y)
picked P true x y h k = h refl
picked P false x y h k = k refl

pub joined_self : (t : ℕ) (l : List ℕ) → is_in t (joining t l) ≡ true
joined_self t l = picked (λ k. is_in t k ≡ true) (is_in t l) _ _ (λ h. h) (λ h. in_last t l)

pub joined_other : (u t : ℕ) (l : List ℕ) → (u ≡ t → ⊥) → is_in u (joining t l) ≡ is_in u l
joined_other u t l n = picked (λ k. is_in u k ≡ is_in u l) (is_in t l) _ _ (λ h. refl) (λ h. in_before u t l n)

-- Whoever has its note works nowhere.
works_none : (e b : ℕ) (d : Debt) → works_at e (informed e b d) ≡ false
works_none e b nothing = refl
works_none e b (noted f c) = refl
works_none e b (works f) = go (same? f e)
  where
    go : Same f e → works_at e (pick (eqb f e) (noted e b) (works f)) ≡ false
    go (same i p) = rw p refl
    go (other i p) = rw p p

works_elsewhere : (e b f : ℕ) (d : Debt) → (f ≡ e → ⊥) → works_at f (informed e b d) ≡ works_at f d
works_elsewhere e b f nothing n = refl
works_elsewhere e b f (noted k c) n = refl
works_elsewhere e b f (works k) n = go (same? k e)
  where
    go : Same k e → works_at f (pick (eqb k e) (noted e b) (works k)) ≡ eqb k f
    go (same i p) = rw p (sym (ne_eqb k f (λ j. n (sym j ∙ i))))
    go (other i p) = rw p refl

no_report : {r : Reported} → none ≡ some r → ⊥
no_report {r} h = let z : ◌≡◌ {A = ℕ} 0 1 = cc in omega arith

module _ (s : State) {d : Debts} {ended : List Ended} (T : Tied s.threads d ended) where
  -- t leaves its set or loses its note.
  pub tied_drop : (t : ℕ) → Tied (drop_debt t s).threads (lets_go t d) ended
  unfolding lets_go
  tied_drop t =
      record {
        members = λ e u. in_set e u (same? u t);
        notes =
            put_all (λ u k. note_from k ≡ note_in ((drop_debt t s).threads u).debt) d.notes t none
            (ap note_in (sym D.debt)) (λ u n. T.notes u ∙ ap note_in (sym (D.other_debt u n)));
        heard =
            put_all
            (λ u k. (r : Reported) → k ≡ some r → (z : Ended) × In z ended × (report_of z.abort ≡ r)) d.notes t
            none (λ r h. absurd (no_report h)) (λ u n. T.heard u);
      }
    where
      D : Drops t s (drop_debt t s)
      D = drop_debt_drops s t

      in_set : (e u : ℕ) → Same u t → is_in u (without t (d.members e)) ≡ works_at e ((drop_debt t s).threads u).debt
      in_set e u (same i _) = rw (i, D.debt) (in_without t (d.members e))
      in_set e u (other n _) = rw (D.other_debt u n) (in_others u t (d.members e) n ∙ T.members e u)

  -- With nothing owed there is nothing to drop.
  pub tied_free : (t : ℕ) → (s.threads t).debt ≡ nothing → Tied s.threads (lets_go t d) ended
  tied_free t h = tied_still still (λ z i. i) (tied_drop t)
    where
      D : Drops t s (drop_debt t s)
      D = drop_debt_drops s t

      still : (u : ℕ) → (s.threads u).debt ≡ ((drop_debt t s).threads u).debt
      still u = go (same? u t)
        where
          go : Same u t → (s.threads u).debt ≡ ((drop_debt t s).threads u).debt
          go (same i _) = rw i (h ∙ sym D.debt)
          go (other n _) = sym (D.other_debt u n)

  -- t is in the set at e, and was in none.
  module _ (t e : ℕ) (free : (s.threads t).debt ≡ nothing) (l : List ℕ) (mine : is_in t l ≡ true)
      (others : (u : ℕ) → (u ≡ t → ⊥) → is_in u l ≡ works_at e (s.threads u).debt) where
    tied_in : Tied (join t e s).threads (record { members = put d.members e l; notes = d.notes }) ended
    unfolding join
    tied_in =
        record {
          members = λ f u. in_set f u (same? f e) (same? u t);
          notes =
              put_all (λ u y. note_from (d.notes u) ≡ note_in y.debt) s.threads t _ (T.notes t ∙ ap note_in free)
              (λ u n. T.notes u);
          heard = T.heard;
        }
      where
        now : (u : ℕ) → Debt
        now u = ((join t e s).threads u).debt

        mine_now : now t ≡ works e
        mine_now = owing_same s t (works e)

        other_now : (u : ℕ) → (u ≡ t → ⊥) → now u ≡ (s.threads u).debt
        other_now = owing_other s t (works e)

        in_set : (f u : ℕ) → Same f e → Same u t → is_in u (put d.members e l f) ≡ works_at f (now u)
        in_set f u (same i _) (same j _) =
            rw (i, j, put_same d.members e l) (mine ∙ sym (ap (works_at e) mine_now ∙ eq-eqb e e refl))
        in_set f u (same i _) (other n _) =
            rw (i, put_same d.members e l) (others u n ∙ ap (works_at e) (sym (other_now u n)))
        in_set f u (other m _) (same j _) =
            rw (j, put_other d.members e f l m)
            (T.members f t ∙ ap (works_at f) free ∙ sym (ap (works_at f) mine_now ∙ ne_eqb e f (λ i. m (sym i))))
        in_set f u (other m _) (other n _) =
            rw (put_other d.members e f l m) (T.members f u ∙ ap (works_at f) (sym (other_now u n)))

  -- t begins an abort at e, where nobody works.
  pub tied_begin :
      (t e b : ℕ) → (s.threads t).debt ≡ nothing → ((u : ℕ) → works_at e (s.threads u).debt ≡ false)
      → Tied (begin t e b s).threads (takes_up t e d) ended
  unfolding begin join takes_up
  tied_begin t e b free nobody =
      tied_in t e free (t ∷ []) (in_last t []) (λ u n. rw (ne_eqb u t n) (sym (nobody u)))

  -- t joins the abort at e.
  pub tied_join : (t e : ℕ) → (s.threads t).debt ≡ nothing → Tied (join t e s).threads (joins_in t e d) ended
  unfolding joins_in
  tied_join t e free =
      tied_in t e free (joining t (d.members e)) (joined_self t (d.members e))
      (λ u n. joined_other u t (d.members e) n ∙ T.members e u)

  -- t goes on with the abort at e: it has been in the set.
  pub tied_rejoin :
      (t e : ℕ) → is_in t (d.members e) ≡ true → (s.threads t).debt ≡ works e
      → Tied (join t e (drop_debt t s)).threads (joins_in t e d) ended
  unfolding joins_in join
  tied_rejoin t e is was =
      tied_still {f = s.threads} {l = ended} still (λ z i. i)
      (record {
        members =
            λ f u. ap (is_in u) (put_all (λ k l. l ≡ d.members k) d.members e _ (rw is refl) (λ k n. refl) f)
            ∙ T.members f u;
        notes = T.notes;
        heard = T.heard;
      })
    where
      D : Drops t s (drop_debt t s)
      D = drop_debt_drops s t

      still : (u : ℕ) → ((join t e (drop_debt t s)).threads u).debt ≡ (s.threads u).debt
      still u = go (same? u t)
        where
          go : Same u t → ((join t e (drop_debt t s)).threads u).debt ≡ (s.threads u).debt
          go (same i _) = rw i (owing_same (drop_debt t s) t (works e) ∙ sym was)
          go (other n _) = owing_other (drop_debt t s) t (works e) u n ∙ D.other_debt u n

  -- The abort at e ends, which is x in the history: each member gets a note.
  module _ (e : ℕ) (status : Status) (a : Abort) (was : (s.endpoints e).abort ≡ some a) (x : Aborting)
      (endpoint : x.endpoint ≡ e) (badge : x.badge ≡ a.badge) (z : Ended) (z_is : z.abort ≡ x) where
    ended_debt : (u : ℕ) → ((end_abort status e s).threads u).debt ≡ informed e a.badge (s.threads u).debt
    unfolding end_abort note note_all
    ended_debt u = rw was refl

    ended_members :
        (f u : ℕ) → is_in u (put d.members e [] f) ≡ works_at f ((end_abort status e s).threads u).debt
    ended_members f u = rw (ended_debt u) (go (same? f e))
      where
        go : Same f e → is_in u (put d.members e [] f) ≡ works_at f (informed e a.badge (s.threads u).debt)
        go (same i _) =
            rw (i, put_same d.members e []) (sym (works_none e a.badge (s.threads u).debt))
        go (other n _) =
            rw (put_other d.members e f [] n)
            (T.members f u ∙ sym (works_elsewhere e a.badge f (s.threads u).debt n))

    report_notes : note_from (some (report_of x)) ≡ noted e a.badge
    report_notes = rw (endpoint, badge)

    ended_notes :
        (u : ℕ)
        → note_from (pick (is_in u (d.members e)) (some (report_of x)) (d.notes u))
        ≡ note_in ((end_abort status e s).threads u).debt
    ended_notes u = rw (ended_debt u, T.members e u) (go (s.threads u).debt refl)
      where
        go : (k : Debt) → (s.threads u).debt ≡ k
            → note_from (pick (works_at e k) (some (report_of x)) (d.notes u)) ≡ note_in (informed e a.badge k)
        go nothing h = T.notes u ∙ ap note_in h
        go (noted f c) h = T.notes u ∙ ap note_in h
        go (works f) h = by (same? f e)
          where
            by : Same f e
                → note_from (pick (eqb f e) (some (report_of x)) (d.notes u))
                ≡ note_in (pick (eqb f e) (noted e a.badge) (works f))
            by (same i p) = rw p report_notes
            by (other n p) = rw p (T.notes u ∙ ap note_in h)

    ended_heard :
        (u : ℕ) (r : Reported) (b : Bool) → pick b (some (report_of x)) (d.notes u) ≡ some r
        → (y : Ended) × In y (z ∷ ended) × (report_of y.abort ≡ r)
    ended_heard u r true h =
        let k : report_of x ≡ r = cc in
        (z, inl refl, ap report_of z_is ∙ k)
    ended_heard u r false h = let y = T.heard u r h in (y.0, inr y.1, y.2)

    pub tied_end : Tied (end_abort status e s).threads (hears e (report_of x) d) (z ∷ ended)
    unfolding hears
    tied_end =
        record {
          members = ended_members;
          notes = ended_notes;
          heard = λ u r. ended_heard u r (is_in u (d.members e));
        }
