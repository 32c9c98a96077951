-- Who is broken off in its own abort is engaged in it; who is engaged in an abort and calls again begins none.
use Prim.Native.Nat.{ℕ, zero, suc}
use mathlib.Core.Path.{◌≡◌, refl, sym, ◌∙◌, ap, subst}
use mathlib.Core.Logic.{◌⊎◌, inl, inr}
use mathlib.Core.Bool.{Bool, true, false}
use mathlib.Core.Option.{Option, none, some}
use mathlib.Core.List.{List, [], ◌∷◌}
use native.Mathlib.Omega.{arith}
use lib.Dec.{eqb, leb}
use borrow.Author.Tests.{eq-eqb}
use Rattle.calls.specs.declared.Call.TheVariants as Call
use Rattle.machine.specs.Lists.{Mem}
use Rattle.machine.specs.State.{State, Thread, Debt, nothing, works, noted, Abort, Status, missing, live, closing}
use Rattle.machine.specs.State.{Endpoint, with_debt}
use Rattle.machine.specs.Endpoints.{under_abort, drop_debt, end_abort}
use Rattle.machine.specs.Results.{Look, Result, done}
use Rattle.calls.specs.Answers.{is_accepted}
use Rattle.machine.specs.Grants.{Grants, barred}
use Rattle.machine.specs.Aborts.{Looked, look, after_look, pending_at, look_up_to, join, begin, ended, looked_own}
use Rattle.machine.specs.Aborts.{work_own, begin_after, finished, looked_other, work_other, under_badge, abort_from}
use Rattle.machine.specs.Aborts.{abort_open, abort_at, has_note, abort_unless, abort}
use Rattle.machine.specs.Machine.{by_caller, perform, step}
use Rattle.history.specs.Claim.{In}
use Rattle.history.specs.Heard.{Engaged, working, heard, GoesOn}
use Rattle.machine.proofs.Lists.{clash, put_same, put_again, put_self, mem_without}
use Rattle.machine.proofs.Permits.{performed, permitted}
use Rattle.machine.proofs.Preserved.Statuses.{owing_same}
use Rattle.machine.proofs.Preserved.Debts.{end_abort_entry}
use Rattle.machine.proofs.Preserved.AbortSteps.{steady_look_up_to}
use Rattle.machine.proofs.Calls.Changes.{still_choose}
use Rattle.machine.proofs.Calls.Marks.{look_moves_on}
use Rattle.machine.proofs.Calls.Answers.{noted_first}

module _ (g : Grants) (s : State) (t e a b : ℕ) (runs : s.runs ≡ some t)
    (accepted : is_accepted (step g s (Call.Abort e a b)).answer ≡ true) where
  abort_is : step g s (Call.Abort e a b) ≡ abort t e a b s
  unfolding perform
  abort_is =
      let P = permitted g s (Call.Abort e a b) accepted in
      performed g s (Call.Abort e a b) P.0 P.1
      ∙ ap (λ (o : Option ℕ). by_caller o (λ u. abort u e a b) s) runs

-- Broken off in its own abort

module _ (t e b : ℕ) where
  -- The result is broken off, in an abort of badge b, only with t in the set.
  abbrev WorksIn : Result → Type 0
  WorksIn r =
      r.answer.code ≡ 2 → under_abort b (r.state.endpoints e).abort ≡ true → (r.state.threads t).debt ≡ works e

  ended_works :
      (l : List ℕ) (k : List Look) (s : State) → (s.threads t).debt ≡ works e → WorksIn (ended l t e k s)
  unfolding ended
  ended_works [] k s w h u = absurd (omega arith)
  ended_works (v ∷ l) k s w h u = (still_choose s).debt t ∙ w

  own_works :
      (a : ℕ) (k : List Look) (s : State) → (s.threads t).debt ≡ works e → WorksIn (work_own t e a k s)
  unfolding work_own looked_own
  own_works a k s w =
      let r = look_up_to a (pending_at e s) e s in
      ended_works (pending_at e r.state) _ r.state ((steady_look_up_to a (pending_at e s) e s).debt t ∙ w)

  joined : (s : State) → ((join t e s).threads t).debt ≡ works e
  unfolding join
  joined s = owing_same s t (works e)

  begun : (s : State) → ((begin t e b s).threads t).debt ≡ works e
  unfolding begin
  begun s = joined _

  after_works :
      (n : ℕ) (k : List Look) (s : State) → (s.endpoints e).abort ≡ none → WorksIn (begin_after n t e b k s)
  unfolding begin_after
  after_works zero k s n h u = absurd (clash (sym ((still_choose s).under e b) ∙ u) (ap (under_abort b) n))
  after_works (suc m) k s n h u = own_works (suc m) k (begin t e b s) (begun s) h u

  finished_works :
      (l : List ℕ) (a : ℕ) (r : Looked) → under_abort b (r.state.endpoints e).abort ≡ false
      → WorksIn (finished l t e a b r)
  unfolding finished
  finished_works [] a r n h u =
      after_works _ r.looks (end_abort live e r.state)
      (ap (λ (x : Endpoint). x.abort) (end_abort_entry r.state e live)) h u
  finished_works (v ∷ l) a r n h u = absurd (clash (sym ((still_choose r.state).under e b) ∙ u) n)

  badge_works :
      (q : Bool) (a : ℕ) (s : State) → under_abort b (s.endpoints e).abort ≡ q → WorksIn (under_badge q t e a b s)
  unfolding under_badge work_other looked_other
  badge_works true a s h = own_works a [] (join t e s) (joined s)
  badge_works false a s h =
      let r = look_up_to a (pending_at e s) e s in
      finished_works (pending_at e r.state) a r (((steady_look_up_to a (pending_at e s) e s).entry e).under b ∙ h)

  open_works : (a : ℕ) (s : State) → WorksIn (abort_open t e a b s)
  unfolding abort_open abort_from
  open_works a s = go (s.endpoints e).abort refl
    where
      go : (o : Option Abort) → (s.endpoints e).abort ≡ o → WorksIn (abort_from o t e a b s)
      go none h = own_works a [] (begin t e b s) (begun s)
      go (some x) h = badge_works (eqb x.badge b) a s (ap (under_abort b) h)

  at_works : (x : Status) (a : ℕ) (s : State) → WorksIn (abort_at x t e a b s)
  unfolding abort_at
  at_works missing a s h u = absurd (omega arith)
  at_works closing a s h u = absurd (omega arith)
  at_works live a s h u = open_works a (drop_debt t s) h u

  abort_works : (a : ℕ) (s : State) → WorksIn (abort t e a b s)
  unfolding abort abort_unless
  abort_works a s = go (has_note e b (s.threads t).debt)
    where
      go : (x : Bool) → WorksIn (abort_unless x t e a b s)
      go true h u = absurd (omega arith)
      go false h u = at_works (s.endpoints e).status a s h u

-- A thread that was broken off in its own abort is engaged in it: it began or joined it.
pub engages :
    (g : Grants) (s : State) (t e a b : ℕ) (x : Abort) → s.runs ≡ some t
    → (step g s (Call.Abort e a b)).answer.code ≡ 2 → ((step g s (Call.Abort e a b)).state.endpoints e).abort ≡ some x
    → x.badge ≡ b → Engaged t e b (step g s (Call.Abort e a b)).state
engages g s t e a b x runs broken stands badge =
    working x stands badge
    (subst (λ (r : Result). WorksIn t e b r)
    (sym (abort_is g s t e a b runs (ap (λ (n : ℕ). leb n 2) broken)))
    (abort_works t e b a s) broken (ap (under_abort b) stands ∙ eq-eqb x.badge b badge))

-- Called again

-- Where t has the note, it is answered from it, and nothing else changes.
pub noted_again :
    (g : Grants) (s : State) (t e a b : ℕ) → s.runs ≡ some t → (s.threads t).debt ≡ noted e b
    → is_accepted (step g s (Call.Abort e a b)).answer ≡ true → step g s (Call.Abort e a b) ≡ done (drop_debt t s)
unfolding drop_debt
noted_again g s t e a b runs owed accepted =
    let P = permitted g s (Call.Abort e a b) accepted in
    noted_first g s t e a b P.0 runs
    (sym (ap (λ (o : Option ℕ). barred o g (Call.Abort e a b)) runs) ∙ P.1) owed

-- Whoever leaves the set and joins it again in one call is where it was.
join_again : (t e : ℕ) (s : State) → (s.threads t).debt ≡ works e → join t e (drop_debt t s) ≡ s
unfolding join drop_debt
join_again t e s owed =
    ap
    (λ (f : ℕ → Thread).
    record { threads = f; runs = s.runs; levels = s.levels; endpoints = s.endpoints; lines = s.lines })
    (put_again s.threads t (with_debt nothing (s.threads t)) _
    ∙ put_self s.threads t _
    (ap (with_debt (works e)) (put_same s.threads t (with_debt nothing (s.threads t)))
    ∙ ap (λ (d : Debt). with_debt d (s.threads t)) (sym owed)))

-- Every look is at one of those pending.
looked_pending :
    (n : ℕ) (l : List ℕ) (e : ℕ) (s : State) → pending_at e s ≡ l → (v : Look) → In v (look_up_to n l e s).looks
    → Mem v.waiter l
unfolding look_up_to after_look
looked_pending zero l e s h v i = absurd i
looked_pending (suc n) [] e s h v i = absurd i
looked_pending (suc n) (w ∷ l) e s h v (inl i) = inl (ap (λ (x : Look). x.waiter) i)
looked_pending (suc n) (w ∷ l) e s h v (inr i) =
    let m = looked_pending n (pending_at e (look e w s)) e (look e w s) refl v i in
    subst (λ (k : List ℕ). Mem v.waiter k) h
    (mem_without w v.waiter (pending_at e s)
    (subst (λ (k : List ℕ). Mem v.waiter k) (look_moves_on e w s) m)).0

ended_looks : (l : List ℕ) (t e : ℕ) (k : List Look) (s : State) → (ended l t e k s).looks ≡ k
unfolding ended
ended_looks [] t e k s = refl
ended_looks (w ∷ l) t e k s = refl

own_looks : (t e a : ℕ) (s : State) → (work_own t e a [] s).looks ≡ (look_up_to a (pending_at e s) e s).looks
unfolding work_own looked_own
own_looks t e a s = ended_looks _ t e _ _

goes_on :
    (t e a b : ℕ) (s : State) (x : Abort) → (s.threads t).debt ≡ works e → (s.endpoints e).abort ≡ some x → x.badge ≡ b
    → (y : Status) → is_accepted (abort_at y t e a b s).answer ≡ true → abort_at y t e a b s ≡ work_own t e a [] s
unfolding abort_at abort_open abort_from under_badge drop_debt
goes_on t e a b s x owed stands badge missing h = absurd (clash h refl)
goes_on t e a b s x owed stands badge closing h = absurd (clash h refl)
goes_on t e a b s x owed stands badge live h =
    ap (λ (o : Option Abort). abort_from o t e a b (drop_debt t s)) stands
    ∙ ap (λ (q : Bool). under_badge q t e a b (drop_debt t s)) (eq-eqb x.badge b badge)
    ∙ ap (work_own t e a []) (join_again t e s owed)

-- Where the abort that t works on stands, of this badge, it goes on with that.
pub works_again :
    (g : Grants) (s : State) (t e a b : ℕ) (x : Abort) → s.runs ≡ some t → (s.threads t).debt ≡ works e
    → (s.endpoints e).abort ≡ some x → x.badge ≡ b → is_accepted (step g s (Call.Abort e a b)).answer ≡ true
    → GoesOn g s t e a b
unfolding abort abort_unless
works_again g s t e a b x runs owed stands badge accepted =
    record { is = is; looks = λ v i. looked v (subst (λ (r : Result). In v r.looks) is i) }
  where
    unnoted : abort t e a b s ≡ abort_at (s.endpoints e).status t e a b s
    unnoted = ap (λ (d : Debt). abort_unless (has_note e b d) t e a b s) owed

    is : step g s (Call.Abort e a b) ≡ work_own t e a [] s
    is =
        let k = abort_is g s t e a b runs accepted ∙ unnoted in
        k ∙ goes_on t e a b s x owed stands badge (s.endpoints e).status
        (subst (λ (r : Result). is_accepted r.answer ≡ true) k accepted)

    looked : (v : Look) → In v (work_own t e a [] s).looks → Mem v.waiter (pending_at e s)
    looked v i =
        looked_pending a (pending_at e s) e s refl v (subst (λ (l : List Look). In v l) (own_looks t e a s) i)

-- Who is engaged in an abort and calls again begins none: it is answered from its note, with nothing else changed, or
-- goes on with the abort that it works on, looking at none but those whom that had still to look at.
pub engaged_again :
    (g : Grants) (s : State) (t e a b : ℕ) → s.runs ≡ some t → Engaged t e b s
    → is_accepted (step g s (Call.Abort e a b)).answer ≡ true
    → (step g s (Call.Abort e a b) ≡ done (drop_debt t s)) ⊎ GoesOn g s t e a b
engaged_again g s t e a b runs (working x stands badge owed) accepted =
    inr (works_again g s t e a b x runs owed stands badge accepted)
engaged_again g s t e a b runs (heard owed) accepted = inl (noted_again g s t e a b runs owed accepted)
