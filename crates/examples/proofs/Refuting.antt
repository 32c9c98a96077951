-- Statements refuted by computation: tests of a machine's run that make a statement false of the machine.
use Prim.Native.Nat.{ℕ, ◌≤◌}
use mathlib.Core.Path.{◌≡◌, refl, sym, ◌∙◌, ap, subst}
use mathlib.Core.Logic.{inl, inr}
use mathlib.Core.Bool.{Bool, true, false, ◌&&◌, ◌||◌, not, and-eq-true_iff, or-true}
use mathlib.Core.Option.{Option, none, some}
use mathlib.Core.List.{List, [], ◌∷◌}
use lib.Dec.{eqb, leb}
use borrow.Author.Tests.{eqb-true, eqb-false, not-true, le-leb, eq-eqb}
use Rattle.calls.specs.declared.Call.{Call}
use Rattle.calls.specs.declared.Call.TheVariants.{DestroyThread}
use Rattle.calls.specs.Calls.{number_of}
use Rattle.machine.specs.Lists.{Mem}
use Rattle.machine.specs.State.{State}
use Rattle.machine.specs.Results.{Result}
use Rattle.calls.specs.Answers.{is_accepted}
use Rattle.machine.specs.Grants.{Grants}
use Rattle.machine.specs.Machine.{is_running}
use Rattle.history.specs.Sorts.{Sort, other, destroys, waits, receives, yields, removes, looks, sort_of}
use Rattle.history.specs.History.{Aborting, Ended, Reported, NamedLook, AbortCall, History, is_in}
use Rattle.history.specs.Walk.{is_note_of}
use Rattle.history.specs.Outcomes.{deletes, walks, aborts_by, aborts_of, outcome_of, outcome_if}
use Rattle.history.specs.Recorded.{Run, recorded, told, result_in, next_run, run_from, fresh_run}
use Rattle.history.specs.Claim.{In, IsAbort, Claim}
use Rattle.history.specs.Heard.{AllAside, Twice, first_call, second_call, at_first, after_first, at_second}
use Rattle.history.specs.Heard.{after_second, latest, CallsAgain, OfAbort, SameAbort}
use Rattle.machine.proofs.Lists.{Same, same, other as unlike, same?, clash, put_other}
use Rattle.history.proofs.Sublists.{mem_is_in}
use Rattle.machine.proofs.Preserved.Ready.{none_some}

-- The claim is false where the latest call 12 is answered 0 and reports an abort that has not ended.

-- The call that the reported abort began in.
abbrev pub began_of : Option Reported → ℕ
began_of none = 0
began_of (some r) = r.began

abbrev pub answered_zero : List AbortCall → Bool
answered_zero [] = false
answered_zero (y ∷ l) = eqb y.code 0

abbrev pub report_began : List AbortCall → ℕ
report_began [] = 0
report_began (y ∷ l) = began_of y.reports

-- No abort of the list began in call n.
abbrev pub none_began : ℕ → List Ended → Bool
none_began n [] = true
none_began n (z ∷ l) = not (eqb z.abort.began n) && none_began n l

none_began_lem : (n : ℕ) (l : List Ended) → none_began n l ≡ true → (z : Ended) → In z l → z.abort.began ≡ n → ⊥
none_began_lem n [] h z i e = i
none_began_lem n (x ∷ l) h z (inl p) e =
    eqb-false x.abort.began n (not-true _ ((and-eq-true_iff (not (eqb x.abort.began n)) _).0 h).0)
    (ap (λ (y : Ended). y.abort.began) (sym p) ∙ e)
none_began_lem n (x ∷ l) h z (inr i) e =
    none_began_lem n l ((and-eq-true_iff (not (eqb x.abort.began n)) _).0 h).1 z i e

pub unended :
    (calls : List Call) (h : History) → answered_zero h.abort_calls ≡ true
    → none_began (report_began h.abort_calls) h.aborts.ended ≡ true → Claim calls h → ⊥
unended calls h z n C = go h.abort_calls refl z n
  where
    go :
        (l : List AbortCall) → h.abort_calls ≡ l → answered_zero l ≡ true
        → none_began (report_began l) h.aborts.ended ≡ true → ⊥
    go [] p a q = clash a refl
    go (y ∷ l) p a q =
        let R = C.reported_ended y (subst (In y) (sym p) (inl refl)) (eqb-true y.code 0 a) in
        none_began_lem (began_of y.reports) h.aborts.ended q R.ended.ended R.ended.found
        (ap (λ (r : Reported). r.began) R.ended.same ∙ ap began_of (sym R.is))

-- CallsAgain, but for what the first call reports.

runner : (o : Option ℕ) (t : ℕ) → is_running t o ≡ true → o ≡ some t
runner none t h = absurd (clash h refl)
runner (some u) t h = ap some (eqb-true u t h)

-- The call is a call 7 to 12 of t, or destroys a thread.
abbrev pub concerns : ℕ → Call → Run → Bool
concerns t c x =
    eqb (number_of c) 2 || (is_running t x.state.runs && (leb 7 (number_of c) && leb (number_of c) 12))

concerns_caller :
    (t : ℕ) (c : Call) (x : Run) → x.state.runs ≡ some t → 7 ≤ number_of c → number_of c ≤ 12 → concerns t c x ≡ true
concerns_caller t c x r l m = rw (r, eq-eqb t t refl, le-leb 7 _ l, le-leb _ 12 m) (or-true (eqb (number_of c) 2))

concerns_destroyed : (t u : ℕ) (c : Call) (x : Run) → c ≡ DestroyThread u → concerns t c x ≡ true
concerns_destroyed t u c x e = rw e refl

-- If not both, and the first, then not the second.
second : (a b : Bool) → not (a && b) ≡ true → a ≡ true → b ≡ false
second true b h e = not-true b h
second false b h e = absurd (clash e refl)

abbrev pub all_aside : (Grants → State → Call → Result) → ℕ → List Call → Run → Bool
all_aside f t [] x = true
all_aside f t (c ∷ l) x =
    not (concerns t c x && is_accepted (result_in f c x).answer) && all_aside f t l (next_run f c x)

all_aside_lem :
    (f : Grants → State → Call → Result) (t : ℕ) (l : List Call) (x : Run) → all_aside f t l x ≡ true → AllAside f t l x
all_aside_lem f t [] x h = tt
all_aside_lem f t (c ∷ l) x h =
    let k = (and-eq-true_iff (not (concerns t c x && is_accepted (result_in f c x).answer)) _).0 h in (
      record {
        calls = λ r m n. second _ _ k.0 (concerns_caller t c x r m n);
        stays = λ e. second _ _ k.0 (concerns_destroyed t _ c x e);
      },
      all_aside_lem f t l (next_run f c x) k.1,
    )

abbrev pub calls_again : (Grants → State → Call → Result) → Twice → Bool
calls_again f w =
    is_running w.thread (at_first f w).state.runs
    && (eqb (result_in f (first_call w) (at_first f w)).answer.code 2
    && (all_aside f w.thread w.between (after_first f w)
    && (is_running w.thread (at_second f w).state.runs
    && is_accepted (result_in f (second_call w) (at_second f w)).answer)))

abbrev pub report_in : Option AbortCall → Option Reported
report_in none = none
report_in (some y) = y.reports

found :
    (o : Option AbortCall) (r : Reported) → report_in o ≡ some r
    → (y : AbortCall) × (o ≡ some y) × (y.reports ≡ some r)
found none r h = absurd (none_some refl h)
found (some y) r h = (y, refl, h)

calls_again_lem :
    (f : Grants → State → Call → Result) (w : Twice) (r : Reported) → calls_again f w ≡ true
    → report_in (latest (after_first f w).history.abort_calls) ≡ some r → CallsAgain f w r
calls_again_lem f w r h k =
    let a = (and-eq-true_iff (is_running w.thread (at_first f w).state.runs) _).0 h in
    let b = (and-eq-true_iff (eqb (result_in f (first_call w) (at_first f w)).answer.code 2) _).0 a.1 in
    let c = (and-eq-true_iff (all_aside f w.thread w.between (after_first f w)) _).0 b.1 in
    let d = (and-eq-true_iff (is_running w.thread (at_second f w).state.runs) _).0 c.1 in
    let y = found _ r k in
    record {
      caller = runner _ w.thread a.0;
      broken_off = eqb-true _ 2 b.0;
      call = y.0;
      recorded = y.1;
      reports = y.2;
      aside = all_aside_lem f w.thread w.between (after_first f w) c.0;
      same_caller = runner _ w.thread d.0;
      accepted = d.1;
    }

-- At other endpoints than d no abort stands, where every call 11 and 12 of the list is of d, whatever the machine.

abbrev pub is_at : ℕ → Sort → Bool
is_at d other = true
is_at d (destroys t) = true
is_at d waits = true
is_at d (receives e) = true
is_at d yields = true
is_at d (removes e) = eqb e d
is_at d (looks e a b) = eqb e d

abbrev pub all_at : ℕ → List Call → Bool
all_at d [] = true
all_at d (c ∷ l) = is_at d (sort_of c) && all_at d l

elsewhere :
    (d e : ℕ) → (e ≡ d → ⊥) → (k : Sort) (accepted : Bool) (o : Option ℕ) (r : Result) (h : History) → is_at d k ≡ true
    → (outcome_if accepted k o r h).aborts.standing e ≡ h.aborts.standing e
unfolding outcome_if outcome_of deletes aborts_of aborts_by walks
elsewhere d e n k false o r h q = refl
elsewhere d e n other true o r h q = refl
elsewhere d e n (destroys t) true o r h q = refl
elsewhere d e n waits true o r h q = refl
elsewhere d e n (receives f) true o r h q = refl
elsewhere d e n yields true o r h q = refl
elsewhere d e n (removes f) true o r h q = go (h.aborts.standing f)
  where
    go : (x : Option Aborting) → (deletes x f o r h).aborts.standing e ≡ h.aborts.standing e
    go none = refl
    go (some x) = put_other _ f e _ (λ p. n (p ∙ eqb-true f d q))
elsewhere d e n (looks f a b) true none r h q = refl
elsewhere d e n (looks f a b) true (some t) r h q = go (is_note_of f b (h.aborts.debts.notes t))
  where
    go : (x : Bool) → (aborts_by x t f a b r h).aborts.standing e ≡ h.aborts.standing e
    go true = refl
    go false = put_other _ f e _ (λ p. n (p ∙ eqb-true f d q))

nowhere :
    (f : Grants → State → Call → Result) (d e : ℕ) → (e ≡ d → ⊥) → (l : List Call) (x : Run) → all_at d l ≡ true
    → x.history.aborts.standing e ≡ none → (run_from f l x).history.aborts.standing e ≡ none
unfolding run_from told recorded
nowhere f d e n [] x q h = h
nowhere f d e n (c ∷ l) x q h =
    let k = (and-eq-true_iff (is_at d (sort_of c)) _).0 q in
    nowhere f d e n l (next_run f c x) k.1 (elsewhere d e n (sort_of c) _ _ _ _ k.0 ∙ h)

-- SameAbort is false where the second call looks at a waiter that no abort began on.

abbrev pub look_in : Option AbortCall → List NamedLook
look_in none = []
look_in (some y) = y.looks

-- No abort of the list began on w.
abbrev pub not_onto : ℕ → List Ended → Bool
not_onto w [] = true
not_onto w (z ∷ l) = not (is_in w z.abort.onto) && not_onto w l

not_onto_lem : (w : ℕ) (l : List Ended) → not_onto w l ≡ true → (z : Ended) → In z l → Mem w z.abort.onto → ⊥
not_onto_lem w [] h z i m = i
not_onto_lem w (y ∷ l) h z (inl e) m =
    clash (mem_is_in w y.abort.onto (subst (λ (x : Ended). Mem w x.abort.onto) e m))
    (not-true _ ((and-eq-true_iff (not (is_in w y.abort.onto)) _).0 h).0)
not_onto_lem w (y ∷ l) h z (inr i) m =
    not_onto_lem w l ((and-eq-true_iff (not (is_in w y.abort.onto)) _).0 h).1 z i m

-- All calls 11 and 12 are of the endpoint.
abbrev pub at_one : Twice → Bool
at_one w = all_at w.endpoint w.before && all_at w.endpoint w.between

none_elsewhere :
    (f : Grants → State → Call → Result) (w : Twice) → at_one w ≡ true → (e : ℕ) → (e ≡ w.endpoint → ⊥)
    → (after_second f w).history.aborts.standing e ≡ none
unfolding run_from
none_elsewhere f w h e n =
    let q = (and-eq-true_iff (all_at w.endpoint w.before) _).0 h in
    let d = w.endpoint in
    let here : (b : Bool) → b ≡ true → b && true ≡ true = λ b h. rw h refl in
    let self = here _ (eq-eqb d d refl) in
    nowhere f d e n (second_call w ∷ []) (at_second f w) self
    (nowhere f d e n w.between (after_first f w) q.1
    (nowhere f d e n (first_call w ∷ []) (at_first f w) self (nowhere f d e n w.before fresh_run q.0 refl)))

looks_same : (o : Option AbortCall) (y : AbortCall) → o ≡ some y → look_in o ≡ y.looks
looks_same o y h = rw h refl

pub looks_astray :
    (f : Grants → State → Call → Result) (w : Twice) (r : Reported) (v : NamedLook) → calls_again f w ≡ true
    → report_in (latest (after_first f w).history.abort_calls) ≡ some r → at_one w ≡ true
    → In v (look_in (latest (after_second f w).history.abort_calls))
    → (after_second f w).history.aborts.standing w.endpoint ≡ none
    → not_onto v.waiter (after_second f w).history.aborts.ended ≡ true → SameAbort f → ⊥
looks_astray f w r v h k q i none_here n S = go o.known
  where
    o : OfAbort (after_second f w).history r
    o = S w r (calls_again_lem f w r h k)

    m : Mem v.waiter o.abort.onto
    m = o.looks v (subst (In v) (looks_same _ o.call o.recorded) i)

    go : IsAbort (after_second f w).history o.abort → ⊥
    go (inl (e, p)) = at (same? e w.endpoint)
      where
        at : Same e w.endpoint → ⊥
        at (same z _) =
            none_some none_here
            (subst (λ (u : ℕ). (after_second f w).history.aborts.standing u ≡ some o.abort) z p)
        at (unlike z _) = none_some (none_elsewhere f w q e z) p
    go (inr (z, j, p)) =
        not_onto_lem v.waiter (after_second f w).history.aborts.ended n z j
        (subst (λ (x : Aborting). Mem v.waiter x.onto) (sym p) m)
