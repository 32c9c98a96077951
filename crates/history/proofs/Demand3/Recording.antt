-- One more call is recorded: what has to hold of it for the history to stay as it should.
use Prim.Native.Nat.{ℕ, suc, ◌≤◌, ◌<◌}
use mathlib.Core.Path.{◌≡◌, refl, sym, ◌∙◌, ap, subst}
use mathlib.Core.Logic.{◌⊎◌, inl, inr, ⊎_elim}
use mathlib.Core.Bool.{Bool, true, false, not}
use mathlib.Core.Option.{Option, some}
use mathlib.Core.List.{List, [], ◌∷◌, ◌++◌, map}
use native.Mathlib.Omega.{arith}
use lib.Dec.{eqb}
use lib.ListN.{length, get_elem?}
use borrow.Author.Tests.{eq-eqb, eqb-true}
use Rattle.calls.specs.declared.Answer.{Answer}
use Rattle.calls.specs.declared.Call.{Call}
use Rattle.calls.specs.declared.Call.TheVariants.{Receive, Abort}
use Rattle.machine.specs.Lists.{only, Rising}
use Rattle.machine.specs.State.{State}
use Rattle.machine.specs.Results.{Result}
use Rattle.calls.specs.Answers.{is_accepted}
use Rattle.machine.specs.Sound.{Sound}
use Rattle.history.specs.Sorts.{Sort, other, destroys, waits, receives, yields, removes, looks, sort_of}
use Rattle.history.specs.History.{Ended, Delivery, AbortCall, Waiting, Reported, History, is_in, waiting_in}
use Rattle.history.specs.History.{Books, named_looks}
use Rattle.history.specs.Outcomes.{Outcome, outcome_if}
use Rattle.history.specs.Recorded.{delivered, delivered_if, abort_calls_of, recorded, names_after}
use Rattle.history.specs.Claim.{In}
use Rattle.history.specs.Tied.{Tied}
use Rattle.history.proofs.Sublists.{entry_below, entry_keep, entry_last, entry_cases, length_grow}
use Rattle.history.proofs.Demand3.Standing.{within, naming, grown, Core}
use Rattle.history.proofs.Demand3.Invariant.{stage_of, Given, CallClaims, Recorded12, Recorded8, Inv, given_grow}
use Rattle.history.proofs.Demand3.Invariant.{called_grow}

-- The record of a call 8 answered 0, and of a call 12.
abbrev pub delivery_of : ℕ → Result → Waiting → History → Delivery
delivery_of e r w h =
    record {
      place = h.now;
      endpoint = e;
      badge = r.answer.badge;
      message = r.answer.message;
      queue = h.waiting.queues e;
      handed = only (λ x. not (is_in x (w.queues e))) (h.waiting.queues e);
    }

abbrev pub abort_call_of : ℕ → ℕ → ℕ → Result → Waiting → Option Reported → History → AbortCall
abort_call_of e a b r w x h =
    record {
      place = h.now;
      endpoint = e;
      allowance = a;
      badge = b;
      code = r.answer.code;
      count = r.answer.count;
      looks = named_looks h.since r.looks;
      reports = x;
      before = h.waiting;
      behind = w;
    }

-- The history as it is recorded by the machine's own queues: the books are any.
abbrev pub recorded_seen : Books → (ℕ → ℕ) → Outcome → Sort → Result → History → History
recorded_seen bk since o k r h = recorded since (waiting_in since r.state) bk o k r h

abbrev pub told_seen : Books → Call → State → Result → History → History
told_seen bk c s r h =
    recorded_seen bk (names_after c s r h) (outcome_if (is_accepted r.answer) (sort_of c) s.runs r h) (sort_of c) r h

module _ (bk : Books) (past : List Call) (s : State) (h : History) (I : Inv past s h) (c : Call) (r : Result)
    (since : ℕ → ℕ) (o : Outcome) where
  abbrev k : History
  k = recorded_seen bk since o (sort_of c) r h

  abbrev w : Waiting
  w = waiting_in since r.state

  -- What a call 8, and a call 12, has to show for its record.
  abbrev pub Duty8 : Sort → Type 0
  Duty8 other = Unit {0}
  Duty8 (destroys t) = Unit {0}
  Duty8 waits = Unit {0}
  Duty8 (receives e) = r.answer.code ≡ 0 → Given (past ++ (c ∷ [])) k (delivery_of e r w h)
  Duty8 yields = Unit {0}
  Duty8 (removes e) = Unit {0}
  Duty8 (looks e a b) = Unit {0}

  abbrev pub Duty12 : Sort → Type 0
  Duty12 other = Unit {0}
  Duty12 (destroys t) = Unit {0}
  Duty12 waits = Unit {0}
  Duty12 (receives e) = Unit {0}
  Duty12 yields = Unit {0}
  Duty12 (removes e) = Unit {0}
  Duty12 (looks e a b) = CallClaims k (abort_call_of e a b r w o.reports h)

  pub record Goes : Type 0 where
    pub sound : Sound r.state
    pub core :
        Core (grown c r.answer (naming since (within (stage_of past h)))) r.state.threads r.state.endpoints
        o.aborts.standing o.aborts.ended
    pub tied : Tied r.state.threads o.aborts.debts o.aborts.ended
    pub rising : (e : ℕ) → Rising (map since (r.state.endpoints e).waiters)
    pub stray : o.aborts.stray ≡ []
    pub new : (z : Ended) → In z o.aborts.ended → In z h.aborts.ended ⊎ (h.now ≤ z.by)
    pub kept : (z : Ended) → In z h.aborts.ended → In z o.aborts.ended
    pub duty8 : Duty8 (sort_of c)
    pub duty12 : Duty12 (sort_of c)

  -- Old and new records.
  old_delivery : (x : Sort) (d : Delivery) → In d h.deliveries → In d (delivered x r w h)
  unfolding delivered delivered_if
  old_delivery other d i = i
  old_delivery (destroys t) d i = i
  old_delivery waits d i = i
  old_delivery (receives e) d i = go (eqb r.answer.code 0)
    where
      go : (b : Bool) → In d (delivered_if b e r w h)
      go true = inr i
      go false = i
  old_delivery yields d i = i
  old_delivery (removes e) d i = i
  old_delivery (looks e a b) d i = i

  old_call : (x : Sort) (y : AbortCall) → In y h.abort_calls → In y (abort_calls_of x r w o.reports h)
  unfolding abort_calls_of
  old_call other y i = i
  old_call (destroys t) y i = i
  old_call waits y i = i
  old_call (receives e) y i = i
  old_call yields y i = i
  old_call (removes e) y i = i
  old_call (looks e a b) y i = inr i

  module _ (P : Delivery → Type 0) (old : (d : Delivery) → In d h.deliveries → P d) where
    deliveries :
        (x : Sort) → ((e : ℕ) → x ≡ receives e → r.answer.code ≡ 0 → P (delivery_of e r w h)) → (d : Delivery)
        → In d (delivered x r w h) → P d
    unfolding delivered delivered_if
    deliveries other new d i = old d i
    deliveries (destroys t) new d i = old d i
    deliveries waits new d i = old d i
    deliveries (receives e) new d i = go (eqb r.answer.code 0) refl i
      where
        go : (b : Bool) → eqb r.answer.code 0 ≡ b → In d (delivered_if b e r w h) → P d
        go true q (inl j) = subst P (sym j) (new e refl (eqb-true r.answer.code 0 q))
        go true q (inr j) = old d j
        go false q j = old d j
    deliveries yields new d i = old d i
    deliveries (removes e) new d i = old d i
    deliveries (looks e a b) new d i = old d i

  module _ (P : AbortCall → Type 0) (old : (y : AbortCall) → In y h.abort_calls → P y) where
    calls :
        (x : Sort) → ((e a b : ℕ) → x ≡ looks e a b → P (abort_call_of e a b r w o.reports h)) → (y : AbortCall)
        → In y (abort_calls_of x r w o.reports h) → P y
    unfolding abort_calls_of
    calls other new y i = old y i
    calls (destroys t) new y i = old y i
    calls waits new y i = old y i
    calls (receives e) new y i = old y i
    calls yields new y i = old y i
    calls (removes e) new y i = old y i
    calls (looks e a b) new y (inl j) = subst P (sym j) (new e a b refl)
    calls (looks e a b) new y (inr j) = old y j

  new_delivery : (e : ℕ) → c ≡ Receive e → r.answer.code ≡ 0 → In (delivery_of e r w h) (delivered (sort_of c) r w h)
  unfolding delivered delivered_if
  new_delivery e p q =
      subst (λ (x : Call). In (delivery_of e r w h) (delivered (sort_of x) r w h)) (sym p)
      (subst (λ (b : Bool). In (delivery_of e r w h) (delivered_if b e r w h)) (sym (eq-eqb r.answer.code 0 q))
      (inl refl))

  new_call :
      (e a b : ℕ) → c ≡ Abort e a b
      → In (abort_call_of e a b r w o.reports h) (abort_calls_of (sort_of c) r w o.reports h)
  unfolding abort_calls_of
  new_call e a b p =
      subst (λ (x : Call). In (abort_call_of e a b r w o.reports h) (abort_calls_of (sort_of x) r w o.reports h))
      (sym p) (inl refl)

  has12 : (i e a b : ℕ) → get_elem? (past ++ (c ∷ [])) i ≡ some (Abort e a b) → Recorded12 k i e a b
  unfolding recorded
  has12 i e a b p = go (entry_cases past c i (Abort e a b) p)
    where
      go : (get_elem? past i ≡ some (Abort e a b)) ⊎ ((i ≡ length past) × (c ≡ Abort e a b)) → Recorded12 k i e a b
      go (inl q) =
          let y = I.recorded12 i e a b q in (y.0, old_call (sort_of c) y.0 y.1, y.2, y.3, y.4, y.5)
      go (inr q) =
          (abort_call_of e a b r w o.reports h, new_call e a b q.1, I.now ∙ sym q.0, refl, refl, refl)

  has8 :
      (i e : ℕ) (a : Answer) → get_elem? (past ++ (c ∷ [])) i ≡ some (Receive e)
      → get_elem? (h.answers ++ (r.answer ∷ [])) i ≡ some a → a.code ≡ 0 → Recorded8 k i e a
  unfolding recorded
  has8 i e a p q z = go (entry_cases past c i (Receive e) p)
    where
      go : (get_elem? past i ≡ some (Receive e)) ⊎ ((i ≡ length past) × (c ≡ Receive e)) → Recorded8 k i e a
      go (inl j) =
          let m = entry_below past i (Receive e) j in
          let n : i < length h.answers = omega (arith, I.answered) in
          let d = I.recorded8 i e a j (sym (entry_keep h.answers (r.answer ∷ []) i n) ∙ q) z in
          (d.0, old_delivery (sort_of c) d.0 d.1, d.2, d.3, d.4, d.5)
      go (inr j) =
          let n : i ≡ length h.answers = j.0 ∙ sym I.answered in
          let last : some r.answer ≡ some a =
          sym (entry_last h.answers r.answer)
          ∙ ap (get_elem? (h.answers ++ (r.answer ∷ []))) (sym n) ∙ q in
          let same : r.answer ≡ a = cc in (
            delivery_of e r w h,
            new_delivery e j.1 (ap (λ (x : Answer). x.code) same ∙ z),
            I.now ∙ sym j.0,
            refl,
            ap (λ (x : Answer). x.badge) same,
            ap (λ (x : Answer). x.message) same,
          )

  pub goes : Goes → Inv (past ++ (c ∷ [])) r.state k
  unfolding recorded
  goes G =
      record {
        sound = G.sound;
        now = ap suc I.now ∙ sym (length_grow past c);
        answered = length_grow h.answers r.answer ∙ ap suc I.answered ∙ sym (length_grow past c);
        waiting = refl;
        core = G.core;
        tied = G.tied;
        rising = G.rising;
        stray = G.stray;
        given =
            deliveries (Given (past ++ (c ∷ [])) k)
            (λ d i. given_grow past c r.answer h k refl d (omega arith) earlier (I.given d i)) (sort_of c)
            (λ e p q. subst Duty8 p G.duty8 q);
        called =
            calls (CallClaims k) (λ y i. called_grow past c r.answer h k refl y G.kept (I.called y i)) (sort_of c)
            (λ e a b p. subst Duty12 p G.duty12);
        recorded12 = has12;
        recorded8 = has8;
      }
    where
      earlier :
          (z : Ended) → In z o.aborts.ended
          → (In z h.aborts.ended × (z.abort.began ≤ length past)) ⊎ (h.now ≤ z.by)
      earlier z i =
          ⊎_elim (λ j. inl (j, omega (arith, (I.core.over z j).exact.began, I.now))) inr (G.new z i)
