-- Whatever others do, t works on the abort r at e or has heard of its end: call by call, for any machine.
use Prim.Native.Nat.{ℕ}
use mathlib.Core.Path.{◌≡◌, refl, sym, ◌∙◌, ap, subst}
use mathlib.Core.Bool.{Bool, true, false}
use mathlib.Core.Option.{Option, none, some}
use mathlib.Core.List.{List, [], ◌∷◌}
use native.Mathlib.Omega.{arith}
use Rattle.calls.specs.declared.Call.{Call}
use Rattle.calls.specs.declared.Call.TheVariants.{CreateThread, DestroyThread, SetPriority, CreateEndpoint}
use Rattle.calls.specs.declared.Call.TheVariants.{Interrupt, Tick, Send, Receive, Yield, Wait, Delete, Abort}
use Rattle.calls.specs.declared.Call.TheVariants.{Grant}
use Rattle.machine.specs.Lists.{put}
use Rattle.machine.specs.State.{State}
use Rattle.machine.specs.Results.{Result}
use Rattle.calls.specs.Answers.{is_accepted}
use Rattle.machine.specs.Grants.{Grants}
use Rattle.history.specs.Sorts.{Sort, other, destroys, waits, receives, yields, removes, looks, sort_of}
use Rattle.history.specs.History.{Aborting, Reported, Aborts, History, named_looks}
use Rattle.history.specs.Walk.{Walk, Walker, is_note_of, hears, report_of, walk, close}
use Rattle.history.specs.Outcomes.{let_go_by, deletes, walker_of, start_of, walks, aborts_by, aborts_of, outcome_of}
use Rattle.history.specs.Outcomes.{outcome_if}
use Rattle.history.specs.Recorded.{recorded, told, Run, result_in, next_run, run_from}
use Rattle.history.specs.Heard.{Aside, AllAside}
use Rattle.machine.proofs.Lists.{Same, same, other as differs, same?, clash, put_same, put_other}
use Rattle.history.proofs.Hearing.Sets.{Alike, alike_then, alike_go, alike_come, alike_by, alike_end, Bound}
use Rattle.history.proofs.Hearing.Sets.{bound_alike, elsewhere, bound_end}
use Rattle.history.proofs.Hearing.Walks.{leaves_walk, leaves_close, stays_walk, stays_close}

module _ (t e : ℕ) (r : Reported) where
  -- t works on the abort r at e or has heard of its end.
  abbrev pub Knows : Aborts → Type 0
  Knows a = Bound t e r (a.standing e) a.debts

  -- The abort x that stands at f ends by a call 11 of another.
  delete_at_lem :
      (x : Aborting) (f : ℕ) (o : Option ℕ) (y : Result) (h : History) → (o ≡ some t → ⊥)
      → h.aborts.standing f ≡ some x → Knows h.aborts → Same f e → Knows (deletes (some x) f o y h).aborts
  unfolding deletes
  delete_at_lem x f o y h n i K (same j _) =
      subst (λ (k : ℕ).
      Bound t e r (put h.aborts.standing k none e) (hears k (report_of x) (let_go_by o h.aborts.debts))) (sym j)
      (bound_end x (put h.aborts.standing e none e)
      (bound_alike (alike_by t o h.aborts.debts n)
      (subst (λ (p : Option Aborting). Bound t e r p h.aborts.debts) (ap h.aborts.standing (sym j) ∙ i) K)))
  delete_at_lem x f o y h n i K (differs j _) =
      let A = alike_by t o h.aborts.debts n in
      rw (put_other h.aborts.standing f e none (λ k. j (sym k)))
      (bound_alike (alike_then A (alike_end t f (report_of x) _ (A.members f ∙ elsewhere K f j))) K)

  knows_deletes :
      (f : ℕ) (o : Option ℕ) (y : Result) (h : History) → (o ≡ some t → ⊥) → Knows h.aborts
      → Knows (deletes (h.aborts.standing f) f o y h).aborts
  unfolding deletes
  knows_deletes f o y h n K = go (h.aborts.standing f) refl
    where
      go : (p : Option Aborting) → h.aborts.standing f ≡ p → Knows (deletes p f o y h).aborts
      go none i = bound_alike (alike_by t o h.aborts.debts n) K
      go (some x) i = delete_at_lem x f o y h n i K (same? f e)

  -- A call 12 of another, u, that is not answered from a note.
  module _ (u f a b : ℕ) (y : Result) (h : History) (n : t ≡ u → ⊥) (K : Knows h.aborts) where
    abbrev walker : Walker
    walker = walker_of u f b h

    abbrev start : Walk
    start = start_of u f b h

    abbrev walk_to : Walk
    walk_to = walk (named_looks h.since y.looks) a walker start

    comes : Alike t h.aborts.debts start.debts
    comes = alike_come t u n f b (h.aborts.standing f) h.aborts.debts

    knows_walks : Knows (walks u f a b y h).aborts
    unfolding walks
    knows_walks = go (same? f e)
      where
        go : Same f e → Bound t e r (put h.aborts.standing f (close walker walk_to).standing e)
            (close walker walk_to).debts
        go (same j _) =
            subst
            (λ (k : ℕ).
            Bound t k r (put h.aborts.standing f (close walker walk_to).standing k) (close walker walk_to).debts)
            j
            (rw (put_same h.aborts.standing f (close walker walk_to).standing)
            (stays_close t walker n r walk_to
            (stays_walk t walker n r (named_looks h.since y.looks) a start
            (bound_alike comes
            (subst (λ (k : ℕ). Bound t k r (h.aborts.standing k) h.aborts.debts) (sym j) K)))))
        go (differs j _) =
            let out = comes.members f ∙ elsewhere K f j in
            let A = leaves_walk t walker n (named_looks h.since y.looks) a start out in
            rw (put_other h.aborts.standing f e (close walker walk_to).standing (λ k. j (sym k)))
            (bound_alike
            (alike_then (alike_then comes A) (leaves_close t walker n walk_to (A.members f ∙ out))) K)

  knows_aborts :
      (u f a b : ℕ) (y : Result) (h : History) → (t ≡ u → ⊥) → Knows h.aborts
      → Knows (aborts_by (is_note_of f b (h.aborts.debts.notes u)) u f a b y h).aborts
  unfolding aborts_by
  knows_aborts u f a b y h n K = go (is_note_of f b (h.aborts.debts.notes u))
    where
      go : (q : Bool) → Knows (aborts_by q u f a b y h).aborts
      go true = bound_alike (alike_go t u n h.aborts.debts) K
      go false = knows_walks u f a b y h n K

  -- The accepted call of this sort, with o running, is none of t and not its destruction.
  abbrev ByOther : Sort → Option ℕ → Type 0
  ByOther other o = Unit {0}
  ByOther (destroys u) o = u ≡ t → ⊥
  ByOther waits o = o ≡ some t → ⊥
  ByOther (receives f) o = o ≡ some t → ⊥
  ByOther yields o = o ≡ some t → ⊥
  ByOther (removes f) o = o ≡ some t → ⊥
  ByOther (looks f a b) o = o ≡ some t → ⊥

  knows_outcome :
      (k : Sort) (o : Option ℕ) (y : Result) (h : History) → ByOther k o → Knows h.aborts
      → Knows (outcome_of k o y h).aborts
  unfolding outcome_of aborts_of
  knows_outcome other o y h n K = K
  knows_outcome (destroys u) o y h n K = bound_alike (alike_go t u (λ i. n (sym i)) h.aborts.debts) K
  knows_outcome waits o y h n K = bound_alike (alike_by t o h.aborts.debts n) K
  knows_outcome (receives f) o y h n K = bound_alike (alike_by t o h.aborts.debts n) K
  knows_outcome yields o y h n K = bound_alike (alike_by t o h.aborts.debts n) K
  knows_outcome (removes f) o y h n K = knows_deletes f o y h n K
  knows_outcome (looks f a b) none y h n K = K
  knows_outcome (looks f a b) (some u) y h n K = knows_aborts u f a b y h (λ i. n (ap some (sym i))) K

  module _ (m : Grants → State → Call → Result) where
    -- An accepted call aside is of another.
    by_other :
        (c : Call) (x : Run) → Aside m t c x → is_accepted (result_in m c x).answer ≡ true
        → ByOther (sort_of c) x.state.runs
    by_other (CreateThread u p) x A i = tt
    by_other (DestroyThread u) x A i = λ j. clash i (A.stays (ap DestroyThread j))
    by_other (SetPriority u p) x A i = tt
    by_other (CreateEndpoint f) x A i = tt
    by_other (Interrupt l) x A i = tt
    by_other Tick x A i = tt
    by_other (Send f b w) x A i = λ j. clash i (A.calls j (omega arith) (omega arith))
    by_other (Receive f) x A i = λ j. clash i (A.calls j (omega arith) (omega arith))
    by_other Yield x A i = λ j. clash i (A.calls j (omega arith) (omega arith))
    by_other (Wait l) x A i = λ j. clash i (A.calls j (omega arith) (omega arith))
    by_other (Delete f a) x A i = λ j. clash i (A.calls j (omega arith) (omega arith))
    by_other (Abort f a b) x A i = λ j. clash i (A.calls j (omega arith) (omega arith))
    by_other (Grant u f g b) x A i = tt

    knows_next :
        (c : Call) (x : Run) → Aside m t c x → Knows x.history.aborts → Knows (next_run m c x).history.aborts
    unfolding told recorded outcome_if
    knows_next c x A K = go (is_accepted (result_in m c x).answer) refl
      where
        go : (q : Bool) → is_accepted (result_in m c x).answer ≡ q
            → Knows (outcome_if q (sort_of c) x.state.runs (result_in m c x) x.history).aborts
        go true i = knows_outcome (sort_of c) x.state.runs (result_in m c x) x.history (by_other c x A i) K
        go false i = K

    -- Through calls aside of t it stays so.
    pub knows_still :
        (l : List Call) (x : Run) → AllAside m t l x → Knows x.history.aborts
        → Knows (run_from m l x).history.aborts
    unfolding run_from
    knows_still [] x A K = K
    knows_still (c ∷ l) x A K = knows_still l (next_run m c x) A.1 (knows_next c x A.0 K)
