-- Whoever is woken by a delete or an abort goes to the tail of its level, in the order of removal; in every state, of a
-- delete where nobody is queued twice. The chooser runs once, after them all.
use Prim.Native.Nat.{ℕ, zero, suc, ◌-◌}
use mathlib.Core.Path.{◌≡◌, refl, sym, ◌∙◌, ap, subst, fun_ext}
use mathlib.Core.Bool.{Bool, true, false}
use mathlib.Core.Option.{Option, none, some}
use mathlib.Core.List.{List, [], ◌∷◌, ◌++◌, append-nil, append_assoc}
use lib.Dec.{eqb}
use lib.ListN.{take}
use borrow.Author.Tests.{eq-eqb, ne_eqb}
use Rattle.calls.specs.declared.Call.{Call}
use Rattle.calls.specs.declared.Call.TheVariants.{Delete, Abort}
use Rattle.calls.specs.Answers.{is_accepted}
use Rattle.machine.specs.Lists.{pick, put, without, only, Distinct}
use Rattle.machine.specs.State as State
use Rattle.machine.specs.State.{State, Thread, able, Status, missing, live, closing, set_endpoint, with_place}
use Rattle.machine.specs.State.{missing_endpoint}
use Rattle.machine.specs.Scheduling.{enqueue, wake, choose}
use Rattle.machine.specs.Endpoints.{leave_endpoint, wake_from, drop_debt, note_all, note, end_abort}
use Rattle.machine.specs.Results.{Look, Result, removals}
use Rattle.machine.specs.Grants.{Grants}
use Rattle.machine.specs.Aborts.{Removal, one_more, remove_up_to, deleted, delete_from, delete_at, delete, hits}
use Rattle.machine.specs.Aborts.{look_at, look, Looked, after_look, look_up_to, pending_at, join, begin, ended}
use Rattle.machine.specs.Aborts.{looked_own, work_own, begin_after, finished, looked_other, work_other, under_badge}
use Rattle.machine.specs.Aborts.{abort_from, abort_open, abort_at, abort_unless, abort}
use Rattle.machine.specs.Machine.{by_caller, perform, step}
use Rattle.machine.specs.Work.{AllGoLast}
use Rattle.machine.proofs.Lists.{clash, put_all, put_same, without_first, only_nil, only_hit}
use Rattle.machine.proofs.Lists.{only_miss}
use Rattle.machine.proofs.Lists.{only_append}
use Rattle.machine.proofs.Permits.{performed, permitted}

-- In r each level has, behind all who stood there in s, those of the list who are of it; whoever ran runs.
record Behind (s : State) (l : List ℕ) (r : State) : Type 0 where
  pub levels : (p : ℕ) → r.levels p ≡ s.levels p ++ only (λ t. eqb (s.threads t).priority p) l
  pub priority : (t : ℕ) → (r.threads t).priority ≡ (s.threads t).priority
  pub runs : r.runs ≡ s.runs

-- Nobody is woken.
still :
    (s r : State) → r.levels ≡ s.levels → ((t : ℕ) → (r.threads t).priority ≡ (s.threads t).priority)
    → r.runs ≡ s.runs → Behind s [] r
still s r h k i =
    record {
      levels =
          λ p.
          ap (λ (f : ℕ → List ℕ). f p) h ∙ sym (append-nil (s.levels p))
          ∙ ap (λ (k : List ℕ). s.levels p ++ k) (sym (only_nil (λ t. eqb (s.threads t).priority p)));
      priority = k;
      runs = i;
    }

both : {s r z : State} {k l : List ℕ} → Behind s k r → Behind r l z → Behind s (k ++ l) z
both {s} {r} {z} {k} {l} A B =
    record {
      levels =
          λ p.
          let f : ℕ → Bool = λ t. eqb (s.threads t).priority p in
          B.levels p ∙ ap (λ (q : List ℕ). q ++ only (λ t. eqb (r.threads t).priority p) l) (A.levels p)
          ∙ ap (λ (g : ℕ → Bool). (s.levels p ++ only f k) ++ only g l)
          (fun_ext (λ t. ap (λ (n : ℕ). eqb n p) (A.priority t)))
          ∙ append_assoc (s.levels p) (only f k) (only f l)
          ∙ ap (λ (q : List ℕ). s.levels p ++ q) (sym (only_append f k l));
      priority = λ t. B.priority t ∙ A.priority t;
      runs = B.runs ∙ A.runs;
    }

-- The small steps

wakes : (e t o b m : ℕ) (s : State) → Behind s (t ∷ []) (wake_from e t o b m s)
unfolding wake_from leave_endpoint wake enqueue
wakes e t o b m s =
    record {
      levels =
          λ p.
          ap (λ (n : ℕ). put s.levels n (s.levels n ++ (t ∷ [])) p) own
          ∙ put_all (λ i q. q ≡ s.levels i ++ only (λ u. eqb (s.threads u).priority i) (t ∷ [])) s.levels
          (s.threads t).priority (s.levels (s.threads t).priority ++ (t ∷ [])) hit miss p;
      priority = put_all (λ u y. y.priority ≡ (s.threads u).priority) s.threads t _ refl (λ u n. refl);
      runs = refl;
    }
  where
    own : (put s.threads t (with_place able o b m (s.threads t)) t).priority ≡ (s.threads t).priority
    own = ap (λ (x : Thread). x.priority) (put_same s.threads t (with_place able o b m (s.threads t)))

    hit :
        s.levels (s.threads t).priority ++ (t ∷ [])
        ≡ s.levels (s.threads t).priority
        ++ only (λ u. eqb (s.threads u).priority (s.threads t).priority) (t ∷ [])
    hit =
        let f : ℕ → Bool = λ u. eqb (s.threads u).priority (s.threads t).priority in
        ap (λ (q : List ℕ). s.levels (s.threads t).priority ++ q)
        (sym (only_hit f t [] (eq-eqb (s.threads t).priority (s.threads t).priority refl)
        ∙ ap (λ (q : List ℕ). t ∷ q) (only_nil f)))

    miss :
        (i : ℕ) → (i ≡ (s.threads t).priority → ⊥)
        → s.levels i ≡ s.levels i ++ only (λ u. eqb (s.threads u).priority i) (t ∷ [])
    miss i n =
        let f : ℕ → Bool = λ u. eqb (s.threads u).priority i in
        sym (append-nil (s.levels i))
        ∙ ap (λ (q : List ℕ). s.levels i ++ q)
        (sym (only_miss f t [] (ne_eqb (s.threads t).priority i (λ h. n (sym h))) ∙ only_nil f))

drops : (t : ℕ) (s : State) → Behind s [] (drop_debt t s)
unfolding drop_debt
drops t s =
    still s _ refl (put_all (λ u y. y.priority ≡ (s.threads u).priority) s.threads t _ refl (λ u n. refl)) refl

joins : (t e : ℕ) (s : State) → Behind s [] (join t e s)
unfolding join
joins t e s =
    still s _ refl (put_all (λ u y. y.priority ≡ (s.threads u).priority) s.threads t _ refl (λ u n. refl)) refl

begins : (t e b : ℕ) (s : State) → Behind s [] (begin t e b s)
unfolding begin join
begins t e b s =
    still s _ refl (put_all (λ u y. y.priority ≡ (s.threads u).priority) s.threads t _ refl (λ u n. refl)) refl

notes : (o : Option State.Abort) (e : ℕ) (s : State) → Behind s [] (note o e s)
unfolding note note_all
notes none e s = still s _ refl (λ t. refl) refl
notes (some a) e s = still s _ refl (λ t. refl) refl

ends : (x : Status) (e : ℕ) (s : State) → Behind s [] (end_abort x e s)
unfolding end_abort
ends x e s = go (s.endpoints e).abort
  where
    go : (o : Option State.Abort)
        → Behind s []
        (set_endpoint e (record { status = x; waiters = (s.endpoints e).waiters; abort = none }) (note o e s))
    go o = record { levels = (notes o e s).levels; priority = (notes o e s).priority; runs = (notes o e s).runs }

-- The removals of a delete, and the looks of an abort

leaves : (e t o b m : ℕ) (s : State) → ((wake_from e t o b m s).endpoints e).waiters ≡ without t (s.endpoints e).waiters
unfolding wake_from leave_endpoint wake enqueue
leaves e t o b m s = ap (λ (x : State.Endpoint). x.waiters) (put_same s.endpoints e _)

removes :
    (n : ℕ) (l : List ℕ) (e : ℕ) (s : State) → (s.endpoints e).waiters ≡ l → Distinct l
    → Behind s (take (remove_up_to n l e s).count l) (remove_up_to n l e s).state
unfolding remove_up_to one_more
removes zero l e s h d = still s s refl (λ t. refl) refl
removes (suc n) [] e s h d = still s s refl (λ t. refl) refl
removes (suc n) (w ∷ l) e s h d =
    go (wake_from e w 4 0 0 s) (leaves e w 4 0 0 s ∙ ap (without w) h ∙ without_first w l d) (wakes e w 4 0 0 s)
    (λ z q. removes n l e z q d.1)
  where
    go : (r : State) → (r.endpoints e).waiters ≡ l → Behind s (w ∷ []) r
        → ((z : State) → (z.endpoints e).waiters ≡ l
        → Behind z (take (remove_up_to n l e z).count l) (remove_up_to n l e z).state)
        → Behind s (w ∷ take (remove_up_to n (r.endpoints e).waiters e r).count l)
        (remove_up_to n (r.endpoints e).waiters e r).state
    go r q A ih =
        subst
        (λ (k : List ℕ). Behind s (w ∷ take (remove_up_to n k e r).count l) (remove_up_to n k e r).state) (sym q)
        (both A (ih r q))

pub removals_append : (k l : List Look) → removals (k ++ l) ≡ removals k ++ removals l
removals_append [] l = refl
removals_append (x ∷ k) l = go x.removed (removals_append k l)
  where
    go : (b : Bool) → removals (k ++ l) ≡ removals k ++ removals l
        → pick b (x.waiter ∷ removals (k ++ l)) (removals (k ++ l))
        ≡ pick b (x.waiter ∷ removals k) (removals k) ++ removals l
    go true h = ap (λ (r : List ℕ). x.waiter ∷ r) h
    go false h = h

looks_at : (b : Bool) (e w : ℕ) (s : State) → Behind s (pick b (w ∷ []) []) (look_at b e w s)
unfolding look_at
looks_at true e w s = wakes e w 3 0 0 s
looks_at false e w s = still s _ refl (λ t. refl) refl

pick_first : (b : Bool) (w : ℕ) (l : List ℕ) → pick b (w ∷ []) [] ++ l ≡ pick b (w ∷ l) l
pick_first true w l = refl
pick_first false w l = refl

looks_up :
    (n : ℕ) (l : List ℕ) (e : ℕ) (s : State) → Behind s (removals (look_up_to n l e s).looks) (look_up_to n l e s).state
unfolding look_up_to after_look look
looks_up zero l e s = still s s refl (λ t. refl) refl
looks_up (suc n) [] e s = still s s refl (λ t. refl) refl
looks_up (suc n) (w ∷ l) e s =
    subst (λ (k : List ℕ). Behind s k (look_up_to n (pending_at e (look e w s)) e (look e w s)).state)
    (pick_first (hits e w s) w (removals (look_up_to n (pending_at e (look e w s)) e (look e w s)).looks))
    (both (looks_at (hits e w s) e w s) (looks_up n (pending_at e (look e w s)) e (look e w s)))

-- A result that the chooser made of a state with these behind.
record Chosen (s : State) (l : List ℕ) (r : State) : Type 0 where
  pub handed : State
  pub chosen : r ≡ choose handed
  pub behind : Behind s l handed

chosen_self : {s : State} {l : List ℕ} (r : State) → Behind s l r → Chosen s l (choose r)
chosen_self r A = record { handed = r; chosen = refl; behind = A }

then_still : {s r z : State} {l : List ℕ} → Behind s l r → Behind r [] z → Behind s l z
then_still {s} {r} {z} {l} A B = subst (λ (k : List ℕ). Behind s k z) (append-nil l) (both A B)

-- 11

deletes_to :
    {s : State} {k : List ℕ} (l : List ℕ) (e : ℕ) (r : Removal) → Behind s k r.state
    → Chosen s k (deleted l e r).state
unfolding deleted
deletes_to [] e r A =
    chosen_self (set_endpoint e missing_endpoint r.state)
    (record { levels = A.levels; priority = A.priority; runs = A.runs })
deletes_to (w ∷ l) e r A = chosen_self r.state A

waiters_end : (x : Status) (e : ℕ) (s : State) → ((end_abort x e s).endpoints e).waiters ≡ (s.endpoints e).waiters
unfolding end_abort note note_all
waiters_end x e s = go (s.endpoints e).abort
  where
    go : (o : Option State.Abort)
        → (put (note o e s).endpoints e (record { status = x; waiters = (s.endpoints e).waiters; abort = none }) e
        ).waiters
        ≡ (s.endpoints e).waiters
    go o = ap (λ (y : State.Endpoint). y.waiters) (put_same (note o e s).endpoints e _)

waiters_drop : (t e : ℕ) (s : State) → ((drop_debt t s).endpoints e).waiters ≡ (s.endpoints e).waiters
unfolding drop_debt
waiters_drop t e s = refl

counted_all : (l : List ℕ) (e : ℕ) (k : Removal) → (deleted l e k).answer.count ≡ k.count
unfolding deleted
counted_all [] e k = refl
counted_all (w ∷ l) e k = refl

closes :
    (t e a : ℕ) (s : State) → Distinct (s.endpoints e).waiters
    → Chosen s
    (take (delete_from e a (end_abort closing e (drop_debt t s))).answer.count (s.endpoints e).waiters)
    (delete_from e a (end_abort closing e (drop_debt t s))).state
unfolding delete_from
closes t e a s d =
    go (end_abort closing e (drop_debt t s)) (waiters_end closing e (drop_debt t s) ∙ waiters_drop t e s)
    (both (drops t s) (ends closing e (drop_debt t s)))
  where
    go : (r : State) → (r.endpoints e).waiters ≡ (s.endpoints e).waiters → Behind s [] r
        → Chosen s (take (delete_from e a r).answer.count (s.endpoints e).waiters) (delete_from e a r).state
    go r q A =
        let k = remove_up_to a (r.endpoints e).waiters e r in
        subst (λ (n : ℕ). Chosen s (take n (s.endpoints e).waiters) (delete_from e a r).state)
        (sym (counted_all (k.state.endpoints e).waiters e k))
        (deletes_to (k.state.endpoints e).waiters e k
        (subst (λ (l : List ℕ). Behind s (take k.count l) k.state) q
        (both A (removes a (r.endpoints e).waiters e r refl (subst Distinct (sym q) d)))))

deletes :
    (x : Status) (t e a : ℕ) (s : State) → Distinct (s.endpoints e).waiters
    → is_accepted (delete_at x t e a s).answer ≡ true
    → Chosen s (take (delete_at x t e a s).answer.count (s.endpoints e).waiters) (delete_at x t e a s).state
unfolding delete_at
deletes missing t e a s d h = absurd (clash h refl)
deletes live t e a s d h = closes t e a s d
deletes closing t e a s d h = closes t e a s d

deletes_by :
    (o : Option ℕ) (e a : ℕ) (s : State) → Distinct (s.endpoints e).waiters
    → is_accepted (by_caller o (λ t. delete t e a) s).answer ≡ true
    → Chosen s (take (by_caller o (λ t. delete t e a) s).answer.count (s.endpoints e).waiters)
    (by_caller o (λ t. delete t e a) s).state
unfolding delete
deletes_by none e a s d h = absurd (clash h refl)
deletes_by (some t) e a s d h = deletes _ t e a s d h

-- 12

abbrev Looks : State → Result → Type 0
Looks s r = Chosen s (removals r.looks) r.state

ended_own_lem : (l : List ℕ) (t e : ℕ) (v : List Look) (s r : State) → Behind s (removals v) r
    → Looks s (ended l t e v r)
unfolding ended
ended_own_lem [] t e v s r A =
    chosen_self (end_abort live e (drop_debt t r)) (then_still (then_still A (drops t r)) (ends live e (drop_debt t r)))
ended_own_lem (w ∷ l) t e v s r A = chosen_self r A

works_own : (t e a : ℕ) (v : List Look) (s r : State) → Behind s (removals v) r → Looks s (work_own t e a v r)
unfolding work_own looked_own
works_own t e a v s r A =
    let k = look_up_to a (pending_at e r) e r in
    ended_own_lem (pending_at e k.state) t e (v ++ k.looks) s k.state
    (subst (λ (l : List ℕ). Behind s l k.state) (sym (removals_append v k.looks))
    (both A (looks_up a (pending_at e r) e r)))

begins_after : (n t e b : ℕ) (v : List Look) (s r : State) → Behind s (removals v) r → Looks s (begin_after n t e b v r)
unfolding begin_after
begins_after zero t e b v s r A = chosen_self r A
begins_after (suc n) t e b v s r A = works_own t e (suc n) v s (begin t e b r) (then_still A (begins t e b r))

finishes :
    (l : List ℕ) (t e a b : ℕ) (k : Looked) (s : State) → Behind s (removals k.looks) k.state
    → Looks s (finished l t e a b k)
unfolding finished
finishes [] t e a b k s A =
    begins_after _ t e b k.looks s (end_abort live e k.state) (then_still A (ends live e k.state))
finishes (w ∷ l) t e a b k s A = chosen_self k.state A

under : (x : Bool) (t e a b : ℕ) (s r : State) → Behind s [] r → Looks s (under_badge x t e a b r)
unfolding under_badge work_other looked_other
under true t e a b s r A = works_own t e a [] s (join t e r) (both A (joins t e r))
under false t e a b s r A = finishes _ t e a b _ s (both A (looks_up a (pending_at e r) e r))

opens : (o : Option State.Abort) (t e a b : ℕ) (s r : State) → Behind s [] r → Looks s (abort_from o t e a b r)
unfolding abort_from
opens none t e a b s r A = works_own t e a [] s (begin t e b r) (both A (begins t e b r))
opens (some x) t e a b s r A = under (eqb x.badge b) t e a b s r A

aborts_at :
    (x : Status) (t e a b : ℕ) (s : State) → is_accepted (abort_at x t e a b s).answer ≡ true
    → Looks s (abort_at x t e a b s)
unfolding abort_at abort_open
aborts_at missing t e a b s h = absurd (clash h refl)
aborts_at closing t e a b s h = absurd (clash h refl)
aborts_at live t e a b s h = opens ((drop_debt t s).endpoints e).abort t e a b s (drop_debt t s) (drops t s)

aborts :
    (x : Bool) (t e a b : ℕ) (s : State) → is_accepted (abort_unless x t e a b s).answer ≡ true
    → Looks s (abort_unless x t e a b s)
unfolding abort_unless
aborts true t e a b s h = chosen_self (drop_debt t s) (drops t s)
aborts false t e a b s h = aborts_at (s.endpoints e).status t e a b s h

aborts_by_lem :
    (o : Option ℕ) (e a b : ℕ) (s : State) → is_accepted (by_caller o (λ t. abort t e a b) s).answer ≡ true
    → Looks s (by_caller o (λ t. abort t e a b) s)
unfolding abort
aborts_by_lem none e a b s h = absurd (clash h refl)
aborts_by_lem (some t) e a b s h = aborts _ t e a b s h

-- The calls

module _ (g : Grants) (s : State) where
  all_last : (c : Call) (l : List ℕ) → Chosen s l (step g s c).state → AllGoLast g s c l
  all_last c l C =
      record {
        handed = C.handed;
        chosen = C.chosen;
        last = C.behind.levels;
        runs = C.behind.runs;
      }

  as_performed : (c : Call) → is_accepted (step g s c).answer ≡ true → step g s c ≡ perform c s
  as_performed c h = let P = permitted g s c h in performed g s c P.0 P.1

  -- "A woken thread joins the tail", of a delete: those whom it removed, the first of the queue, as many as it counts.
  pub deletes_last :
      (e a : ℕ) → is_accepted (step g s (Delete e a)).answer ≡ true → Distinct (s.endpoints e).waiters
      → AllGoLast g s (Delete e a) (take (step g s (Delete e a)).answer.count (s.endpoints e).waiters)
  unfolding perform
  deletes_last e a h d =
      let i = as_performed (Delete e a) h in
      all_last (Delete e a) _
      (subst (λ (r : Result). Chosen s (take r.answer.count (s.endpoints e).waiters) r.state) (sym i)
      (deletes_by s.runs e a s d (subst (λ (r : Result). is_accepted r.answer ≡ true) i h)))

  -- Of an abort: those whom its looks removed.
  pub aborts_last :
      (e a b : ℕ) → is_accepted (step g s (Abort e a b)).answer ≡ true
      → AllGoLast g s (Abort e a b) (removals (step g s (Abort e a b)).looks)
  unfolding perform
  aborts_last e a b h =
      let i = as_performed (Abort e a b) h in
      all_last (Abort e a b) _
      (subst (λ (r : Result). Looks s r) (sym i)
      (aborts_by_lem s.runs e a b s (subst (λ (r : Result). is_accepted r.answer ≡ true) i h)))
