-- Every result of the machine is a refusal by 29 or has one of six shapes. The sentences about answers follow from
-- them, by cases.
use Prim.Native.Nat.{ℕ, zero, suc, ◌+◌, ◌-◌, ◌≤◌, ◌<◌}
use mathlib.Core.Path.{◌≡◌, refl, sym, ◌∙◌, ap, subst}
use mathlib.Core.Logic.{◌⊎◌, inl, inr, ◌↔◌, ⊎_elim}
use mathlib.Core.Bool.{Bool, true, false}
use mathlib.Core.Option.{Option, none, some}
use mathlib.Core.List.{List, [], ◌∷◌, ◌++◌}
use native.Mathlib.Omega.{arith}
use native.Mathlib.Nat.{le_of_eq}
use lib.Dec.{eqb, lit≤}
use lib.ListN.{length, length-append}
use Rattle.calls.specs.declared.Call.{Call}
use Rattle.calls.specs.declared.Call.TheVariants.{CreateThread, DestroyThread, SetPriority, CreateEndpoint}
use Rattle.calls.specs.declared.Call.TheVariants.{Interrupt, Tick, Send, Receive, Yield, Wait, Delete, Abort}
use Rattle.calls.specs.declared.Call.TheVariants.{Grant}
use Rattle.calls.specs.Calls.{number_of, in_range}
use Rattle.machine.specs.Lists.{Mem, Distinct}
use Rattle.machine.specs.State as State
use Rattle.machine.specs.State.{State, Status, missing, live, closing, Line, quiet, pending, awaited, Endpoint}
use Rattle.machine.specs.State.{missing_endpoint, set_endpoint}
use Rattle.machine.specs.Scheduling.{choose}
use Rattle.machine.specs.Endpoints.{pending_of, drop_debt, end_abort}
use Rattle.machine.specs.Results.{Look, Result, refuse, accept}
use Rattle.calls.specs.Answers.{plain, counted, receipt}
use Rattle.machine.specs.Grants.{Grants, barred}
use Rattle.machine.specs.Aborts.{Removal, remove_up_to, deleted, delete_from, delete_at, delete, Looked, pending_at}
use Rattle.machine.specs.Aborts.{look_up_to, begin, join, ended, looked_own, work_own, begin_after, finished}
use Rattle.machine.specs.Aborts.{looked_other, work_other, under_badge, abort_from, abort_open, abort_at, abort_unless}
use Rattle.machine.specs.Aborts.{abort}
use Rattle.machine.specs.Machine.{create_if, create_thread, destroy_if, destroy_thread, priority_if, set_priority}
use Rattle.machine.specs.Machine.{create_at, create_endpoint, interrupt, tick, send_to, send_unless, send_at, send}
use Rattle.machine.specs.Machine.{receive_from, receive_at, receive, yield, wait_at, wait, by_caller, perform}
use Rattle.machine.specs.Machine.{grant_at, grant_if, grant, perform_unless, perform_if, step}
use Rattle.machine.specs.Work.{allowance_of, WorkLeft, to_remove, to_look, not_begun}
use Rattle.machine.proofs.Lists.{Same, same, other, same?, put_same}
use Rattle.calls.proofs.Ranges.{bounds}
use Rattle.machine.proofs.Running.{choose_keeps}
use Rattle.machine.proofs.Calls.Loops.{Removed, removes, looks}

-- The call's own abort was begun in it or before: another badge's, if one stood, wanted fewer looks than the allowance.
abbrev pub OwnBegun : State → ℕ → ℕ → ℕ → Type 0
OwnBegun s e a b =
    (x : State.Abort) → (s.endpoints e).abort ≡ some x → (x.badge ≡ b → ⊥) → Distinct x.pending
    → length x.pending < a

-- The code n is 2 exactly where the count j is the allowance of the call, from state s to state r, and it left work.
abbrev pub Exact : State → Call → ℕ → ℕ → State → Type 0
Exact s c n j r = (n ≡ 2) ↔ ((j ≡ allowance_of c) × WorkLeft s r c)

-- What a call made in state s comes to, where its caller lacks no right.
pub data Shape (s : State) : Call → Result → Type 0 where
  refused : {c : Call} (n : ℕ) → 19 ≤ n → n ≤ 27 → Shape s c (refuse n s)
  plainly : {c : Call} (n : ℕ) (r : State) → n ≤ 1 → number_of c ≤ 10 → Shape s c (accept (plain n) [] r)
  granted : {t e k b : ℕ} (r : State) → Shape s (Grant t e k b) (accept (plain 0) [] r)
  handed : {e : ℕ} (b m : ℕ) (r : State) → Shape s (Receive e) (accept (receipt b m) [] r)
  removed :
      {e a : ℕ} (n j : ℕ) (r : State) → n ≤ 2 → j ≤ a → Exact s (Delete e a) n j (choose r) → Removed s e j (choose r)
      → Shape s (Delete e a) (accept (counted n j) [] r)
  looked :
      {e a b : ℕ} (n : ℕ) (l : List Look) (r : State) → n ≤ 2 → length l ≤ a
      → (Distinct (pending_at e s) → Exact s (Abort e a b) n (length l) (choose r))
      → Shape s (Abort e a b) (accept (counted n (length l)) l r)

-- What every call comes to.
pub data Comes (s : State) (c : Call) : Result → Type 0 where
  lacking : Comes s c (refuse 29 s)
  shaped : {r : Result} → Shape s c r → Comes s c r

-- Code 0 where no work is left, code 2 where some is.
never : {A : Type 0} → (A → ⊥) → ◌≡◌ {A = ℕ} 0 2 ↔ A
never h = (λ e. absurd (omega arith), λ a. absurd (h a))

always : {A : Type 0} → A → ◌≡◌ {A = ℕ} 2 2 ↔ A
always a = (λ e. a, λ b. refl)

module _ (e : ℕ) (s : State) where
  chosen_waiters : ((choose s).endpoints e).waiters ≡ (s.endpoints e).waiters
  chosen_waiters = ap (λ (f : ℕ → Endpoint). (f e).waiters) (choose_keeps s).endpoints

  chosen_pending : pending_at e (choose s) ≡ pending_at e s
  chosen_pending = ap (λ (f : ℕ → Endpoint). pending_of (f e).abort) (choose_keeps s).endpoints

removed_chosen : (e : ℕ) (s r : State) (j : ℕ) → Removed s e j r → Removed s e j (choose r)
removed_chosen e s r j R d = ap (λ (l : List ℕ). j + length l) (chosen_waiters e r) ∙ R d

-- Calls 1 to 10

module _ (s : State) where
  create_shape : (x : Bool) (t p : ℕ) → Shape s (CreateThread t p) (create_if x t p s)
  unfolding create_if
  create_shape false t p = refused 22 (lit≤ tt) (lit≤ tt)
  create_shape true t p = plainly 0 _ (lit≤ tt) (lit≤ tt)

  destroy_shape : (x : Bool) (t : ℕ) → Shape s (DestroyThread t) (destroy_if x t s)
  unfolding destroy_if
  destroy_shape true t = refused 21 (lit≤ tt) (lit≤ tt)
  destroy_shape false t = plainly 0 _ (lit≤ tt) (lit≤ tt)

  priority_shape : (x : Bool) (t p : ℕ) → Shape s (SetPriority t p) (priority_if x t p s)
  unfolding priority_if
  priority_shape true t p = refused 21 (lit≤ tt) (lit≤ tt)
  priority_shape false t p = plainly 0 _ (lit≤ tt) (lit≤ tt)

  endpoint_shape : (x : Status) (e : ℕ) → Shape s (CreateEndpoint e) (create_at x e s)
  unfolding create_at
  endpoint_shape missing e = plainly 0 _ (lit≤ tt) (lit≤ tt)
  endpoint_shape live e = refused 24 (lit≤ tt) (lit≤ tt)
  endpoint_shape closing e = refused 24 (lit≤ tt) (lit≤ tt)

  send_to_shape : (x : Option ℕ) (t e b m : ℕ) (r : State) → Shape s (Send e b m) (send_to x t e b m r)
  unfolding send_to
  send_to_shape none t e b m r = plainly 1 _ (lit≤ tt) (lit≤ tt)
  send_to_shape (some u) t e b m r = plainly 0 _ (lit≤ tt) (lit≤ tt)

  send_unless_shape : (x : Bool) (t e b m : ℕ) → Shape s (Send e b m) (send_unless x t e b m s)
  unfolding send_unless
  send_unless_shape true t e b m = refused 26 (lit≤ tt) (lit≤ tt)
  send_unless_shape false t e b m = send_to_shape _ t e b m _

  send_shape : (x : Status) (t e b m : ℕ) → Shape s (Send e b m) (send_at x t e b m s)
  unfolding send_at
  send_shape missing t e b m = refused 23 (lit≤ tt) (lit≤ tt)
  send_shape closing t e b m = refused 25 (lit≤ tt) (lit≤ tt)
  send_shape live t e b m = send_unless_shape _ t e b m

  receive_from_shape : (x : Option ℕ) (t e : ℕ) (r : State) → Shape s (Receive e) (receive_from x t e r)
  unfolding receive_from
  receive_from_shape none t e r = plainly 1 _ (lit≤ tt) (lit≤ tt)
  receive_from_shape (some u) t e r = handed _ _ _

  receive_shape : (x : Status) (t e : ℕ) → Shape s (Receive e) (receive_at x t e s)
  unfolding receive_at
  receive_shape missing t e = refused 23 (lit≤ tt) (lit≤ tt)
  receive_shape closing t e = refused 25 (lit≤ tt) (lit≤ tt)
  receive_shape live t e = receive_from_shape _ t e _

  wait_shape : (x : Line) (t l : ℕ) → Shape s (Wait l) (wait_at x t l s)
  unfolding wait_at
  wait_shape quiet t l = plainly 1 _ (lit≤ tt) (lit≤ tt)
  wait_shape pending t l = plainly 0 _ (lit≤ tt) (lit≤ tt)
  wait_shape (awaited u) t l = refused 27 (lit≤ tt) (lit≤ tt)

-- Delete

module _ (s : State) (e a : ℕ) where
  removed_all :
      (j : ℕ) (r : State) → j ≤ a → (r.endpoints e).waiters ≡ [] → Removed s e j r
      → Shape s (Delete e a) (accept (counted 0 j) [] r)
  removed_all j r l h R =
      removed 0 j r (lit≤ tt) l (never (λ x. idle x.1)) (removed_chosen e s r j R)
    where
      idle : WorkLeft s (choose r) (Delete e a) → ⊥
      idle (to_remove w m) = subst (λ (l : List ℕ). Mem w l) (chosen_waiters e r ∙ h) m

  removed_some :
      (j : ℕ) (r : State) (w : ℕ) → Mem w (r.endpoints e).waiters → j ≡ a → Removed s e j r
      → Shape s (Delete e a) (accept (counted 2 j) [] r)
  removed_some j r w m k R =
      removed 2 j r (lit≤ tt) (le_of_eq k)
      (always (k, to_remove w (subst (λ (l : List ℕ). Mem w l) (sym (chosen_waiters e r)) m)))
      (removed_chosen e s r j R)

  deleted_shape :
      (l : List ℕ) (r : Removal) → (r.state.endpoints e).waiters ≡ l → r.count ≤ a
      → ((r.state.endpoints e).waiters ≡ []) ⊎ (r.count ≡ a) → Removed s e r.count r.state
      → Shape s (Delete e a) (deleted l e r)
  unfolding deleted
  deleted_shape [] r h i k R =
      let g = ap (λ (x : Endpoint). x.waiters) (put_same r.state.endpoints e missing_endpoint) in
      removed_all r.count (set_endpoint e missing_endpoint r.state) i g
      (λ d. omega (arith, R d, ap length g, ap length h))
  deleted_shape (w ∷ l) r h i (inl k) R = let z : ◌≡◌ {A = ℕ} 0 1 = cc in absurd (omega arith)
  deleted_shape (w ∷ l) r h i (inr k) R = removed_some r.count r.state w (rw h (inl refl)) k R

closed_waiters :
    (t e : ℕ) (s : State) → ((end_abort closing e (drop_debt t s)).endpoints e).waiters ≡ (s.endpoints e).waiters
unfolding end_abort drop_debt
closed_waiters t e s = ap (λ (x : Endpoint). x.waiters) (put_same _ e _)

delete_from_shape :
    (s r : State) (e a : ℕ) → (r.endpoints e).waiters ≡ (s.endpoints e).waiters
    → Shape s (Delete e a) (delete_from e a r)
unfolding delete_from
delete_from_shape s r e a h =
    let R = removes a (r.endpoints e).waiters e r refl in
    deleted_shape s e a _ (remove_up_to a (r.endpoints e).waiters e r) refl R.most R.stop
    (λ d. R.sum (rw h d) ∙ ap length h)

delete_shape : (s : State) (x : Status) (t e a : ℕ) → Shape s (Delete e a) (delete_at x t e a s)
unfolding delete_at
delete_shape s missing t e a = refused 23 (lit≤ tt) (lit≤ tt)
delete_shape s live t e a = delete_from_shape s _ e a (closed_waiters t e s)
delete_shape s closing t e a = delete_from_shape s _ e a (closed_waiters t e s)

-- Abort

module _ (s : State) (e a b : ℕ) where
  looked_all :
      (l : List Look) (r : State) → length l ≤ a → pending_at e r ≡ [] → OwnBegun s e a b
      → Shape s (Abort e a b) (accept (counted 0 (length l)) l r)
  looked_all l r i p B = looked 0 l r (lit≤ tt) i (λ d. never (λ x. idle d x.1))
    where
      idle : Distinct (pending_at e s) → WorkLeft s (choose r) (Abort e a b) → ⊥
      idle d (to_look w m) = subst (λ (l : List ℕ). Mem w l) (chosen_pending e r ∙ p) m
      idle d (not_begun x h n k) = omega (arith, B x h n (rw h at d))

  looked_some :
      (l : List Look) (r : State) → length l ≡ a → (Distinct (pending_at e s) → WorkLeft s (choose r) (Abort e a b))
      → Shape s (Abort e a b) (accept (counted 2 (length l)) l r)
  looked_some l r k x = looked 2 l r (lit≤ tt) (le_of_eq k) (λ d. always (k, x d))

  pending_left :
      (l : List ℕ) (w : ℕ) (r : State) → pending_at e r ≡ w ∷ l → WorkLeft s (choose r) (Abort e a b)
  pending_left l w r h = to_look w (subst (λ (l : List ℕ). Mem w l) (sym (chosen_pending e r ∙ h)) (inl refl))

  from_note : (r : State) → 1 ≤ a → Shape s (Abort e a b) (accept (plain 0) [] r)
  from_note r k = looked {e = e} {a = a} {b = b} 0 [] r (lit≤ tt) (omega arith) (λ d. never (λ x. omega (arith, x.0)))

module _ (s : State) (t e a b : ℕ) where
  ended_shape :
      (l : List ℕ) (k : List Look) (r : State) → pending_at e r ≡ l → length k ≤ a
      → (pending_at e r ≡ []) ⊎ (length k ≡ a) → OwnBegun s e a b → Shape s (Abort e a b) (ended l t e k r)
  unfolding ended end_abort
  ended_shape [] k r h i p B =
      looked_all s e a b k _ i (ap (λ (x : Endpoint). pending_of x.abort) (put_same _ e _)) B
  ended_shape (w ∷ l) k r h i (inl p) B = let z : ◌≡◌ {A = ℕ} 0 1 = cc in absurd (omega arith)
  ended_shape (w ∷ l) k r h i (inr p) B = looked_some s e a b k r p (λ d. pending_left s e a b l w r h)

  own_shape :
      (n : ℕ) (k : List Look) (r : State) → length k + n ≡ a → OwnBegun s e a b
      → Shape s (Abort e a b) (work_own t e n k r)
  unfolding work_own looked_own
  own_shape n k r h B =
      let R = looks n (pending_at e r) e r refl in
      let L = (look_up_to n (pending_at e r) e r).looks in
      ended_shape _ (k ++ L) (look_up_to n (pending_at e r) e r).state refl
      (omega (arith, length-append k L, R.most)) (⊎_elim inl (λ p. inr (length-append k L ∙ rw p h)) R.stop) B

  -- Another badge's abort x stood.
  module _ (x : State.Abort) (stood : (s.endpoints e).abort ≡ some x) (differs : x.badge ≡ b → ⊥) where
    after_shape :
        (n : ℕ) (k : List Look) (r : State) → a - length k ≡ n → length k ≤ a
        → (Distinct x.pending → length k ≡ length x.pending)
        → Shape s (Abort e a b) (begin_after n t e b k r)
    unfolding begin_after
    after_shape zero k r h m p = let c : length k ≡ a = omega arith in looked_some s e a b k r c work
      where
        work : Distinct (pending_at e s) → WorkLeft s (choose r) (Abort e a b)
        work d = let c : a ≤ length x.pending = omega (arith, p (rw stood at d)) in not_begun x stood differs c
    after_shape (suc n) k r h m p = own_shape (suc n) k _ (omega arith) begun
      where
        begun : OwnBegun s e a b
        begun y f g d =
            let c : x ≡ y = cc in
            subst (λ (z : State.Abort). length z.pending < a) c
            (omega (arith, p (subst (λ (z : State.Abort). Distinct z.pending) (sym c) d)))

    finished_shape :
        (l : List ℕ) (r : Looked) → pending_at e r.state ≡ l
        → length r.looks ≤ a → (pending_at e r.state ≡ []) ⊎ (length r.looks ≡ a)
        → (Distinct x.pending → length r.looks + length l ≡ length x.pending)
        → Shape s (Abort e a b) (finished l t e a b r)
    unfolding finished
    finished_shape [] r h m p q = after_shape _ r.looks _ refl m (λ d. omega (arith, q d))
    finished_shape (w ∷ l) r h m (inl p) q = let z : ◌≡◌ {A = ℕ} 0 1 = cc in absurd (omega arith)
    finished_shape (w ∷ l) r h m (inr p) q =
        looked_some s e a b r.looks r.state p (λ d. pending_left s e a b l w r.state h)

    other_shape : (r : State) → pending_at e r ≡ x.pending → Shape s (Abort e a b) (work_other t e a b r)
    unfolding work_other looked_other
    other_shape r h =
        let R = looks a (pending_at e r) e r refl in
        finished_shape _ (look_up_to a (pending_at e r) e r) refl R.most R.stop (λ d. R.sum (rw h d) ∙ ap length h)

  badge_shape :
      (x : State.Abort) (r : State) → (s.endpoints e).abort ≡ some x → pending_at e r ≡ x.pending
      → Shape s (Abort e a b) (under_badge (eqb x.badge b) t e a b r)
  unfolding under_badge
  badge_shape x r h p = go (same? x.badge b)
    where
      go : Same x.badge b → Shape s (Abort e a b) (under_badge (eqb x.badge b) t e a b r)
      go (same f g) = rw g (own_shape a [] (join t e r) (omega arith) begun)
        where
          begun : OwnBegun s e a b
          begun y k n d = let c : x ≡ y = cc in absurd (n (subst (λ (z : State.Abort). z.badge ≡ b) c f))
      go (other n g) = rw g (other_shape x h n r p)

module _ (s : State) (t e a b : ℕ) where
  from_shape :
      (x : Option State.Abort) (r : State) → (s.endpoints e).abort ≡ x → pending_at e r ≡ pending_of x
      → Shape s (Abort e a b) (abort_from x t e a b r)
  unfolding abort_from
  from_shape none r h p =
      own_shape s t e a b a [] (begin t e b r) (omega arith)
      (λ x f. let z : ◌≡◌ {A = ℕ} 0 1 = cc in absurd (omega arith))
  from_shape (some x) r h p = badge_shape s t e a b x r h p

  abort_at_shape : (x : Status) → Shape s (Abort e a b) (abort_at x t e a b s)
  unfolding abort_at abort_open drop_debt
  abort_at_shape missing = refused 23 (lit≤ tt) (lit≤ tt)
  abort_at_shape closing = refused 25 (lit≤ tt) (lit≤ tt)
  abort_at_shape live = from_shape (s.endpoints e).abort (drop_debt t s) refl refl

  abort_shape : (x : Bool) → 1 ≤ a → Shape s (Abort e a b) (abort_unless x t e a b s)
  unfolding abort_unless
  abort_shape true h = from_note s e a b _ h
  abort_shape false h = abort_at_shape _

-- Call 13

module _ (s : State) (t e k b : ℕ) where
  grant_at_shape : (x : Status) → Shape s (Grant t e k b) (grant_at x s)
  unfolding grant_at
  grant_at_shape missing = refused 23 (lit≤ tt) (lit≤ tt)
  grant_at_shape live = granted s
  grant_at_shape closing = granted s

  grant_shape : (x : Bool) → Shape s (Grant t e k b) (grant_if x e s)
  unfolding grant_if
  grant_shape true = refused 21 (lit≤ tt) (lit≤ tt)
  grant_shape false = grant_at_shape _

-- Every call

caller_shape :
    (s : State) (c : Call) (o : Option ℕ) (f : ℕ → State → Result) → ((t : ℕ) → Shape s c (f t s))
    → Shape s c (by_caller o f s)
caller_shape s c none f h = refused 20 (lit≤ tt) (lit≤ tt)
caller_shape s c (some t) f h = h t

pub perform_shape : (s : State) (c : Call) → in_range c ≡ true → Shape s c (perform c s)
unfolding perform create_thread destroy_thread set_priority create_endpoint interrupt tick send receive yield wait
    delete
    abort grant
perform_shape s (CreateThread t p) h = create_shape s _ t p
perform_shape s (DestroyThread t) h = destroy_shape s _ t
perform_shape s (SetPriority t p) h = priority_shape s _ t p
perform_shape s (CreateEndpoint e) h = endpoint_shape s _ e
perform_shape s (Interrupt l) h = plainly 0 _ (lit≤ tt) (lit≤ tt)
perform_shape s Tick h = plainly 0 _ (lit≤ tt) (lit≤ tt)
perform_shape s (Send e b m) h = caller_shape s _ s.runs (λ t. send t e b m) (λ t. send_shape s _ t e b m)
perform_shape s (Receive e) h = caller_shape s _ s.runs (λ t. receive t e) (λ t. receive_shape s _ t e)
perform_shape s Yield h = caller_shape s _ s.runs (λ t. yield t) (λ t. plainly 0 _ (lit≤ tt) (lit≤ tt))
perform_shape s (Wait l) h = caller_shape s _ s.runs (λ t. wait t l) (λ t. wait_shape s _ t l)
perform_shape s (Delete e a) h = caller_shape s _ s.runs (λ t. delete t e a) (λ t. delete_shape s _ t e a)
perform_shape s (Abort e a b) h =
    caller_shape s _ s.runs (λ t. abort t e a b) (λ t. abort_shape s t e a b _ (bounds (Abort e a b) h).1.0)
perform_shape s (Grant t e k b) h = grant_shape s t e k b _

pub shape : (g : Grants) (s : State) (c : Call) → Comes s c (step g s c)
unfolding step perform_if perform_unless
shape g s c = go (in_range c) refl
  where
    unless : (y : Bool) → in_range c ≡ true → Comes s c (perform_unless y c s)
    unless true h = lacking
    unless false h = shaped (perform_shape s c h)

    go : (x : Bool) → in_range c ≡ x → Comes s c (perform_if x g c s)
    go true h = unless (barred s.runs g c) h
    go false h = shaped (refused 19 (lit≤ tt) (lit≤ tt))
