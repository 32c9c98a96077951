-- The answers: what the paper says of refusals, codes, counts, and calls that are broken off.
use Prim.Native.Nat.{ℕ, ◌+◌, ◌≤◌}
use mathlib.Core.Path.{◌≡◌, refl, sym, ◌∙◌, ap, subst}
use mathlib.Core.Logic.{◌⊎◌, inl, inr, ◌↔◌, ⊎_elim}
use mathlib.Core.Bool.{Bool, true, false}
use mathlib.Core.Option.{Option, none, some}
use mathlib.Core.List.{[]}
use native.Mathlib.Omega.{arith}
use borrow.Author.Tests.{eq-eqb, leb-false}
use lib.ListN.{length}
use Rattle.calls.specs.declared.Call.{Call}
use Rattle.calls.specs.declared.Call.TheVariants.{Delete, Abort}
use Rattle.calls.specs.Calls.{number_of, in_range}
use Rattle.machine.specs.Lists.{Mem, Distinct}
use Rattle.machine.specs.State as State
use Rattle.machine.specs.State.{State, Thread, nothing, noted, set_thread, with_debt}
use Rattle.machine.specs.Endpoints.{pending_of, drop_debt}
use Rattle.machine.specs.Results.{Result, done}
use Rattle.calls.specs.Answers.{plain, is_accepted}
use Rattle.machine.specs.Grants.{Grants, lacks, barred}
use Rattle.machine.specs.Aborts.{pending_at, has_note, abort_unless, abort}
use Rattle.machine.specs.Machine.{by_caller, perform, perform_unless, perform_if, step}
use Rattle.machine.specs.Sound.{Sound}
use Rattle.machine.specs.Work.{allowance_of, WorkLeft, to_remove, to_look, not_begun}
use Rattle.machine.proofs.Lists.{put_same}
use Rattle.machine.proofs.Preserved.Mid.{sound_mid}
use Rattle.machine.proofs.Preserved.AbortSteps.{pending_once}
use Rattle.machine.proofs.Running.{goes_on_exactly}
use Rattle.machine.proofs.Calls.Shapes.{refused, plainly, granted, handed, removed, looked, Comes, lacking}
use Rattle.machine.proofs.Calls.Shapes.{shaped, shape}

-- "Number, three zeros", and everything "left as it was": a refusal changes nothing.
pub refused_same :
    (g : Grants) (s : State) (c : Call) → 16 ≤ (step g s c).answer.code
    → ((step g s c).state ≡ s) × ((step g s c).answer ≡ plain (step g s c).answer.code) × ((step g s c).looks ≡ [])
refused_same g s c = go (shape g s c)
  where
    go : {d : Call} {r : Result} → Comes s d r → 16 ≤ r.answer.code
        → (r.state ≡ s) × (r.answer ≡ plain r.answer.code) × (r.looks ≡ [])
    go lacking h = (refl, refl, refl)
    go (shaped (refused n l m)) h = (refl, refl, refl)
    go (shaped (plainly n r l m)) h = absurd (omega arith)
    go (shaped (granted r)) h = absurd (omega arith)
    go (shaped (handed b m r)) h = absurd (omega arith)
    go (shaped (removed n j r l i x k)) h = absurd (omega arith)
    go (shaped (looked n k r l i x)) h = absurd (omega arith)

-- "Codes: 0 done, 1 blocked, 2 broken off"; of the refusals the machine gives 19 to 27, and 29.
pub codes :
    (g : Grants) (s : State) (c : Call)
    → ((step g s c).answer.code ≤ 2)
    ⊎ (((19 ≤ (step g s c).answer.code) × ((step g s c).answer.code ≤ 27)) ⊎ ((step g s c).answer.code ≡ 29))
codes g s c = go (shape g s c)
  where
    go : {d : Call} {r : Result} → Comes s d r
        → (r.answer.code ≤ 2) ⊎ (((19 ≤ r.answer.code) × (r.answer.code ≤ 27)) ⊎ (r.answer.code ≡ 29))
    go lacking = inr (inr refl)
    go (shaped (refused n l m)) = inr (inl (l, m))
    go (shaped (plainly n r l m)) = inl (omega arith)
    go (shaped (granted r)) = inl (omega arith)
    go (shaped (handed b m r)) = inl (omega arith)
    go (shaped (removed n j r l i x k)) = inl l
    go (shaped (looked n k r l i x)) = inl l

-- A call that is not accepted is refused, and leaves the state.
pub refused_state :
    (g : Grants) (s : State) (c : Call) → is_accepted (step g s c).answer ≡ false → (step g s c).state ≡ s
refused_state g s c h =
    let k = leb-false (step g s c).answer.code 2 h in
    let l : 16 ≤ (step g s c).answer.code =
    ⊎_elim (λ i. absurd (omega arith)) (⊎_elim (λ i. omega (arith, i.0)) (λ i. omega arith)) (codes g s c) in
    (refused_same g s c l).0

-- "Count is 0 except for 11 and 12."
pub count_zero :
    (g : Grants) (s : State) (c : Call) → (number_of c ≡ 11 → ⊥) → (number_of c ≡ 12 → ⊥) → (step g s c).answer.count
    ≡ 0
count_zero g s c = go (shape g s c)
  where
    go : {d : Call} {r : Result} → Comes s d r → (number_of d ≡ 11 → ⊥) → (number_of d ≡ 12 → ⊥)
        → r.answer.count ≡ 0
    go lacking h i = refl
    go (shaped (refused n l m)) h i = refl
    go (shaped (plainly n r l m)) h i = refl
    go (shaped (granted r)) h i = refl
    go (shaped (handed b m r)) h i = refl
    go (shaped (removed n j r l m x k)) h i = absurd (h refl)
    go (shaped (looked n k r l m x)) h i = absurd (i refl)

-- "Badge and message are 0 except for a receive that is done."
pub words_zero :
    (g : Grants) (s : State) (c : Call) → ((number_of c ≡ 8) × ((step g s c).answer.code ≡ 0) → ⊥)
    → ((step g s c).answer.badge ≡ 0) × ((step g s c).answer.message ≡ 0)
words_zero g s c = go (shape g s c)
  where
    go : {d : Call} {r : Result} → Comes s d r → ((number_of d ≡ 8) × (r.answer.code ≡ 0) → ⊥)
        → (r.answer.badge ≡ 0) × (r.answer.message ≡ 0)
    go lacking h = (refl, refl)
    go (shaped (refused n l m)) h = (refl, refl)
    go (shaped (plainly n r l m)) h = (refl, refl)
    go (shaped (granted r)) h = (refl, refl)
    go (shaped (handed b m r)) h = absurd (h (refl, refl))
    go (shaped (removed n j r l i x k)) h = (refl, refl)
    go (shaped (looked n k r l i x)) h = (refl, refl)

-- "A call 12's count is its looks"; no other call has any.
pub count_is_looks :
    (g : Grants) (s : State) (e a b : ℕ)
    → (step g s (Abort e a b)).answer.count ≡ length (step g s (Abort e a b)).looks
count_is_looks g s e a b = go (shape g s (Abort e a b))
  where
    go : {r : Result} → Comes s (Abort e a b) r → r.answer.count ≡ length r.looks
    go lacking = refl
    go (shaped (refused n l m)) = refl
    go (shaped (plainly n r l m)) = refl
    go (shaped (looked n k r l i x)) = refl

pub no_looks : (g : Grants) (s : State) (c : Call) → (number_of c ≡ 12 → ⊥) → (step g s c).looks ≡ []
no_looks g s c = go (shape g s c)
  where
    go : {d : Call} {r : Result} → Comes s d r → (number_of d ≡ 12 → ⊥) → r.looks ≡ []
    go lacking h = refl
    go (shaped (refused n l m)) h = refl
    go (shaped (plainly n r l m)) h = refl
    go (shaped (granted r)) h = refl
    go (shaped (handed b m r)) h = refl
    go (shaped (removed n j r l i x k)) h = refl
    go (shaped (looked n k r l i x)) h = absurd (h refl)

-- "In 11 and 12 the count is the number of waiters looked at or removed": of a delete, the count and those who still
-- wait are together all who waited.
pub count_is_removals :
    (g : Grants) (s : State) (e a : ℕ) → Distinct (s.endpoints e).waiters → (step g s (Delete e a)).answer.code ≤ 2
    → (step g s (Delete e a)).answer.count + length ((step g s (Delete e a)).state.endpoints e).waiters
    ≡ length (s.endpoints e).waiters
count_is_removals g s e a d = go (shape g s (Delete e a))
  where
    go : {r : Result} → Comes s (Delete e a) r → r.answer.code ≤ 2
        → r.answer.count + length (r.state.endpoints e).waiters ≡ length (s.endpoints e).waiters
    go lacking h = absurd (omega arith)
    go (shaped (refused n l m)) h = absurd (omega arith)
    go (shaped (plainly n r l m)) h = absurd (omega arith)
    go (shaped (removed n j r l i x k)) h = k d

-- The count is never more than the allowance.
pub count_within : (g : Grants) (s : State) (c : Call) → (step g s c).answer.count ≤ allowance_of c
count_within g s c = go (shape g s c)
  where
    go : {d : Call} {r : Result} → Comes s d r → r.answer.count ≤ allowance_of d
    go lacking = omega arith
    go (shaped (refused n l m)) = omega arith
    go (shaped (plainly n r l m)) = omega arith
    go (shaped (granted r)) = omega arith
    go (shaped (handed b m r)) = omega arith
    go (shaped (removed n j r l i x k)) = i
    go (shaped (looked n k r l i x)) = i

no_work : {s r : State} {c : Call} → (number_of c ≡ 11 → ⊥) → (number_of c ≡ 12 → ⊥) → WorkLeft s r c → ⊥
no_work h k (to_remove w m) = h refl
no_work h k (to_look w m) = k refl
no_work h k (not_begun x e n l) = k refl

-- "Code 2 comes exactly when the count equals the allowance and work is left": so it is for every accepted call, in
-- every state where no abort has a waiter pending twice, as in sound ones.
pub broken_off_exactly :
    (g : Grants) (s : State) (c : Call) → ((e : ℕ) → Distinct (pending_at e s)) → (step g s c).answer.code ≤ 2
    → ((step g s c).answer.code ≡ 2) ↔ (((step g s c).answer.count ≡ allowance_of c) × WorkLeft s (step g s c).state c)
broken_off_exactly g s c D = go (shape g s c)
  where
    go : {d : Call} {r : Result} → Comes s d r → r.answer.code ≤ 2
        → (r.answer.code ≡ 2) ↔ ((r.answer.count ≡ allowance_of d) × WorkLeft s r.state d)
    go lacking h = absurd (omega arith)
    go (shaped (refused n l m)) h = absurd (omega arith)
    go (shaped (plainly n r l m)) h =
        (λ e. absurd (omega arith), λ x. absurd (no_work (λ i. omega arith) (λ i. omega arith) x.1))
    go (shaped (granted r)) h =
        (λ e. absurd (omega arith), λ x. absurd (no_work (λ i. omega arith) (λ i. omega arith) x.1))
    go (shaped (handed {e = e} b m r)) h =
        (λ e. absurd (omega arith), λ x. absurd (no_work (λ i. omega arith) (λ i. omega arith) x.1))
    go (shaped (removed n j r l i x k)) h = x
    go (shaped (looked {e = e} n k r l i x)) h = x (D e)

pub sound_once : {s : State} → Sound s → (e : ℕ) → Distinct (pending_at e s)
sound_once {s} S e = go (s.endpoints e).abort refl
  where
    go : (x : Option State.Abort) → (s.endpoints e).abort ≡ x → Distinct (pending_of x)
    go none h = tt
    go (some x) h = pending_once (sound_mid S) e x h

module _ (g : Grants) (s : State) (t e a b : ℕ) (in_range_lem : in_range (Abort e a b) ≡ true) (runs : s.runs ≡ some t)
    (right : lacks (g t e) (Abort e a b) ≡ false) (owed : (s.threads t).debt ≡ noted e b) where
  has_it : has_note e b (s.threads t).debt ≡ true
  has_it = rw (owed, eq-eqb e e refl, eq-eqb b b refl)

  -- A member's "next abort call of that endpoint and badge is answered 0, count 0, before 23 is tried; the note goes
  pub noted_first : step g s (Abort e a b) ≡ done (set_thread t (with_debt nothing (s.threads t)) s)
  unfolding step perform_if perform_unless perform abort abort_unless drop_debt
  noted_first =
      ap (λ (x : Bool). perform_if x g (Abort e a b) s) in_range_lem
      ∙ ap (λ (o : Option ℕ). perform_unless (barred o g (Abort e a b)) (Abort e a b) s) runs
      ∙ ap (λ (x : Bool). perform_unless x (Abort e a b) s) right
      ∙ ap (λ (o : Option ℕ). by_caller o (λ u. abort u e a b) s) runs
      ∙ ap (λ (x : Bool). abort_unless x t e a b s) has_it

  -- and nothing else changes", where nobody ready is above the caller, as in every sound state.
  pub noted_only :
      ((u p : ℕ) → p ≤ 255 → Mem u (s.levels p) → p ≤ (s.threads t).priority)
      → (step g s (Abort e a b)).state ≡ set_thread t (with_debt nothing (s.threads t)) s
  noted_only h =
      ap (λ (r : Result). r.state) noted_first
      ∙ (goes_on_exactly (set_thread t (with_debt nothing (s.threads t)) s) t runs).1
      (λ u p l m. subst (λ (x : Thread). p ≤ x.priority) (sym (put_same s.threads t _)) (h u p l m))
