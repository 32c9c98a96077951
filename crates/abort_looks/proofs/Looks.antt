-- Looks: one, and as many as the allowance lets. What remains to do is told by the state that the memory shows.
use Prim.Native.Nat.{ℕ, zero, suc, ◌+◌, ◌-◌, ◌≤◌, ◌<◌}
use mathlib.Core.Path.{◌≡◌, refl, sym, ◌∙◌, ap, subst}
use mathlib.Core.Logic.{inl}
use mathlib.Core.Bool.{Bool, true, false}
use mathlib.Core.List.{List, [], ◌∷◌}
use native.Mathlib.Omega.{arith}
use lib.ListN.{length}
use Rattle.machine.specs.State.{State}
use Rattle.machine.specs.Endpoints.{under_abort, wake_from}
use Rattle.machine.specs.Aborts.{Looked, hits, look_at, look, after_look, pending_at, look_up_to}
use Rattle.machine.proofs.Preserved.AbortSteps.{mid_look}
use Rattle.layout.specs.declared.Field.{Field}
use Rattle.layout.specs.declared.Part.{Part}
use Rattle.layout.specs.Words.{first_of}
use Rattle.layout.specs.Shows.{Shows}
use Rattle.store.specs.Steps.{Shown, Does, Tells}
use Rattle.store.specs.Store.{IsThread, IsEndpoint}
use Rattle.store.specs.Readings.{endpoint_in, thread_in}
use Rattle.queues.specs.Queues.{InEndpoint, passing_at}
use Rattle.debts.specs.Debts.{Says, under_in}
use Rattle.endings.proofs.Ends.{shown_for}
use Rattle.endings.proofs.Conditions.{pending_queued, pending_endpoint, queued_waits}
use Rattle.abort_looks.specs.Looks.{Cursor, InMid, looked, LooksOn}

-- One look.

module _ {e w : ℕ} {s : State} (C : Cursor e w s) where
  cursor_endpoint : e ≤ 63
  cursor_endpoint = pending_endpoint C.mid C.first

  cursor_waits : InEndpoint w e s
  cursor_waits = queued_waits C.mid (inl (pending_queued C.mid C.first)) cursor_endpoint

module _ {m : List ℕ} {e w : ℕ} where
  pub thread_asked : Shown m (Cursor e w) → Shown m (IsThread w)
  thread_asked S = shown_for S (λ s C. (cursor_waits C).thread)

  pub endpoint_asked : Shown m (Cursor e w) → Shown m (IsEndpoint e)
  endpoint_asked S = shown_for S (λ s C. cursor_endpoint C)

  pub waits_asked : Shown m (Cursor e w) → Shown m (InEndpoint w e)
  waits_asked S = shown_for S (λ s C. cursor_waits C)

  module _ {b : ℕ} {u : Bool} (B : Tells m (IsThread w) b (thread_in Field.Badge w))
      (U : Says m (IsEndpoint e) u (under_in e b)) where
    says_hit : (s : State) → Shows m s → Cursor e w s → u ≡ under_abort (s.threads w).badge (s.endpoints e).abort
    says_hit s M C =
        U.says s M (cursor_endpoint C)
        ∙ ap (λ (x : ℕ). under_abort x (s.endpoints e).abort) (B.tells s M (cursor_waits C).thread)

    pub look_removed :
        {n : List ℕ} → u ≡ true → Does m n (InEndpoint w e) (wake_from e w 3 0 0) → Does m n (Cursor e w) (look e w)
    unfolding look look_at hits
    look_removed {n} h D =
        record {
          shows = λ s M C.
              subst (λ (x : Bool). Shows n (look_at x e w s)) (sym h ∙ says_hit s M C) (D.shows s M (cursor_waits C));
        }

    pub look_kept :
        {n : List ℕ} → u ≡ false → Does m n (InEndpoint w e) (passing_at w e) → Does m n (Cursor e w) (look e w)
    unfolding look look_at hits
    look_kept {n} h D =
        record {
          shows = λ s M C.
              subst (λ (x : Bool). Shows n (look_at x e w s)) (sym h ∙ says_hit s M C) (D.shows s M (cursor_waits C));
        }

-- The cursor's link is 0 exactly where nothing is pending.

pub nothing_left : (l : List ℕ) {r : ℕ} → r ≡ first_of l → r ≡ 0 → l ≡ []
nothing_left [] k z = refl
nothing_left (w ∷ l) k z = absurd (omega arith)

-- What is pending has a first, of link r.
pub record HasFirst (r : ℕ) (l : List ℕ) : Type 0 where
  pub rest : List ℕ
  pub whole : l ≡ (r - 1) ∷ rest

pub some_left : (l : List ℕ) {r : ℕ} → r ≡ first_of l → (r ≡ 0 → ⊥) → HasFirst r l
some_left [] k n = absurd (n k)
some_left (w ∷ l) {r} k n =
    let j : w ≡ r - 1 = omega arith in
    record { rest = l; whole = ap (λ (x : ℕ). x ∷ l) j }

-- As many looks as the allowance lets.

looks_zero : (e : ℕ) (s : State) → looked e 0 s ≡ record { state = s; looks = [] }
unfolding look_up_to
looks_zero e s = refl

looks_none : (n e : ℕ) (s : State) → pending_at e s ≡ [] → looked e n s ≡ record { state = s; looks = [] }
unfolding look_up_to
looks_none zero e s k = refl
looks_none (suc n) e s k = ap (λ (l : List ℕ). look_up_to (suc n) l e s) k

looks_more :
    (n e w : ℕ) (l : List ℕ) (s : State) → 0 < n → pending_at e s ≡ w ∷ l
    → looked e n s ≡ after_look (record { waiter = w; removed = hits e w s }) (looked e (n - 1) (look e w s))
unfolding look_up_to
looks_more zero e w l s h k = absurd (omega arith)
looks_more (suc n) e w l s h k =
    let j : n ≡ suc n - 1 = omega arith in
    ap (λ (x : List ℕ). look_up_to (suc n) x e s) k
    ∙ ap (λ (x : ℕ). after_look (record { waiter = w; removed = hits e w s }) (looked e x (look e w s))) j

pub looks_few : (n : ℕ) (l : List ℕ) (e : ℕ) (s : State) → length (look_up_to n l e s).looks ≤ n
unfolding look_up_to after_look
looks_few zero l e s = omega arith
looks_few (suc n) [] e s = omega arith
looks_few (suc n) (w ∷ l) e s =
    omega (arith, looks_few n (pending_at e (look e w s)) e (look e w s))

-- Where n looks have been made of those that were to be made from s₀: the state that the memory m shows.
pub record Rest (m : List ℕ) (e allowance n : ℕ) (s₀ : State) : Type 0 where
  pub state : State
  pub shows : Shows m state
  pub within : InMid e state
  pub same : (looked e allowance s₀).state ≡ (looked e (allowance - n) state).state
  pub counts : length (looked e allowance s₀).looks ≡ n + length (looked e (allowance - n) state).looks

-- The loop of looks, begun at m₀ and now at m, has made n.
pub record LooksMade (m₀ m : List ℕ) (e allowance n : ℕ) : Type 0 where
  pub here : Shown m (InMid e)
  pub rest : (s : State) → Shows m₀ s → InMid e s → Rest m e allowance n s

pub made_none : {m : List ℕ} {e a : ℕ} → Shown m (InMid e) → LooksMade m m e a 0
made_none {m} {e} {a} S =
    record {
      here = S;
      rest = λ s M h.
          let z : a - 0 ≡ a = omega arith in
          record { state = s; shows = M; within = h; same = rw z refl; counts = rw z (omega arith) };
    }

-- The looks are over.
module _ {m₀ m : List ℕ} {e a n : ℕ} (L : LooksMade m₀ m e a n) where
  looks_end :
      ((s : State) → Shows m s → InMid e s → looked e (a - n) s ≡ record { state = s; looks = [] })
      → LooksOn m₀ e a n m
  looks_end over =
      record {
        shows = λ s M h.
            let R = L.rest s M h in
            let z = over R.state R.shows R.within in
            subst (λ (x : State). Shows m x) (sym (R.same ∙ ap (λ (x : Looked). x.state) z)) R.shows;
        counts = λ s M h.
            let R = L.rest s M h in
            let z = over R.state R.shows R.within in
            let j : length (looked e (a - n) R.state).looks ≡ 0 = ap (λ (x : Looked). length x.looks) z in
            omega (arith, R.counts);
      }

  pub looks_done : n ≡ a → LooksOn m₀ e a a m
  looks_done h =
      let z : a - n ≡ 0 = omega arith in
      subst (λ (k : ℕ). LooksOn m₀ e a k m) h (looks_end (λ s M i. rw z (looks_zero e s)))

  module _ {r : ℕ} (T : Tells m (IsEndpoint e) r (endpoint_in Part.Cursor e)) where
    pub looks_out : r ≡ 0 → LooksOn m₀ e a n m
    looks_out z =
        looks_end (λ s M h. looks_none (a - n) e s (nothing_left (pending_at e s) (T.tells s M h.endpoint) z))

    module _ (z : r ≡ 0 → ⊥) where
      at_cursor : (s : State) → Shows m s → InMid e s → Cursor e (r - 1) s
      at_cursor s M h =
          let B = some_left (pending_at e s) (T.tells s M h.endpoint) z in
          record { mid = h.mid; rest = B.rest; first = B.whole }

      pub cursor_asked : Shown m (Cursor e (r - 1))
      cursor_asked =
          let S = L.here in
          record { state = S.state; shows = S.shows; holds = at_cursor S.state S.shows S.holds }

      within_next : {s : State} → InMid e s → Cursor e (r - 1) s → InMid e (look e (r - 1) s)
      within_next {s} h C =
          record { mid = mid_look e (r - 1) C.rest s h.mid C.first; endpoint = h.endpoint }

      pub looks_again :
          {o : List ℕ} → n < a → Does m o (Cursor e (r - 1)) (look e (r - 1)) → LooksMade m₀ o e a (n + 1)
      unfolding after_look
      looks_again {o} h D =
          let more : 0 < a - n = omega arith in
          let next : a - n - 1 ≡ a - (n + 1) = omega arith in
          record {
            here =
                let S = L.here in
                let C = at_cursor S.state S.shows S.holds in
                record {
                  state = look e (r - 1) S.state;
                  shows = D.shows S.state S.shows C;
                  holds = within_next S.holds C;
                };
            rest = λ s M k.
                let R = L.rest s M k in
                let C = at_cursor R.state R.shows R.within in
                let i = rw next at (looks_more (a - n) e (r - 1) C.rest R.state more C.first) in
                let j : length (looked e (a - n) R.state).looks
                ≡ suc (length (looked e (a - (n + 1)) (look e (r - 1) R.state)).looks) =
                ap (λ (x : Looked). length x.looks) i in
                record {
                  state = look e (r - 1) R.state;
                  shows = D.shows R.state R.shows C;
                  within = within_next R.within C;
                  same = R.same ∙ ap (λ (x : Looked). x.state) i;
                  counts = omega (arith, R.counts);
                };
          }
