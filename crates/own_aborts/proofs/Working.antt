-- An abort's work in one call: the call's own after its earlier looks, and another badge's that is finished first.
use Prim.Native.Nat.{ℕ, zero, suc, ◌+◌, ◌-◌, ◌≤◌, ◌<◌, ◌^◌}
use mathlib.Core.Path.{◌≡◌, refl, sym, ◌∙◌, ap, subst}
use mathlib.Core.List.{List, [], ◌++◌}
use native.Mathlib.Omega.{arith}
use lib.ListN.{length, length-append}
use Rattle.calls.specs.declared.Answer.{Answer}
use Rattle.machine.specs.State.{State, Endpoint, live}
use Rattle.machine.specs.Endpoints.{drop_debt, end_abort}
use Rattle.machine.specs.Results.{Result, Look, accept}
use Rattle.calls.specs.Answers.{counted}
use Rattle.machine.specs.Aborts.{Looked, pending_at, join, begin, ended, looked_own, work_own, begin_after, finished}
use Rattle.machine.specs.Aborts.{looked_other, work_other}
use Rattle.machine.specs.Mid.{Mid}
use Rattle.machine.proofs.Preserved.Debts.{live_present, mid_drop_debt, drop_debt_drops, mid_end_abort, end_abort_entry}
use Rattle.machine.proofs.Preserved.Debts.{end_abort_runs}
use Rattle.machine.proofs.Preserved.AbortSteps.{mid_begin, mid_look_up_to, steady_look_up_to}
use Rattle.machine.proofs.Preserved.Aborts.{running_present, begin_status}
use Rattle.layout.specs.declared.Part.{Part}
use Rattle.layout.specs.Shows.{Shows}
use Rattle.store.specs.Steps.{Shown, Does, Tells}
use Rattle.store.specs.Store.{IsThread, IsEndpoint}
use Rattle.store.specs.Readings.{endpoint_in}
use Rattle.queues.specs.Queues.{Chooses}
use Rattle.debts.specs.Debts.{EndsAbort, BeginsAbort}
use Rattle.endings.specs.Results.{Performs, Accepts}
use Rattle.endings.proofs.Ends.{performs_as, performs_for, performs_after, does_for, shown_for}
use Rattle.endings.proofs.Conditions.{mid_chooses, running_thread, running_begins}
use Rattle.abort_looks.specs.Looks.{InMid, looked, LooksOn}
use Rattle.own_aborts.specs.Own.{Open, Continues, own_ended, own_begun}
use Rattle.abort_looks.proofs.Looks.{nothing_left, HasFirst, some_left, looks_few}

-- A call's result for one state: the answer is its, and the memory shows its state.

abbrev Gives : Answer → List ℕ → Result → Type 0
Gives a m r = (a ≡ r.answer) × Shows m r.state

performs_each :
    {m n : List ℕ} {a : Answer} {P : State → Type 0} {f : State → Result}
    → ((s : State) → Shows m s → P s → Gives a n (f s)) → Performs m n a P f
performs_each g = record { answers = λ s M h. (g s M h).0; shows = λ s M h. (g s M h).1 }

at_state :
    {m n : List ℕ} {a : Answer} {P : State → Type 0} {f : State → Result} {s : State} → Performs m n a P f
    → Shows m s → P s → Gives a n (f s)
at_state {s = s} F M h = (F.answers s M h, F.shows s M h)

result_as : {m : List ℕ} {a : Answer} {r r' : Result} → r ≡ r' → Gives a m r → Gives a m r'
result_as {m} {a} k g = subst (λ (x : Result). Gives a m x) k g

-- What the steps ask.

open_within : {t e : ℕ} {s : State} → Open t e s → InMid e s
open_within O = record { mid = O.mid; endpoint = O.endpoint }

open_chooses : {t e : ℕ} {s : State} → Open t e s → Chooses s
open_chooses O = mid_chooses O.mid

module _ {m : List ℕ} {t e : ℕ} where
  pub within_asked : Shown m (Open t e) → Shown m (InMid e)
  within_asked S = shown_for S (λ s O. open_within O)

  pub chooses_asked : Shown m (Open t e) → Shown m Chooses
  chooses_asked S = shown_for S (λ s O. open_chooses O)

  pub thread_asked : Shown m (Open t e) → Shown m (IsThread t)
  thread_asked S = shown_for S (λ s O. running_thread O.mid O.runs)

-- The end of an abort.

abbrev ended_own : ℕ → ℕ → State → State
ended_own t e s = end_abort live e (drop_debt t s)

module _ {t e : ℕ} {s : State} (O : Open t e s) where
  dropped_mid : Mid (drop_debt t s)
  dropped_mid = mid_drop_debt s t O.mid

  ended_mid : Mid (ended_own t e s)
  ended_mid =
      mid_end_abort live e (drop_debt t s) (live_present refl)
      (live_present ((drop_debt_drops s t).status e ∙ O.status)) dropped_mid

module _ {m n : List ℕ} {t e : ℕ} (D : Does m n (IsThread t) (drop_debt t)) where
  pub endable_asked : Shown m (Open t e) → Shown n (IsEndpoint e)
  endable_asked S =
      let O = S.holds in
      record {
        state = drop_debt t S.state;
        shows = D.shows S.state S.shows (running_thread O.mid O.runs);
        holds = O.endpoint;
      }

  module _ {o : List ℕ} (E : EndsAbort n e 1 o) where
    ends_own : Does m o (Open t e) (ended_own t e)
    ends_own =
        record {
          shows = λ s M O.
              (E.does live refl).shows (drop_debt t s) (D.shows s M (running_thread O.mid O.runs))
              O.endpoint;
        }

    pub ended_asked : Shown m (Open t e) → Shown o Chooses
    ended_asked S =
        let O = S.holds in
        record {
          state = ended_own t e S.state;
          shows = ends_own.shows S.state S.shows O;
          holds = mid_chooses (ended_mid O);
        }

-- The call's own abort, with nothing or something left.
module _ {m : List ℕ} {e r : ℕ} (T : Tells m (IsEndpoint e) r (endpoint_in Part.Cursor e)) where
  pub own_broken :
      {n : List ℕ} {t k : ℕ} {b : Answer} → (r ≡ 0 → ⊥) → Accepts m (counted 2 k) b Chooses n
      → Continues m k b (Open t e) (own_ended t e) n
  unfolding ended
  own_broken {n} {t} {k} z A =
      record {
        performs = λ looks j.
            performs_as (performs_for (A.performs looks) (λ s M O. open_chooses O))
            (λ s M O. go looks j s (some_left (pending_at e s) (T.tells s M O.endpoint) z));
      }
    where
      go : (looks : List Look) → length looks ≡ k → (s : State) → HasFirst r (pending_at e s)
          → accept (counted 2 k) looks s ≡ own_ended t e looks s
      go looks j s B =
          ap (λ (x : ℕ). accept (counted 2 x) looks s) (sym j)
          ∙ ap (λ (l : List ℕ). ended l t e looks s) (sym B.whole)

  pub own_ended_lem :
      {n o q : List ℕ} {t k : ℕ} {b : Answer} → r ≡ 0 → Does m n (IsThread t) (drop_debt t) → EndsAbort n e 1 o
      → Accepts o (counted 0 k) b Chooses q → Continues m k b (Open t e) (own_ended t e) q
  unfolding ended
  own_ended_lem {n} {o} {q} {t} {k} z D E A =
      record {
        performs = λ looks j.
            performs_as
            (performs_after (ends_own D E) (λ s M O. mid_chooses (ended_mid O)) (A.performs looks))
            (λ s M O. go looks j s (nothing_left (pending_at e s) (T.tells s M O.endpoint) z));
      }
    where
      go : (looks : List Look) → length looks ≡ k → (s : State) → pending_at e s ≡ []
          → accept (counted 0 k) looks (ended_own t e s) ≡ own_ended t e looks s
      go looks j s p =
          ap (λ (x : ℕ). accept (counted 0 x) looks (ended_own t e s)) (sym j)
          ∙ ap (λ (l : List ℕ). ended l t e looks s) (sym p)

-- The looks leave who runs, the status and every debt.

open_looked : {t e : ℕ} {s : State} (a : ℕ) → Open t e s → Open t e (looked e a s).state
open_looked {t} {e} {s} a O =
    let F = steady_look_up_to a (pending_at e s) e s in
    record {
      mid = mid_look_up_to a e s O.mid;
      endpoint = O.endpoint;
      runs = F.runs ∙ O.runs;
      status = (F.entry e).status ∙ O.status;
    }

module _ {m n : List ℕ} {e a k : ℕ} (L : LooksOn m e a k n) where
  pub looks_bound : Shown m (InMid e) → k ≤ a
  looks_bound S =
      let s = S.state in
      omega (arith, L.counts s S.shows S.holds, looks_few a (pending_at e s) e s)

  pub rest_small : Shown m (InMid e) → a ≤ 65535 → k + (a - k) ≤ 65535
  rest_small S h = omega (arith, looks_bound S)

  pub looked_asked : {t : ℕ} → Shown m (Open t e) → Shown n (Open t e)
  looked_asked S =
      record {
        state = (looked e a S.state).state;
        shows = L.shows S.state S.shows (open_within S.holds);
        holds = open_looked a S.holds;
      }

  pub own_works :
      {o : List ℕ} {t earlier : ℕ} {r : Answer} → Continues n (earlier + k) r (Open t e) (own_ended t e) o
      → Continues m earlier r (Open t e) (work_own t e a) o
  unfolding work_own looked_own
  own_works {o} {t} {earlier} {r} C =
      record {
        performs = λ looks j.
            performs_each
            (λ s M O.
            at_state (rest looks j s M O) (L.shows s M (open_within O)) (open_looked a O));
      }
    where
      rest : (looks : List Look) → length looks ≡ earlier → (s : State) → Shows m s → Open t e s
          → Performs n o r (Open t e) (own_ended t e (looks ++ (looked e a s).looks))
      rest looks j s M O =
          let i = L.counts s M (open_within O) in
          C.performs (looks ++ (looked e a s).looks)
          (let g : length (looks ++ (looked e a s).looks) ≡ earlier + k =
          omega (arith, length-append looks (looked e a s).looks) in g)

-- The call's own abort begins.

open_begins : {t e : ℕ} {s : State} → Open t e s → BeginsAbort t e s
open_begins O = running_begins O.mid O.runs O.endpoint

begun_open : {t e b : ℕ} {s : State} → b < 2 ^ 28 → Open t e s → Open t e (begin t e b s)
unfolding begin join
begun_open {t} {e} {b} {s} h O =
    record {
      mid = mid_begin t e b s O.mid (running_present O.mid O.runs) O.status h;
      endpoint = O.endpoint;
      runs = O.runs;
      status = begin_status t e b s ∙ O.status;
    }

module _ {m : List ℕ} {t e : ℕ} where
  pub begins_asked : Shown m (Open t e) → Shown m (BeginsAbort t e)
  begins_asked S = shown_for S (λ s B. open_begins B)

  module _ {n : List ℕ} {b : ℕ} (D : Does m n (BeginsAbort t e) (begin t e b)) (h : b < 2 ^ 28) where
    pub begun_asked : Shown m (Open t e) → Shown n (Open t e)
    begun_asked S =
        record {
          state = begin t e b S.state;
          shows = D.shows S.state S.shows (open_begins S.holds);
          holds = begun_open h S.holds;
        }

    pub own_begins :
        {o : List ℕ} {k : ℕ} {r : Answer} (a : ℕ) → Continues n k r (Open t e) (work_own t e a) o
        → Continues m k r (Open t e) (own_begun t e b a) o
    own_begins a C =
        record {
          performs = λ looks j.
              performs_after (does_for D (λ s B. open_begins B)) (λ s M B. begun_open h B) (C.performs looks j);
        }

-- After another badge's abort.
module _ {m n : List ℕ} {t e k : ℕ} (b : ℕ) where
  pub after_broken :
      {left : ℕ} {r : Answer} → left ≡ 0 → Accepts m (counted 2 k) r Chooses n
      → Continues m k r (Open t e) (begin_after left t e b) n
  unfolding begin_after
  after_broken {left} z A =
      record {
        performs = λ looks j.
            performs_as (performs_for (A.performs looks) (λ s M B. open_chooses B))
            (λ s M B.
            ap (λ (x : ℕ). accept (counted 2 x) looks s) (sym j)
            ∙ ap (λ (x : ℕ). begin_after x t e b looks s) (sym z));
      }

  pub after_begins :
      {r : Answer} (left : ℕ) → (left ≡ 0 → ⊥) → Continues m k r (Open t e) (own_begun t e b left) n
      → Continues m k r (Open t e) (begin_after left t e b) n
  unfolding begin_after
  after_begins zero z C = absurd (z refl)
  after_begins (suc left) z C = record { performs = λ looks j. C.performs looks j }

-- Another badge's abort.

ended_open : {t e : ℕ} {s : State} → Open t e s → Open t e (end_abort live e s)
ended_open {t} {e} {s} O =
    record {
      mid = mid_end_abort live e s (live_present refl) (live_present O.status) O.mid;
      endpoint = O.endpoint;
      runs = end_abort_runs s e live ∙ O.runs;
      status = ap (λ (x : Endpoint). x.status) (end_abort_entry s e live);
    }

module _ {m : List ℕ} {t e : ℕ} where
  pub endpoint_asked : Shown m (Open t e) → Shown m (IsEndpoint e)
  endpoint_asked S = shown_for S (λ s O. O.endpoint)

  pub over_asked : {n : List ℕ} → EndsAbort m e 1 n → Shown m (Open t e) → Shown n (Open t e)
  over_asked E S =
      record {
        state = end_abort live e S.state;
        shows = (E.does live refl).shows S.state S.shows S.holds.endpoint;
        holds = ended_open S.holds;
      }

module _ {m n : List ℕ} {t e a k : ℕ} (L : LooksOn m e a k n) where
  module _ {r : ℕ} (T : Tells n (IsEndpoint e) r (endpoint_in Part.Cursor e)) where
    -- The cursor's link tells what is left after the looks.
    tells_looked :
        (s : State) → Shows m s → Open t e s
        → (Shows n (looked e a s).state) × (r ≡ endpoint_in Part.Cursor e (looked e a s).state)
        × (k ≡ length (looked e a s).looks)
    tells_looked s M C =
        let N = L.shows s M (open_within C) in
        (N, T.tells (looked e a s).state N C.endpoint, L.counts s M (open_within C))

    pub other_broken :
        {o : List ℕ} {y : Answer} (b : ℕ) → (r ≡ 0 → ⊥) → Accepts n (counted 2 k) y Chooses o
        → Performs m o y (Open t e) (work_other t e a b)
    unfolding work_other looked_other finished
    other_broken {o} b z A =
        performs_each
        (λ s M C.
        let w = looked e a s in
        let N = tells_looked s M C in
        result_as
        (go w (some_left (pending_at e w.state) N.1 z) N.2)
        (at_state (A.performs w.looks) N.0 (open_chooses (open_looked a C))))
      where
        go : (w : Looked) → HasFirst r (pending_at e w.state) → k ≡ length w.looks
            → accept (counted 2 k) w.looks w.state ≡ looked_other t e a b w
        go w B j =
            ap (λ (v : ℕ). accept (counted 2 v) w.looks w.state) j
            ∙ ap (λ (l : List ℕ). finished l t e a b w) (sym B.whole)

    pub other_ended :
        {o q : List ℕ} {x : Answer} (b : ℕ) → r ≡ 0 → EndsAbort n e 1 o
        → Continues o k x (Open t e) (begin_after (a - k) t e b) q → Performs m q x (Open t e) (work_other t e a b)
    unfolding work_other looked_other finished
    other_ended {o} {q} {x} b z E C =
        performs_each
        (λ s M D.
        let w = looked e a s in
        let N = tells_looked s M D in
        let G = open_looked a D in
        result_as (go w (nothing_left (pending_at e w.state) N.1 z) N.2)
        (at_state (C.performs w.looks (sym N.2))
        ((E.does live refl).shows w.state N.0 G.endpoint) (ended_open G)))
      where
        go : (w : Looked) → pending_at e w.state ≡ [] → k ≡ length w.looks
            → begin_after (a - k) t e b w.looks (end_abort live e w.state) ≡ looked_other t e a b w
        go w p j =
            ap (λ (v : ℕ). begin_after (a - v) t e b w.looks (end_abort live e w.state)) j
            ∙ ap (λ (l : List ℕ). finished l t e a b w) (sym p)
