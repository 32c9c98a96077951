-- Call 12's steps: a look, the beginning of an abort and the joining of one keep Mid, and so does the loop of looks.
use Prim.Native.Nat.{ℕ, zero, suc, ◌<◌, ◌^◌}
use mathlib.Core.Path.{◌≡◌, refl, sym, ◌∙◌, ap, subst}
use mathlib.Core.Logic.{inl, inr}
use mathlib.Core.Bool.{Bool, true, false}
use mathlib.Core.Option.{Option, none, some}
use mathlib.Core.List.{List, [], ◌∷◌, ◌++◌, append_assoc, append-nil}
use native.Mathlib.Omega.{arith}
use borrow.Author.Tests.{eq-eqb}
use Rattle.machine.specs.Lists.{put, without, Mem, Distinct}
use Rattle.machine.specs.State.{State, sending, works, Abort, live, Endpoint, set_endpoint}
use Rattle.machine.specs.Scheduling.{enqueue, wake}
use Rattle.machine.specs.Endpoints.{is_sending, senders, under_abort, pending_of, is_aborting, passing}
use Rattle.machine.specs.Endpoints.{leave_endpoint, wake_from}
use Rattle.machine.specs.Aborts.{hits, look_at, look, after_look, pending_at, look_up_to, join, begin}
use Rattle.machine.specs.Sound.{Present, Queued, Stretch}
use Rattle.machine.proofs.Lists.{put_all, put_same, clash, distinct_left, distinct_right, without_first}
use Rattle.machine.proofs.Lists.{mem_keep, mem_only, only_keep, only_all}
use Rattle.machine.specs.Mid.{Mid}
use Rattle.machine.proofs.Preserved.Statuses.{EntryFits, bearing, mid_debt, mid_entry}
use Rattle.machine.proofs.Preserved.Debts.{works_one, abort_live, fits_some}
use Rattle.machine.proofs.Preserved.Waking.{mid_wake_from}

nil_cons : {x : ℕ} {l : List ℕ} → [] ≡ x ∷ l → ⊥
nil_cons {x} {l} p = let z : ◌≡◌ {A = ℕ} 0 1 = cc in omega arith

-- A look at the first pending.

-- The part of the queue behind its first.
part_rest : {s : State} {e w : ℕ} {l : List ℕ} → Stretch s e (w ∷ l) → Stretch s e l
part_rest {s} {e} {w} {l} P =
    record {
      before = P.before ++ (w ∷ []);
      behind = P.behind;
      within = P.within ∙ sym (append_assoc P.before (w ∷ []) (l ++ P.behind));
      sends = λ t m. P.sends t (inr m);
    }

module _ {s : State} (M : Mid s) (e : ℕ) (a : Abort) (h : (s.endpoints e).abort ≡ some a) where
  -- Nobody is pending twice.
  pub pending_once : Distinct a.pending
  pending_once =
      let P = M.marks.part e a h in
      distinct_left a.pending P.behind
      (distinct_right P.before (a.pending ++ P.behind) (rw P.within at (M.queues.queued_once e)))

  module _ (w : ℕ) (l : List ℕ) (p : a.pending ≡ w ∷ l) where
    passed : without w a.pending ≡ l
    passed = rw p (without_first w l (rw p at pending_once))

    part_passed : Stretch s e (without w a.pending)
    part_passed = rw passed (part_rest (rw p at (M.marks.part e a h)))

    -- The first pending waits to send.
    first_sends : (s.threads w).place ≡ sending e
    first_sends = (M.marks.part e a h).sends w (rw p (inl refl))

    kept_fits :
        ((s.threads w).badge ≡ a.badge → ⊥) → EntryFits s e (bearing (passing w (some a)) (s.endpoints e))
    kept_fits n =
        fits_some M e (record { badge = a.badge; pending = without w a.pending })
        (abort_live M e a h) (M.ranges.abort_badge e a h) part_passed
        (λ t g b.
        mem_keep w t a.pending (M.marks.none_outside e t a h g b)
        (λ k. n (ap (λ (u : ℕ). (s.threads u).badge) (sym k) ∙ b)))

-- A look at the first pending keeps Mid, whether it is removed or kept.
look_some :
    {s : State} (e w : ℕ) (l : List ℕ) (a : Abort) → Mid s → (s.endpoints e).abort ≡ some a → a.pending ≡ w ∷ l
    → (b : Bool) → under_abort (s.threads w).badge (some a) ≡ b → Mid (look_at b e w s)
unfolding look_at
look_some {s} e w l a M h p true q =
    mid_wake_from s e w 3 0 0 M (inl (first_sends M e a h w l p)) (omega arith) (omega arith) (omega arith)
    (λ n. (refl, refl))
look_some {s} e w l a M h p false q =
    mid_entry s e (bearing (passing w (s.endpoints e).abort) (s.endpoints e)) refl M
    (rw h (kept_fits M e a h w l p (λ k. clash (eq-eqb _ _ (sym k)) q))) (λ u k. rw h refl)

pub mid_look :
    (e w : ℕ) (l : List ℕ) (s : State) → Mid s → pending_at e s ≡ w ∷ l → Mid (look e w s)
unfolding look hits
mid_look e w l s M p = go (s.endpoints e).abort refl p
  where
    go : (k : Option Abort) → (s.endpoints e).abort ≡ k → pending_of k ≡ w ∷ l
        → Mid (look_at (under_abort (s.threads w).badge (s.endpoints e).abort) e w s)
    go none h q = absurd (nil_cons q)
    go (some a) h q = look_some e w l a M h q _ (ap (under_abort (s.threads w).badge) (sym h))

-- The entries have the same status, and the same abort but for what is pending.
pub record SameAbort (x y : Endpoint) : Type 0 where
  pub status : x.status ≡ y.status
  pub aborting : is_aborting x.abort ≡ is_aborting y.abort
  pub under : (b : ℕ) → under_abort b x.abort ≡ under_abort b y.abort

-- What a step leaves that wakes a waiter or passes it: who runs, every thread's ticks and debt and, but for queues,
-- every entry.
pub record Steady (s s' : State) : Type 0 where
  pub runs : s'.runs ≡ s.runs
  pub ticks : (t : ℕ) → (s'.threads t).ticks ≡ (s.threads t).ticks
  pub debt : (t : ℕ) → (s'.threads t).debt ≡ (s.threads t).debt
  pub entry : (e : ℕ) → SameAbort (s'.endpoints e) (s.endpoints e)

alike_self : (x : Endpoint) → SameAbort x x
alike_self x = record { status = refl; aborting = refl; under = λ b. refl }

pub steady_self : (s : State) → Steady s s
steady_self s = record { runs = refl; ticks = λ t. refl; debt = λ t. refl; entry = λ e. alike_self (s.endpoints e) }

pub steady_then : {s s' s'' : State} → Steady s s' → Steady s' s'' → Steady s s''
steady_then F G =
    record {
      runs = G.runs ∙ F.runs;
      ticks = λ t. G.ticks t ∙ F.ticks t;
      debt = λ t. G.debt t ∙ F.debt t;
      entry =
          λ e.
          record {
            status = (G.entry e).status ∙ (F.entry e).status;
            aborting = (G.entry e).aborting ∙ (F.entry e).aborting;
            under = λ b. (G.entry e).under b ∙ (F.entry e).under b;
          };
    }

module _ (w : ℕ) where
  passing_aborting : (k : Option Abort) → is_aborting (passing w k) ≡ is_aborting k
  passing_aborting none = refl
  passing_aborting (some a) = refl

  pub passing_under : (b : ℕ) (k : Option Abort) → under_abort b (passing w k) ≡ under_abort b k
  passing_under b none = refl
  passing_under b (some a) = refl

  -- The abort at e passes w.
  alike_passing :
      (f : ℕ → Endpoint) (e : ℕ) (l : List ℕ) (k : ℕ)
      → SameAbort (put f e (record { status = (f e).status; waiters = l; abort = passing w (f e).abort }) k) (f k)
  alike_passing f e l =
      put_all (λ k x. SameAbort x (f k)) f e _
      (record {
        status = refl;
        aborting = passing_aborting (f e).abort;
        under = λ b. passing_under b (f e).abort;
      })
      (λ k n. alike_self (f k))

module _ (e w : ℕ) (s : State) where
  pub steady_wake_from : (o b m : ℕ) → Steady s (wake_from e w o b m s)
  unfolding wake_from wake enqueue leave_endpoint
  steady_wake_from o b m =
      record {
        runs = refl;
        ticks = put_all (λ t x. x.ticks ≡ (s.threads t).ticks) s.threads w _ refl (λ t n. refl);
        debt = put_all (λ t x. x.debt ≡ (s.threads t).debt) s.threads w _ refl (λ t n. refl);
        entry = alike_passing w s.endpoints e (without w (s.endpoints e).waiters);
      }

  steady_look_at : (b : Bool) → Steady s (look_at b e w s)
  unfolding look_at
  steady_look_at true = steady_wake_from 3 0 0
  steady_look_at false =
      record {
        runs = refl;
        ticks = λ t. refl;
        debt = λ t. refl;
        entry = alike_passing w s.endpoints e (s.endpoints e).waiters;
      }

  pub steady_look : Steady s (look e w s)
  unfolding look
  steady_look = steady_look_at (hits e w s)

-- Beginning and joining.

module _ {s : State} (M : Mid s) (e : ℕ) where
  abbrev queue : List ℕ
  queue = (s.endpoints e).waiters

  abbrev first_to_last : List ℕ
  first_to_last = senders s.threads queue

  sender : (t : ℕ) → Mem t first_to_last → (s.threads t).place ≡ sending e
  sender t m =
      let h = mem_only (λ u. is_sending (s.threads u).place) t queue m in
      go h.1 ((M.queues.queued t e).0 h.0)
    where
      go : is_sending (s.threads t).place ≡ true → Queued s t e → (s.threads t).place ≡ sending e
      go h (inl p) = p
      go h (inr p) = absurd (clash h (ap is_sending p))

  -- With one sender among the waiters, all are senders.
  all_senders : (w : ℕ) → (s.threads w).place ≡ sending e → first_to_last ≡ queue
  all_senders w h =
      only_all (λ u. is_sending (s.threads u).place) queue (λ u m. go u ((M.queues.queued u e).0 m))
    where
      go : (u : ℕ) → Queued s u e → is_sending (s.threads u).place ≡ true
      go u (inl p) = ap is_sending p
      go u (inr p) = absurd (M.queues.one_kind e w u h p)

  part_senders : Stretch s e first_to_last
  part_senders = go first_to_last refl
    where
      go : (l : List ℕ) → first_to_last ≡ l → Stretch s e first_to_last
      go [] h = rw h (record { before = []; behind = queue; within = refl; sends = λ t m. absurd m })
      go (w ∷ l) h =
          record {
            before = [];
            behind = [];
            within = sym (append-nil first_to_last ∙ all_senders w (sender w (rw h (inl refl))));
            sends = sender;
          }

  -- The abort of badge b that begins may stand.
  fits_begin :
      (b : ℕ) → (s.endpoints e).status ≡ live → b < 2 ^ 28
      → EntryFits s e (bearing (some (record { badge = b; pending = first_to_last })) (s.endpoints e))
  fits_begin b l h =
      fits_some M e (record { badge = b; pending = first_to_last }) l h part_senders
      (λ u p q.
      only_keep (λ v. is_sending (s.threads v).place) u queue ((M.queues.queued u e).1 (inl p))
      (ap is_sending p))

-- "An endpoint now keeps the set of all threads working on its abort": whoever joins is in it.

pub mid_join :
    (t e : ℕ) (s : State) → is_aborting (s.endpoints e).abort ≡ true → Mid s → Present s t → Mid (join t e s)
unfolding join
mid_join t e s h M p =
    mid_debt s t (works e) M (record { in_range_lem = λ h. tt; unused = λ h. absurd (p h) })
    (λ f k. subst (λ (i : ℕ). is_aborting (s.endpoints i).abort ≡ true) (works_one refl k) h)

-- "Abort begins by storing cursor (first sender), end mark (last sender), badge" and the set, which has the caller.

pub mid_begin :
    (t e b : ℕ) (s : State) → Mid s → Present s t → (s.endpoints e).status ≡ live → b < 2 ^ 28 → Mid (begin t e b s)
unfolding begin
mid_begin t e b s M p l h =
    let x = bearing (some (record { badge = b; pending = first_to_last M e })) (s.endpoints e) in
    mid_join t e (set_endpoint e x s) (ap (λ (y : Endpoint). is_aborting y.abort) (put_same s.endpoints e x))
    (mid_entry s e x refl M (fits_begin M e b l h) (λ u k. refl)) p

-- "A look takes the cursor's waiter": as many looks as the allowance lets. The second argument is what is pending.

mid_looks : (n : ℕ) (l : List ℕ) (e : ℕ) (s : State) → pending_at e s ≡ l → Mid s → Mid (look_up_to n l e s).state
unfolding look_up_to after_look
mid_looks zero l e s p M = M
mid_looks (suc n) [] e s p M = M
mid_looks (suc n) (w ∷ l) e s p M =
    mid_looks n (pending_at e (look e w s)) e (look e w s) refl (mid_look e w l s M p)

pub mid_look_up_to : (n e : ℕ) (s : State) → Mid s → Mid (look_up_to n (pending_at e s) e s).state
mid_look_up_to n e s M = mid_looks n (pending_at e s) e s refl M

pub steady_look_up_to : (n : ℕ) (l : List ℕ) (e : ℕ) (s : State) → Steady s (look_up_to n l e s).state
unfolding look_up_to after_look
steady_look_up_to zero l e s = steady_self s
steady_look_up_to (suc n) [] e s = steady_self s
steady_look_up_to (suc n) (w ∷ l) e s =
    steady_then (steady_look e w s) (steady_look_up_to n (pending_at e (look e w s)) e (look e w s))
