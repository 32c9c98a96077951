-- A call 12 between two looks: the machine's state and the history's walk go together.
use Prim.Native.Nat.{ℕ}
use mathlib.Core.Path.{◌≡◌, refl, sym, ◌∙◌, ap, subst}
use mathlib.Core.Logic.{◌⊎◌, inl, inr, ⊎_elim}
use mathlib.Core.Bool.{Bool, true, false, ◌&&◌, not}
use mathlib.Core.Option.{Option, none, some}
use mathlib.Core.List.{List, [], ◌∷◌, ◌++◌, map, append_assoc, append-nil}
use lib.Dec.{eqb}
use borrow.Author.Tests.{ne_eqb, eq-eqb, lt-ltb}
use Rattle.machine.specs.Lists.{pick, put, without, only, Mem}
use Rattle.machine.specs.State.{State, Thread, able, sending, Abort, live, Endpoint, with_place}
use Rattle.machine.specs.Scheduling.{enqueue, wake}
use Rattle.machine.specs.Endpoints.{is_sending, senders, pending_of, passing, leave_endpoint, wake_from}
use Rattle.machine.specs.Aborts.{hits, look_at, look}
use Rattle.history.specs.History.{Aborting, Ended, Debts, is_in}
use Rattle.history.specs.Walk.{Walk, Walker, is_none, left_of, passes, settles, settle, looked_at, takes, take_look}
use Rattle.history.specs.Claim.{is_old}
use Rattle.history.specs.Tied.{Tied}
use Rattle.machine.proofs.Lists.{Same, same, other, same?, put_all, put_same, put_other, mem_left, mem_right, put_again}
use Rattle.machine.proofs.Lists.{only_append}
use Rattle.machine.proofs.Lists.{mem_keep, at_tail, inserted_mem, only_keep, distinct_apart, without_hit}
use Rattle.machine.proofs.Lists.{only_nil, only_hit}
use Rattle.machine.proofs.Lists.{only_miss, only_none}
use Rattle.history.proofs.Sublists.{Sub, take, sub_trans, sub_mem, sub_distinct, sub_map, sub_after, sub_without}
use Rattle.history.proofs.Sublists.{only_without, is_in_true, mem_is_in, not_is_in, mem_map, map_mem}
use Rattle.history.proofs.Sublists.{map_without}
use Rattle.machine.specs.Mid.{Mid}
use Rattle.machine.proofs.Preserved.AbortSteps.{mid_look, steady_look}
use Rattle.history.proofs.Demand3.Standing.{Stage, sends_call, Stood, Both, Core}
use Rattle.history.proofs.Demand3.Owing.{tied_still}
use Rattle.history.proofs.Demand3.Leaving.{Fewer, fewer_sends, leaves_wake_from, core_at}
use Rattle.history.proofs.Demand3.Ending.{sender_sends, sends_sender}

eqb_sym : (a b : ℕ) → eqb a b ≡ eqb b a
eqb_sym a b = go (same? a b)
  where
    go : Same a b → eqb a b ≡ eqb b a
    go (same i p) = p ∙ sym (eq-eqb b a (sym i))
    go (other i p) = p ∙ sym (ne_eqb b a (λ j. i (sym j)))

mem_is_none : (w : ℕ) (l : List ℕ) → Mem w l → is_none l ≡ false
mem_is_none w [] m = absurd m
mem_is_none w (x ∷ l) m = refl

-- A look

-- The abort x has looked at the first of what is pending, and removed it if it is old.
stood_look :
    (stage : Stage) {f g : ℕ → Thread} {e : ℕ} (u : ℕ) (l : List ℕ) {a : Abort} {x : Aborting}
    → ((t : ℕ) → (g t).place ≡ sending e → (f t).place ≡ sending e) → a.pending ≡ u ∷ l → (b : Bool)
    → is_old stage.past x (stage.since u) ≡ b → Stood stage f e a x
    → Stood stage g e (record { badge = a.badge; pending = without u a.pending })
    (looked_at (record { waiter = stage.since u; removed = b }) x)
stood_look stage {f} {g} {e} u l {a} {x} places first b old S =
    record {
      endpoint = S.endpoint;
      badge = S.badge;
      began = S.began;
      old = S.old;
      once = S.once;
      part = part;
      left = λ t p i. left t (S.left t (places t p) i);
      removed = removed b old ∙ sym (only_append (is_old stage.past x) x.looked (stage.since u ∷ []));
    }
  where
    part : Sub ((x.looked ++ (stage.since u ∷ [])) ++ map stage.since (without u a.pending)) x.onto
    part =
        rw (append_assoc, first, without_hit u u l refl)
        (sub_trans (sub_after x.looked (take (sub_map stage.since (sub_without u l)))) (rw first at S.part))

    left :
        (t : ℕ) → Mem (stage.since t) x.looked ⊎ Mem t a.pending
        → Mem (stage.since t) (x.looked ++ (stage.since u ∷ [])) ⊎ Mem t (without u a.pending)
    left t (inl m) = inl (mem_left (stage.since t) x.looked (stage.since u ∷ []) m)
    left t (inr m) = go (same? t u)
      where
        go : Same t u → Mem (stage.since t) (x.looked ++ (stage.since u ∷ [])) ⊎ Mem t (without u a.pending)
        go (same i _) = inl (rw i (inserted_mem (at_tail (stage.since u) x.looked)))
        go (other i _) = inr (mem_keep u t a.pending m i)

    removed :
        (c : Bool) → is_old stage.past x (stage.since u) ≡ c
        → pick c (x.removed ++ (stage.since u ∷ [])) x.removed
        ≡ only (is_old stage.past x) x.looked ++ only (is_old stage.past x) (stage.since u ∷ [])
    removed true h =
        rw (only_hit (is_old stage.past x) (stage.since u) [] h, only_nil)
        (ap (λ (r : List ℕ). r ++ (stage.since u ∷ [])) S.removed)
    removed false h = rw (only_miss (is_old stage.past x) (stage.since u) [] h, only_nil, append-nil) S.removed

-- Between two looks

-- The aborts that have ended, and who has to do with which.
pub record Gone : Type 0 where
  pub ended : List Ended
  pub debts : Debts

-- The walk that has come to state s, with the abort o standing and d gone.
abbrev pub walk_at : (ℕ → ℕ) → ℕ → State → Option Aborting → Gone → Walk
walk_at since e s o d =
    record {
      standing = o;
      queued = map since (senders s.threads (s.endpoints e).waiters);
      ended = d.ended;
      debts = d.debts;
      stray = [];
    }

-- The state and the walk go together, in a call 12 at endpoint e.
pub record Going
    (stage : Stage) (standing : ℕ → Option Aborting) (e : ℕ) (s : State) (o : Option Aborting) (d : Gone) : Type 0 where
  pub mid : Mid s
  pub core : Core stage s.threads s.endpoints (put standing e o) d.ended
  pub tied : Tied s.threads d.debts d.ended

module _ (stage : Stage) (standing : ℕ → Option Aborting) (e : ℕ) (s : State) where
  abbrev since : ℕ → ℕ
  since = stage.since

  abbrev queue : List ℕ
  queue = senders s.threads (s.endpoints e).waiters

  -- The machine's abort, where the history's stands.
  pub going_abort :
      (o : Option Aborting) (d : Gone) (x : Aborting) → o ≡ some x → Going stage standing e s o d
      → (a : Abort) × ((s.endpoints e).abort ≡ some a) × Stood stage s.threads e a x
  going_abort o d x h G =
      go (s.endpoints e).abort refl (rw (put_same standing e o, h) at (G.core.stands e))
    where
      go : (k : Option Abort) → (s.endpoints e).abort ≡ k → Both stage s.threads e k (some x)
          → (a : Abort) × ((s.endpoints e).abort ≡ some a) × Stood stage s.threads e a x
      go none p B = absurd B
      go (some a) p B = (a, p, B)

  module _
      (x : Aborting) (d : Gone) (G : Going stage standing e s (some x) d) (a : Abort)
      (was : (s.endpoints e).abort ≡ some a) (S : Stood stage s.threads e a x) where
    pending_sends : (u : ℕ) → Mem u a.pending → (s.threads u).place ≡ sending e
    pending_sends u m = (G.mid.marks.part e a was).sends u m

    pending_onto : (u : ℕ) → Mem u a.pending → Mem (since u) x.onto
    pending_onto u m =
        sub_mem S.part (since u)
        (mem_right (since u) x.looked (map since a.pending) (mem_map since u a.pending m))

    -- With a waiter pending, something is left of the abort.
    left_mem : (u : ℕ) → Mem u a.pending → is_none (left_of x (map since queue)) ≡ false
    unfolding left_of
    left_mem u m =
        mem_is_none (since u) (left_of x (map since queue))
        (only_keep (λ w. is_in w (map since queue) && not (is_in w x.looked)) (since u) x.onto (pending_onto u m)
        (rw (
          mem_is_in (since u) (map since queue)
              (mem_map since u queue (sends_sender G.mid e u (pending_sends u m))),
          not_is_in (since u) x.looked fresh,
        )))
      where
        fresh : Mem (since u) x.looked → ⊥
        fresh i =
            distinct_apart (since u) x.looked (map since a.pending) (sub_distinct S.part S.once) i
            (mem_map since u a.pending m)

    pub left_some : (u : ℕ) (l : List ℕ) → a.pending ≡ u ∷ l → is_none (left_of x (map since queue)) ≡ false
    left_some u l h = left_mem u (subst (λ (k : List ℕ). Mem u k) (sym h) (inl refl))

    -- With none pending, nothing is.
    pub left_none : a.pending ≡ [] → is_none (left_of x (map since queue)) ≡ true
    unfolding left_of
    left_none h =
        ap is_none
        (only_none (λ w. is_in w (map since queue) && not (is_in w x.looked)) x.onto
        (λ w m. go w m (is_in w (map since queue)) refl))
      where
        none_left : (t : ℕ) → Mem t queue → Mem (since t) x.onto → Mem (since t) x.looked
        none_left t i m =
            ⊎_elim (λ j. j) (λ j. absurd (subst (λ (k : List ℕ). Mem t k) h j))
            (S.left t (sender_sends G.mid e t i) m)

        go : (w : ℕ) → Mem w x.onto → (b : Bool) → is_in w (map since queue) ≡ b
            → (b && not (is_in w x.looked)) ≡ false
        go w m true p =
            let r = map_mem since w queue (is_in_true w (map since queue) p) in
            rw (mem_is_in w x.looked (rw r.2 (none_left r.0 r.1 (rw r.2 at m))))
        go w m false p = refl

    -- While something is pending, nothing is to settle.
    pub settle_pending :
        (u : ℕ) (l : List ℕ) (k : ℕ) (c : Walker) → a.pending ≡ u ∷ l
        → settle k c (walk_at since e s (some x) d) ≡ walk_at since e s (some x) d
    unfolding settle settles passes
    settle_pending u l k c h = rw (left_some u l h) (go (eqb x.badge c.badge))
      where
        go : (b : Bool) → passes b false x k c (walk_at since e s (some x) d) ≡ walk_at since e s (some x) d
        go true = refl
        go false = refl

    -- A look at the cursor's waiter u.
    module _ (u : ℕ) (l : List ℕ) (first : a.pending ≡ u ∷ l) where
      cursor : Mem u a.pending
      cursor = subst (λ (k : List ℕ). Mem u k) (sym first) (inl refl)

      -- It is removed exactly if it is old.
      look_old : is_old stage.past x (since u) ≡ hits e u s
      unfolding hits
      look_old =
          rw (
            was,
            (G.core.made u _ (sends_call (s.threads u) e (pending_sends u cursor))).call,
            lt-ltb (since u) x.began (S.old (since u) (pending_onto u cursor)),
            eq-eqb e x.endpoint (sym S.endpoint),
          ) (ap (eqb (s.threads u).badge) S.badge ∙ eqb_sym (s.threads u).badge a.badge)

      looked_entry : List ℕ → Endpoint
      looked_entry waiters =
          record { status = (s.endpoints e).status; waiters = waiters; abort = passing u (s.endpoints e).abort }

      -- Core, with the threads g after the look.
      core_looked :
          (g : ℕ → Thread) (waiters : List ℕ)
          → Fewer s.threads g s.endpoints (put s.endpoints e (looked_entry waiters))
          → Core stage g (put s.endpoints e (looked_entry waiters))
          (put standing e (some (looked_at (record { waiter = since u; removed = hits e u s }) x))) d.ended
      unfolding looked_entry
      core_looked g waiters F =
          subst
          (λ (k : ℕ → Option Aborting). Core stage g (put s.endpoints e (looked_entry waiters)) k d.ended)
          (put_again standing e (some x) _)
          (core_at d.ended e (looked_entry waiters) _ F
          (rw was (stood_look stage u l (λ t h. (fewer_sends F t e h).0) first (hits e u s) look_old S))
          (λ z i. inl i) G.core)

      core_look :
          (b : Bool)
          → Core stage (look_at b e u s).threads (look_at b e u s).endpoints
          (put standing e (some (looked_at (record { waiter = since u; removed = hits e u s }) x))) d.ended
      unfolding look_at wake_from wake enqueue leave_endpoint looked_entry
      core_look true = core_looked _ _ (leaves_wake_from s e u 3 0 0).fewer
      core_look false =
          core_looked s.threads (s.endpoints e).waiters
          (record {
            calls = λ t c h. h;
            live =
                λ t.
                put_all (λ f y. (s.threads t).place ≡ sending f → y.status ≡ live → (s.endpoints f).status ≡ live)
                s.endpoints e _ (λ h k. k) (λ f i h k. k);
          })

      look_queued :
          (b : Bool)
          → pick b (without (since u) (map since queue)) (map since queue)
          ≡ map since (senders (look_at b e u s).threads ((look_at b e u s).endpoints e).waiters)
      unfolding look_at wake_from wake enqueue leave_endpoint looked_entry
      look_queued true =
          rw (put_same s.endpoints e (looked_entry (without u (s.endpoints e).waiters)))
          (sym
          (ap (map since) (only_without sends_then _ u (s.endpoints e).waiters others)
          ∙ map_without since u queue names))
        where
          sends_then : ℕ → Bool
          sends_then t = is_sending (s.threads t).place

          others :
              (t : ℕ) → (t ≡ u → ⊥)
              → is_sending (put s.threads u (with_place able 3 0 0 (s.threads u)) t).place ≡ is_sending
              (s.threads t).place
          others t i = ap (λ (y : Thread). is_sending y.place) (put_other s.threads u t _ i)

          names : (t : ℕ) → Mem t queue → since t ≡ since u → t ≡ u
          names t m =
              G.core.apart t u _ _ (sends_call (s.threads t) e (sender_sends G.mid e t m))
              (sends_call (s.threads u) e (pending_sends u cursor))
      look_queued false = rw (put_same s.endpoints e (looked_entry (s.endpoints e).waiters))

      pub going_look :
          Going stage standing e (look e u s)
          (some (looked_at (record { waiter = since u; removed = hits e u s }) x)) d
      unfolding look
      going_look =
          let T = steady_look e u s in
          record {
            mid = mid_look e u l s G.mid (ap pending_of was ∙ first);
            core = core_look (hits e u s);
            tied = tied_still T.debt (λ z i. i) G.tied;
          }

      pub walk_look :
          take_look (record { waiter = since u; removed = hits e u s }) (walk_at since e s (some x) d)
          ≡ walk_at since e (look e u s) (some (looked_at (record { waiter = since u; removed = hits e u s }) x)) d
      unfolding take_look takes look
      walk_look =
          ap (λ (q : List ℕ).
          record {
            standing = some (looked_at (record { waiter = since u; removed = hits e u s }) x);
            queued = q;
            ended = d.ended;
            debts = d.debts;
            stray = [];
          }) (look_queued (hits e u s))
