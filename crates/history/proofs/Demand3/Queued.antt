-- The machine's queues and lines are those that calls, answers, callers and looks make: each call of the machine.
use Prim.Native.Nat.{ℕ, zero, suc, ◌-◌}
use mathlib.Core.Path.{◌≡◌, refl, sym, ◌∙◌, ap, subst, fun_ext}
use mathlib.Core.Logic.{◌⊎◌, inl, inr}
use mathlib.Core.Bool.{Bool, true, false}
use mathlib.Core.Option.{Option, none, some}
use mathlib.Core.List.{List, [], ◌∷◌, ◌++◌}
use native.Mathlib.Omega.{arith}
use borrow.Author.Tests.{ne_eqb, eq-eqb}
use lib.Dec.{eqb}
use lib.ListN.{drop}
use Rattle.calls.specs.declared.Call.{Call}
use Rattle.calls.specs.declared.Call.TheVariants.{CreateThread, DestroyThread, SetPriority, CreateEndpoint}
use Rattle.calls.specs.declared.Call.TheVariants.{Interrupt, Tick, Send, Receive, Yield, Wait, Delete, Abort}
use Rattle.calls.specs.declared.Call.TheVariants.{Grant}
use Rattle.calls.specs.Calls.{in_range}
use Rattle.machine.specs.Lists.{pick, put, without, first, Distinct}
use Rattle.machine.specs.State.{State, Place, absent, able, sending, receiving, waiting, Status, missing}
use Rattle.machine.specs.State.{live, closing, Endpoint, Line, quiet, pending, awaited, missing_endpoint}
use Rattle.machine.specs.State.{set_endpoint, set_line, set_thread, absent_thread}
use Rattle.machine.specs.State.{Abort as Standing}
use Rattle.machine.specs.Scheduling.{enqueue, unqueue, stand_down, wake, block, choose}
use Rattle.machine.specs.Endpoints.{is_sending, is_receiving, receivers, senders, join_endpoint, leave_endpoint}
use Rattle.machine.specs.Endpoints.{wake_from, drop_debt, note_all, note, end_abort}
use Rattle.machine.specs.Results.{Look, Result}
use Rattle.calls.specs.Answers.{is_accepted}
use Rattle.machine.specs.Sound.{Sound, Queued}
use Rattle.machine.specs.Machine.{is_running, send_to, send_unless, send_at, send, receive_from, receive_at}
use Rattle.machine.specs.Machine.{receive, leave_ready, leave, destroy_if, destroy_thread, create_if, create_thread}
use Rattle.machine.specs.Machine.{move_ready, change_unless, priority_if, set_priority, create_at, create_endpoint}
use Rattle.machine.specs.Machine.{fire, interrupt, leave_ticks, tick_for, tick, yield, wait_at, wait, grant_at}
use Rattle.machine.specs.Machine.{grant_if, grant, by_caller, perform, perform_unless, perform_if, step}
use Rattle.machine.specs.Grants.{Grants}
use Rattle.machine.specs.Aborts.{Removal, one_more, remove_up_to, deleted, delete_from, delete_at, delete, hits}
use Rattle.machine.specs.Aborts.{look_at, look, Looked, after_look, look_up_to, pending_at, join, begin, ended}
use Rattle.machine.specs.Aborts.{looked_own, work_own, begin_after, finished, looked_other, work_other, under_badge}
use Rattle.machine.specs.Aborts.{abort_from, abort_open, abort_at, abort_unless, abort}
use Rattle.history.specs.Queues.{Queues, met, awaits, queue_at, line_at, looked_out, unless, gone, queues_by}
use Rattle.history.specs.Queues.{queues_if}
use Rattle.history.specs.Queues.{queues_after, waiter_on, queues_in}
use Rattle.machine.proofs.Lists.{Same, same, other, same?, put_all, put_same, put_other, put_self, without_first}
use Rattle.machine.proofs.Lists.{without_none, mem_only, first_mem, first_only, first_without, clash}
use Rattle.machine.proofs.Running.{choose_keeps}
use Rattle.machine.proofs.Calls.Answers.{refused_state}

-- The queue of e becomes q, and nothing else changes.
pub record Turns (e : ℕ) (s : State) (q : List ℕ) (r : State) : Type 0 where
  pub own : (r.endpoints e).waiters ≡ q
  pub others : (f : ℕ) → (f ≡ e → ⊥) → (r.endpoints f).waiters ≡ (s.endpoints f).waiters
  pub lines : r.lines ≡ s.lines

turns_self : (e : ℕ) (s : State) → Turns e s (s.endpoints e).waiters s
turns_self e s = record { own = refl; others = λ f n. refl; lines = refl }

-- The entry of e is stored.
turns_put :
    (e : ℕ) (x : Endpoint) (s r : State) → r.endpoints ≡ put s.endpoints e x → r.lines ≡ s.lines
    → Turns e s x.waiters r
turns_put e x s r h l =
    record {
      own = ap (λ (f : ℕ → Endpoint). (f e).waiters) h ∙ ap (λ (y : Endpoint). y.waiters) (put_same s.endpoints e x);
      others =
          λ f n. ap (λ (k : ℕ → Endpoint). (k f).waiters) h
          ∙ ap (λ (y : Endpoint). y.waiters) (put_other s.endpoints e f x n);
      lines = l;
    }

turns_then : {e : ℕ} {s r z : State} {p q : List ℕ} → Turns e s p r → Turns e r q z → Turns e s q z
turns_then A B =
    record {
      own = B.own;
      others = λ f n. B.others f n ∙ A.others f n;
      lines = B.lines ∙ A.lines;
    }

turns_choose : {e : ℕ} {s : State} {q : List ℕ} (r : State) → Turns e s q r → Turns e s q (choose r)
turns_choose {e} {s} {q} r A =
    record {
      own = ap (λ (f : ℕ → Endpoint). (f e).waiters) (choose_keeps r).endpoints ∙ A.own;
      others = λ f n. ap (λ (k : ℕ → Endpoint). (k f).waiters) (choose_keeps r).endpoints ∙ A.others f n;
      lines = (choose_keeps r).lines ∙ A.lines;
    }

-- 12

pub turns_end : (x : Status) (e : ℕ) (s : State) → Turns e s (s.endpoints e).waiters (end_abort x e s)
unfolding end_abort note note_all
turns_end x e s = go (s.endpoints e).abort
  where
    go : (o : Option Standing)
        → Turns e s (s.endpoints e).waiters
        (record {
          threads = (note o e s).threads;
          runs = (note o e s).runs;
          levels = (note o e s).levels;
          endpoints =
              put (note o e s).endpoints e
              (record { status = x; waiters = (s.endpoints e).waiters; abort = none });
          lines = (note o e s).lines;
        })
    go none = turns_put e _ s _ refl refl
    go (some a) = turns_put e _ s _ refl refl

turns_look :
    (e w : ℕ) (s : State) (b : Bool)
    → Turns e s (pick b (without w (s.endpoints e).waiters) (s.endpoints e).waiters) (look_at b e w s)
unfolding look_at wake_from wake enqueue leave_endpoint
turns_look e w s true = turns_put e _ s _ refl refl
turns_look e w s false = turns_put e _ s _ refl refl

pub turns_wake : (e w o b m : ℕ) (s : State) → Turns e s (without w (s.endpoints e).waiters) (wake_from e w o b m s)
unfolding wake_from wake enqueue leave_endpoint
turns_wake e w o b m s = turns_put e _ s _ refl refl

turns_looks :
    (n : ℕ) (l : List ℕ) (e : ℕ) (s : State)
    → Turns e s (looked_out (look_up_to n l e s).looks (s.endpoints e).waiters) (look_up_to n l e s).state
unfolding look_up_to after_look look
turns_looks zero l e s = turns_self e s
turns_looks (suc n) [] e s = turns_self e s
turns_looks (suc n) (w ∷ l) e s =
    go (look_up_to n (pending_at e (look e w s)) e (look e w s)).looks (turns_look e w s (hits e w s))
    (turns_looks n (pending_at e (look e w s)) e (look e w s))
  where
    go : {q : List ℕ} (v : List Look) {z : State} → Turns e s q (look_at (hits e w s) e w s)
        → Turns e (look e w s) (looked_out v ((look e w s).endpoints e).waiters) z → Turns e s (looked_out v q) z
    go {q} v {z} A B = turns_then A (subst (λ (k : List ℕ). Turns e (look e w s) (looked_out v k) z) A.own B)

looked_out_append : (k l : List Look) (q : List ℕ) → looked_out (k ++ l) q ≡ looked_out l (looked_out k q)
looked_out_append [] l q = refl
looked_out_append (x ∷ k) l q = looked_out_append k l (pick x.removed (without x.waiter q) q)

-- What a call 12 at e comes to, from state s.
abbrev Out : ℕ → State → Result → Type 0
Out e s r = Turns e s (looked_out r.looks (s.endpoints e).waiters) r.state

out_ended :
    (l : List ℕ) (t e : ℕ) (v : List Look) (s r : State) → Turns e s (looked_out v (s.endpoints e).waiters) r
    → Out e s (ended l t e v r)
unfolding ended drop_debt
out_ended [] t e v s r A =
    turns_choose (end_abort live e (drop_debt t r))
    (subst (λ (k : List ℕ). Turns e s k (end_abort live e (drop_debt t r))) (dropped ∙ A.own)
    (turns_then A (turns_then kept (turns_end live e (drop_debt t r)))))
  where
    kept : Turns e r (r.endpoints e).waiters (drop_debt t r)
    kept = record { own = refl; others = λ f n. refl; lines = refl }

    dropped : ((drop_debt t r).endpoints e).waiters ≡ (r.endpoints e).waiters
    dropped = refl
out_ended (w ∷ l) t e v s r A = turns_choose r A

out_own :
    (t e a : ℕ) (v : List Look) (s r : State) → Turns e s (looked_out v (s.endpoints e).waiters) r
    → Out e s (work_own t e a v r)
unfolding work_own looked_own
out_own t e a v s r A =
    out_ended _ t e (v ++ (look_up_to a (pending_at e r) e r).looks) s _
    (subst (λ (k : List ℕ). Turns e s k (look_up_to a (pending_at e r) e r).state)
    (ap (looked_out (look_up_to a (pending_at e r) e r).looks) A.own
    ∙ sym (looked_out_append v (look_up_to a (pending_at e r) e r).looks (s.endpoints e).waiters))
    (turns_then A (turns_looks a (pending_at e r) e r)))

turns_begin : (t e b : ℕ) (s : State) → Turns e s (s.endpoints e).waiters (begin t e b s)
unfolding begin join
turns_begin t e b s = turns_put e _ s _ refl refl

out_after :
    (n t e b : ℕ) (v : List Look) (s r : State) → Turns e s (looked_out v (s.endpoints e).waiters) r
    → Out e s (begin_after n t e b v r)
unfolding begin_after
out_after zero t e b v s r A = turns_choose r A
out_after (suc n) t e b v s r A =
    out_own t e (suc n) v s (begin t e b r)
    (subst (λ (k : List ℕ). Turns e s k (begin t e b r)) A.own (turns_then A (turns_begin t e b r)))

out_finished :
    (l : List ℕ) (t e a b : ℕ) (k : Looked) (s : State)
    → Turns e s (looked_out k.looks (s.endpoints e).waiters) k.state → Out e s (finished l t e a b k)
unfolding finished
out_finished [] t e a b k s A =
    out_after _ t e b k.looks s (end_abort live e k.state)
    (subst (λ (q : List ℕ). Turns e s q (end_abort live e k.state)) A.own
    (turns_then A (turns_end live e k.state)))
out_finished (w ∷ l) t e a b k s A = turns_choose k.state A

out_under : (x : Bool) (t e a b : ℕ) (s : State) → Out e s (under_badge x t e a b s)
unfolding under_badge work_other looked_other join
out_under true t e a b s = out_own t e a [] s _ (record { own = refl; others = λ f n. refl; lines = refl })
out_under false t e a b s = out_finished _ t e a b _ s (turns_looks a (pending_at e s) e s)

out_from : (o : Option Standing) (t e a b : ℕ) (s : State) → Out e s (abort_from o t e a b s)
unfolding abort_from
out_from none t e a b s = out_own t e a [] s _ (turns_begin t e b s)
out_from (some x) t e a b s = out_under (eqb x.badge b) t e a b s

out_at : (x : Status) (t e a b : ℕ) (s : State) → Out e s (abort_at x t e a b s)
unfolding abort_at abort_open drop_debt
out_at missing t e a b s = turns_self e s
out_at closing t e a b s = turns_self e s
out_at live t e a b s =
    go (abort_from ((drop_debt t s).endpoints e).abort t e a b (drop_debt t s))
    (out_from ((drop_debt t s).endpoints e).abort t e a b (drop_debt t s))
  where
    go : (r : Result) → Out e (drop_debt t s) r → Out e s r
    go r A = record { own = A.own; others = A.others; lines = A.lines }

out_unless : (x : Bool) (t e a b : ℕ) (s : State) → Out e s (abort_unless x t e a b s)
unfolding abort_unless drop_debt
out_unless true t e a b s =
    turns_choose (drop_debt t s) (record { own = refl; others = λ f n. refl; lines = refl })
out_unless false t e a b s = out_at (s.endpoints e).status t e a b s

-- 11

-- A removal of up to n waiters takes the first of the queue, as many as it counts.
turns_removes :
    (n : ℕ) (l : List ℕ) (e : ℕ) (s : State) → (s.endpoints e).waiters ≡ l → Distinct l
    → Turns e s (drop (remove_up_to n l e s).count l) (remove_up_to n l e s).state
unfolding remove_up_to one_more
turns_removes zero l e s h d = record { own = h; others = λ f n. refl; lines = refl }
turns_removes (suc n) [] e s h d = record { own = h; others = λ f n. refl; lines = refl }
turns_removes (suc n) (w ∷ l) e s h d =
    go (wake_from e w 4 0 0 s) (turns_wake e w 4 0 0 s)
    (λ r q. subst (λ (k : List ℕ). Turns e r (drop (remove_up_to n k e r).count l) (remove_up_to n k e r).state) (sym q)
    (turns_removes n l e r q d.1))
  where
    go : (r : State) → Turns e s (without w (s.endpoints e).waiters) r
        → ((r : State) → (r.endpoints e).waiters ≡ l
        → Turns e r (drop (remove_up_to n (r.endpoints e).waiters e r).count l)
        (remove_up_to n (r.endpoints e).waiters e r).state)
        → Turns e s (drop (remove_up_to n (r.endpoints e).waiters e r).count l)
        (remove_up_to n (r.endpoints e).waiters e r).state
    go r A ih = turns_then A (ih r (A.own ∙ ap (without w) h ∙ without_first w l d))

-- What a call 11 at e comes to.
abbrev Less : ℕ → State → Result → Type 0
Less e s r = Turns e s (drop r.answer.count (s.endpoints e).waiters) r.state

less_deleted :
    (l : List ℕ) (e : ℕ) (k : Removal) (s : State) → (k.state.endpoints e).waiters ≡ l
    → Turns e s (drop k.count (s.endpoints e).waiters) k.state → Less e s (deleted l e k)
unfolding deleted
less_deleted [] e k s h A =
    turns_choose (set_endpoint e missing_endpoint k.state)
    (subst (λ (q : List ℕ). Turns e s q (set_endpoint e missing_endpoint k.state)) (sym h ∙ A.own)
    (turns_then A (turns_put e missing_endpoint k.state (set_endpoint e missing_endpoint k.state) refl refl)))
less_deleted (w ∷ l) e k s h A = turns_choose k.state A

less_from : (e a : ℕ) (s : State) → Distinct (s.endpoints e).waiters → Less e s (delete_from e a s)
unfolding delete_from
less_from e a s d = less_deleted _ e _ s refl (turns_removes a (s.endpoints e).waiters e s refl d)

less_closed :
    (t e a : ℕ) (s : State) → Distinct (s.endpoints e).waiters
    → Less e s (delete_from e a (end_abort closing e (drop_debt t s)))
unfolding drop_debt
less_closed t e a s d = go (end_abort closing e (drop_debt t s)) (turns_end closing e (drop_debt t s))
  where
    go : (r : State) → Turns e (drop_debt t s) (s.endpoints e).waiters r → Less e s (delete_from e a r)
    go r A =
        let B = less_from e a r (subst (λ (q : List ℕ). Distinct q) (sym A.own) d) in
        record {
          own = B.own ∙ ap (drop (delete_from e a r).answer.count) A.own;
          others = λ f n. B.others f n ∙ A.others f n;
          lines = B.lines ∙ A.lines;
        }

less_at : (x : Status) (t e a : ℕ) (s : State) → Distinct (s.endpoints e).waiters → Less e s (delete_at x t e a s)
unfolding delete_at
less_at missing t e a s d = turns_self e s
less_at live t e a s d = less_closed t e a s d
less_at closing t e a s d = less_closed t e a s d

-- The queues, after a call.
pub record Follows (k : Queues) (r : State) : Type 0 where
  pub queues : (e : ℕ) → (r.endpoints e).waiters ≡ k.queues e
  pub lines : (l : ℕ) → waiter_on (r.lines l) ≡ k.lines l

follows_turns : {e : ℕ} {s r : State} {q : List ℕ} → Turns e s q r → Follows (queue_at e q (queues_in s)) r
follows_turns {e} {s} {r} {q} A =
    record {
      queues =
          put_all (λ f l. (r.endpoints f).waiters ≡ l) (λ f. (s.endpoints f).waiters) e q A.own A.others;
      lines = λ l. ap (λ (f : ℕ → Line). waiter_on (f l)) A.lines;
    }

follows_choose : {k : Queues} (r : State) → Follows k r → Follows k (choose r)
follows_choose r F =
    record {
      queues = λ e. ap (λ (f : ℕ → Endpoint). (f e).waiters) (choose_keeps r).endpoints ∙ F.queues e;
      lines = λ l. ap (λ (f : ℕ → Line). waiter_on (f l)) (choose_keeps r).lines ∙ F.lines l;
    }

-- Queues and lines stay.
follows_same : (s r : State) → r.endpoints ≡ s.endpoints → r.lines ≡ s.lines → Follows (queues_in s) r
follows_same s r h k =
    record {
      queues = λ e. ap (λ (f : ℕ → Endpoint). (f e).waiters) h;
      lines = λ l. ap (λ (f : ℕ → Line). waiter_on (f l)) k;
    }

-- A line changes.
follows_line :
    (l : ℕ) (x : Line) (s r : State) → r.endpoints ≡ s.endpoints → r.lines ≡ put s.lines l x
    → Follows (line_at l (waiter_on x) (queues_in s)) r
follows_line l x s r h k =
    record {
      queues = λ e. ap (λ (f : ℕ → Endpoint). (f e).waiters) h;
      lines = λ i. ap (λ (f : ℕ → Line). waiter_on (f i)) k ∙ go i (same? i l);
    }
  where
    go : (i : ℕ) → Same i l → waiter_on (put s.lines l x i) ≡ put (λ j. waiter_on (s.lines j)) l (waiter_on x) i
    go i (same z q) = rw (z, put_same s.lines l x, put_same (λ j. waiter_on (s.lines j)) l (waiter_on x)) refl
    go i (other n q) = rw (put_other s.lines l i x n, put_other (λ j. waiter_on (s.lines j)) l i (waiter_on x) n) refl

-- 7 and 8

is_receiving_lem : (p : Place) (e : ℕ) → is_receiving p ≡ true → (p ≡ sending e) ⊎ (p ≡ receiving e) → p ≡ receiving e
is_receiving_lem p e h (inl k) = absurd (clash h (ap is_receiving k))
is_receiving_lem p e h (inr k) = k

is_sending_lem : (p : Place) (e : ℕ) → is_sending p ≡ true → (p ≡ sending e) ⊎ (p ≡ receiving e) → p ≡ sending e
is_sending_lem p e h (inl k) = k
is_sending_lem p e h (inr k) = absurd (clash h (ap is_sending k))

module _ (s : State) (S : Sound s) where
  -- All who are queued receive if one does, and send if one does: that one is the first of them.
  pub first_receives :
      (e u : ℕ) → first (receivers s.threads (s.endpoints e).waiters) ≡ some u → (s.threads u).place ≡ receiving e
  first_receives e u h =
      let m =
      mem_only (λ t. is_receiving (s.threads t).place) u (s.endpoints e).waiters
      (first_mem (receivers s.threads (s.endpoints e).waiters) h) in
      is_receiving_lem (s.threads u).place e m.1 ((S.queues.queued u e).0 m.0)

  pub first_sends :
      (e u : ℕ) → first (senders s.threads (s.endpoints e).waiters) ≡ some u → (s.threads u).place ≡ sending e
  first_sends e u h =
      let m =
      mem_only (λ t. is_sending (s.threads t).place) u (s.endpoints e).waiters
      (first_mem (senders s.threads (s.endpoints e).waiters) h) in
      is_sending_lem (s.threads u).place e m.1 ((S.queues.queued u e).0 m.0)

  pub receiver_longest :
      (e u : ℕ) → first (receivers s.threads (s.endpoints e).waiters) ≡ some u
      → first (s.endpoints e).waiters ≡ some u
  receiver_longest e u h =
      first_only (λ t. is_receiving (s.threads t).place) (s.endpoints e).waiters
      (λ t m. all t ((S.queues.queued t e).0 m)) h
    where
      all : (t : ℕ) → Queued s t e → is_receiving (s.threads t).place ≡ true
      all t (inl k) = absurd (S.queues.one_kind e t u k (first_receives e u h))
      all t (inr k) = ap is_receiving k

  pub sender_longest :
      (e u : ℕ) → first (senders s.threads (s.endpoints e).waiters) ≡ some u
      → first (s.endpoints e).waiters ≡ some u
  sender_longest e u h =
      first_only (λ t. is_sending (s.threads t).place) (s.endpoints e).waiters
      (λ t m. all t ((S.queues.queued t e).0 m)) h
    where
      all : (t : ℕ) → Queued s t e → is_sending (s.threads t).place ≡ true
      all t (inl k) = ap is_sending k
      all t (inr k) = absurd (S.queues.one_kind e u t (first_sends e u h) k)

  -- What a call 7 or 8 at e by thread t comes to.
  Meets : ℕ → ℕ → Result → Type 0
  Meets t e r = Turns e s (met r.answer.code (some t) (s.endpoints e).waiters) r.state

  joins_tail : (t e : ℕ) (p : Place) (b m : ℕ)
      → Turns e s ((s.endpoints e).waiters ++ (t ∷ [])) (choose (block t p b m (join_endpoint t e (drop_debt t s))))
  unfolding block join_endpoint drop_debt
  joins_tail t e p b m = turns_choose (block t p b m (join_endpoint t e (drop_debt t s))) (turns_put e _ s _ refl refl)

  takes_first : (t e u o b m : ℕ) → first (s.endpoints e).waiters ≡ some u
      → Turns e s (drop 1 (s.endpoints e).waiters) (choose (wake_from e u o b m (drop_debt t s)))
  unfolding wake_from wake enqueue leave_endpoint drop_debt
  takes_first t e u o b m h =
      turns_choose (wake_from e u o b m (drop_debt t s))
      (subst (λ (q : List ℕ). Turns e s q (wake_from e u o b m (drop_debt t s)))
      (first_without (s.endpoints e).waiters u h (S.queues.queued_once e)) (turns_put e _ s _ refl refl))

  sends_to : (o : Option ℕ) (t e b m : ℕ) → first (receivers s.threads (s.endpoints e).waiters) ≡ o
      → Meets t e (send_to o t e b m (drop_debt t s))
  unfolding Meets send_to
  sends_to none t e b m h = joins_tail t e (sending e) b m
  sends_to (some u) t e b m h = takes_first t e u 2 b m (receiver_longest e u h)

  receives_from : (o : Option ℕ) (t e : ℕ) → first (senders s.threads (s.endpoints e).waiters) ≡ o
      → Meets t e (receive_from o t e (drop_debt t s))
  unfolding Meets receive_from
  receives_from none t e h = joins_tail t e (receiving e) 0 0
  receives_from (some u) t e h = takes_first t e u 1 0 0 (sender_longest e u h)

  sends_unless : (x : Bool) (t e b m : ℕ) → Meets t e (send_unless x t e b m s)
  unfolding Meets send_unless
  sends_unless true t e b m = turns_self e s
  sends_unless false t e b m = sends_to _ t e b m refl

  sends_at : (x : Status) (t e b m : ℕ) → Meets t e (send_at x t e b m s)
  unfolding Meets send_at
  sends_at missing t e b m = turns_self e s
  sends_at closing t e b m = turns_self e s
  sends_at live t e b m = sends_unless _ t e b m

  receives_at : (x : Status) (t e : ℕ) → Meets t e (receive_at x t e s)
  unfolding Meets receive_at
  receives_at missing t e = turns_self e s
  receives_at closing t e = turns_self e s
  receives_at live t e = receives_from _ t e refl

  -- 2

  not_queued : (t e : ℕ) → (Queued s t e → ⊥) → (s.endpoints e).waiters ≡ without t (s.endpoints e).waiters
  not_queued t e n = sym (without_none t (s.endpoints e).waiters (λ m. n ((S.queues.queued t e).0 m)))

  not_waiting :
      (t l : ℕ) → ((s.threads t).place ≡ waiting l → ⊥) → waiter_on (s.lines l) ≡ unless t (waiter_on (s.lines l))
  not_waiting t l n = go (s.lines l) refl
    where
      go : (x : Line) → s.lines l ≡ x → waiter_on x ≡ unless t (waiter_on x)
      go quiet h = refl
      go pending h = refl
      go (awaited u) h =
          rw (ne_eqb u t (λ i. n ((S.queues.on_line t l).0 (h ∙ ap awaited i)))) refl

  -- A thread that is queued nowhere and waits on no line.
  stays_out :
      (t : ℕ) (r : State) → r.endpoints ≡ s.endpoints → r.lines ≡ s.lines → ((e : ℕ) → Queued s t e → ⊥)
      → ((l : ℕ) → (s.threads t).place ≡ waiting l → ⊥) → Follows (gone t (queues_in s)) r
  stays_out t r h k n m =
      record {
        queues = λ e. ap (λ (f : ℕ → Endpoint). (f e).waiters) h ∙ not_queued t e (n e);
        lines = λ l. ap (λ (f : ℕ → Line). waiter_on (f l)) k ∙ not_waiting t l (m l);
      }

  leaves_queue :
      (t e : ℕ) (r : State) (x : Endpoint) → x.waiters ≡ without t (s.endpoints e).waiters
      → r.endpoints ≡ put s.endpoints e x → r.lines ≡ s.lines
      → ((f : ℕ) → (f ≡ e → ⊥) → Queued s t f → ⊥) → ((l : ℕ) → (s.threads t).place ≡ waiting l → ⊥)
      → Follows (gone t (queues_in s)) r
  leaves_queue t e r x w h k n m =
      let A = turns_put e x s r h k in
      record {
        queues = λ f. go f (same? f e);
        lines = λ l. ap (λ (f : ℕ → Line). waiter_on (f l)) k ∙ not_waiting t l (m l);
      }
    where
      go : (f : ℕ) → Same f e → (r.endpoints f).waiters ≡ without t (s.endpoints f).waiters
      go f (same z q) = rw z ((turns_put e x s r h k).own ∙ w)
      go f (other i q) = (turns_put e x s r h k).others f i ∙ not_queued t f (n f i)

  leaves_line :
      (t l : ℕ) (r : State) → (s.threads t).place ≡ waiting l → r.endpoints ≡ s.endpoints
      → r.lines ≡ put s.lines l quiet → Follows (gone t (queues_in s)) r
  leaves_line t l r p h k =
      record {
        queues = λ e. ap (λ (f : ℕ → Endpoint). (f e).waiters) h ∙ not_queued t e (λ q. elsewhere e q);
        lines = λ i. ap (λ (f : ℕ → Line). waiter_on (f i)) k ∙ go i (same? i l);
      }
    where
      elsewhere : (e : ℕ) → Queued s t e → ⊥
      elsewhere e (inl q) = let z : ◌≡◌ {A = ℕ} 0 1 = cc in omega arith
      elsewhere e (inr q) = let z : ◌≡◌ {A = ℕ} 0 1 = cc in omega arith

      go : (i : ℕ) → Same i l → waiter_on (put s.lines l quiet i) ≡ unless t (waiter_on (s.lines i))
      go i (same z q) =
          rw (z, put_same s.lines l quiet, (S.queues.on_line t l).1 p, eq-eqb t t refl) refl
      go i (other n q) =
          rw (put_other s.lines l i quiet n) (not_waiting t i (λ j. n (let z : i ≡ l = cc in z)))

  leaves : (p : Place) (t : ℕ) → (s.threads t).place ≡ p
      → Follows (gone t (queues_in s)) (set_thread t absent_thread (leave p t (drop_debt t s)))
  unfolding leave leave_ready unqueue leave_endpoint drop_debt
  leaves absent t h = stays_out t _ refl refl (λ e q. out e q) (λ l q. let z : ◌≡◌ {A = ℕ} 0 1 = cc in omega arith)
    where
      out : (e : ℕ) → Queued s t e → ⊥
      out e (inl q) = let z : ◌≡◌ {A = ℕ} 0 1 = cc in omega arith
      out e (inr q) = let z : ◌≡◌ {A = ℕ} 0 1 = cc in omega arith
  leaves able t h = go (is_running t s.runs)
    where
      out : (e : ℕ) → Queued s t e → ⊥
      out e (inl q) = let z : ◌≡◌ {A = ℕ} 0 1 = cc in omega arith
      out e (inr q) = let z : ◌≡◌ {A = ℕ} 0 1 = cc in omega arith

      off : (l : ℕ) → (s.threads t).place ≡ waiting l → ⊥
      off l q = let z : ◌≡◌ {A = ℕ} 0 1 = cc in omega arith

      go : (b : Bool) → Follows (gone t (queues_in s)) (set_thread t absent_thread (leave_ready b t (drop_debt t s)))
      go true = stays_out t _ refl refl out off
      go false = stays_out t _ refl refl out off
  leaves (sending e) t h =
      leaves_queue t e _ _ refl refl refl (λ f n q. out f n q) (λ l q. let z : ◌≡◌ {A = ℕ} 0 1 = cc in omega arith)
    where
      out : (f : ℕ) → (f ≡ e → ⊥) → Queued s t f → ⊥
      out f n (inl q) = n (cc)
      out f n (inr q) = let z : ◌≡◌ {A = ℕ} 0 1 = cc in omega arith
  leaves (receiving e) t h =
      leaves_queue t e _ _ refl refl refl (λ f n q. out f n q) (λ l q. let z : ◌≡◌ {A = ℕ} 0 1 = cc in omega arith)
    where
      out : (f : ℕ) → (f ≡ e → ⊥) → Queued s t f → ⊥
      out f n (inl q) = let z : ◌≡◌ {A = ℕ} 0 1 = cc in omega arith
      out f n (inr q) = n (cc)
  leaves (waiting l) t h = leaves_line t l _ h refl refl

  destroys : (b : Bool) (t : ℕ) → is_accepted (destroy_if b t s).answer ≡ true
      → Follows (gone t (queues_in s)) (destroy_if b t s).state
  unfolding destroy_if
  destroys true t h = absurd (clash h refl)
  destroys false t h = follows_choose _ (leaves (s.threads t).place t refl)

  -- The others.

  creates : (b : Bool) (t p : ℕ) → Follows (queues_in s) (create_if b t p s).state
  unfolding create_if enqueue
  creates false t p = follows_same s s refl refl
  creates true t p = follows_choose _ (follows_same s _ refl refl)

  moves : (b : Bool) (t p : ℕ) → Follows (queues_in s) (move_ready b t p s)
  unfolding move_ready enqueue unqueue
  moves true t p = follows_same s _ refl refl
  moves false t p = follows_same s _ refl refl

  changes : (b : Bool) (t p : ℕ) → Follows (queues_in s) (change_unless b t p s)
  unfolding change_unless
  changes true t p = follows_same s _ refl refl
  changes false t p = moves _ t p

  prioritises : (b : Bool) (t p : ℕ) → Follows (queues_in s) (priority_if b t p s).state
  unfolding priority_if
  prioritises true t p = follows_same s _ refl refl
  prioritises false t p = follows_choose _ (changes _ t p)

  makes : (x : Status) (e : ℕ) → (s.endpoints e).status ≡ x → Follows (queues_in s) (create_at x e s).state
  unfolding create_at
  makes missing e h =
      follows_choose _
      (record {
        queues =
            put_all (λ f y. y.waiters ≡ (s.endpoints f).waiters) s.endpoints e _ (sym (S.statuses.empty e h))
            (λ f n. refl);
        lines = λ l. refl;
      })
  makes live e h = follows_same s _ refl refl
  makes closing e h = follows_same s _ refl refl

  fires : (x : Line) (l : ℕ) → s.lines l ≡ x → Follows (line_at l none (queues_in s)) (fire x l s)
  unfolding fire wake enqueue
  fires quiet l h = follows_line l pending s _ refl refl
  fires pending l h = follows_line l pending s _ refl (sym (put_self s.lines l pending (sym h)))
  fires (awaited t) l h = follows_line l quiet s _ refl refl

  spends : (n t : ℕ) → Follows (queues_in s) (leave_ticks n t s)
  unfolding leave_ticks stand_down enqueue
  spends zero t = follows_same s _ refl refl
  spends (suc n) t = follows_same s _ refl refl

  ticks : (o : Option ℕ) → Follows (queues_in s) (tick_for o s)
  unfolding tick_for
  ticks none = follows_same s _ refl refl
  ticks (some t) = spends _ t

  yields : (t : ℕ) → Follows (queues_in s) (yield t s).state
  unfolding yield stand_down enqueue drop_debt
  yields t = follows_choose _ (follows_same s _ refl refl)

  waits : (x : Line) (t l : ℕ) → s.lines l ≡ x
      → Follows (line_at l (awaits (wait_at x t l s).answer.code (some t) (waiter_on (s.lines l))) (queues_in s))
      (wait_at x t l s).state
  unfolding wait_at block drop_debt
  waits quiet t l h = follows_choose _ (follows_line l (awaited t) s _ refl refl)
  waits pending t l h =
      rw h
      (follows_choose (set_line l quiet (drop_debt t s))
      (follows_line l quiet s (set_line l quiet (drop_debt t s)) refl refl))
  waits (awaited u) t l h =
      follows_line l (s.lines l) s s refl (sym (put_self s.lines l (s.lines l) refl))

  grants_at : (x : Status) → Follows (queues_in s) (grant_at x s).state
  unfolding grant_at
  grants_at missing = follows_same s _ refl refl
  grants_at live = follows_choose _ (follows_same s _ refl refl)
  grants_at closing = follows_choose _ (follows_same s _ refl refl)

  grants_if : (b : Bool) (e : ℕ) → Follows (queues_in s) (grant_if b e s).state
  unfolding grant_if
  grants_if true e = follows_same s _ refl refl
  grants_if false e = grants_at _

  -- Each call, accepted.
  By : Call → Option ℕ → Result → Type 0
  By c o r = Follows (queues_by c o r.answer r.looks (queues_in s)) r.state

  by :
      (c : Call) (o : Option ℕ) (f : ℕ → State → Result) → is_accepted (by_caller o f s).answer ≡ true
      → ((t : ℕ) → By c (some t) (f t s)) → By c o (by_caller o f s)
  by c none f h k = absurd (clash h refl)
  by c (some t) f h k = k t

  performs : (c : Call) → is_accepted (perform c s).answer ≡ true → By c s.runs (perform c s)
  unfolding By queues_by perform create_thread destroy_thread set_priority create_endpoint interrupt tick send receive
      wait
      delete abort grant Meets
  performs (CreateThread t p) h = creates _ t p
  performs (DestroyThread t) h = destroys _ t h
  performs (SetPriority t p) h = prioritises _ t p
  performs (CreateEndpoint e) h = makes _ e refl
  performs (Interrupt l) h = follows_choose _ (fires _ l refl)
  performs Tick h = follows_choose _ (ticks _)
  performs (Send e b m) h = by (Send e b m) s.runs (λ t. send t e b m) h (λ t. follows_turns (sends_at _ t e b m))
  performs (Receive e) h = by (Receive e) s.runs (λ t. receive t e) h (λ t. follows_turns (receives_at _ t e))
  performs Yield h = by Yield s.runs (λ t. yield t) h (λ t. yields t)
  performs (Wait l) h = by (Wait l) s.runs (λ t. wait t l) h (λ t. waits _ t l refl)
  performs (Delete e a) h =
      by (Delete e a) s.runs (λ t. delete t e a) h
      (λ t. follows_turns (less_at (s.endpoints e).status t e a s (S.queues.queued_once e)))
  performs (Abort e a b) h =
      by (Abort e a b) s.runs (λ t. abort t e a b) h (λ t. follows_turns (out_unless _ t e a b s))
  performs (Grant t e r b) h = grants_if _ e

  performs_unless :
      (x : Bool) (c : Call) → is_accepted (perform_unless x c s).answer ≡ true → By c s.runs (perform_unless x c s)
  unfolding perform_unless
  performs_unless true c h = absurd (clash h refl)
  performs_unless false c h = performs c h

  performs_if :
      (x : Bool) (g : Grants) (c : Call) → is_accepted (perform_if x g c s).answer ≡ true
      → By c s.runs (perform_if x g c s)
  unfolding perform_if
  performs_if true g c h = performs_unless _ c h
  performs_if false g c h = absurd (clash h refl)

stepped :
    (g : Grants) (s : State) (c : Call) (S : Sound s) → is_accepted (step g s c).answer ≡ true
    → By s S c s.runs (step g s c)
unfolding step
stepped g s c S h = performs_if s S (in_range c) g c h

follows_is : (k : Queues) (r : State) → Follows k r → queues_in r ≡ k
follows_is k r F =
    ap (λ (f : ℕ → List ℕ). record { queues = f; lines = (queues_in r).lines }) (fun_ext F.queues)
    ∙ ap (λ (f : ℕ → Option ℕ). record { queues = k.queues; lines = f }) (fun_ext F.lines)

-- Every call: the machine's queues after it are those before it, changed by the call, its caller, answer and looks.
pub queues_step :
    (g : Grants) (s : State) (c : Call) → Sound s
    → queues_in (step g s c).state ≡ queues_after c s.runs (step g s c).answer (step g s c).looks (queues_in s)
unfolding queues_if By
queues_step g s c S = go (is_accepted (step g s c).answer) refl
  where
    accepted : is_accepted (step g s c).answer ≡ true → By s S c s.runs (step g s c)
    accepted = stepped g s c S

    go : (b : Bool) → is_accepted (step g s c).answer ≡ b
        → queues_in (step g s c).state ≡ queues_if b c s.runs (step g s c).answer (step g s c).looks (queues_in s)
    go true h = follows_is _ (step g s c).state (accepted h)
    go false h = ap queues_in (refused_state g s c h)
