-- What the threads' blocks tell is what calls, answers, callers, looks and who waits make it: each call of the machine.
use Prim.Native.Nat.{ℕ, zero, suc, ◌-◌}
use mathlib.Core.Path.{◌≡◌, refl, sym, ◌∙◌, ap, subst, fun_ext}
use mathlib.Core.Bool.{Bool, true, false}
use mathlib.Core.Option.{Option, none, some}
use mathlib.Core.List.{List, [], ◌∷◌, ◌++◌}
use lib.Dec.{eqb}
use lib.ListN.{take}
use Rattle.calls.specs.declared.Call.{Call}
use Rattle.calls.specs.declared.Call.TheVariants.{CreateThread, DestroyThread, SetPriority, CreateEndpoint}
use Rattle.calls.specs.declared.Call.TheVariants.{Interrupt, Tick, Send, Receive, Yield, Wait, Delete, Abort}
use Rattle.calls.specs.declared.Call.TheVariants.{Grant}
use Rattle.calls.specs.Calls.{in_range}
use Rattle.calls.specs.Answers.{is_accepted}
use Rattle.machine.specs.Lists.{pick, put, without, first, Distinct}
use Rattle.machine.specs.State.{State, Thread, Place, absent, able, sending, receiving, waiting, Status, missing, live}
use Rattle.machine.specs.State.{closing, Abort as Standing, Line, quiet, pending, awaited, set_line}
use Rattle.machine.specs.State.{absent_thread}
use Rattle.machine.specs.Scheduling.{enqueue, unqueue, stand_down, wake, block, choose}
use Rattle.machine.specs.Endpoints.{receivers, senders, join_endpoint, leave_endpoint, wake_from, drop_debt, note_all}
use Rattle.machine.specs.Endpoints.{note}
use Rattle.machine.specs.Endpoints.{end_abort}
use Rattle.machine.specs.Results.{Look, Result, removals}
use Rattle.machine.specs.Sound.{Sound}
use Rattle.machine.specs.Grants.{Grants}
use Rattle.machine.specs.Machine.{is_running, create_if, create_thread, leave_ready, leave, destroy_if, destroy_thread}
use Rattle.machine.specs.Machine.{move_ready, change_unless, priority_if, set_priority, create_at, create_endpoint}
use Rattle.machine.specs.Machine.{fire}
use Rattle.machine.specs.Machine.{interrupt, leave_ticks, tick_for, tick, send_to, send_unless, send_at, send}
use Rattle.machine.specs.Machine.{receive_from}
use Rattle.machine.specs.Machine.{receive_at, receive, yield, wait_at, wait, grant_at, grant_if, grant, by_caller}
use Rattle.machine.specs.Machine.{perform}
use Rattle.machine.specs.Machine.{perform_unless, perform_if, step}
use Rattle.machine.specs.Aborts.{Removal, one_more, remove_up_to, deleted, delete_from, delete_at, delete, hits}
use Rattle.machine.specs.Aborts.{look_at}
use Rattle.machine.specs.Aborts.{look, Looked, after_look, look_up_to, pending_at, join, begin, ended, looked_own}
use Rattle.machine.specs.Aborts.{work_own}
use Rattle.machine.specs.Aborts.{begin_after, finished, looked_other, work_other, under_badge, abort_from, abort_open}
use Rattle.machine.specs.Aborts.{abort_at, abort_unless, abort}
use Rattle.history.specs.Queues.{waiter_on, queues_in}
use Rattle.history.specs.Blocks.{Block, bare, worded, tell_if, tell_all, met_blocks, blocks_by, blocks_if}
use Rattle.history.specs.Blocks.{blocks_after, block_of, blocks_in}
use Rattle.machine.proofs.Lists.{put_all, put_same, put_other, put_self, without_first, clash}
use Rattle.machine.proofs.Running.{choose_keeps}
use Rattle.machine.proofs.Woken.{removals_append}
use Rattle.machine.proofs.Calls.Answers.{refused_state}
use Rattle.history.proofs.Demand3.Queued.{receiver_longest, sender_longest, turns_wake, turns_end}

abbrev blocks_of : (ℕ → Thread) → ℕ → Block
blocks_of f t = block_of (f t)

-- The small steps

-- An entry is stored; one that tells the same changes nothing.
block_put : (f : ℕ → Thread) (t : ℕ) (x : Thread) → blocks_of (put f t x) ≡ put (blocks_of f) t (block_of x)
block_put f t x =
    fun_ext
    (put_all (λ u y. block_of y ≡ put (blocks_of f) t (block_of x) u) f t x
    (sym (put_same (blocks_of f) t (block_of x)))
    (λ u n. sym (put_other (blocks_of f) t u (block_of x) n)))

block_keep : (f : ℕ → Thread) (t : ℕ) (x : Thread) → block_of x ≡ block_of (f t) → blocks_of (put f t x) ≡ blocks_of f
block_keep f t x h = block_put f t x ∙ put_self (blocks_of f) t (block_of x) h

chosen : {k : ℕ → Block} (r : State) → blocks_in r ≡ k → blocks_in (choose r) ≡ k
chosen r h = ap blocks_of (choose_keeps r).threads ∙ h

drops : (t : ℕ) (s : State) → blocks_in (drop_debt t s) ≡ blocks_in s
unfolding drop_debt
drops t s = block_keep s.threads t _ refl

wakes : (t o b m : ℕ) (s : State) → blocks_in (wake t o b m s) ≡ put (blocks_in s) t (worded o b m)
unfolding wake enqueue
wakes t o b m s = block_put s.threads t _

wakes_from : (e t o b m : ℕ) (s : State) → blocks_in (wake_from e t o b m s) ≡ put (blocks_in s) t (worded o b m)
unfolding wake_from leave_endpoint
wakes_from e t o b m s = wakes t o b m (leave_endpoint t e s)

blocks : (t : ℕ) (p : Place) (b m : ℕ) (s : State) → blocks_in (block t p b m s) ≡ put (blocks_in s) t (worded 0 b m)
unfolding block
blocks t p b m s = block_put s.threads t _

notes : (o : Option Standing) (e : ℕ) (s : State) → blocks_in (note o e s) ≡ blocks_in s
unfolding note note_all
notes none e s = refl
notes (some a) e s = refl

ends : (x : Status) (e : ℕ) (s : State) → blocks_in (end_abort x e s) ≡ blocks_in s
unfolding end_abort
ends x e s = notes (s.endpoints e).abort e s

-- 12

tell_pick :
    (b : Bool) (w : ℕ) (l : List ℕ) (x : Block) (k : ℕ → Block)
    → tell_all (pick b (w ∷ l) l) x k ≡ tell_all l x (pick b (put k w x) k)
tell_pick true w l x k = refl
tell_pick false w l x k = refl

tell_append : (k l : List ℕ) (x : Block) (f : ℕ → Block) → tell_all (k ++ l) x f ≡ tell_all l x (tell_all k x f)
tell_append [] l x f = refl
tell_append (t ∷ k) l x f = tell_append k l x (put f t x)

looks_at :
    (b : Bool) (e w : ℕ) (s : State)
    → blocks_in (look_at b e w s) ≡ pick b (put (blocks_in s) w (bare 3)) (blocks_in s)
unfolding look_at
looks_at true e w s = wakes_from e w 3 0 0 s
looks_at false e w s = refl

looks_up :
    (n : ℕ) (l : List ℕ) (e : ℕ) (s : State)
    → blocks_in (look_up_to n l e s).state ≡ tell_all (removals (look_up_to n l e s).looks) (bare 3) (blocks_in s)
unfolding look_up_to after_look look
looks_up zero l e s = refl
looks_up (suc n) [] e s = refl
looks_up (suc n) (w ∷ l) e s =
    let k = removals (look_up_to n (pending_at e (look e w s)) e (look e w s)).looks in
    looks_up n (pending_at e (look e w s)) e (look e w s)
    ∙ ap (tell_all k (bare 3)) (looks_at (hits e w s) e w s)
    ∙ sym (tell_pick (hits e w s) w k (bare 3) (blocks_in s))

-- What a call 12 comes to, from state s, with these looks.
abbrev Out : State → List Look → State → Type 0
Out s v r = blocks_in r ≡ tell_all (removals v) (bare 3) (blocks_in s)

abbrev OutBy : State → Result → Type 0
OutBy s r = Out s r.looks r.state

out_ended : (l : List ℕ) (t e : ℕ) (v : List Look) (s r : State) → Out s v r → OutBy s (ended l t e v r)
unfolding ended
out_ended [] t e v s r A = chosen (end_abort live e (drop_debt t r)) (ends live e (drop_debt t r) ∙ drops t r ∙ A)
out_ended (w ∷ l) t e v s r A = chosen r A

out_own : (t e a : ℕ) (v : List Look) (s r : State) → Out s v r → OutBy s (work_own t e a v r)
unfolding work_own looked_own
out_own t e a v s r A =
    let k = (look_up_to a (pending_at e r) e r).looks in
    out_ended _ t e (v ++ k) s _
    (looks_up a (pending_at e r) e r ∙ ap (tell_all (removals k) (bare 3)) A
    ∙ sym (tell_append (removals v) (removals k) (bare 3) (blocks_in s))
    ∙ ap (λ (z : List ℕ). tell_all z (bare 3) (blocks_in s)) (sym (removals_append v k)))

begins : (t e b : ℕ) (s : State) → blocks_in (begin t e b s) ≡ blocks_in s
unfolding begin join
begins t e b s = block_keep s.threads t _ refl

joins : (t e : ℕ) (s : State) → blocks_in (join t e s) ≡ blocks_in s
unfolding join
joins t e s = block_keep s.threads t _ refl

out_after : (n t e b : ℕ) (v : List Look) (s r : State) → Out s v r → OutBy s (begin_after n t e b v r)
unfolding begin_after
out_after zero t e b v s r A = chosen r A
out_after (suc n) t e b v s r A = out_own t e (suc n) v s (begin t e b r) (begins t e b r ∙ A)

out_finished :
    (l : List ℕ) (t e a b : ℕ) (k : Looked) (s : State) → Out s k.looks k.state → OutBy s (finished l t e a b k)
unfolding finished
out_finished [] t e a b k s A =
    out_after _ t e b k.looks s (end_abort live e k.state) (ends live e k.state ∙ A)
out_finished (w ∷ l) t e a b k s A = chosen k.state A

out_under : (x : Bool) (t e a b : ℕ) (s r : State) → blocks_in r ≡ blocks_in s → OutBy s (under_badge x t e a b r)
unfolding under_badge work_other looked_other
out_under true t e a b s r A = out_own t e a [] s (join t e r) (joins t e r ∙ A)
out_under false t e a b s r A =
    out_finished _ t e a b _ s
    (looks_up a (pending_at e r) e r ∙ ap (tell_all (removals (look_up_to a (pending_at e r) e r).looks) (bare 3)) A)

out_from : (o : Option Standing) (t e a b : ℕ) (s r : State) → blocks_in r ≡ blocks_in s
    → OutBy s (abort_from o t e a b r)
unfolding abort_from
out_from none t e a b s r A = out_own t e a [] s (begin t e b r) (begins t e b r ∙ A)
out_from (some x) t e a b s r A = out_under (eqb x.badge b) t e a b s r A

out_at : (x : Status) (t e a b : ℕ) (s : State) → OutBy s (abort_at x t e a b s)
unfolding abort_at abort_open
out_at missing t e a b s = refl
out_at closing t e a b s = refl
out_at live t e a b s = out_from ((drop_debt t s).endpoints e).abort t e a b s (drop_debt t s) (drops t s)

out_unless : (x : Bool) (t e a b : ℕ) (s : State) → OutBy s (abort_unless x t e a b s)
unfolding abort_unless
out_unless true t e a b s = chosen (drop_debt t s) (drops t s)
out_unless false t e a b s = out_at (s.endpoints e).status t e a b s

-- 11

removes :
    (n : ℕ) (l : List ℕ) (e : ℕ) (s : State) → (s.endpoints e).waiters ≡ l → Distinct l
    → blocks_in (remove_up_to n l e s).state ≡ tell_all (take (remove_up_to n l e s).count l) (bare 4) (blocks_in s)
unfolding remove_up_to one_more
removes zero l e s h d = refl
removes (suc n) [] e s h d = refl
removes (suc n) (w ∷ l) e s h d =
    go (wake_from e w 4 0 0 s) ((turns_wake e w 4 0 0 s).own ∙ ap (without w) h ∙ without_first w l d)
    (wakes_from e w 4 0 0 s) (λ r q. removes n l e r q d.1)
  where
    go : (r : State) → (r.endpoints e).waiters ≡ l → blocks_in r ≡ put (blocks_in s) w (bare 4)
        → ((z : State) → (z.endpoints e).waiters ≡ l
        → blocks_in (remove_up_to n l e z).state
        ≡ tell_all (take (remove_up_to n l e z).count l) (bare 4) (blocks_in z))
        → blocks_in (remove_up_to n (r.endpoints e).waiters e r).state
        ≡ tell_all (take (remove_up_to n (r.endpoints e).waiters e r).count l) (bare 4) (put (blocks_in s) w (bare 4))
    go r q p ih =
        subst
        (λ (k : List ℕ).
        blocks_in (remove_up_to n k e r).state
        ≡ tell_all (take (remove_up_to n k e r).count l) (bare 4) (put (blocks_in s) w (bare 4)))
        (sym q)
        (ih r q ∙ ap (tell_all (take (remove_up_to n l e r).count l) (bare 4)) p)

-- What a call 11 at e comes to, from state s.
abbrev Gone : ℕ → State → Result → Type 0
Gone e s r = blocks_in r.state ≡ tell_all (take r.answer.count (s.endpoints e).waiters) (bare 4) (blocks_in s)

gone_deleted :
    (l : List ℕ) (e : ℕ) (k : Removal) (s : State)
    → blocks_in k.state ≡ tell_all (take k.count (s.endpoints e).waiters) (bare 4) (blocks_in s)
    → Gone e s (deleted l e k)
unfolding deleted
gone_deleted [] e k s A = chosen _ A
gone_deleted (w ∷ l) e k s A = chosen k.state A

gone_from :
    (e a : ℕ) (s r : State) → (r.endpoints e).waiters ≡ (s.endpoints e).waiters → blocks_in r ≡ blocks_in s
    → Distinct (s.endpoints e).waiters → Gone e s (delete_from e a r)
unfolding delete_from
gone_from e a s r h k d =
    gone_deleted _ e (remove_up_to a (r.endpoints e).waiters e r) s
    (removes a (r.endpoints e).waiters e r refl (subst Distinct (sym h) d)
    ∙ ap (tell_all (take (remove_up_to a (r.endpoints e).waiters e r).count (r.endpoints e).waiters) (bare 4)) k
    ∙ ap
    (λ (q : List ℕ). tell_all (take (remove_up_to a (r.endpoints e).waiters e r).count q) (bare 4) (blocks_in s)) h)

gone_closed :
    (t e a : ℕ) (s : State) → Distinct (s.endpoints e).waiters
    → Gone e s (delete_from e a (end_abort closing e (drop_debt t s)))
unfolding drop_debt
gone_closed t e a s d =
    gone_from e a s (end_abort closing e (drop_debt t s)) (turns_end closing e (drop_debt t s)).own
    (ends closing e (drop_debt t s) ∙ drops t s) d

gone_at : (x : Status) (t e a : ℕ) (s : State) → Distinct (s.endpoints e).waiters → Gone e s (delete_at x t e a s)
unfolding delete_at
gone_at missing t e a s d = refl
gone_at live t e a s d = gone_closed t e a s d
gone_at closing t e a s d = gone_closed t e a s d

module _ (s : State) (S : Sound s) where
  -- 7 and 8

  sends_to :
      (o : Option ℕ) (t e b m : ℕ) → first (receivers s.threads (s.endpoints e).waiters) ≡ o
      → blocks_in (send_to o t e b m (drop_debt t s)).state
      ≡ met_blocks (send_to o t e b m (drop_debt t s)).answer.code (first (s.endpoints e).waiters) (worded 2 b m)
      (some t) (worded 0 b m) (blocks_in s)
  unfolding send_to join_endpoint
  sends_to none t e b m h =
      chosen _
      (blocks t (sending e) b m (join_endpoint t e (drop_debt t s))
      ∙ ap (λ (k : ℕ → Block). put k t (worded 0 b m)) (drops t s))
  sends_to (some u) t e b m h =
      chosen _
      (wakes_from e u 2 b m (drop_debt t s) ∙ ap (λ (k : ℕ → Block). put k u (worded 2 b m)) (drops t s))
      ∙ ap (λ (o : Option ℕ). tell_if o (worded 2 b m) (blocks_in s)) (sym (receiver_longest s S e u h))

  receives_from :
      (o : Option ℕ) (t e : ℕ) → first (senders s.threads (s.endpoints e).waiters) ≡ o
      → blocks_in (receive_from o t e (drop_debt t s)).state
      ≡ met_blocks (receive_from o t e (drop_debt t s)).answer.code (first (s.endpoints e).waiters) (bare 1) (some t)
      (bare 0) (blocks_in s)
  unfolding receive_from join_endpoint
  receives_from none t e h =
      chosen _
      (blocks t (receiving e) 0 0 (join_endpoint t e (drop_debt t s))
      ∙ ap (λ (k : ℕ → Block). put k t (bare 0)) (drops t s))
  receives_from (some u) t e h =
      chosen _ (wakes_from e u 1 0 0 (drop_debt t s) ∙ ap (λ (k : ℕ → Block). put k u (bare 1)) (drops t s))
      ∙ ap (λ (o : Option ℕ). tell_if o (bare 1) (blocks_in s)) (sym (sender_longest s S e u h))

  -- Each call, accepted.
  By : Call → Option ℕ → Result → Type 0
  By c o r = blocks_in r.state ≡ blocks_by c o r.answer r.looks (queues_in s) (blocks_in s)

  sends_unless : (x : Bool) (t e b m : ℕ) → By (Send e b m) (some t) (send_unless x t e b m s)
  unfolding By blocks_by send_unless
  sends_unless true t e b m = refl
  sends_unless false t e b m = sends_to _ t e b m refl

  sends_at : (x : Status) (t e b m : ℕ) → By (Send e b m) (some t) (send_at x t e b m s)
  unfolding By blocks_by send_at
  sends_at missing t e b m = refl
  sends_at closing t e b m = refl
  sends_at live t e b m = sends_unless _ t e b m

  receives_at : (x : Status) (t e : ℕ) → By (Receive e) (some t) (receive_at x t e s)
  unfolding By blocks_by receive_at
  receives_at missing t e = refl
  receives_at closing t e = refl
  receives_at live t e = receives_from _ t e refl

  creates : (b : Bool) (t p : ℕ) → is_accepted (create_if b t p s).answer ≡ true
      → blocks_in (create_if b t p s).state ≡ put (blocks_in s) t (bare 0)
  unfolding create_if enqueue
  creates false t p h = absurd (clash h refl)
  creates true t p h = chosen _ (block_put s.threads t _)

  leaves : (p : Place) (t : ℕ) (r : State) → blocks_in (leave p t r) ≡ blocks_in r
  unfolding leave leave_ready unqueue leave_endpoint
  leaves absent t r = refl
  leaves able t r = go (is_running t r.runs)
    where
      go : (b : Bool) → blocks_in (leave_ready b t r) ≡ blocks_in r
      go true = refl
      go false = refl
  leaves (sending e) t r = refl
  leaves (receiving e) t r = refl
  leaves (waiting l) t r = refl

  destroys : (b : Bool) (t : ℕ) → is_accepted (destroy_if b t s).answer ≡ true
      → blocks_in (destroy_if b t s).state ≡ put (blocks_in s) t (bare 0)
  unfolding destroy_if
  destroys true t h = absurd (clash h refl)
  destroys false t h =
      chosen _
      (block_put (leave (s.threads t).place t (drop_debt t s)).threads t absent_thread
      ∙ ap (λ (k : ℕ → Block). put k t (bare 0)) (leaves (s.threads t).place t (drop_debt t s) ∙ drops t s))

  moves : (b : Bool) (t p : ℕ) → blocks_in (move_ready b t p s) ≡ blocks_in s
  unfolding move_ready enqueue unqueue
  moves true t p = block_keep s.threads t _ refl
  moves false t p = block_keep s.threads t _ refl

  changes : (b : Bool) (t p : ℕ) → blocks_in (change_unless b t p s) ≡ blocks_in s
  unfolding change_unless
  changes true t p = refl
  changes false t p = moves _ t p

  prioritises : (b : Bool) (t p : ℕ) → blocks_in (priority_if b t p s).state ≡ blocks_in s
  unfolding priority_if
  prioritises true t p = refl
  prioritises false t p = chosen _ (changes _ t p)

  makes : (x : Status) (e : ℕ) → blocks_in (create_at x e s).state ≡ blocks_in s
  unfolding create_at
  makes missing e = chosen _ refl
  makes live e = refl
  makes closing e = refl

  fires : (x : Line) (l : ℕ) → blocks_in (fire x l s) ≡ tell_if (waiter_on x) (bare 5) (blocks_in s)
  unfolding fire
  fires quiet l = refl
  fires pending l = refl
  fires (awaited t) l = wakes t 5 0 0 (set_line l quiet s)

  spends : (n t : ℕ) → blocks_in (leave_ticks n t s) ≡ blocks_in s
  unfolding leave_ticks stand_down enqueue
  spends zero t = block_keep s.threads t _ refl
  spends (suc n) t = block_keep s.threads t _ refl

  ticks : (o : Option ℕ) → blocks_in (tick_for o s) ≡ blocks_in s
  unfolding tick_for
  ticks none = refl
  ticks (some t) = spends _ t

  yields : (t : ℕ) → blocks_in (yield t s).state ≡ blocks_in s
  unfolding yield stand_down enqueue
  yields t = chosen _ (drops t s)

  waits : (x : Line) (t l : ℕ) → By (Wait l) (some t) (wait_at x t l s)
  unfolding By blocks_by wait_at
  waits quiet t l =
      chosen _
      (blocks t (waiting l) 0 0 (set_line l (awaited t) (drop_debt t s))
      ∙ ap (λ (k : ℕ → Block). put k t (bare 0)) (drops t s))
  waits pending t l = chosen _ (drops t s)
  waits (awaited u) t l = refl

  grants_at : (x : Status) → blocks_in (grant_at x s).state ≡ blocks_in s
  unfolding grant_at
  grants_at missing = refl
  grants_at live = chosen _ refl
  grants_at closing = chosen _ refl

  grants_if : (b : Bool) (e : ℕ) → blocks_in (grant_if b e s).state ≡ blocks_in s
  unfolding grant_if
  grants_if true e = refl
  grants_if false e = grants_at _

  by :
      (c : Call) (o : Option ℕ) (f : ℕ → State → Result) → is_accepted (by_caller o f s).answer ≡ true
      → ((t : ℕ) → By c (some t) (f t s)) → By c o (by_caller o f s)
  by c none f h k = absurd (clash h refl)
  by c (some t) f h k = k t

  performs : (c : Call) → is_accepted (perform c s).answer ≡ true → By c s.runs (perform c s)
  unfolding By blocks_by perform create_thread destroy_thread set_priority create_endpoint interrupt tick send receive
      wait
      delete abort grant
  performs (CreateThread t p) h = creates _ t p h
  performs (DestroyThread t) h = destroys _ t h
  performs (SetPriority t p) h = prioritises _ t p
  performs (CreateEndpoint e) h = makes _ e
  performs (Interrupt l) h = chosen _ (fires _ l)
  performs Tick h = chosen _ (ticks _)
  performs (Send e b m) h = by (Send e b m) s.runs (λ t. send t e b m) h (λ t. sends_at _ t e b m)
  performs (Receive e) h = by (Receive e) s.runs (λ t. receive t e) h (λ t. receives_at _ t e)
  performs Yield h = by Yield s.runs (λ t. yield t) h (λ t. yields t)
  performs (Wait l) h = by (Wait l) s.runs (λ t. wait t l) h (λ t. waits _ t l)
  performs (Delete e a) h =
      by (Delete e a) s.runs (λ t. delete t e a) h
      (λ t. gone_at (s.endpoints e).status t e a s (S.queues.queued_once e))
  performs (Abort e a b) h =
      by (Abort e a b) s.runs (λ t. abort t e a b) h (λ t. out_unless _ t e a b s)
  performs (Grant t e r b) h = grants_if _ e

  performs_unless :
      (x : Bool) (c : Call) → is_accepted (perform_unless x c s).answer ≡ true → By c s.runs (perform_unless x c s)
  unfolding perform_unless
  performs_unless true c h = absurd (clash h refl)
  performs_unless false c h = performs c h

  performs_if :
      (x : Bool) (g : Grants) (c : Call) → is_accepted (perform_if x g c s).answer ≡ true
      → By c s.runs (perform_if x g c s)
  unfolding perform_if
  performs_if true g c h = performs_unless _ c h
  performs_if false g c h = absurd (clash h refl)

stepped :
    (g : Grants) (s : State) (c : Call) (S : Sound s) → is_accepted (step g s c).answer ≡ true
    → By s S c s.runs (step g s c)
unfolding step
stepped g s c S h = performs_if s S (in_range c) g c h

-- Every call: what the blocks tell after it is what they told before it, changed by the call, its caller, answer and
-- looks and by who waited.
pub blocks_step :
    (g : Grants) (s : State) (c : Call) → Sound s
    → blocks_in (step g s c).state
    ≡ blocks_after c s.runs (step g s c).answer (step g s c).looks (queues_in s) (blocks_in s)
unfolding blocks_if By
blocks_step g s c S = go (is_accepted (step g s c).answer) refl
  where
    accepted : is_accepted (step g s c).answer ≡ true → By s S c s.runs (step g s c)
    accepted = stepped g s c S

    go : (b : Bool) → is_accepted (step g s c).answer ≡ b
        → blocks_in (step g s c).state
        ≡ blocks_if b c s.runs (step g s c).answer (step g s c).looks (queues_in s) (blocks_in s)
    go true h = accepted h
    go false h = ap blocks_in (refused_state g s c h)
