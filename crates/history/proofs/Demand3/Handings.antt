-- A thread is handed a message where it waits by a call 7 answered 0 alone, and it is that call's own; and every call 7
-- answered 0 hands.
use Prim.Native.Nat.{ℕ, zero, suc}
use mathlib.Core.Path.{◌≡◌, refl, sym, ◌∙◌, ap, subst}
use mathlib.Core.Logic.{◌⊎◌, inl, inr}
use mathlib.Core.Bool.{Bool, true, false, ◌&&◌, not}
use mathlib.Core.Option.{Option, none, some, some-injective}
use mathlib.Core.List.{List, [], ◌∷◌}
use native.Mathlib.Omega.{arith}
use borrow.Author.Tests.{eq-eqb, eqb-true}
use lib.Dec.{eqb}
use lib.ListN.{take}
use Rattle.calls.specs.declared.Answer.{Answer}
use Rattle.calls.specs.declared.Call.{Call}
use Rattle.calls.specs.declared.Call.TheVariants.{CreateThread, DestroyThread, SetPriority, CreateEndpoint}
use Rattle.calls.specs.declared.Call.TheVariants.{Interrupt, Tick, Send, Receive, Yield, Wait, Delete, Abort}
use Rattle.calls.specs.declared.Call.TheVariants.{Grant}
use Rattle.calls.specs.Calls.{in_range}
use Rattle.calls.specs.Answers.{plain, is_accepted}
use Rattle.machine.specs.Lists.{pick, put, first}
use Rattle.machine.specs.State.{State, Thread, Place, absent, able, sending, receiving, waiting, Status, missing, live}
use Rattle.machine.specs.State.{closing, with_place}
use Rattle.machine.specs.Scheduling.{enqueue, wake}
use Rattle.machine.specs.Endpoints.{receivers, leave_endpoint, wake_from, drop_debt}
use Rattle.machine.specs.Results.{Look, removals}
use Rattle.machine.specs.Grants.{Grants}
use Rattle.machine.specs.Machine.{send_to, send_unless, send_at, send, by_caller, perform, perform_unless, perform_if}
use Rattle.machine.specs.Machine.{step}
use Rattle.machine.specs.Sound.{Sound}
use Rattle.history.specs.Queues.{Queues, Message, has_message, handed_to, Gives, queues_in}
use Rattle.history.specs.Blocks.{Block, bare, worded, tell_if, tell_all, met_blocks, blocks_by, blocks_if}
use Rattle.history.specs.Blocks.{blocks_after, block_of, blocks_in}
use Rattle.machine.proofs.Lists.{put_all, put_same, put_other, Same, same, other, same?, clash}
use Rattle.machine.proofs.Preserved.Ready.{none_some}
use Rattle.machine.proofs.Running.{choose_keeps}
use Rattle.machine.proofs.Calls.Answers.{count_zero, words_zero}
use Rattle.history.proofs.Demand3.Queued.{first_receives}
use Rattle.history.proofs.Demand3.Telling.{blocks_step}

-- Who has outcome 2 in a block that nobody was told with outcome 2 had it before.

put_two :
    (k : ℕ → Block) (t : ℕ) (x : Block) → (x.outcome ≡ 2 → ⊥) → (u : ℕ) → (put k t x u).outcome ≡ 2
    → put k t x u ≡ k u
put_two k t x n = put_all (λ u y. y.outcome ≡ 2 → y ≡ k u) k t x (λ h. absurd (n h)) (λ u m h. refl)

if_two :
    (o : Option ℕ) (x : Block) (k : ℕ → Block) → (x.outcome ≡ 2 → ⊥) → (u : ℕ) → (tell_if o x k u).outcome ≡ 2
    → tell_if o x k u ≡ k u
if_two none x k n u h = refl
if_two (some t) x k n u h = put_two k t x n u h

all_two :
    (l : List ℕ) (x : Block) (k : ℕ → Block) → (x.outcome ≡ 2 → ⊥) → (u : ℕ) → (tell_all l x k u).outcome ≡ 2
    → tell_all l x k u ≡ k u
all_two [] x k n u h = refl
all_two (t ∷ l) x k n u h =
    let e = all_two l x (put k t x) n u h in
    e ∙ put_two k t x n u (ap (λ (y : Block). y.outcome) (sym e) ∙ h)

met_two :
    (i : ℕ) (v : Option ℕ) (x : Block) (o : Option ℕ) (y : Block) (k : ℕ → Block) → (x.outcome ≡ 2 → ⊥)
    → (y.outcome ≡ 2 → ⊥) → (u : ℕ) → (met_blocks i v x o y k u).outcome ≡ 2 → met_blocks i v x o y k u ≡ k u
met_two zero v x o y k n m u h = if_two v x k n u h
met_two (suc zero) v x o y k n m u h = if_two o y k m u h
met_two (suc (suc i)) v x o y k n m u h = refl

-- The call 7 is answered 0, and u was the first.
pub record Told7 (c : Call) (a : Answer) (q : Queues) (u : ℕ) (x : Block) : Type 0 where
  pub endpoint : ℕ
  pub badge : ℕ
  pub message : ℕ
  pub call : c ≡ Send endpoint badge message
  pub done : a.code ≡ 0
  pub longest : first (q.queues endpoint) ≡ some u
  pub block : x ≡ worded 2 badge message

sent_two :
    (e b m : ℕ) (a : Answer) (i : ℕ) → a.code ≡ i → (o : Option ℕ) (q : Queues) (k : ℕ → Block) (u : ℕ)
    → (met_blocks i (first (q.queues e)) (worded 2 b m) o (worded 0 b m) k u).outcome ≡ 2
    → (met_blocks i (first (q.queues e)) (worded 2 b m) o (worded 0 b m) k u ≡ k u)
    ⊎ Told7 (Send e b m) a q u (met_blocks i (first (q.queues e)) (worded 2 b m) o (worded 0 b m) k u)
sent_two e b m a zero z o q k u h = go (first (q.queues e)) refl
  where
    go : (v : Option ℕ) → first (q.queues e) ≡ v
        → (tell_if v (worded 2 b m) k u ≡ k u) ⊎ Told7 (Send e b m) a q u (tell_if v (worded 2 b m) k u)
    go none p = inl refl
    go (some v) p = at (same? u v)
      where
        at : Same u v
            → (put k v (worded 2 b m) u ≡ k u) ⊎ Told7 (Send e b m) a q u (put k v (worded 2 b m) u)
        at (same i j) =
            inr
            (record {
              endpoint = e;
              badge = b;
              message = m;
              call = refl;
              done = z;
              longest = p ∙ ap some (sym i);
              block = ap (put k v (worded 2 b m)) i ∙ put_same k v (worded 2 b m);
            })
        at (other n j) = inl (put_other k v u (worded 2 b m) n)
sent_two e b m a (suc zero) z o q k u h = inl (if_two o (worded 0 b m) k (λ j. omega (arith, j)) u h)
sent_two e b m a (suc (suc i)) z o q k u h = inl refl

by_two :
    (c : Call) (o : Option ℕ) (a : Answer) (looks : List Look) (q : Queues) (k : ℕ → Block) (u : ℕ)
    → (blocks_by c o a looks q k u).outcome ≡ 2
    → (blocks_by c o a looks q k u ≡ k u) ⊎ Told7 c a q u (blocks_by c o a looks q k u)
unfolding blocks_by
by_two (CreateThread t p) o a looks q k u h = inl (put_two k t (bare 0) (λ j. omega (arith, j)) u h)
by_two (DestroyThread t) o a looks q k u h = inl (put_two k t (bare 0) (λ j. omega (arith, j)) u h)
by_two (SetPriority t p) o a looks q k u h = inl refl
by_two (CreateEndpoint e) o a looks q k u h = inl refl
by_two (Interrupt l) o a looks q k u h = inl (if_two (q.lines l) (bare 5) k (λ j. omega (arith, j)) u h)
by_two Tick o a looks q k u h = inl refl
by_two (Send e b m) o a looks q k u h = sent_two e b m a a.code refl o q k u h
by_two (Receive e) o a looks q k u h =
    inl
    (met_two a.code (first (q.queues e)) (bare 1) o (bare 0) k (λ j. omega (arith, j)) (λ j. omega (arith, j)) u h)
by_two Yield o a looks q k u h = inl refl
by_two (Wait l) o a looks q k u h =
    inl (met_two a.code none (bare 0) o (bare 0) k (λ j. omega (arith, j)) (λ j. omega (arith, j)) u h)
by_two (Delete e n) o a looks q k u h =
    inl (all_two (take a.count (q.queues e)) (bare 4) k (λ j. omega (arith, j)) u h)
by_two (Abort e n b) o a looks q k u h = inl (all_two (removals looks) (bare 3) k (λ j. omega (arith, j)) u h)
by_two (Grant t e r b) o a looks q k u h = inl refl

after_two :
    (c : Call) (o : Option ℕ) (a : Answer) (looks : List Look) (q : Queues) (k : ℕ → Block) (u : ℕ)
    → (blocks_after c o a looks q k u).outcome ≡ 2
    → (blocks_after c o a looks q k u ≡ k u) ⊎ Told7 c a q u (blocks_after c o a looks q k u)
unfolding blocks_if
after_two c o a looks q k u = go (is_accepted a)
  where
    go : (x : Bool) → (blocks_if x c o a looks q k u).outcome ≡ 2
        → (blocks_if x c o a looks q k u ≡ k u) ⊎ Told7 c a q u (blocks_if x c o a looks q k u)
    go true h = by_two c o a looks q k u h
    go false h = inl refl

pick_some : {A : Type 0} (b : Bool) (x y : A) → pick b (some x) none ≡ some y → (b ≡ true) × (x ≡ y)
pick_some true x y h = (refl, some-injective x y h)
pick_some false x y h = absurd (none_some refl h)

and_both : (a b : Bool) → (a && b) ≡ true → (a ≡ true) × (b ≡ true)
and_both true b h = (refl, h)
and_both false b h = absurd (clash h refl)

-- Whoever has outcome 2 is able.
two_able : (s : State) (S : Sound s) (t : ℕ) → (s.threads t).outcome ≡ 2 → (s.threads t).place ≡ able
two_able s S t h = go (s.threads t).place refl
  where
    no : {P : Type 0} → ((s.threads t).place ≡ able → ⊥) → P
    no n = absurd (omega (arith, h, S.outcomes.blocked t n))

    go : (p : Place) → (s.threads t).place ≡ p → (s.threads t).place ≡ able
    go absent q = no (λ k. let z : ◌≡◌ {A = ℕ} 0 1 = cc in omega arith)
    go able q = q
    go (sending e) q = no (λ k. let z : ◌≡◌ {A = ℕ} 0 1 = cc in omega arith)
    go (receiving e) q = no (λ k. let z : ◌≡◌ {A = ℕ} 0 1 = cc in omega arith)
    go (waiting l) q = no (λ k. let z : ◌≡◌ {A = ℕ} 0 1 = cc in omega arith)

-- A call 7 answered 0 has no other numbers in its answer.
plain_zero :
    (g : Grants) (s : State) (e b m : ℕ) → (step g s (Send e b m)).answer.code ≡ 0
    → (step g s (Send e b m)).answer ≡ plain 0
plain_zero g s e b m z =
    let n = count_zero g s (Send e b m) (λ i. omega (arith, i)) (λ i. omega (arith, i)) in
    let w = words_zero g s (Send e b m) (λ i. omega (arith, i.0)) in
    go (step g s (Send e b m)).answer z n w.0 w.1
  where
    go : (a : Answer) → a.code ≡ 0 → a.count ≡ 0 → a.badge ≡ 0 → a.message ≡ 0 → a ≡ plain 0
    go a i j k l =
        ap (λ (x : ℕ). record { code = x; count = a.count; badge = a.badge; message = a.message }) i
        ∙ ap (λ (x : ℕ). record { code = 0; count = x; badge = a.badge; message = a.message }) j
        ∙ ap (λ (x : ℕ). record { code = 0; count = 0; badge = x; message = a.message }) k
        ∙ ap (λ (x : ℕ). record { code = 0; count = 0; badge = 0; message = x }) l

module _ (g : Grants) (s : State) (c : Call) (S : Sound s) (t : ℕ) where
  abbrev x : Thread
  x = s.threads t

  abbrev y : Thread
  y = (step g s c).state.threads t

  abbrev now : Block
  now = blocks_after c s.runs (step g s c).answer (step g s c).looks (queues_in s) (blocks_in s) t

  at : block_of y ≡ now
  at = ap (λ (k : ℕ → Block). k t) (blocks_step g s c S)

  had :
      block_of y ≡ block_of x → y.outcome ≡ 2
      → (has_message x && (eqb x.badge y.badge && eqb x.message y.message)) ≡ true
  had i two =
      let o : x.outcome ≡ 2 = ap (λ (k : Block). k.outcome) (sym i) ∙ two in
      let b : y.badge ≡ x.badge = ap (λ (k : Block). k.badge) i in
      let m : y.message ≡ x.message = ap (λ (k : Block). k.message) i in
      rw (two_able s S t o, o, b, m, eq-eqb x.badge x.badge refl, eq-eqb x.message x.message refl) refl

  gives :
      (n : Message) → record { badge = y.badge; message = y.message } ≡ n
      → not (has_message x && (eqb x.badge y.badge && eqb x.message y.message)) ≡ true → y.outcome ≡ 2
      → (now ≡ blocks_in s t) ⊎ Told7 c (step g s c).answer (queues_in s) t now
      → Gives c (step g s c).answer (queues_in s) t n
  gives n i k two (inl m) = absurd (clash k (ap not (had (at ∙ m) two)))
  gives n i k two (inr T) =
      let words : block_of y ≡ worded 2 T.badge T.message = at ∙ T.block in
      record {
        endpoint = T.endpoint;
        own =
            T.call
            ∙ ap (λ (z : ℕ). Send T.endpoint z T.message)
            (ap (λ (z : Block). z.badge) (sym words) ∙ ap (λ (z : Message). z.badge) i)
            ∙ ap (λ (z : ℕ). Send T.endpoint n.badge z)
            (ap (λ (z : Block). z.message) (sym words) ∙ ap (λ (z : Message). z.message) i);
        done =
            subst (λ (d : Call). (step g s d).answer.code ≡ 0 → (step g s d).answer ≡ plain 0) (sym T.call)
            (plain_zero g s T.endpoint T.badge T.message) T.done;
        longest = T.longest;
      }

-- "A call 7 answered 0 hands over its own", to the receiver that waited longest, and no other call hands anybody
-- anything.
pub hands_step :
    (g : Grants) (s : State) (c : Call) → Sound s → (t : ℕ) (n : Message)
    → handed_to (s.threads t) ((step g s c).state.threads t) ≡ some n → Gives c (step g s c).answer (queues_in s) t n
hands_step g s c S t n h =
    let p = pick_some _ _ n h in
    let q = and_both _ _ p.0 in
    let two = eqb-true _ 2 q.0 in
    gives g s c S t n p.1 q.1 two
    (after_two c s.runs (step g s c).answer (step g s c).looks (queues_in s) (blocks_in s) t
    (ap (λ (z : Block). z.outcome) (sym (at g s c S t)) ∙ two))

-- Every call 7 answered 0 hands its own to somebody.
pub record Given7 (s r : State) (e b m : ℕ) : Type 0 where
  pub to : ℕ
  pub receiver : first (receivers s.threads (s.endpoints e).waiters) ≡ some to
  pub handed : handed_to (s.threads to) (r.threads to) ≡ some (record { badge = b; message = m })

given_to :
    (s :
    State) (S : Sound s) (o : Option ℕ) (t e b m : ℕ) → first (receivers s.threads (s.endpoints e).waiters) ≡ o
    → (send_to o t e b m (drop_debt t s)).answer.code ≡ 0 → Given7 s (send_to o t e b m (drop_debt t s)).state e b m
unfolding send_to wake_from wake enqueue leave_endpoint
given_to s S none t e b m h k = absurd (omega (arith, k))
given_to s S (some u) t e b m h k =
    record {
      to = u;
      receiver = h;
      handed =
          ap (λ (f : ℕ → Thread). handed_to (s.threads u) (f u))
          (choose_keeps (wake_from e u 2 b m (drop_debt t s))).threads
          ∙ ap (handed_to (s.threads u))
          (put_same (drop_debt t s).threads u (with_place able 2 b m ((drop_debt t s).threads u)))
          ∙ rw (first_receives s S e u h) refl;
    }

given_unless :
    (s : State) (S : Sound s) (x : Bool) (t e b m : ℕ) → (send_unless x t e b m s).answer.code ≡ 0
    → Given7 s (send_unless x t e b m s).state e b m
unfolding send_unless
given_unless s S true t e b m k = absurd (omega (arith, k))
given_unless s S false t e b m k = given_to s S _ t e b m refl k

given_at :
    (s : State) (S : Sound s) (x : Status) (t e b m : ℕ) → (send_at x t e b m s).answer.code ≡ 0
    → Given7 s (send_at x t e b m s).state e b m
unfolding send_at
given_at s S missing t e b m k = absurd (omega (arith, k))
given_at s S closing t e b m k = absurd (omega (arith, k))
given_at s S live t e b m k = given_unless s S _ t e b m k

given_by :
    (s : State) (S : Sound s) (o : Option ℕ) (e b m : ℕ) → (by_caller o (λ t. send t e b m) s).answer.code ≡ 0
    → Given7 s (by_caller o (λ t. send t e b m) s).state e b m
unfolding send
given_by s S none e b m k = absurd (omega (arith, k))
given_by s S (some t) e b m k = given_at s S _ t e b m k

given_lacks :
    (s : State) (S : Sound s) (x : Bool) (e b m : ℕ) → (perform_unless x (Send e b m) s).answer.code ≡ 0
    → Given7 s (perform_unless x (Send e b m) s).state e b m
unfolding perform_unless perform
given_lacks s S true e b m k = absurd (omega (arith, k))
given_lacks s S false e b m k = given_by s S s.runs e b m k

given_if :
    (s : State) (S : Sound s) (x : Bool) (g : Grants) (e b m : ℕ) → (perform_if x g (Send e b m) s).answer.code ≡ 0
    → Given7 s (perform_if x g (Send e b m) s).state e b m
unfolding perform_if
given_if s S false g e b m k = absurd (omega (arith, k))
given_if s S true g e b m k = given_lacks s S _ e b m k

pub given_step :
    (g : Grants) (s : State) (e b m : ℕ) → Sound s → (step g s (Send e b m)).answer.code ≡ 0
    → Given7 s (step g s (Send e b m)).state e b m
unfolding step
given_step g s e b m S k = given_if s S (in_range (Send e b m)) g e b m k
