-- The walk through the queue of an endpoint, with the marks of its abort.
use Prim.Native.Nat.{ℕ, zero, suc, ◌+◌, ◌-◌, ◌≤◌, ◌<◌}
use mathlib.Core.Bool.{Bool, true, false, ◌&&◌, false≢true}
use mathlib.Core.List.{List, ◌∷◌}
use mathlib.Core.Path.{◌≡◌, refl, ap, sym, ◌∙◌, subst}
use native.Mathlib.Numerals.{add-one}
use native.Mathlib.Omega.{arith}
use lib.Dec.{eqb, leb}
use lib.ListN.{length}
use borrow.Author.Tests.{le-leb, lt-leb}
use Rattle.layout.specs.declared.Field.{Field}
use Rattle.layout.specs.declared.Part.{Part}
use Rattle.layout.specs.declared.Link.{Link}
use Rattle.layout.specs.Addresses.{word, link_at, endpoint_queue}
use Rattle.soundness.specs.declared.Phase.{Phase}
use Rattle.soundness.specs.Checks.{phase_at, phase_behind, allowed, complete, thread_at, endpoint_at}
use Rattle.soundness.specs.Checks.{kind_of, banned_of, waiters_from, waiters_test, status_test, abort_test}
use Rattle.soundness.specs.Checks.{endpoint_test}
use Rattle.soundness.specs.Checks.{met_from, met_below, met}
use Rattle.sound_queues.specs.Met.{met_in, Meets, Follows, FollowsAll}
use Rattle.sound_queues.specs.Steps.{waiters_as, kind_fits}
use Rattle.sound_queues.proofs.Walking.{and_right, MetSoFar, passed_none, passed_more, passed_all, met_more}
use Rattle.sound_queues.proofs.Walking.{met_done}
use Rattle.sound_queues.proofs.Walking.{met_below_lem}

-- The phases of the code

-- What holds at the head of the walk's loop: it is at link y, behind x, in phase f, with some turns left.
pub record WaitersAt (m : List ℕ) (e k c d b : ℕ) (before after : List ℕ) (f : Phase) (x y left : ℕ) : Type 0 where
  pub few : left ≤ 257
  pub kept : length after ≡ 256
  pub same : waiters_as m e k ≡ waiters_from left y f m (endpoint_queue e) k c d b x
  pub passed : MetSoFar before after (met_from 257 (word m (link_at (Link.Head (endpoint_queue e)))) m)
      (met_from left y m)

-- Thread t is met behind link x, in phase f, as it should be.
abbrev met_well : List ℕ → ℕ → ℕ → ℕ → Phase → ℕ → ℕ → Bool
met_well m k c b f x t =
    leb t 255 && eqb (word m (link_at (Link.Prev t))) x && eqb (thread_at m Field.Place t) k
    && allowed (phase_at f c (suc t)) b (thread_at m Field.Badge t)

module _ (m : List ℕ) (q k c d b : ℕ) where
  -- One turn more makes no difference where the walk comes to its end.
  waiters_short :
      (n y : ℕ) (f : Phase) (x : ℕ) → waiters_from (suc n) y f m q k c d b x ≡ true
      → met_from (suc n) y m ≡ met_from n y m
  unfolding waiters_from met_from
  waiters_short zero zero f x e = refl
  waiters_short zero (suc t) f x e = absurd (false≢true (and_right (met_well m k c b f x t) false e))
  waiters_short (suc n) zero f x e = refl
  waiters_short (suc n) (suc t) f x e =
      let y : ℕ = word m (link_at (Link.Next t)) in
      let g : Phase = phase_behind (phase_at f c (suc t)) d (suc t) in
      ap (λ (l : List ℕ). t ∷ l)
      (waiters_short n y g (suc t)
      (and_right (met_well m k c b f x t) (waiters_from (suc n) y g m q k c d b (suc t)) e))

  waiters_end :
      (left y : ℕ) (f : Phase) (x : ℕ) {w : ℕ} {r : Bool} → 0 < left → y ≡ 0 → w ≡ word m (link_at (Link.Tail q))
      → r ≡ complete f c → (eqb w x && r) ≡ waiters_from left y f m q k c d b x
  unfolding waiters_from
  waiters_end zero y f x h z e g = absurd (omega arith)
  waiters_end (suc n) zero f x h z e g = rw (e, g)
  waiters_end (suc n) (suc t) f x h z e g = absurd (omega arith)

  waiters_far :
      (left y : ℕ) (f : Phase) (x : ℕ) → 0 < left → 256 < y → false ≡ waiters_from left y f m q k c d b x
  unfolding waiters_from
  waiters_far zero y f x h z = absurd (omega arith)
  waiters_far (suc n) zero f x h z = absurd (omega arith)
  waiters_far (suc n) (suc t) f x h z = rw (lt-leb t 255 (omega arith))

  -- The thread of link y, behind link x and in phase f, is as it should be.
  abbrev pub WaiterStands : Phase → ℕ → ℕ → Bool → Type 0
  WaiterStands f x y r =
      r ≡ (eqb (word m (link_at (Link.Prev (y - 1)))) x && eqb (thread_at m Field.Place (y - 1)) k
      && allowed f b (thread_at m Field.Badge (y - 1)))

  waiters_not :
      (left y : ℕ) (f : Phase) (x : ℕ) {h : Phase} {r : Bool} → 0 < left → (y ≡ 0 → ⊥) → y ≤ 256
      → h ≡ phase_at f c y → WaiterStands h x y r → r ≡ false → false ≡ waiters_from left y f m q k c d b x
  unfolding waiters_from
  waiters_not zero y f x l n z i s v = absurd (omega arith)
  waiters_not (suc n) zero f x l o z i s v = absurd (o refl)
  waiters_not (suc n) (suc t) f x l o z i s v =
      let j : suc t - 1 ≡ t = omega arith in
      let w = sym (rw (j, i) at s) ∙ v in
      rw (le-leb t 255 (omega arith), w)

  waiters_next :
      (left y : ℕ) (f : Phase) (x : ℕ) {h g : Phase} {r : Bool} {u : ℕ} → 0 < left → (y ≡ 0 → ⊥) → y ≤ 256
      → h ≡ phase_at f c y → WaiterStands h x y r → r ≡ true → g ≡ phase_behind h d y
      → u ≡ word m (link_at (Link.Next (y - 1)))
      → waiters_from left y f m q k c d b x ≡ waiters_from (left - 1) u g m q k c d b y
  unfolding waiters_from
  waiters_next zero y f x l n z i s v a w = absurd (omega arith)
  waiters_next (suc n) zero f x l o z i s v a w = absurd (o refl)
  waiters_next (suc n) (suc t) f x l o z i s v a w =
      let j : suc t - 1 ≡ t = omega arith in
      let p : suc n - 1 ≡ n = omega arith in
      let v' = sym (rw (j, i) at s) ∙ v in
      rw (p, w, j, a, i, le-leb t 255 (omega arith), v')

module _ (m : List ℕ) (e k : ℕ) where
  waiters_met :
      waiters_as m e k ≡ true → met_from 257 (word m (link_at (Link.Head (endpoint_queue e)))) m
      ≡ met m (endpoint_queue e)
  unfolding met
  waiters_met h =
      waiters_short m (endpoint_queue e) k (endpoint_at m Part.Cursor e) (endpoint_at m Part.End e) (banned_of m e k)
      256
      (word m (link_at (Link.Head (endpoint_queue e)))) Phase.Ahead 0 h

  module _
      {c d b : ℕ} {before after : List ℕ} {f : Phase} {x y left : ℕ}
      (at : WaitersAt m e k c d b before after f x y left) (turn : 0 < left)
    where
      pub waiters_walked :
          {w : ℕ} {r : Bool} → y ≡ 0 → w ≡ word m (link_at (Link.Tail (endpoint_queue e))) → r ≡ complete f c
          → Follows before after (met m (endpoint_queue e)) (waiters_as m e k) (eqb w x && r)
      waiters_walked {w} {r} z g h =
          let i : (eqb w x && r) ≡ waiters_as m e k =
          waiters_end m (endpoint_queue e) k c d b left y f x turn z g h ∙ sym at.same in
          record {
            is = i;
            meets = λ v. passed_all (rw (waiters_met (sym i ∙ v), met_done m left y z) at at.passed);
          }

      pub waiters_out : 256 < y → false ≡ waiters_as m e k
      waiters_out z = waiters_far m (endpoint_queue e) k c d b left y f x turn z ∙ sym at.same

      pub waiters_bad :
          {h : Phase} {r : Bool} → (y ≡ 0 → ⊥) → y ≤ 256 → h ≡ phase_at f c y
          → WaiterStands m (endpoint_queue e) k c d b h x y r → r ≡ false → false ≡ waiters_as m e k
      waiters_bad n z i s v = waiters_not m (endpoint_queue e) k c d b left y f x turn n z i s v ∙ sym at.same

      pub waiters_again :
          {h g : Phase} {r : Bool} {u : ℕ} {marked : List ℕ} → (y ≡ 0 → ⊥) → y ≤ 256 → h ≡ phase_at f c y
          → WaiterStands m (endpoint_queue e) k c d b h x y r → r ≡ true → g ≡ phase_behind h d y
          → Meets after marked (y - 1) → length marked ≡ length after → u ≡ word m (link_at (Link.Next (y - 1)))
          → WaitersAt m e k c d b before marked g y u (left - 1)
      waiters_again {u = u} n z i s v a t l w =
          record {
            few = let o = at.few in omega arith;
            kept = l ∙ at.kept;
            same = at.same ∙ waiters_next m (endpoint_queue e) k c d b left y f x turn n z i s v a w;
            passed = passed_more (y - 1) (rw (met_more m left y {z = u} turn n w) at at.passed) t;
          }

  pub waiters_long :
      {c d b : ℕ} {before after : List ℕ} {f : Phase} {x y left : ℕ}
      → WaitersAt m e k c d b before after f x y left → left ≤ 0 → false ≡ waiters_as m e k
  unfolding waiters_from
  waiters_long {c} {d} {b} {f = f} {x} {y} {left} at h =
      let z : left ≡ 0 = omega arith in
      sym (at.same ∙ ap (λ (n : ℕ). waiters_from n y f m (endpoint_queue e) k c d b x) z)

-- The whole endpoint

and_assoc : (a b c : Bool) → (a && (b && c)) ≡ ((a && b) && c)
and_assoc true b c = refl
and_assoc false b c = refl

module _ (m : List ℕ) (e : ℕ) {k : ℕ} (kind : k ≡ kind_of (word m (link_at (Link.Head (endpoint_queue e)))) m e) where
  -- What is tried before the walk.
  abbrev pub first_tests : Bool
  first_tests =
      status_test (endpoint_at m Part.Status e) m e && abort_test (endpoint_at m Part.Aborting e) m e && kind_fits m e k

  endpoint_is : endpoint_test m e ≡ (first_tests && waiters_as m e k)
  unfolding endpoint_test waiters_test
  endpoint_is = rw (← kind)
      (and_assoc (status_test (endpoint_at m Part.Status e) m e && abort_test (endpoint_at m Part.Aborting e) m e)
      (kind_fits m e k)
      (waiters_as m e k))

  module _
      {s a n : Bool} (is_status : s ≡ status_test (endpoint_at m Part.Status e) m e)
      (is_abort : a ≡ abort_test (endpoint_at m Part.Aborting e) m e) (fits : n ≡ kind_fits m e k)
    where
      tests_are : first_tests ≡ (s && a && n)
      tests_are = rw (is_status, is_abort, fits)

      pub endpoint_bad : (s && a && n) ≡ false → false ≡ endpoint_test m e
      endpoint_bad h = sym (endpoint_is ∙ ap (λ (x : Bool). x && waiters_as m e k) (tests_are ∙ h))

      pub endpoint_walked :
          {b c l : List ℕ} {r : Bool} → (s && a && n) ≡ true → Follows b c l (waiters_as m e k) r
          → Follows b c l (endpoint_test m e) r
      endpoint_walked h w =
          record {
            is = w.is ∙ sym (endpoint_is ∙ ap (λ (x : Bool). x && waiters_as m e k) (tests_are ∙ h));
            meets = w.meets;
          }

-- From queue to queue

pub walked_more :
    (m : List ℕ) (q : ℕ) {b a : List ℕ} {test r : Bool} → Follows b a (met m q) test r → r ≡ true
    → b ≡ met_in (met_below q m) → a ≡ met_in (met_below (q + 1) m)
walked_more m q w h e = w.meets h (met_below q m) e ∙ ap met_in (met_below_lem m q ∙ rw add-one)

pub walks_failed : {a : List ℕ} {f : ℕ → Bool} {test : Bool} → false ≡ test → FollowsAll a f test false
walks_failed e = record { is = e; meets = λ h. absurd (false≢true h) }

pub walks_all :
    (m : List ℕ) (q n : ℕ) {a : List ℕ} {test : Bool} → a ≡ met_in (met_below q m) → q ≡ n → true ≡ test
    → FollowsAll a (met_below n m) test true
walks_all m q n {a} e h t =
    record { is = t; meets = λ _. subst (λ (i : ℕ). a ≡ met_in (met_below i m)) h e }

pub endpoint_more :
    (m : List ℕ) (e : ℕ) {b a : List ℕ} {test r : Bool} → Follows b a (met m (endpoint_queue e)) test r → r ≡ true
    → b ≡ met_in (met_below (endpoint_queue e) m) → a ≡ met_in (met_below (256 + (e + 1)) m)
endpoint_more m e {a = a} w h s =
    let q : endpoint_queue e + 1 ≡ 256 + (e + 1) = omega arith in
    subst (λ (i : ℕ). a ≡ met_in (met_below i m)) q (walked_more m (endpoint_queue e) w h s)
