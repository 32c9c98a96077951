-- The chooser changes nothing that Core reads; a caller that blocks becomes a waiter with a new name.
use Prim.Native.Nat.{ℕ, suc, ◌≤◌}
use mathlib.Core.Path.{◌≡◌, refl, sym, ◌∙◌, ap, subst}
use mathlib.Core.Logic.{◌⊎◌}
use mathlib.Core.Bool.{true, false}
use mathlib.Core.Option.{Option, none, some}
use mathlib.Core.List.{List, [], ◌∷◌, ◌++◌}
use native.Mathlib.Omega.{arith}
use lib.ListN.{length}
use Rattle.calls.specs.declared.Answer.{Answer}
use Rattle.calls.specs.declared.Call.{Call}
use Rattle.machine.specs.Lists.{put, Mem}
use Rattle.machine.specs.State.{State, Thread, sending, Abort, live, Endpoint}
use Rattle.machine.specs.Scheduling.{choose}
use Rattle.machine.specs.Results.{Result}
use Rattle.calls.specs.Answers.{plain}
use Rattle.history.specs.Sorts.{sort_of}
use Rattle.history.specs.History.{Aborting, Ended, queues?}
use Rattle.history.specs.Claim.{is_old}
use Rattle.machine.proofs.Lists.{Same, same, other, same?, put_all, put_same, put_other}
use Rattle.history.proofs.Sublists.{Sub, map_agree, entry_below, entry_last}
use Rattle.machine.proofs.Running.{choose_keeps}
use Rattle.history.proofs.Demand3.Standing.{Stage, naming, grown, call_made, Made, Stood, Both, Over, Core}
use Rattle.history.proofs.Demand3.Standing.{not_old}
use Rattle.history.proofs.Demand3.Standing.{made_grow, both_grow, over_grow}
use Rattle.history.proofs.Demand3.Owing.{Still}
use Rattle.history.proofs.Demand3.Leaving.{NobodyComes}

pub leaves_choose : (s r : State) → NobodyComes s r → NobodyComes s (choose r)
leaves_choose s r H = rw ((choose_keeps r).threads, (choose_keeps r).endpoints) H

pub still_choose : (s r : State) → Still s r → Still s (choose r)
still_choose s r H = rw (choose_keeps r).threads H

-- Of two queues, the second is the first, or t has joined its tail.
abbrev pub JoinsTail : ℕ → List ℕ → List ℕ → Type 0
JoinsTail t l m = (m ≡ l) ⊎ (m ≡ l ++ (t ∷ []))

-- The caller blocks in the call c: up to the state between, nobody comes to wait; then the caller does.
pub record CallerBlocks (s : State) (c : Call) (r : Result) : Type 0 where
  pub caller : ℕ
  pub runs : s.runs ≡ some caller
  pub answer : r.answer ≡ plain 1
  pub queues : queues? (sort_of c) 1 ≡ true
  pub between : State
  pub leaves : NobodyComes s between
  pub able : call_made (between.threads caller) ≡ none
  pub aside : (e : ℕ) (a : Abort) → (between.endpoints e).abort ≡ some a → Mem caller a.pending → ⊥
  pub entry : Thread
  pub calls : call_made entry ≡ some c
  pub threads : r.state.threads ≡ put between.threads caller entry
  pub abort : (e : ℕ) → (r.state.endpoints e).abort ≡ (between.endpoints e).abort
  pub status : (e : ℕ) → (r.state.endpoints e).status ≡ (between.endpoints e).status
  pub joins : (e : ℕ) → JoinsTail caller (between.endpoints e).waiters (r.state.endpoints e).waiters

-- Core reads of an endpoint its status and its abort.
core_same :
    {stage : Stage} {f : ℕ → Thread} {x y : ℕ → Endpoint} {standing : ℕ → Option Aborting} {ended : List Ended}
    → ((e : ℕ) → (y e).abort ≡ (x e).abort) → ((e : ℕ) → (y e).status ≡ (x e).status) → Core stage f x standing ended
    → Core stage f y standing ended
core_same abort status C =
    record {
      made = C.made;
      apart = C.apart;
      stands = λ e. rw (abort e) (C.stands e);
      over =
          λ z i.
          let O = C.over z i in
          record {
            exact = O.exact;
            by = O.by;
            order = O.order;
            clean = λ t e p l. O.clean t e p (sym (status e) ∙ l);
          };
    }

-- The new waiter t has a name that no abort has heard of.
module _ (stage : Stage) (fits : stage.until ≤ suc (length stage.past)) (f : ℕ → Thread) (t : ℕ) (x : Thread) where
  abbrev place : ℕ
  place = length stage.past

  abbrev names : ℕ → ℕ
  names = put stage.since t place

  stood_block :
      (e : ℕ) (a : Abort) (z : Aborting) → (Mem t a.pending → ⊥) → Stood stage f e a z
      → Stood (naming names stage) (put f t x) e a z
  stood_block e a z aside S =
      record {
        endpoint = S.endpoint;
        badge = S.badge;
        began = S.began;
        old = S.old;
        once = S.once;
        part =
            subst (λ (k : List ℕ). Sub (z.looked ++ k) z.onto)
            (sym (map_agree names stage.since a.pending keeps)) S.part;
        left =
            put_all
            (λ u y. y.place ≡ sending e → Mem (names u) z.onto → Mem (names u) z.looked ⊎ Mem u a.pending)
            f t x new
            (λ u h p. rw (put_other stage.since t u place h) (S.left u p));
        removed = S.removed;
      }
    where
      keeps : (u : ℕ) → Mem u a.pending → put stage.since t place u ≡ stage.since u
      keeps u m = put_other stage.since t u place (λ q. aside (subst (λ (v : ℕ). Mem v a.pending) q m))

      new : x.place ≡ sending e → Mem (put stage.since t place t) z.onto
          → Mem (put stage.since t place t) z.looked ⊎ Mem t a.pending
      new p m =
          let w = S.old place (rw (put_same stage.since t place) at m) in absurd (omega (arith, S.began))

  both_block :
      (e : ℕ) (o : Option Abort) (p : Option Aborting) → ((a : Abort) → o ≡ some a → Mem t a.pending → ⊥)
      → Both stage f e o p → Both (naming names stage) (put f t x) e o p
  both_block e none none aside B = B
  both_block e none (some z) aside B = B
  both_block e (some a) none aside B = B
  both_block e (some a) (some z) aside B = stood_block e a z (aside a refl) B

  over_block :
      {endpoints : ℕ → Endpoint} (z : Ended) → Over stage f endpoints z
      → Over (naming names stage) (put f t x) endpoints z
  over_block {endpoints} z O =
      let E = O.exact in
      record {
        exact = E;
        by = O.by;
        order = O.order;
        clean =
            put_all
            (λ u y. (e : ℕ) → y.place ≡ sending e → (endpoints e).status ≡ live
            → is_old stage.past z.abort (names u) ≡ false)
            f t x
            (λ e p l. rw (put_same stage.since t place)
            (not_old stage.past z.abort place (omega (arith, E.began))))
            (λ u h. rw (put_other stage.since t u place h) (O.clean u));
      }

  module _ (c : Call) (able : call_made (f t) ≡ none) (calls : call_made x ≡ some c)
      (whole : length stage.answers ≡ length stage.past) where
    -- Of two waiters, u one that waited before.
    unlike :
        (u : ℕ) (d : Call)
        → ((u : ℕ) (c : Call) → call_made (f u) ≡ some c → Made stage.past stage.answers (stage.since u) c)
        → call_made (f u) ≡ some d → stage.since u ≡ place → ⊥
    unlike u d made h q = let k = entry_below stage.past (stage.since u) d (made u d h).call in omega arith

    -- t waits, by the call c, answered 1.
    core_block :
        {endpoints : ℕ → Endpoint} {standing : ℕ → Option Aborting} {ended : List Ended}
        → ((e : ℕ) (a : Abort) → (endpoints e).abort ≡ some a → Mem t a.pending → ⊥)
        → Core stage f endpoints standing ended
        → Core (grown c (plain 1) (naming names stage)) (put f t x) endpoints standing ended
    core_block {endpoints} {standing} aside C =
        record {
          made =
              put_all
              (λ u y. (d : Call) → call_made y ≡ some d
              → Made (stage.past ++ (c ∷ [])) (stage.answers ++ (plain 1 ∷ [])) (names u) d)
              f t x mine
              (λ u h d k. rw (put_other stage.since t u place h)
              (made_grow stage.past stage.answers c d (plain 1) (stage.since u) (C.made u d k)));
          apart = apart;
          stands =
              λ e.
              both_grow (naming names stage) c (plain 1) fits (put f t x) e (endpoints e).abort (standing e)
              (both_block e (endpoints e).abort (standing e) (aside e) (C.stands e));
          over = λ z i. over_grow (naming names stage) c (plain 1) fits z (over_block z (C.over z i));
        }
      where
        mine :
            (d : Call) → call_made x ≡ some d
            → Made (stage.past ++ (c ∷ [])) (stage.answers ++ (plain 1 ∷ [])) (put stage.since t place t) d
        mine d h =
            let same : c ≡ d = cc in
            rw (put_same stage.since t place, ← same)
            (record {
              call = entry_last stage.past c;
              answer = rw (← whole) (entry_last stage.answers (plain 1));
            })

        old : (u : ℕ) → (u ≡ t → ⊥) → put stage.since t place u ≡ stage.since u
        old u h = put_other stage.since t u place h

        new : (u : ℕ) → u ≡ t → put stage.since t place u ≡ place
        new u h = ap (put stage.since t place) h ∙ put_same stage.since t place

        was : (u : ℕ) (d : Call) → (u ≡ t → ⊥) → call_made (put f t x u) ≡ some d → call_made (f u) ≡ some d
        was u d h k = ap call_made (sym (put_other f t u x h)) ∙ k

        apart :
            (u v : ℕ) (k d : Call) → call_made (put f t x u) ≡ some k → call_made (put f t x v) ≡ some d
            → put stage.since t place u ≡ put stage.since t place v → u ≡ v
        apart u v k d p q e = go (same? u t) (same? v t)
          where
            go : Same u t → Same v t → u ≡ v
            go (same i _) (same j _) = i ∙ sym j
            go (same i _) (other j _) =
                absurd (unlike v d C.made (was v d j q) (sym (old v j) ∙ sym e ∙ new u i))
            go (other i _) (same j _) = absurd (unlike u k C.made (was u k i p) (sym (old u i) ∙ e ∙ new v j))
            go (other i _) (other j _) = C.apart u v k d (was u k i p) (was v d j q) (sym (old u i) ∙ e ∙ old v j)

    -- The same, of what the call left.
    pub core_blocks :
        (here : ℕ) → here ≡ length stage.past → (g : ℕ → Thread) → g ≡ put f t x → (a : Answer) → a ≡ plain 1
        → {endpoints y : ℕ → Endpoint} {standing : ℕ → Option Aborting} {ended : List Ended}
        → ((e : ℕ) → (y e).abort ≡ (endpoints e).abort) → ((e : ℕ) → (y e).status ≡ (endpoints e).status)
        → ((e : ℕ) (a : Abort) → (endpoints e).abort ≡ some a → Mem t a.pending → ⊥)
        → Core stage f endpoints standing ended
        → Core (grown c a (naming (put stage.since t here) stage)) g y standing ended
    core_blocks here p g q a r abort status aside C = rw (p, q, r) (core_same abort status (core_block aside C))
