-- What holds of a list so far, its state and its aborts, after every call and, inside a call 12, after every look.
use Prim.Native.Nat.{ℕ, suc, ◌≤◌, ◌<◌}
use mathlib.Core.Path.{◌≡◌, refl, sym, ◌∙◌, ap}
use mathlib.Core.Logic.{◌⊎◌}
use mathlib.Core.Bool.{Bool, true, false, ◌&&◌}
use mathlib.Core.Option.{Option, none, some}
use mathlib.Core.List.{List, [], ◌∷◌, ◌++◌, map}
use native.Mathlib.Omega.{arith}
use lib.Dec.{ltb}
use lib.ListN.{length, get_elem?}
use borrow.Author.Tests.{ltb-true, le-ltb}
use Rattle.calls.specs.declared.Answer.{Answer}
use Rattle.calls.specs.declared.Call.{Call}
use Rattle.calls.specs.declared.Call.TheVariants.{Send, Receive, Wait}
use Rattle.machine.specs.Lists.{only, Mem, Distinct}
use Rattle.machine.specs.State.{Thread, Place, absent, able, sending, receiving, waiting, Abort, live, Endpoint}
use Rattle.calls.specs.Answers.{plain}
use Rattle.history.specs.History.{Aborting, Ended}
use Rattle.history.specs.Claim.{In, is_send_of, is_old}
use Rattle.machine.proofs.Preserved.Ready.{none_some}
use Rattle.history.proofs.Sublists.{Sub, sub_trans, sub_distinct, sub_length, sub_mem, sub_left, only_agree}
use Rattle.history.proofs.Sublists.{entry_keep, entry_grow}

-- The list so far: its calls and answers, the place that all of it came before, and the name of the waiter that each
-- thread is.
pub record Stage : Type 0 where
  pub past : List Call
  pub answers : List Answer
  pub until : ℕ
  pub since : ℕ → ℕ

-- All of it came before this place.
abbrev pub reaching : ℕ → Stage → Stage
reaching n stage = record { past = stage.past; answers = stage.answers; until = n; since = stage.since }

-- In the middle of the next call.
abbrev pub within : Stage → Stage
within stage = reaching (suc stage.until) stage

-- With these names.
abbrev pub naming : (ℕ → ℕ) → Stage → Stage
naming since stage = record { past = stage.past; answers = stage.answers; until = stage.until; since = since }

-- With one more call and its answer.
abbrev pub grown : Call → Answer → Stage → Stage
grown c r stage =
    record {
      past = stage.past ++ (c ∷ []);
      answers = stage.answers ++ (r ∷ []);
      until = stage.until;
      since = stage.since;
    }

-- The call that a waiter made, by its place, badge and message.
abbrev pub waiter_call : Place → ℕ → ℕ → Option Call
waiter_call absent b m = none
waiter_call able b m = none
waiter_call (sending e) b m = some (Send e b m)
waiter_call (receiving e) b m = some (Receive e)
waiter_call (waiting l) b m = some (Wait l)

abbrev pub call_made : Thread → Option Call
call_made x = waiter_call x.place x.badge x.message

-- Queued to send, by place and by call.
pub sends_call : (x : Thread) (e : ℕ) → x.place ≡ sending e → call_made x ≡ some (Send e x.badge x.message)
sends_call x e h = ap (λ (p : Place). waiter_call p x.badge x.message) h

pub call_sends :
    (x : Thread) (e b m : ℕ) → call_made x ≡ some (Send e b m)
    → (x.place ≡ sending e) × (x.badge ≡ b) × (x.message ≡ m)
call_sends x e b m h = go x.place refl h
  where
    go : (p : Place) → x.place ≡ p → waiter_call p x.badge x.message ≡ some (Send e b m)
        → (x.place ≡ sending e) × (x.badge ≡ b) × (x.message ≡ m)
    go absent q k = absurd (none_some refl k)
    go able q k = absurd (none_some refl k)
    go (sending f) q k = ((cc), (cc), (cc))
    go (receiving f) q k = let z : ◌≡◌ {A = ℕ} 0 1 = cc in absurd (omega arith)
    go (waiting l) q k = let z : ◌≡◌ {A = ℕ} 0 1 = cc in absurd (omega arith)

-- The call at place w of the list is c, answered 1.
pub record Made (past : List Call) (answers : List Answer) (w : ℕ) (c : Call) : Type 0 where
  pub call : get_elem? past w ≡ some c
  pub answer : get_elem? answers w ≡ some (plain 1)

-- Of an abort, ended or not, what the claim says of its looks; it began before n.
pub record LooksExact (past : List Call) (n : ℕ) (x : Aborting) : Type 0 where
  pub began : x.began < n
  pub removed : x.removed ≡ only (is_old past x) x.looked
  pub once : Distinct x.looked
  pub most : length x.looked ≤ length x.onto
  pub among : (w : ℕ) → Mem w x.looked → Mem w x.onto

-- The abort that stands at e, in the machine and in the history.
pub record Stood (stage : Stage) (threads : ℕ → Thread) (e : ℕ) (a : Abort) (x : Aborting) : Type 0 where
  pub endpoint : x.endpoint ≡ e
  pub badge : x.badge ≡ a.badge
  pub began : x.began < stage.until
  pub old : (w : ℕ) → Mem w x.onto → w < x.began
  pub once : Distinct x.onto
  pub part : Sub (x.looked ++ map stage.since a.pending) x.onto
  pub left :
      (t : ℕ) → (threads t).place ≡ sending e → Mem (stage.since t) x.onto
      → Mem (stage.since t) x.looked ⊎ Mem t a.pending
  pub removed : x.removed ≡ only (is_old stage.past x) x.looked

-- They stand together.
abbrev pub Both : Stage → (ℕ → Thread) → ℕ → Option Abort → Option Aborting → Type 0
Both stage threads e none none = Unit {0}
Both stage threads e none (some x) = ⊥
Both stage threads e (some a) none = ⊥
Both stage threads e (some a) (some x) = Stood stage threads e a x

-- An abort that has ended: nobody who is queued at a live endpoint is old for it.
pub record Over (stage : Stage) (threads : ℕ → Thread) (endpoints : ℕ → Endpoint) (z : Ended) : Type 0 where
  pub exact : LooksExact stage.past stage.until z.abort
  pub by : z.by < stage.until
  pub order : z.abort.began ≤ z.by
  pub clean :
      (t f : ℕ) → (threads t).place ≡ sending f → (endpoints f).status ≡ live
      → is_old stage.past z.abort (stage.since t) ≡ false

-- The list so far beside the machine's threads and endpoints and the history's aborts.
pub record Core
    (stage : Stage) (threads : ℕ → Thread) (endpoints : ℕ → Endpoint) (standing : ℕ → Option Aborting)
    (ended : List Ended) : Type 0 where
  -- A waiter's name is the place of its call, and no two have the same.
  pub made :
      (t : ℕ) (c : Call) → call_made (threads t) ≡ some c → Made stage.past stage.answers (stage.since t) c
  pub apart :
      (t u : ℕ) (c d : Call) → call_made (threads t) ≡ some c → call_made (threads u) ≡ some d
      → stage.since t ≡ stage.since u → t ≡ u
  pub stands : (e : ℕ) → Both stage threads e (endpoints e).abort (standing e)
  pub over : (z : Ended) → In z ended → Over stage threads endpoints z

-- What an abort says of its looks while it stands.
pub stood_exact :
    (stage : Stage) (threads : ℕ → Thread) (e : ℕ) (a : Abort) (x : Aborting) → Stood stage threads e a x
    → LooksExact stage.past stage.until x
stood_exact stage threads e a x S =
    let p = sub_trans (sub_left x.looked (map stage.since a.pending)) S.part in
    record {
      began = S.began;
      removed = S.removed;
      once = sub_distinct p S.once;
      most = sub_length p;
      among = sub_mem p;
    }

-- The list grows

-- Whether a waiter is old is settled by what was there when the abort began.
pub is_old_grow :
    (past : List Call) (c : Call) (x : Aborting) (w : ℕ) → x.began ≤ length past
    → is_old (past ++ (c ∷ [])) x w ≡ is_old past x w
is_old_grow past c x w h = go (ltb w x.began) refl
  where
    go : (b : Bool) → ltb w x.began ≡ b → is_old (past ++ (c ∷ [])) x w ≡ is_old past x w
    go true e =
        let k : w < length past = omega (arith, ltb-true w x.began e) in
        ap (λ (o : Option Call). ltb w x.began && is_send_of x.endpoint x.badge o)
        (entry_keep past (c ∷ []) w k)
    go false e = rw e

-- One who comes later is not old.
pub not_old : (past : List Call) (x : Aborting) (w : ℕ) → x.began ≤ w → is_old past x w ≡ false
not_old past x w h = rw (le-ltb w x.began h)

only_grow :
    (past : List Call) (c : Call) (x : Aborting) (l : List ℕ) → x.began ≤ length past
    → only (is_old past x) l ≡ only (is_old (past ++ (c ∷ [])) x) l
only_grow past c x l h = only_agree _ _ l (λ w m. sym (is_old_grow past c x w h))

pub made_grow :
    (past : List Call) (answers : List Answer) (c d : Call) (a : Answer) (w : ℕ) → Made past answers w d
    → Made (past ++ (c ∷ [])) (answers ++ (a ∷ [])) w d
made_grow past answers c d a w M =
    record {
      call = entry_grow past c w d M.call;
      answer = entry_grow answers a w (plain 1) M.answer;
    }

module _ (stage : Stage) (c : Call) (r : Answer) (fits : stage.until ≤ suc (length stage.past)) where
  stood_grow :
      {f : ℕ → Thread} {e : ℕ} {a : Abort} {x : Aborting} → Stood stage f e a x → Stood (grown c r stage) f e a x
  stood_grow {f} {e} {a} {x} S =
      record {
        endpoint = S.endpoint;
        badge = S.badge;
        began = S.began;
        old = S.old;
        once = S.once;
        part = S.part;
        left = S.left;
        removed = S.removed ∙ only_grow stage.past c x x.looked (omega (arith, S.began));
      }

  pub both_grow :
      (f : ℕ → Thread) (e : ℕ) (o : Option Abort) (p : Option Aborting) → Both stage f e o p
      → Both (grown c r stage) f e o p
  both_grow f e none none B = B
  both_grow f e none (some x) B = B
  both_grow f e (some a) none B = B
  both_grow f e (some a) (some x) B = stood_grow B

  pub over_grow :
      {f : ℕ → Thread} {y : ℕ → Endpoint} (z : Ended) → Over stage f y z → Over (grown c r stage) f y z
  over_grow z O =
      let E = O.exact in
      let k : z.abort.began ≤ length stage.past = omega (arith, E.began) in
      record {
        exact =
            record {
              began = E.began;
              removed = E.removed ∙ only_grow stage.past c z.abort z.abort.looked k;
              once = E.once;
              most = E.most;
              among = E.among;
            };
        by = O.by;
        order = O.order;
        clean = λ t f p l. is_old_grow stage.past c z.abort (stage.since t) k ∙ O.clean t f p l;
      }

  pub core_grow :
      {f : ℕ → Thread} {y : ℕ → Endpoint} {standing : ℕ → Option Aborting} {ended : List Ended}
      → Core stage f y standing ended → Core (grown c r stage) f y standing ended
  core_grow {f} {y} {standing} C =
      record {
        made = λ t d h. made_grow stage.past stage.answers c d r (stage.since t) (C.made t d h);
        apart = C.apart;
        stands = λ e. both_grow f e (y e).abort (standing e) (C.stands e);
        over = λ z i. over_grow z (C.over z i);
      }
