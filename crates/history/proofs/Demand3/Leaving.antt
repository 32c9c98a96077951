-- Steps after which nobody waits who did not wait before, and no abort begins, is looked for or ends: they keep Core.
use Prim.Native.Nat.{ℕ, ◌≤◌}
use mathlib.Core.Path.{◌≡◌, refl, sym, ◌∙◌, ap, subst}
use mathlib.Core.Logic.{◌⊎◌, inl, inr, ⊎_elim}
use mathlib.Core.Option.{Option, none, some}
use mathlib.Core.List.{List}
use native.Mathlib.Omega.{arith}
use Rattle.calls.specs.declared.Call.{Call}
use Rattle.machine.specs.Lists.{put, Mem}
use Rattle.machine.specs.State.{State, Thread, able, sending, Debt, nothing, Abort, live, Endpoint}
use Rattle.machine.specs.State.{set_thread, set_endpoint, with_debt, with_place}
use Rattle.machine.specs.Endpoints.{passing, leave_endpoint, wake_from, drop_debt}
use Rattle.machine.specs.Scheduling.{enqueue, wake}
use Rattle.history.specs.History.{Aborting, Ended}
use Rattle.history.specs.Claim.{In}
use Rattle.machine.proofs.Lists.{Same, same, other, same?, put_all, put_same, put_other, mem_keep}
use Rattle.history.proofs.Sublists.{Sub, sub_refl, sub_trans, sub_map, sub_after, sub_without}
use Rattle.history.proofs.Demand3.Standing.{Stage, reaching, call_made, sends_call, call_sends, Both, Over, Core}

-- Who waits waited before, and whoever sends at a live endpoint sent at a live endpoint.
pub record Fewer (f g : ℕ → Thread) (x y : ℕ → Endpoint) : Type 0 where
  pub calls : (t : ℕ) (c : Call) → call_made (g t) ≡ some c → call_made (f t) ≡ some c
  pub live : (t e : ℕ) → (g t).place ≡ sending e → (y e).status ≡ live → (x e).status ≡ live

-- Of what was pending, in order, those are pending who still send.
pub record PassedOver (g : ℕ → Thread) (e : ℕ) (a k : Abort) : Type 0 where
  pub badge : k.badge ≡ a.badge
  pub part : Sub k.pending a.pending
  pub kept : (t : ℕ) → Mem t a.pending → (g t).place ≡ sending e → Mem t k.pending

abbrev pub Passes : (ℕ → Thread) → ℕ → Option Abort → Option Abort → Type 0
Passes g e none none = Unit {0}
Passes g e none (some k) = ⊥
Passes g e (some a) none = ⊥
Passes g e (some a) (some k) = PassedOver g e a k

pub record Shrinks (f g : ℕ → Thread) (x y : ℕ → Endpoint) : Type 0 where
  pub fewer : Fewer f g x y
  pub queues : (e : ℕ) → Sub (y e).waiters (x e).waiters
  pub aborts : (e : ℕ) → Passes g e (x e).abort (y e).abort

abbrev pub NobodyComes : State → State → Type 0
NobodyComes s r = Shrinks s.threads r.threads s.endpoints r.endpoints

-- Who made no call.

pub no_call : {P : Type 0} {o : Option Call} {c : Call} → o ≡ none → o ≡ some c → P
no_call {P} {o} {c} p q = let z : ◌≡◌ {A = ℕ} 0 1 = cc in absurd (omega arith)

pub fewer_sends :
    {f g : ℕ → Thread} {x y : ℕ → Endpoint} → Fewer f g x y → (t e : ℕ) → (g t).place ≡ sending e
    → ((f t).place ≡ sending e) × ((f t).badge ≡ (g t).badge)
fewer_sends {f} {g} F t e h =
    let r = call_sends (f t) e (g t).badge (g t).message (F.calls t _ (sends_call (g t) e h)) in (r.0, r.1)

-- Passing

pub passed_self : (g : ℕ → Thread) (e : ℕ) (a : Abort) → PassedOver g e a a
passed_self g e a = record { badge = refl; part = sub_refl a.pending; kept = λ t m h. m }

pub passes_self : (g : ℕ → Thread) (e : ℕ) (o : Option Abort) → Passes g e o o
passes_self g e none = tt
passes_self g e (some a) = passed_self g e a

-- One who no longer sends there leaves.
pub passes_leave :
    (g : ℕ → Thread) (e t : ℕ) (o : Option Abort) → ((g t).place ≡ sending e → ⊥) → Passes g e o (passing t o)
passes_leave g e t none n = tt
passes_leave g e t (some a) n =
    record {
      badge = refl;
      part = sub_without t a.pending;
      kept = λ u m h. mem_keep t u a.pending m (λ q. n (subst (λ (v : ℕ). (g v).place ≡ sending e) q h));
    }

passes_trans :
    (g h : ℕ → Thread) (e : ℕ) → ((t : ℕ) → (h t).place ≡ sending e → (g t).place ≡ sending e) → (o p q : Option Abort)
    → Passes g e o p → Passes h e p q → Passes h e o q
passes_trans g h e F none none none P Q = tt
passes_trans g h e F none none (some c) P Q = Q
passes_trans g h e F none (some b) q P Q = absurd P
passes_trans g h e F (some a) none q P Q = absurd P
passes_trans g h e F (some a) (some b) none P Q = Q
passes_trans g h e F (some a) (some b) (some c) P Q =
    record {
      badge = Q.badge ∙ P.badge;
      part = sub_trans Q.part P.part;
      kept = λ t m k. Q.kept t (P.kept t m (F t k)) k;
    }

-- Shrinking, and one step after another

pub leaves_self : (s : State) → NobodyComes s s
leaves_self s =
    record {
      fewer = record { calls = λ t c h. h; live = λ t e h k. k };
      queues = λ e. sub_refl (s.endpoints e).waiters;
      aborts = λ e. passes_self s.threads e (s.endpoints e).abort;
    }

pub leaves_then : (s r q : State) → NobodyComes s r → NobodyComes r q → NobodyComes s q
leaves_then s r q P Q =
    record {
      fewer =
          record {
            calls = λ t c h. P.fewer.calls t c (Q.fewer.calls t c h);
            live = λ t e h k. P.fewer.live t e (fewer_sends Q.fewer t e h).0 (Q.fewer.live t e h k);
          };
      queues = λ e. sub_trans (Q.queues e) (P.queues e);
      aborts =
          λ e.
          passes_trans r.threads q.threads e (λ t h. (fewer_sends Q.fewer t e h).0) (s.endpoints e).abort
          (r.endpoints e).abort (q.endpoints e).abort (P.aborts e) (Q.aborts e);
    }

-- The entry of thread t becomes x.
pub leaves_thread :
    (s : State) (t : ℕ) (x : Thread) → ((c : Call) → call_made x ≡ some c → call_made (s.threads t) ≡ some c)
    → NobodyComes s (set_thread t x s)
leaves_thread s t x calls =
    record {
      fewer =
          record {
            calls =
                put_all (λ u y. (c : Call) → call_made y ≡ some c → call_made (s.threads u) ≡ some c) s.threads t x
                calls (λ u n c h. h);
            live = λ u e h k. k;
          };
      queues = λ e. sub_refl (s.endpoints e).waiters;
      aborts = λ e. passes_self _ e (s.endpoints e).abort;
    }

-- The entry of t becomes one that does not wait.
pub leaves_clear : (s : State) (t : ℕ) (x : Thread) → call_made x ≡ none → NobodyComes s (set_thread t x s)
leaves_clear s t x idle = leaves_thread s t x (λ c h. no_call idle h)

pub leaves_debt : (s : State) (t : ℕ) (d : Debt) → NobodyComes s (set_thread t (with_debt d (s.threads t)) s)
leaves_debt s t d = leaves_thread s t (with_debt d (s.threads t)) (λ c h. h)

-- The entry of endpoint e becomes x.
pub leaves_endpoint :
    (s : State) (e : ℕ) (x : Endpoint) → Passes s.threads e (s.endpoints e).abort x.abort
    → Sub x.waiters (s.endpoints e).waiters
    → ((t : ℕ) → (s.threads t).place ≡ sending e → x.status ≡ live → (s.endpoints e).status ≡ live)
    → NobodyComes s (set_endpoint e x s)
leaves_endpoint s e x passes part lives =
    record {
      fewer =
          record {
            calls = λ t c h. h;
            live =
                λ t.
                put_all
                (λ f y. (s.threads t).place ≡ sending f → y.status ≡ live → (s.endpoints f).status ≡ live)
                s.endpoints e x (lives t) (λ f n h k. k);
          };
      queues =
          put_all (λ f y. Sub y.waiters (s.endpoints f).waiters) s.endpoints e x part
          (λ f n. sub_refl (s.endpoints f).waiters);
      aborts =
          put_all (λ f y. Passes s.threads f (s.endpoints f).abort y.abort) s.endpoints e x passes
          (λ f n. passes_self s.threads f (s.endpoints f).abort);
    }

-- t leaves the queue of e, and its entry becomes one that does not wait.
pub leaves_queue :
    (s : State) (e t : ℕ) (x : Thread) → call_made x ≡ none → NobodyComes s (set_thread t x (leave_endpoint t e s))
unfolding leave_endpoint
leaves_queue s e t x idle =
    leaves_then s (set_thread t x s) (set_thread t x (leave_endpoint t e s)) (leaves_clear s t x idle)
    (leaves_endpoint (set_thread t x s) e _ (passes_leave (put s.threads t x) e t (s.endpoints e).abort gone)
    (sub_without t (s.endpoints e).waiters) (λ u h k. k))
  where
    gone : (put s.threads t x t).place ≡ sending e → ⊥
    gone h =
        no_call idle (sends_call x e (ap (λ (y : Thread). y.place) (sym (put_same s.threads t x)) ∙ h))

pub leaves_wake_from : (s : State) (e t o b m : ℕ) → NobodyComes s (wake_from e t o b m s)
unfolding wake_from wake enqueue leave_endpoint
leaves_wake_from s e t o b m = leaves_queue s e t (with_place able o b m (s.threads t)) refl

pub leaves_drop_debt : (t : ℕ) (s : State) → NobodyComes s (drop_debt t s)
unfolding drop_debt
leaves_drop_debt t s = leaves_debt s t nothing

-- Core

module _ (stage : Stage) (m : ℕ) (later : stage.until ≤ m) where
  both_fewer :
      (f g : ℕ → Thread) (e : ℕ) (o p : Option Abort) (q : Option Aborting)
      → ((t : ℕ) → (g t).place ≡ sending e → (f t).place ≡ sending e) → Passes g e o p → Both stage f e o q
      → Both (reaching m stage) g e p q
  both_fewer f g e none none none F P B = tt
  both_fewer f g e none none (some z) F P B = B
  both_fewer f g e none (some k) q F P B = absurd P
  both_fewer f g e (some a) none q F P B = absurd P
  both_fewer f g e (some a) (some k) none F P B = B
  both_fewer f g e (some a) (some k) (some z) F P S =
      record {
        endpoint = S.endpoint;
        badge = S.badge ∙ sym P.badge;
        began = omega (arith, S.began);
        old = S.old;
        once = S.once;
        part = sub_trans (sub_after z.looked (sub_map stage.since P.part)) S.part;
        left = λ t h i. ⊎_elim inl (λ j. inr (P.kept t j h)) (S.left t (F t h) i);
        removed = S.removed;
      }

  over_fewer :
      {f g : ℕ → Thread} {x y : ℕ → Endpoint} (z : Ended) → Fewer f g x y → Over stage f x z
      → Over (reaching m stage) g y z
  over_fewer z F O =
      let E = O.exact in
      record {
        exact =
            record {
              began = omega (arith, E.began);
              removed = E.removed;
              once = E.once;
              most = E.most;
              among = E.among;
            };
        by = omega (arith, O.by);
        order = O.order;
        clean = λ t e h k. O.clean t e (fewer_sends F t e h).0 (F.live t e h k);
      }

  pub core_leaves :
      {f g : ℕ → Thread} {x y : ℕ → Endpoint} {standing : ℕ → Option Aborting} {ended : List Ended}
      → Shrinks f g x y → Core stage f x standing ended → Core (reaching m stage) g y standing ended
  core_leaves {f} {g} {x} {y} {standing} H C =
      record {
        made = λ t c h. C.made t c (H.fewer.calls t c h);
        apart = λ t u c d h k. C.apart t u c d (H.fewer.calls t c h) (H.fewer.calls u d k);
        stands =
            λ e.
            both_fewer f g e (x e).abort (y e).abort (standing e) (λ t h. (fewer_sends H.fewer t e h).0)
            (H.aborts e) (C.stands e);
        over = λ z i. over_fewer z H.fewer (C.over z i);
      }

-- One endpoint gets a new entry and the abort o, and the ended aborts may grow.
pub core_at :
    {stage : Stage} {f g : ℕ → Thread} {x : ℕ → Endpoint} {standing : ℕ → Option Aborting} {ended : List Ended}
    (more : List Ended) (e : ℕ) (y : Endpoint) (o : Option Aborting)
    → Fewer f g x (put x e y) → Both stage g e y.abort o
    → ((z : Ended) → In z more → In z ended ⊎ Over stage g (put x e y) z)
    → Core stage f x standing ended → Core stage g (put x e y) (put standing e o) more
core_at {stage} {f} {g} {x} {standing} more e y o F B new C =
    record {
      made = λ t c h. C.made t c (F.calls t c h);
      apart = λ t u c d h k. C.apart t u c d (F.calls t c h) (F.calls u d k);
      stands = stands;
      over = λ z i. ⊎_elim (λ j. over_fewer stage stage.until (omega arith) z F (C.over z j)) (λ O. O) (new z i);
    }
  where
    stands : (k : ℕ) → Both stage g k (put x e y k).abort (put standing e o k)
    stands k = go (same? k e)
      where
        go : Same k e → Both stage g k (put x e y k).abort (put standing e o k)
        go (same i _) = rw (i, put_same x e y, put_same standing e o) B
        go (other i _) =
            rw (put_other x e k y i, put_other standing e k o i)
            (both_fewer stage stage.until (omega arith) f g k (x k).abort (x k).abort (standing k)
            (λ t h. (fewer_sends F t k h).0) (passes_self g k (x k).abort) (C.stands k))
