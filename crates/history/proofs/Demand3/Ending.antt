-- The beginning and the end of an abort, in the machine and in the history at once, keep Core.
use Prim.Native.Nat.{ℕ, suc, ◌≤◌, ◌<◌}
use mathlib.Core.Path.{◌≡◌, refl, sym, ◌∙◌, ap, subst}
use mathlib.Core.Logic.{◌⊎◌, inl, inr}
use mathlib.Core.Bool.{Bool, true, false, ◌&&◌}
use mathlib.Core.Option.{Option, none, some}
use mathlib.Core.List.{List, [], ◌∷◌, map}
use native.Mathlib.Omega.{arith}
use lib.Dec.{eqb, ltb}
use lib.ListN.{length, get_elem?}
use Rattle.calls.specs.declared.Call.{Call}
use Rattle.calls.specs.declared.Call.TheVariants.{Send}
use Rattle.machine.specs.Lists.{put, only, Mem}
use Rattle.machine.specs.State.{State, Thread, sending, works, Abort, Status, live, Endpoint, with_debt}
use Rattle.machine.specs.Endpoints.{is_sending, senders, informed, note_all, note, end_abort}
use Rattle.machine.specs.Sound.{Queued}
use Rattle.machine.specs.Aborts.{join, begin}
use Rattle.history.specs.History.{Aborting, Ended}
use Rattle.history.specs.Claim.{In, is_old}
use Rattle.machine.proofs.Lists.{Same, same, other, same?, clash, mem_only, only_keep, distinct_only, put_all}
use Rattle.machine.proofs.Lists.{put_same}
use Rattle.history.proofs.Sublists.{sub_refl, map_mem, distinct_map, entry_below}
use Rattle.machine.specs.Mid.{Mid}
use Rattle.history.proofs.Demand3.Standing.{Stage, call_made, sends_call, Made, Stood, Both, Over, Core}
use Rattle.history.proofs.Demand3.Standing.{stood_exact}
use Rattle.history.proofs.Demand3.Leaving.{Fewer, core_at}

-- The waiter's call was of another endpoint or badge.
pub is_old_other :
    (past : List Call) (x : Aborting) (w f b m : ℕ) → get_elem? past w ≡ some (Send f b m)
    → (f ≡ x.endpoint → b ≡ x.badge → ⊥) → is_old past x w ≡ false
is_old_other past x w f b m h n = rw h (go (same? f x.endpoint) (same? b x.badge))
  where
    nil : (c : Bool) → (c && false) ≡ false
    nil true = refl
    nil false = refl

    go : Same f x.endpoint → Same b x.badge
        → (ltb w x.began && (eqb f x.endpoint && eqb b x.badge)) ≡ false
    go (same i p) (same j q) = absurd (n i j)
    go (same i p) (other j q) = rw (p, q) (nil (ltb w x.began))
    go (other i p) _ = rw p (nil (ltb w x.began))

-- The senders of a queue.
module _ {s : State} (M : Mid s) (e : ℕ) where
  pub sender_sends : (t : ℕ) → Mem t (senders s.threads (s.endpoints e).waiters) → (s.threads t).place ≡ sending e
  sender_sends t m =
      let h = mem_only (λ u. is_sending (s.threads u).place) t (s.endpoints e).waiters m in
      go h.1 ((M.queues.queued t e).0 h.0)
    where
      go : is_sending (s.threads t).place ≡ true → Queued s t e → (s.threads t).place ≡ sending e
      go h (inl p) = p
      go h (inr p) = absurd (clash h (ap is_sending p))

  pub sends_sender : (t : ℕ) → (s.threads t).place ≡ sending e → Mem t (senders s.threads (s.endpoints e).waiters)
  sends_sender t p =
      only_keep (λ u. is_sending (s.threads u).place) t (s.endpoints e).waiters ((M.queues.queued t e).1 (inl p))
      (ap is_sending p)

-- The abort of badge b that begins on the senders queued there, in the call at a place.
abbrev pub begun_on : (ℕ → ℕ) → State → ℕ → ℕ → ℕ → Aborting
begun_on since s e b place =
    record {
      endpoint = e;
      badge = b;
      began = place;
      onto = map since (senders s.threads (s.endpoints e).waiters);
      looked = [];
      removed = [];
    }

-- What stands together, both ways.
pub stands_both :
    (stage : Stage) (f : ℕ → Thread) (e : ℕ) {o : Option Abort} {p : Option Aborting} {a : Abort} {x : Aborting}
    → o ≡ some a → p ≡ some x → Both stage f e o p → Stood stage f e a x
stands_both stage f e h k B = rw (h, k) at B

module _
    (stage : Stage) (s : State) {standing : ℕ → Option Aborting} {ended : List Ended}
    (C : Core stage s.threads s.endpoints standing ended) (e : ℕ) where
  abbrev since : ℕ → ℕ
  since = stage.since

  -- The abort z ends, its status with it; where the endpoint stays live, nothing was left to look at.
  module _
      (M : Mid s) (status : Status) (a : Abort) (z : Aborting) (by : ℕ) (members : List ℕ)
      (was : (s.endpoints e).abort ≡ some a)
      (told : standing e ≡ some z) (soon : by < stage.until) (latest : stage.until ≤ suc by)
      (spent : status ≡ live → a.pending ≡ [])
      (lives : status ≡ live → (s.endpoints e).status ≡ live) where
    abbrev closed : Endpoint
    closed = record { status = status; waiters = (s.endpoints e).waiters; abort = none }

    abbrev record_of : Ended
    record_of = record { abort = z; by = by; members = members }

    end_stood : Stood stage s.threads e a z
    end_stood = stands_both stage s.threads e was told (C.stands e)

    end_live : (f : ℕ) → (put s.endpoints e closed f).status ≡ live → (s.endpoints f).status ≡ live
    end_live =
        put_all (λ f y. y.status ≡ live → (s.endpoints f).status ≡ live) s.endpoints e closed lives (λ f h k. k)

    end_clean :
        (t f : ℕ) → (s.threads t).place ≡ sending f → (put s.endpoints e closed f).status ≡ live
        → is_old stage.past z (since t) ≡ false
    end_clean t f p l =
        is_old_other stage.past z (since t) f (s.threads t).badge (s.threads t).message
        (C.made t _ (sends_call (s.threads t) f p)).call
        (λ i j. out (i ∙ end_stood.endpoint) (j ∙ end_stood.badge))
      where
        out : f ≡ e → (s.threads t).badge ≡ a.badge → ⊥
        out i j =
            subst (λ (k : List ℕ). Mem t k)
            (spent (ap (λ (y : Endpoint). y.status) (sym (put_same s.endpoints e closed))
            ∙ subst (λ (g : ℕ). (put s.endpoints e closed g).status ≡ live) i l))
            (M.marks.none_outside e t a was (p ∙ ap sending i) j)

    end_fewer : (g : ℕ → Thread) → ((t : ℕ) → call_made (g t) ≡ call_made (s.threads t))
        → Fewer s.threads g s.endpoints (put s.endpoints e closed)
    end_fewer g calls = record { calls = λ t c h. sym (calls t) ∙ h; live = λ t f p. end_live f }

    -- Threads whose calls are those of before.
    core_closed :
        (g : ℕ → Thread) → ((t : ℕ) → call_made (g t) ≡ call_made (s.threads t))
        → ((t : ℕ) → (f : ℕ) → (g t).place ≡ sending f → (s.threads t).place ≡ sending f)
        → Core stage g (put s.endpoints e closed) (put standing e none) (record_of ∷ ended)
    core_closed g calls places =
        core_at (record_of ∷ ended) e closed none (end_fewer g calls) tt new C
      where
        new : (y : Ended) → In y (record_of ∷ ended) → In y ended ⊎ Over stage g (put s.endpoints e closed) y
        new y (inl i) =
            inr
            (rw i
            (record {
              exact = stood_exact stage s.threads e a z end_stood;
              by = soon;
              order = omega (arith, end_stood.began, latest);
              clean = λ t f p. end_clean t f (places t f p);
            }))
        new y (inr i) = inl i

    pub core_end :
        Core stage (end_abort status e s).threads (end_abort status e s).endpoints (put standing e none)
        (record_of ∷ ended)
    unfolding end_abort note note_all
    core_end =
        rw was
        (core_closed (λ t. with_debt (informed e a.badge (s.threads t).debt) (s.threads t)) (λ t. refl)
        (λ t f p. p))

  -- An abort of badge b begins on the senders queued there, with the caller t in its set.
  module _ (M : Mid s) (t b place : ℕ) (now : length stage.past ≤ place) (soon : place < stage.until) where
    begun_stood :
        (g : ℕ → Thread) → ((u : ℕ) → (g u).place ≡ (s.threads u).place)
        → Stood stage g e
        (record { badge = b; pending = senders s.threads (s.endpoints e).waiters })
        (begun_on since s e b place)
    unfolding only
    begun_stood g places =
        record {
          endpoint = refl;
          badge = refl;
          began = soon;
          old =
              λ w m.
              let r = map_mem since w (senders s.threads (s.endpoints e).waiters) m in
              let k = entry_below stage.past (since r.0) _ (sent r.0 r.1).call in
              omega (arith, r.2);
          once =
              distinct_map since (senders s.threads (s.endpoints e).waiters)
              (λ u v i j. C.apart u v _ _ (call u i) (call v j))
              (distinct_only (λ u. is_sending (s.threads u).place) (s.endpoints e).waiters
              (M.queues.queued_once e));
          part = sub_refl (map since (senders s.threads (s.endpoints e).waiters));
          left = λ u p i. inr (sends_sender M e u (sym (places u) ∙ p));
          removed = refl;
        }
      where
        call :
            (u : ℕ) → Mem u (senders s.threads (s.endpoints e).waiters)
            → call_made (s.threads u) ≡ some (Send e (s.threads u).badge (s.threads u).message)
        call u m = sends_call (s.threads u) e (sender_sends M e u m)

        sent :
            (u : ℕ) → Mem u (senders s.threads (s.endpoints e).waiters)
            → Made stage.past stage.answers (since u) (Send e (s.threads u).badge (s.threads u).message)
        sent u m = C.made u _ (call u m)

    abbrev begin_entry : Endpoint
    begin_entry =
        record {
          status = (s.endpoints e).status;
          waiters = (s.endpoints e).waiters;
          abort = some (record { badge = b; pending = senders s.threads (s.endpoints e).waiters });
        }

    pub core_begin :
        Core stage (begin t e b s).threads (begin t e b s).endpoints
        (put standing e (some (begun_on since s e b place))) ended
    unfolding begin join
    core_begin =
        core_at ended e begin_entry (some (begun_on since s e b place))
        (record { calls = λ u c h. sym (calls u) ∙ h; live = λ u f p. lives f }) (begun_stood g places)
        (λ z i. inl i) C
      where
        g : ℕ → Thread
        g = put s.threads t (with_debt (works e) (s.threads t))

        calls : (u : ℕ) → call_made (g u) ≡ call_made (s.threads u)
        calls = put_all (λ u y. call_made y ≡ call_made (s.threads u)) s.threads t _ refl (λ u i. refl)

        places : (u : ℕ) → (g u).place ≡ (s.threads u).place
        places = put_all (λ u y. y.place ≡ (s.threads u).place) s.threads t _ refl (λ u i. refl)

        lives : (f : ℕ) → ((begin t e b s).endpoints f).status ≡ live → (s.endpoints f).status ≡ live
        lives =
            put_all (λ f y. y.status ≡ live → (s.endpoints f).status ≡ live) s.endpoints e _ (λ k. k) (λ f i k. k)
