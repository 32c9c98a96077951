-- Calls 4, 7 and 8, at one endpoint, keep the tables sound.
use Prim.Native.Nat.{ℕ, ◌≤◌, ◌<◌, ◌^◌}
use mathlib.Core.Path.{◌≡◌, refl, sym, ◌∙◌, ap, subst}
use mathlib.Core.Logic.{inl, inr, ◌↔◌}
use mathlib.Core.Bool.{Bool, true, false}
use mathlib.Core.Option.{Option, none, some}
use mathlib.Core.List.{List, [], ◌∷◌}
use native.Mathlib.Omega.{arith}
use Rattle.machine.specs.Lists.{put, only, first, Mem}
use Rattle.machine.specs.State.{State, Place, sending, receiving, Status, missing, live, closing}
use Rattle.machine.specs.State.{Endpoint, set_endpoint}
use Rattle.machine.specs.Scheduling.{block}
use Rattle.machine.specs.Endpoints.{is_sending, is_receiving, senders, receivers, under_abort, is_aborting}
use Rattle.machine.specs.Endpoints.{join_endpoint, wake_from, drop_debt}
use Rattle.machine.specs.Machine.{create_at, create_endpoint, send_to, send_unless, send_at, send, receive_from}
use Rattle.machine.specs.Machine.{receive_at, receive}
use Rattle.machine.specs.Sound.{Sound, Queued}
use Rattle.machine.proofs.Lists.{put_all, mem_only, only_keep, first_mem}
use Rattle.machine.specs.Mid.{Mid}
use Rattle.machine.proofs.Preserved.Mid.{sound_mid}
use Rattle.machine.proofs.Preserved.Parts.{At, Site, parts, whole}
use Rattle.machine.proofs.Preserved.Ready.{none_some, put_keeps}
use Rattle.machine.proofs.Preserved.Sites.{sets_same}
use Rattle.machine.proofs.Preserved.Waking.{mid_wake_from, mid_block_send, mid_block_receive}
use Rattle.machine.proofs.Preserved.Choosing.{choose_sound}
use Rattle.machine.proofs.Preserved.Statuses.{keeps_place}
use Rattle.machine.proofs.Preserved.Debts.{Drops, mid_drop_debt, drop_debt_drops, live_present}

-- 4

abbrev new_endpoint : Endpoint
new_endpoint = record { status = live; waiters = []; abort = none }

mid_new_endpoint :
    (s : State) (e : ℕ) → Mid s → (s.endpoints e).status ≡ missing → e ≤ 63 → Mid (set_endpoint e new_endpoint s)
mid_new_endpoint s e M gone low =
    let P = parts M in
    let S = P.site e in
    whole
    (record {
      entry = P.entry;
      site =
          put_all (λ k y. Site s.threads k y) s.endpoints e new_endpoint
          (record {
            unused = λ h. absurd (omega arith);
            empty = λ h. refl;
            no_abort = λ h. refl;
            queued = λ t. subst (λ (l : List ℕ). Mem t l ↔ At (s.threads t).place e) (S.empty gone) (S.queued t);
            once = tt;
            one_kind = S.one_kind;
            marked = tt;
          }) (λ k n. P.site k);
      levels = P.levels;
      lines = P.lines;
      sets =
          sets_same s.threads s.threads s.endpoints (put s.endpoints e new_endpoint) (λ u. refl)
          (put_keeps (λ y. is_aborting y.abort) s.endpoints e new_endpoint
          (sym (ap is_aborting (S.no_abort (λ h. live_present h gone)))))
          P.sets;
    })

-- Create endpoint.
pub endpoint_sound : (s : State) (e : ℕ) → Sound s → e ≤ 63 → Sound (create_endpoint e s).state
unfolding create_endpoint create_at
endpoint_sound s e S low = go (s.endpoints e).status refl
  where
    go : (x : Status) → (s.endpoints e).status ≡ x → Sound (create_at x e s).state
    go missing h = choose_sound (set_endpoint e new_endpoint s) (mid_new_endpoint s e (sound_mid S) h low)
    go live h = S
    go closing h = S

-- The first of a list.

first_none : (l : List ℕ) (t : ℕ) → first l ≡ none → Mem t l → ⊥
first_none [] t h m = m
first_none (x ∷ l) t h m = none_some h refl

module _ (s : State) (t e : ℕ) (S : Sound s) where
  D : Drops t s (drop_debt t s)
  D = drop_debt_drops s t

  M : Mid (drop_debt t s)
  M = mid_drop_debt s t (sound_mid S)

  -- Who is first among those of a kind that wait at e is queued there.
  queued_first :
      (f : ℕ → Bool) (u : ℕ) → first (only f (s.endpoints e).waiters) ≡ some u → Queued (drop_debt t s) u e
  queued_first f u h =
      subst (λ (p : Place). At p e) (sym (keeps_place D.keeps u))
      (let l = (s.endpoints e).waiters in (S.queues.queued u e).0 (mem_only f u l (first_mem (only f l) h)).0)

  -- Where none of a kind is first, none waits.
  nobody :
      (f : ℕ → Bool) (u : ℕ) (p : Place) → first (only f (s.endpoints e).waiters) ≡ none → At p e
      → ((s.threads u).place ≡ p → f u ≡ true) → ((drop_debt t s).threads u).place ≡ p → ⊥
  nobody f u p h at test k =
      let was : (s.threads u).place ≡ p = sym (keeps_place D.keeps u) ∙ k in
      first_none (only f (s.endpoints e).waiters) u h
      (only_keep f u (s.endpoints e).waiters
      ((S.queues.queued u e).1 (subst (λ (q : Place). At q e) (sym was) at)) (test was))

  module _ (r : s.runs ≡ some t) where
    send_done :
        (b m : ℕ) → b < 2 ^ 28 → m < 2 ^ 28 → (s.endpoints e).status ≡ live
        → under_abort b (s.endpoints e).abort ≡ false → (o : Option ℕ)
        → first (receivers s.threads (s.endpoints e).waiters) ≡ o → Sound (send_to o t e b m (drop_debt t s)).state
    unfolding send_to
    send_done b m hb hm up clear none h =
        choose_sound (block t (sending e) b m (join_endpoint t e (drop_debt t s)))
        (mid_block_send (drop_debt t s) t e M (D.keeps.runs ∙ r) (D.status e ∙ up) b m hb hm
        (λ u. nobody (λ v. is_receiving (s.threads v).place) u (receiving e) h (inr refl) (λ k. ap is_receiving k))
        (ap (under_abort b) (D.abort e) ∙ clear))
    send_done b m hb hm up clear (some u) h =
        choose_sound (wake_from e u 2 b m (drop_debt t s))
        (mid_wake_from (drop_debt t s) e u 2 b m M
        (queued_first (λ v. is_receiving (s.threads v).place) u h) (omega arith) hb hm (λ k. absurd (k refl)))

    -- "Send hands to the first receiver, else the caller blocks at the tail": send.
    pub send_sound : (b m : ℕ) → b < 2 ^ 28 → m < 2 ^ 28 → Sound (send t e b m s).state
    unfolding send send_at send_unless
    send_sound b m hb hm = go (s.endpoints e).status refl
      where
        unless :
            (x : Bool) → under_abort b (s.endpoints e).abort ≡ x → (s.endpoints e).status ≡ live
            → Sound (send_unless x t e b m s).state
        unless true clear up = S
        unless false clear up =
            send_done b m hb hm up clear (first (receivers s.threads (s.endpoints e).waiters)) refl

        go : (x : Status) → (s.endpoints e).status ≡ x → Sound (send_at x t e b m s).state
        go missing h = S
        go closing h = S
        go live h = unless (under_abort b (s.endpoints e).abort) refl h

    -- "Receive takes the first sender, else blocks": receive.
    pub receive_sound : Sound (receive t e s).state
    unfolding receive receive_at receive_from
    receive_sound = go (s.endpoints e).status refl
      where
        from :
            (s.endpoints e).status ≡ live → (o : Option ℕ)
            → first (senders s.threads (s.endpoints e).waiters) ≡ o
            → Sound (receive_from o t e (drop_debt t s)).state
        from up none h =
            choose_sound (block t (receiving e) 0 0 (join_endpoint t e (drop_debt t s)))
            (mid_block_receive (drop_debt t s) t e M (D.keeps.runs ∙ r) (D.status e ∙ up)
            (λ u. nobody (λ v. is_sending (s.threads v).place) u (sending e) h (inl refl) (λ k. ap is_sending k)))
        from up (some u) h =
            choose_sound (wake_from e u 1 0 0 (drop_debt t s))
            (mid_wake_from (drop_debt t s) e u 1 0 0 M
            (queued_first (λ v. is_sending (s.threads v).place) u h) (omega arith) (omega arith) (omega arith)
            (λ k. (refl, refl)))

        go : (x : Status) → (s.endpoints e).status ≡ x → Sound (receive_at x t e s).state
        go missing h = S
        go closing h = S
        go live h = from h (first (senders s.threads (s.endpoints e).waiters)) refl
