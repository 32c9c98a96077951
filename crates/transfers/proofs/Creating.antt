-- Making an endpoint: one that is missing has no waiter and no abort, so its status is all that changes.
use Prim.Native.Nat.{ℕ, ◌≤◌}
use mathlib.Core.Path.{◌≡◌, refl}
use mathlib.Core.Option.{some}
use mathlib.Core.List.{List, []}
use native.Mathlib.Omega.{arith}
use Rattle.calls.specs.declared.Answer.{Answer}
use Rattle.machine.specs.Lists.{Mem}
use Rattle.machine.specs.State.{State, Status, missing, live, closing, Endpoint}
use Rattle.machine.specs.Results.{done}
use Rattle.calls.specs.Answers.{plain}
use Rattle.machine.specs.Machine.{create_at, create_endpoint}
use Rattle.machine.specs.Mid.{Mid}
use Rattle.machine.proofs.Preserved.Mid.{sound_mid}
use Rattle.machine.proofs.Lists.{put_all}
use Rattle.machine.proofs.Preserved.Sites.{not_at}
use Rattle.machine.proofs.Preserved.Debts.{live_present}
use Rattle.layout.specs.declared.Part.{Part}
use Rattle.layout.specs.Words.{status_code}
use Rattle.store.specs.Steps.{Shown, Does, Tells}
use Rattle.store.specs.Store.{IsEndpoint, standing, SetsStatus}
use Rattle.store.specs.Readings.{endpoint_in}
use Rattle.queues.specs.Queues.{Loose, Chooses}
use Rattle.endings.specs.Results.{Asked, Performs}
use Rattle.endings.proofs.Ends.{refused, performs_as, performs_after, does_for}
use Rattle.endings.proofs.Conditions.{free_of, running_loose}
use Rattle.queues.proofs.Joining.{shown_next}

-- A status has no waiter come or go.
standing_chooses : {s : State} (e : ℕ) (x : Status) → Mid s → Chooses (standing e x s)
standing_chooses {s} e x M = record { running = λ t r. loose t r }
  where
    aside : (t : ℕ) → s.runs ≡ some t → (k : ℕ) → Mem t (s.endpoints k).waiters → ⊥
    aside t r k m = not_at (M.queues.running t r) refl refl ((M.queues.queued t k).0 m)

    loose : (t : ℕ) → s.runs ≡ some t → Loose t (standing e x s)
    loose t r =
        record {
          thread = (running_loose M r).thread;
          level = (running_loose M r).level;
          free =
              free_of (standing e x s) t (λ p m. ((M.queues.ready t p).0 m).0.1 r)
              (put_all (λ k (y : Endpoint). Mem t y.waiters → ⊥) s.endpoints e
              (record { status = x; waiters = (s.endpoints e).waiters; abort = (s.endpoints e).abort })
              (aside t r e) (λ k n. aside t r k));
        }

module _ {m : List ℕ} {e r : ℕ} (T : Tells m (IsEndpoint e) r (endpoint_in Part.Status e)) where
  pub present_refused : (r ≡ 0 → ⊥) → Performs m m (plain 24) (Asked (e ≤ 63)) (create_endpoint e)
  unfolding create_endpoint create_at
  present_refused z =
      performs_as (refused 24 refl) (λ s M h. go s (s.endpoints e).status (T.tells s M h.numbers))
    where
      go : (s : State) (x : Status) → r ≡ status_code x
          → record { state = s; answer = plain 24; looks = [] } ≡ create_at x e s
      go s missing j = absurd (z j)
      go s live j = refl
      go s closing j = refl

  module _ {n : List ℕ} (W : SetsStatus m e 1 n) where
    made : Does m n (Asked (e ≤ 63)) (standing e live)
    made = does_for (W.does live refl) (λ s h. h.numbers)

    pub made_asked : Shown m (Asked (e ≤ 63)) → Shown n Chooses
    made_asked S = shown_next made (λ s M h. standing_chooses e live (sound_mid h.sound)) S

    pub created :
        {o : List ℕ} {a : Answer} → r ≡ 0 → Performs n o a Chooses done
        → Performs m o a (Asked (e ≤ 63)) (create_endpoint e)
    unfolding create_endpoint create_at
    created {o} {a} z D =
        performs_as (performs_after made (λ s M h. standing_chooses e live (sound_mid h.sound)) D)
        (λ s M h. go s (sound_mid h.sound) (s.endpoints e).status refl (T.tells s M h.numbers))
      where
        go : (s : State) → Mid s → (x : Status) → (s.endpoints e).status ≡ x → r ≡ status_code x
            → done (standing e live s) ≡ create_at x e s
        go s M missing k j = rw (M.statuses.empty e k, M.statuses.no_abort e (λ i. live_present i k))
        go s M live k j = absurd (omega arith)
        go s M closing k j = absurd (omega arith)
