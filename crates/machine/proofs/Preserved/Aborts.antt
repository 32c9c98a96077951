-- Call 12: each way through it keeps Mid up to the chooser, so the whole call keeps tables sound.
use Prim.Native.Nat.{ℕ, zero, suc, ◌≤◌, ◌<◌, ◌-◌, ◌^◌}
use mathlib.Core.Path.{◌≡◌, refl, ◌∙◌, ap}
use mathlib.Core.Bool.{Bool, true, false}
use mathlib.Core.Option.{Option, none, some}
use mathlib.Core.List.{List, [], ◌∷◌, ◌++◌}
use native.Mathlib.Omega.{arith}
use lib.Dec.{eqb}
use lib.ListN.{length}
use Rattle.machine.specs.State.{State, Abort, Status, missing, live, closing, Endpoint}
use Rattle.machine.specs.Endpoints.{is_aborting, drop_debt, end_abort}
use Rattle.machine.specs.Results.{Look}
use Rattle.machine.specs.Aborts.{Looked, pending_at, look_up_to, join, begin, ended, looked_own, work_own}
use Rattle.machine.specs.Aborts.{begin_after, finished, looked_other, work_other, under_badge, abort_from}
use Rattle.machine.specs.Aborts.{abort_open, abort_at, has_note, abort_unless, abort}
use Rattle.machine.specs.Sound.{Sound, Present}
use Rattle.machine.proofs.Lists.{put_same}
use Rattle.machine.specs.Mid.{Mid}
use Rattle.machine.proofs.Preserved.Mid.{sound_mid}
use Rattle.machine.proofs.Preserved.Debts.{live_present, mid_drop_debt, drop_debt_drops}
use Rattle.machine.proofs.Preserved.Debts.{mid_end_abort, end_abort_entry, end_abort_runs}
use Rattle.machine.proofs.Preserved.AbortSteps.{mid_begin, mid_join, mid_look_up_to, steady_look_up_to}
use Rattle.machine.proofs.Preserved.Choosing.{choose_sound}

pub running_present : {s : State} {t : ℕ} → Mid s → s.runs ≡ some t → Present s t
running_present {s} {t} M r p =
    let q = M.queues.running t r in
    let z : ◌≡◌ {A = ℕ} 0 1 = cc in
    omega arith

-- The call's own abort.

module _ (t e : ℕ) where
  ended_sound :
      (l : List ℕ) (looks : List Look) (s : State) → Mid s → (s.endpoints e).status ≡ live
      → Sound (ended l t e looks s).state
  unfolding ended
  ended_sound [] looks s M h =
      choose_sound (end_abort live e (drop_debt t s))
      (mid_end_abort live e (drop_debt t s) (live_present refl)
      (live_present ((drop_debt_drops s t).status e ∙ h)) (mid_drop_debt s t M))
  ended_sound (w ∷ l) looks s M h = choose_sound s M

  own_sound :
      (a : ℕ) (earlier : List Look) (s : State) → Mid s → (s.endpoints e).status ≡ live
      → Sound (work_own t e a earlier s).state
  unfolding work_own looked_own
  own_sound a earlier s M h =
      let r = look_up_to a (pending_at e s) e s in
      ended_sound (pending_at e r.state) (earlier ++ r.looks) r.state (mid_look_up_to a e s M)
      (((steady_look_up_to a (pending_at e s) e s).entry e).status ∙ h)

pub join_status : (t e : ℕ) (s : State) → ((join t e s).endpoints e).status ≡ (s.endpoints e).status
unfolding join
join_status t e s = refl

pub begin_status : (t e b : ℕ) (s : State) → ((begin t e b s).endpoints e).status ≡ (s.endpoints e).status
unfolding begin join
begin_status t e b s = ap (λ (x : Endpoint). x.status) (put_same s.endpoints e _)

-- t runs, and the endpoint is live.
record Open (t e : ℕ) (s : State) : Type 0 where
  mid : Mid s
  runs : s.runs ≡ some t
  status : (s.endpoints e).status ≡ live

-- Another badge's abort, and the call's own after it.

module _ (t e b : ℕ) (h : b < 2 ^ 28) where
  begins_sound :
      (a : ℕ) (looks : List Look) (s : State) → Open t e s → Sound (work_own t e a looks (begin t e b s)).state
  begins_sound a looks s O =
      own_sound t e a looks (begin t e b s)
      (mid_begin t e b s O.mid (running_present O.mid O.runs) O.status h)
      (begin_status t e b s ∙ O.status)

  after_sound :
      (n : ℕ) (looks : List Look) (s : State) → Open t e s → Sound (begin_after n t e b looks s).state
  unfolding begin_after
  after_sound zero looks s O = choose_sound s O.mid
  after_sound (suc k) looks s O = begins_sound (suc k) looks s O

  finished_sound :
      (l : List ℕ) (a : ℕ) (r : Looked) → Open t e r.state → Sound (finished l t e a b r).state
  unfolding finished
  finished_sound [] a r O =
      after_sound (a - length r.looks) r.looks (end_abort live e r.state)
      (record {
        mid = mid_end_abort live e r.state (live_present refl) (live_present O.status) O.mid;
        runs = end_abort_runs r.state e live ∙ O.runs;
        status = ap (λ (x : Endpoint). x.status) (end_abort_entry r.state e live);
      })
  finished_sound (w ∷ l) a r O = choose_sound r.state O.mid

  other_sound : (a : ℕ) (s : State) → Open t e s → Sound (work_other t e a b s).state
  unfolding work_other looked_other
  other_sound a s O =
      let r = look_up_to a (pending_at e s) e s in
      let F = steady_look_up_to a (pending_at e s) e s in
      finished_sound (pending_at e r.state) a r
      (record {
        mid = mid_look_up_to a e s O.mid;
        runs = F.runs ∙ O.runs;
        status = (F.entry e).status ∙ O.status;
      })

module _ (t e a b : ℕ) (h : b < 2 ^ 28) where
  badge_sound :
      (q : Bool) (x : Abort) (s : State) → (s.endpoints e).abort ≡ some x → Open t e s
      → Sound (under_badge q t e a b s).state
  unfolding under_badge
  badge_sound true x s k O =
      own_sound t e a [] (join t e s)
      (mid_join t e s (ap is_aborting k) O.mid (running_present O.mid O.runs))
      (join_status t e s ∙ O.status)
  badge_sound false x s k O = other_sound t e b h a s O

  open_sound : (s : State) → Open t e s → Sound (abort_open t e a b s).state
  unfolding abort_open abort_from
  open_sound s O = go (s.endpoints e).abort refl
    where
      go : (k : Option Abort) → (s.endpoints e).abort ≡ k → Sound (abort_from k t e a b s).state
      go none n = begins_sound t e b h a [] s O
      go (some x) k = badge_sound (eqb x.badge b) x s k O

  at_sound : (x : Status) (s : State) → (s.endpoints e).status ≡ x → Sound s → s.runs ≡ some t
      → Sound (abort_at x t e a b s).state
  unfolding abort_at
  at_sound missing s k S r = S
  at_sound closing s k S r = S
  at_sound live s k S r =
      let D = drop_debt_drops s t in
      open_sound (drop_debt t s)
      (record {
        mid = mid_drop_debt s t (sound_mid S);
        runs = D.keeps.runs ∙ r;
        status = D.status e ∙ k;
      })

-- "Inner layers may rely on sound tables": an abort call leaves sound tables sound.

pub abort_sound :
    (t e a b : ℕ) (s : State) → Sound s → s.runs ≡ some t → e ≤ 63 → b < 2 ^ 28 → Sound (abort t e a b s).state
unfolding abort abort_unless
abort_sound t e a b s S r l h = go (has_note e b (s.threads t).debt)
  where
    go : (q : Bool) → Sound (abort_unless q t e a b s).state
    go true = choose_sound (drop_debt t s) (mid_drop_debt s t (sound_mid S))
    go false = at_sound t e a b h (s.endpoints e).status s refl S r
