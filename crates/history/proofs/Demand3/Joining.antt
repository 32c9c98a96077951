-- A call 12 that is accepted and not answered from a note: it begins an abort, joins one, or finishes another's first.
use Prim.Native.Nat.{ℕ, zero, suc, ◌≤◌, ◌<◌, ◌^◌}
use mathlib.Core.Path.{◌≡◌, refl, sym, ◌∙◌, ap, subst}
use mathlib.Core.Bool.{Bool, true, false}
use mathlib.Core.Option.{Option, none, some}
use mathlib.Core.List.{[]}
use native.Mathlib.Omega.{arith}
use lib.Dec.{eqb}
use lib.ListN.{length}
use borrow.Author.Tests.{eqb-true, eq-eqb}
use Rattle.machine.specs.Lists.{pick, put}
use Rattle.machine.specs.State.{State, works, Abort, live}
use Rattle.machine.specs.Endpoints.{is_aborting, drop_debt}
use Rattle.machine.specs.Aborts.{join, begin, work_own, under_badge, abort_from, abort_open}
use Rattle.machine.specs.Sound.{Present}
use Rattle.history.specs.History.{Aborting, is_in}
use Rattle.history.specs.Walk.{Walk, joins_in, lets_go, is_under, walk}
use Rattle.history.specs.Outcomes.{lets_other, comes_in}
use Rattle.history.specs.Tied.{Tied}
use Rattle.machine.proofs.Lists.{put_same, put_self}
use Rattle.machine.specs.Mid.{Mid}
use Rattle.machine.proofs.Preserved.Debts.{works_at_lem, Drops, mid_drop_debt, drop_debt_drops}
use Rattle.machine.proofs.Preserved.AbortSteps.{mid_join}
use Rattle.machine.proofs.Preserved.Aborts.{running_present, join_status}
use Rattle.history.proofs.Demand3.Standing.{Stage, within, Both, Core}
use Rattle.history.proofs.Demand3.Leaving.{NobodyComes, leaves_debt, leaves_drop_debt, core_leaves}
use Rattle.history.proofs.Demand3.Owing.{tied_drop, tied_join, tied_rejoin}
use Rattle.history.proofs.Demand3.Together.{Gone, walk_at, Going}
use Rattle.history.proofs.Demand3.EachLook.{Frame, frame_keeps, frame_keep}
use Rattle.history.proofs.Demand3.OwnAbort.{more_self, walk_keeps, keeps_join, walker, Ran, own_works}
use Rattle.history.proofs.Demand3.OwnAbort.{own_begins}
use Rattle.history.proofs.Demand3.OtherAbort.{other_works}

pub leaves_join : (t e : ℕ) (s : State) → NobodyComes s (join t e s)
unfolding join
leaves_join t e s = leaves_debt s t (works e)

-- What the history has after an other call has let go, and after the same badge is joined.
abbrev let_go : ℕ → Gone → Gone
let_go t d = record { ended = d.ended; debts = lets_go t d.debts }

abbrev pub came_in : ℕ → ℕ → ℕ → Option Aborting → Gone → Gone
came_in t e b o d = record { ended = d.ended; debts = comes_in t e b o d.debts }

-- An other call lets go.
came_other : (t e b : ℕ) (o : Option Aborting) (d : Gone) → is_under b o ≡ false → came_in t e b o d ≡ let_go t d
came_other t e b o d h = rw h refl

module _
    (stage : Stage) (standing : ℕ → Option Aborting) (d : Gone) (t e b : ℕ)
    (now : stage.until ≡ length stage.past) (small : b < 2 ^ 28) (s : State) (a : ℕ) (some_looks : 1 ≤ a)
    (M : Mid s) (C : Core stage s.threads s.endpoints standing d.ended)
    (T : Tied s.threads d.debts d.ended) (runs : s.runs ≡ some t)
    (lives : (s.endpoints e).status ≡ live) where
  abbrev since : ℕ → ℕ
  since = stage.since

  abbrev place : ℕ
  place = stage.until

  abbrev start : Walk
  start = walk_at since e s (standing e) (came_in t e b (standing e) d)

  -- The caller leaves its set, or loses its note, first.
  abbrev q : State
  q = drop_debt t s

  D : Drops t s q
  D = drop_debt_drops s t

  frame : Frame since e s q []
  frame = frame_keeps since e s q D.keeps

  -- The walk starts with the abort o standing, and with g gone.
  began_at :
      (o : Option Aborting) (g : Gone) → standing e ≡ o → came_in t e b o d ≡ g → start ≡ walk_at since e q o g
  began_at o g h came =
      ap (λ (p : Option Aborting). walk_at since e s p (came_in t e b p d)) h
      ∙ ap (walk_at since e s o) came ∙ sym (walk_keeps since e s q o g D.keeps)

  going : (o : Option Aborting) → standing e ≡ o → Going (within stage) standing e q o (let_go t d)
  going o h =
      record {
        mid = mid_drop_debt s t M;
        core =
            subst
            (λ (f : ℕ → Option Aborting).
            Core (within stage) q.threads q.endpoints f d.ended)
            (sym (ap (put standing e) (sym h) ∙ put_self standing e (standing e) refl))
            (core_leaves stage (suc place) (omega arith) (leaves_drop_debt t s) C);
        tied = tied_drop s T t;
      }

  runs_still : q.runs ≡ some t
  runs_still = D.keeps.runs ∙ runs

  lives_still : (q.endpoints e).status ≡ live
  lives_still = D.status e ∙ lives

  present : Present q t
  present = running_present (mid_drop_debt s t M) runs_still

  -- One that goes on with the abort that it works on is in the set as before; another joins.
  joined_tied :
      (x : Aborting) → x.badge ≡ b
      → Tied (join t e q).threads (joins_in t e (lets_other t e b (some x) d.debts)) d.ended
  joined_tied x badge = rw (eq-eqb x.badge b badge) (go (is_in t (d.debts.members e)) refl)
    where
      go : (y : Bool) → is_in t (d.debts.members e) ≡ y
          → Tied (join t e q).threads (joins_in t e (pick y d.debts (lets_go t d.debts))) d.ended
      go true h = tied_rejoin s T t e h (works_at_lem e (s.threads t).debt (sym (T.members e t) ∙ h))
      go false h = tied_join q (tied_drop s T t) t e D.debt

  -- The same badge is joined.
  joins :
      (k : Abort) (x : Aborting) → (q.endpoints e).abort ≡ some k → standing e ≡ some x → x.badge ≡ b
      → Ran stage standing t e b s a start (work_own t e a [] (join t e q))
  joins k x was told badge =
      own_works stage standing t e b (omega arith) s a start a [] (join t e q) x g
      (record {
        mid = mid_join t e q (ap is_aborting was) (mid_drop_debt s t M) present;
        core = core_leaves (within stage) (suc place) (omega arith) (leaves_join t e q) (going (some x) told).core;
        tied = joined_tied x badge;
      })
      badge (join_status t e q ∙ lives_still) (frame_keep since e s q (join t e q) [] frame (keeps_join t e q))
      (λ l.
      ap (walk l a (walker stage standing t e b))
      (began_at (some x) g told came ∙ sym (walk_keeps since e q (join t e q) (some x) g (keeps_join t e q))))
      (more_self place d.ended)
    where
      g : Gone
      g = record { ended = d.ended; debts = joins_in t e (lets_other t e b (some x) d.debts) }

      came : came_in t e b (some x) d ≡ g
      came =
          ap
          (λ (y : Bool).
          record {
            ended = d.ended;
            debts = pick y (joins_in t e (lets_other t e b (some x) d.debts)) (lets_other t e b (some x) d.debts);
          }) (eq-eqb x.badge b badge)

  under :
      (y : Bool) (k : Abort) (x : Aborting) → eqb k.badge b ≡ y → (q.endpoints e).abort ≡ some k
      → standing e ≡ some x → x.badge ≡ k.badge
      → Ran stage standing t e b s a start (under_badge y t e a b q)
  unfolding under_badge
  under true k x h was told badge = joins k x was told (badge ∙ eqb-true k.badge b h)
  under false k x h was told badge =
      other_works stage standing t e b (omega arith) (omega arith) small s a start q x (let_go t d)
      (going (some x) told) differs D.debt runs_still lives_still frame
      (began_at (some x) (let_go t d) told (came_other t e b (some x) d differs)) (more_self place d.ended)
    where
      differs : eqb x.badge b ≡ false
      differs = ap (λ (v : ℕ). eqb v b) badge ∙ h

  begins :
      (m : ℕ) → a ≡ m → 1 ≤ m → (q.endpoints e).abort ≡ none → standing e ≡ none
      → Ran stage standing t e b s a start (work_own t e m [] (begin t e b q))
  begins zero h i was told = absurd (omega arith)
  begins (suc m) h i was told =
      own_begins stage standing t e b (omega arith) s a start m [] q (let_go t d) (going none told) was D.debt
      present small (omega arith) lives_still frame
      (λ l.
      ap (λ (k : ℕ). walk l k (walker stage standing t e b) start) h
      ∙ ap (walk l (suc m) (walker stage standing t e b))
      (began_at none (let_go t d) told (came_other t e b none d refl)))
      (more_self place d.ended)

  together :
      (k : Option Abort) → (q.endpoints e).abort ≡ k → (o : Option Aborting) → standing e ≡ o
      → Both (within stage) q.threads e k o
  together k was o told = rw (was, put_same standing e o) at ((going o told).core.stands e)

  pub ran : Ran stage standing t e b s a start (abort_open t e a b q)
  unfolding abort_open abort_from
  ran = go (q.endpoints e).abort refl (standing e) refl
    where
      go : (k : Option Abort) → (q.endpoints e).abort ≡ k → (o : Option Aborting) → standing e ≡ o
          → Ran stage standing t e b s a start (abort_from k t e a b q)
      go none was none told = begins a refl some_looks was told
      go none was (some x) told = absurd (together none was (some x) told)
      go (some k) was none told = absurd (together (some k) was none told)
      go (some k) was (some x) told =
          under (eqb k.badge b) k x refl was told (together (some k) was (some x) told).badge
