-- Neat: what Sound asks of each thread, endpoint, line and number alone. Sound states are neat, as are decoded ones.
use Prim.Native.Nat.{ℕ, ◌^◌, ◌≤◌, ◌<◌}
use mathlib.Core.Path.{◌≡◌, refl, sym, ◌∙◌, ap, subst}
use mathlib.Core.Logic.{◌⊎◌, inl, inr}
use mathlib.Core.Option.{Option, none, some}
use mathlib.Core.List.{List, [], ◌∷◌}
use native.Mathlib.Omega.{arith}
use Rattle.machine.specs.Lists.{Mem}
use Rattle.machine.specs.State.{State, Thread, Place, absent, able, sending, receiving, waiting, Debt, nothing, works}
use Rattle.machine.specs.State.{noted, Abort, Endpoint, quiet, awaited, missing_endpoint}
use Rattle.machine.specs.Endpoints.{is_aborting}
use Rattle.machine.specs.Sound.{Present, Sound}
use Rattle.machine.proofs.Lists.{clash}
use Rattle.layout.specs.Words.{place_code, debt_code, line_code}
use Rattle.layout.proofs.Addresses.{below?}
use Rattle.layout.proofs.RoundTrip.{PlaceSmall, DebtSmall, not_absent}
use Rattle.layout.proofs.Blocks.{NeatThread, absent?}
use Rattle.layout.proofs.Ends.{NeatAbort, NeatEndpoint, no_abort_neat}
use Rattle.layout.proofs.Standing.{queued_present, level_small, endpoint_small}

pub record NeatState (s : State) : Type 0 where
  pub threads : (t : ℕ) → NeatThread t (s.threads t)
  pub endpoints : (e : ℕ) → NeatEndpoint (s.endpoints e)
  pub unused_endpoint : (e : ℕ) → 63 < e → s.endpoints e ≡ missing_endpoint
  pub unused_line : (l : ℕ) → 31 < l → s.lines l ≡ quiet
  pub unused_level : (p : ℕ) → 255 < p → s.levels p ≡ []
  pub runs_small : (t : ℕ) → s.runs ≡ some t → t ≤ 255
  pub ready_small : (p t : ℕ) → Mem t (s.levels p) → t ≤ 255
  pub line_small : (l t : ℕ) → s.lines l ≡ awaited t → t ≤ 255

-- A list in which nobody stands is empty.
pub nobody : (l : List ℕ) → ((t : ℕ) → Mem t l → ⊥) → l ≡ []
nobody [] h = refl
nobody (t ∷ l) h = absurd (h t (inl refl))

module _ (s : State) (S : Sound s) where
  number : (t : ℕ) → (q : Place) → (s.threads t).place ≡ q → 1 ≤ place_code q → t ≤ 255
  number t q e h = (S.ranges.numbers t (not_absent e h)).thread

  place_in_range : (t : ℕ) (p : Place) → (s.threads t).place ≡ p → PlaceSmall p
  place_in_range t absent e = tt
  place_in_range t able e = tt
  place_in_range t (sending n) e = endpoint_small s S.ranges S.queues t n ((S.queues.queued t n).1 (inl e))
  place_in_range t (receiving n) e = endpoint_small s S.ranges S.queues t n ((S.queues.queued t n).1 (inr e))
  place_in_range t (waiting l) e = go (below? l 32)
    where
      go : (l < 32) ⊎ (32 ≤ l) → l ≤ 31
      go (inl h) = omega arith
      go (inr h) =
          absurd
          (omega (arith, ap line_code (sym (S.ranges.unused_line l h) ∙ (S.queues.on_line t l).1 e)))

  debt_in_range : (t : ℕ) (d : Debt) → (s.threads t).debt ≡ d → DebtSmall d
  debt_in_range t nothing e = tt
  debt_in_range t (works n) e = go (below? n 64)
    where
      go : (n < 64) ⊎ (64 ≤ n) → n ≤ 63
      go (inl h) = omega arith
      go (inr h) =
          let none_there = ap (λ (x : Endpoint). is_aborting x.abort) (S.ranges.unused_endpoint n h) in
          absurd (clash (S.members.stands n t e) none_there)
  debt_in_range t (noted n b) e = go (absent? (s.threads t).place)
    where
      go : ((s.threads t).place ≡ absent) ⊎ Present s t → (n ≤ 63) × (b < 2 ^ 28)
      go (inl h) =
          absurd
          (omega (arith, ap (λ (x : Thread). debt_code x.debt) (sym (S.ranges.unused_thread t h)) ∙ ap debt_code e))
      go (inr h) = rw e at (S.ranges.numbers t h).debt

  abort_in_range : (e : ℕ) (o : Option Abort) → (s.endpoints e).abort ≡ o → NeatAbort (s.endpoints e).waiters o
  abort_in_range e none h = no_abort_neat (s.endpoints e).waiters
  abort_in_range e (some a) h =
      let p = S.marks.part e a h in
      record {
        badge = S.ranges.abort_badge e a h;
        part = record { before = p.before; behind = p.behind; within = p.within };
      }

  pub sound_neat : NeatState s
  sound_neat =
      record {
        threads = λ t.
            record {
              place_small = place_in_range t (s.threads t).place refl;
              debt_small = debt_in_range t (s.threads t).debt refl;
              numbers = S.ranges.numbers t;
              unused = S.ranges.unused_thread t;
              blocked = S.outcomes.blocked t;
              stored = S.outcomes.stored t;
            };
        endpoints = λ e.
            record {
              small = λ t m. (S.ranges.numbers t (queued_present s S.ranges S.queues t e m)).thread;
              empty = S.statuses.empty e;
              no_abort = S.statuses.no_abort e;
              neat = abort_in_range e (s.endpoints e).abort refl;
            };
        unused_endpoint = S.ranges.unused_endpoint;
        unused_line = S.ranges.unused_line;
        unused_level = λ p h.
            nobody (s.levels p) (λ t m. omega (arith, level_small s S.ranges S.queues t p m));
        runs_small = λ t e. number t able (S.queues.running t e) (omega arith);
        ready_small = λ p t m. number t able ((S.queues.ready t p).0 m).0.0 (omega arith);
        line_small = λ l t e. number t (waiting l) ((S.queues.on_line t l).0 e) (omega arith);
      }

module _ (s : State) (N : NeatState s) where
  -- Whoever has a place is a thread, and its place is one.
  pub seated : (t : ℕ) {q : Place} → (s.threads t).place ≡ q → 1 ≤ place_code q → t ≤ 255
  seated t e h = ((N.threads t).numbers (not_absent e h)).thread

  pub seat_small : (t : ℕ) {q : Place} → (s.threads t).place ≡ q → PlaceSmall q
  seat_small t e = subst PlaceSmall e (N.threads t).place_small
