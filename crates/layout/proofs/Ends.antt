-- An endpoint's words: what is read of them meets what Sound asks of one endpoint alone, and an endpoint that does is
-- read back.
use Prim.Native.Nat.{ℕ, zero, suc, ◌-◌, ◌^◌, ◌≤◌, ◌<◌}
use mathlib.Core.Path.{◌≡◌, refl, sym, ◌∙◌, ap}
use mathlib.Core.Option.{Option, none, some}
use mathlib.Core.List.{List, []}
use native.Mathlib.Omega.{arith}
use Rattle.machine.specs.Lists.{Mem, Distinct}
use Rattle.machine.specs.State.{Abort, Status, missing, live, closing, Endpoint, missing_endpoint}
use Rattle.machine.specs.Endpoints.{pending_of}
use Rattle.layout.specs.declared.Part.{Part}
use Rattle.layout.specs.Words.{status_code, abort_code, badge_code, endpoint_word}
use Rattle.layout.specs.Decode.{abort_by, endpoint_by, endpoint_from}
use Rattle.layout.proofs.RoundTrip.{within_small, within_same}
use Rattle.layout.proofs.Following.{PartOf, between_within, between_back}

-- What Sound asks of an abort, if there is one, at a queue, and of an endpoint alone.
pub record NeatAbort (l : List ℕ) (o : Option Abort) : Type 0 where
  pub badge : badge_code o < 2 ^ 28
  pub part : PartOf l (pending_of o)

pub record NeatEndpoint (x : Endpoint) : Type 0 where
  pub small : (t : ℕ) → Mem t x.waiters → t ≤ 255
  pub empty : x.status ≡ missing → x.waiters ≡ []
  pub no_abort : (x.status ≡ live → ⊥) → x.abort ≡ none
  pub neat : NeatAbort x.waiters x.abort

-- No number is at none.
pub none_some : {A B : Type 0} {a : A} → none ≡ some a → B
none_some {a = a} e = absurd (let z : ◌≡◌ {A = ℕ} 0 1 = cc in omega arith)

pub no_abort_neat : (l : List ℕ) → NeatAbort l none
no_abort_neat l =
    record {
      badge = omega arith;
      part = record { before = []; behind = l; within = refl };
    }

-- What is read is neat.

abort_neat : (n : ℕ) (w : Part → ℕ) (l : List ℕ) → NeatAbort l (abort_by n w l)
unfolding abort_by
abort_neat zero w l = no_abort_neat l
abort_neat (suc n) w l =
    record {
      badge = omega (arith, within_small (2 ^ 28 - 1) (w Part.Aborted));
      part = between_within (w Part.Cursor) (w Part.End) l;
    }

pub missing_neat : NeatEndpoint missing_endpoint
missing_neat = record { small = λ t m. absurd m; empty = λ e. refl; no_abort = λ n. refl; neat = no_abort_neat [] }

neat_at : (n : ℕ) (w : Part → ℕ) (l : List ℕ) → ((t : ℕ) → Mem t l → t ≤ 255) → NeatEndpoint (endpoint_by n w l)
neat_at zero w l h = missing_neat
neat_at (suc zero) w l h =
    record {
      small = h;
      empty = λ e. absurd (omega (arith, ap status_code e));
      no_abort = λ n. absurd (n refl);
      neat = abort_neat (w Part.Aborting) w l;
    }
neat_at (suc (suc n)) w l h =
    record {
      small = h;
      empty = λ e. absurd (omega (arith, ap status_code e));
      no_abort = λ n. refl;
      neat = no_abort_neat l;
    }

pub endpoint_neat :
    (w : Part → ℕ) (l : List ℕ) → ((t : ℕ) → Mem t l → t ≤ 255) → NeatEndpoint (endpoint_from w l)
unfolding endpoint_from
endpoint_neat w l h = neat_at (w Part.Status) w l h

-- A neat endpoint in whose queue nobody stands twice is read back.

module _ (x : Endpoint) (X : NeatEndpoint x) (d : Distinct x.waiters) where
  abort_back : (o : Option Abort) → x.abort ≡ o → abort_by (abort_code o) (endpoint_word x) x.waiters ≡ o
  unfolding abort_by
  abort_back none e = refl
  abort_back (some a) e =
      ap {B = Option Abort} some
      (λ i.
      record {
        badge = (within_same (2 ^ 28 - 1) (badge_code x.abort) (omega (arith, X.neat.badge)) ∙ ap badge_code e) i;
        pending = (between_back x.waiters (pending_of x.abort) X.neat.part d ∙ ap pending_of e) i;
      })

  back_at : (z : Status) → x.status ≡ z → endpoint_by (status_code z) (endpoint_word x) x.waiters ≡ x
  back_at missing e = λ i.
      record {
        status = sym e i;
        waiters = sym (X.empty e) i;
        abort = sym (X.no_abort (λ f. omega (arith, ap status_code (sym e ∙ f)))) i;
      }
  back_at live e = λ i.
      record { status = sym e i; waiters = x.waiters; abort = abort_back x.abort refl i }
  back_at closing e = λ i.
      record {
        status = sym e i;
        waiters = x.waiters;
        abort = sym (X.no_abort (λ f. omega (arith, ap status_code (sym e ∙ f)))) i;
      }

  pub endpoint_back : endpoint_from (endpoint_word x) x.waiters ≡ x
  unfolding endpoint_from
  endpoint_back = back_at x.status refl
