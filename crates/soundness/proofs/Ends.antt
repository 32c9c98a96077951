-- An endpoint's words: where its tests pass they are those of the endpoint read off them, and the words of a neat
-- endpoint pass.
use Prim.Native.Nat.{ℕ, zero, suc, ◌-◌, ◌^◌, ◌≤◌, ◌<◌}
use mathlib.Core.Path.{◌≡◌, refl, sym, ◌∙◌, ap, subst}
use mathlib.Core.Logic.{◌↔◌, ⊎_elim}
use mathlib.Core.Bool.{true}
use mathlib.Core.Option.{Option, none, some}
use mathlib.Core.List.{List, [], ◌∷◌}
use native.Mathlib.Omega.{arith}
use Rattle.machine.specs.State.{State, Abort, Status, missing, live, closing, Endpoint, missing_endpoint}
use Rattle.machine.specs.Endpoints.{pending_of}
use Rattle.layout.specs.declared.Part.{Part}
use Rattle.layout.specs.declared.Slot.{Slot}
use Rattle.layout.specs.declared.Link.{Link}
use Rattle.layout.specs.Addresses.{link_at, word, endpoint_queue}
use Rattle.layout.specs.Words.{first_of, last_of, status_code, abort_code, badge_code, endpoint_word}
use Rattle.layout.specs.Shows.{Chain}
use Rattle.layout.specs.Decode.{between, abort_by, endpoint_by, endpoint_from}
use Rattle.layout.proofs.Chains.{chain_first, first_zero}
use Rattle.layout.proofs.RoundTrip.{within_same}
use Rattle.layout.proofs.Ends.{NeatEndpoint}
use Rattle.layout.proofs.Tests.{Decides, tells_true, tells_false, tells_and, tells_agree, tells_eqb}
use Rattle.soundness.specs.Checks.{endpoint_at, abort_test, status_test}
use Rattle.soundness.proofs.Tests.{tells_ltb, decided}
use Rattle.soundness.proofs.Cursors.{FromTo}
use Rattle.soundness.proofs.Reading.{Reads, end_joined}

-- What the tests say of an endpoint's words.

abbrev Aborting : List ℕ → ℕ → ℕ → Type 0
Aborting m e zero =
    ((endpoint_at m Part.Aborted e ≡ 0) × (endpoint_at m Part.Cursor e ≡ 0)) × (endpoint_at m Part.End e ≡ 0)
Aborting m e (suc zero) =
    (endpoint_at m Part.Aborted e < 2 ^ 28)
    × ((endpoint_at m Part.Cursor e ≡ 0) ↔ (endpoint_at m Part.End e ≡ 0))
Aborting m e (suc (suc n)) = ⊥

abbrev Standing : List ℕ → ℕ → ℕ → Type 0
Standing m e zero = (word m (link_at (Link.Head (endpoint_queue e))) ≡ 0) × (endpoint_at m Part.Aborting e ≡ 0)
Standing m e (suc zero) = Unit {0}
Standing m e (suc (suc zero)) = endpoint_at m Part.Aborting e ≡ 0
Standing m e (suc (suc (suc n))) = ⊥

module _ (m : List ℕ) (e : ℕ) where
  tells_aborting : (n : ℕ) → Decides (abort_test n m e) (Aborting m e n)
  unfolding abort_test
  tells_aborting zero = tells_and (tells_and (tells_eqb _ 0) (tells_eqb _ 0)) (tells_eqb _ 0)
  tells_aborting (suc zero) = tells_and (tells_ltb _ (2 ^ 28)) (tells_agree (tells_eqb _ 0) (tells_eqb _ 0))
  tells_aborting (suc (suc n)) = tells_false (λ z. z)

  tells_status : (n : ℕ) → Decides (status_test n m e) (Standing m e n)
  unfolding status_test
  tells_status zero = tells_and (tells_eqb _ 0) (tells_eqb _ 0)
  tells_status (suc zero) = tells_true tt
  tells_status (suc (suc zero)) = tells_eqb _ 0
  tells_status (suc (suc (suc n))) = tells_false (λ z. z)

-- Links

last_some : (t : ℕ) (l : List ℕ) → last_of (suc t) l ≡ 0 → ⊥
last_some t [] e = omega arith
last_some t (u ∷ l) e = last_some u l e

both_none : (l : List ℕ) → (first_of l ≡ 0) ↔ (last_of 0 l ≡ 0)
both_none [] = (λ e. e, λ e. e)
both_none (t ∷ l) = (λ e. absurd (omega arith), λ e. absurd (last_some t l e))

-- Where the marks are both none or neither is, the part ends at the end mark.
marked_end :
    {c d b : ℕ} {g : ℕ → ℕ} {l part : List ℕ} → FromTo c d b g l part → (c ≡ 0) ↔ (d ≡ 0) → last_of 0 part ≡ d
marked_end {c} {part = part} M h =
    ⊎_elim (λ z. ap (last_of 0) (first_zero part (M.first ∙ z)) ∙ sym (h.0 z)) M.last (decided (tells_eqb c 0))

-- From the tests to the endpoint

-- The abort's words, and the endpoint's with its queue, read and written again, are the same.

record SameAbort (w : Part → ℕ) (o : Option Abort) : Type 0 where
  stands : abort_code o ≡ w Part.Aborting
  under : badge_code o ≡ w Part.Aborted
  starts : first_of (pending_of o) ≡ w Part.Cursor
  ends : last_of 0 (pending_of o) ≡ w Part.End

pub record SameEnd (w : Part → ℕ) (l : List ℕ) (x : Endpoint) : Type 0 where
  pub words : (p : Part) → endpoint_word x p ≡ w p
  pub queue : x.waiters ≡ l

module _ (m : List ℕ) (e : ℕ) where
  no_abort :
      endpoint_at m Part.Aborting e ≡ 0 → Aborting m e (endpoint_at m Part.Aborting e)
      → SameAbort (λ p. endpoint_at m p e) none
  no_abort z a =
      let h = subst (Aborting m e) z a in
      record {
        stands = sym z;
        under = sym h.0.0;
        starts = sym h.0.1;
        ends = sym h.1;
      }

  module _ (l : List ℕ) (b : ℕ) (g : ℕ → ℕ)
      (M : FromTo (endpoint_at m Part.Cursor e) (endpoint_at m Part.End e) b g l
      (between (endpoint_at m Part.Cursor e) (endpoint_at m Part.End e) l)) where
    some_abort :
        (n : ℕ) → endpoint_at m Part.Aborting e ≡ n → Aborting m e n
        → SameAbort (λ p. endpoint_at m p e) (abort_by n (λ p. endpoint_at m p e) l)
    unfolding abort_by
    some_abort zero z a = no_abort z (subst (Aborting m e) (sym z) a)
    some_abort (suc zero) z a =
        record {
          stands = sym z;
          under = within_same (2 ^ 28 - 1) (endpoint_at m Part.Aborted e) (omega (arith, a.0));
          starts = M.first;
          ends = marked_end M a.1;
        }
    some_abort (suc (suc n)) z a = absurd a

    end_read :
        (x : Endpoint) → status_code x.status ≡ endpoint_at m Part.Status e
        → SameAbort (λ p. endpoint_at m p e) x.abort → x.waiters ≡ l → SameEnd (λ p. endpoint_at m p e) l x
    end_read x st a q = record { words = go; queue = q }
      where
        go : (p : Part) → endpoint_word x p ≡ endpoint_at m p e
        go Part.Status = st
        go Part.Aborting = a.stands
        go Part.Aborted = a.under
        go Part.Cursor = a.starts
        go Part.End = a.ends

    end_at :
        (n : ℕ) → endpoint_at m Part.Status e ≡ n → Standing m e n → Aborting m e (endpoint_at m Part.Aborting e)
        → Chain m (endpoint_queue e) 0 l 0
        → SameEnd (λ p. endpoint_at m p e) l (endpoint_by n (λ p. endpoint_at m p e) l)
    end_at zero z t a c =
        end_read missing_endpoint (sym z) (no_abort t.1 a)
        (sym (first_zero l (sym (chain_first m (endpoint_queue e) 0 l c) ∙ t.0)))
    end_at (suc zero) z t a c =
        end_read (endpoint_by 1 (λ p. endpoint_at m p e) l) (sym z) (some_abort (endpoint_at m Part.Aborting e) refl a)
        refl
    end_at (suc (suc zero)) z t a c =
        end_read (endpoint_by 2 (λ p. endpoint_at m p e) l) (sym z) (no_abort t a) refl
    end_at (suc (suc (suc n))) z t a c = absurd t

    -- Where the tests pass, the words are those of the endpoint read off them, and its queue is the one walked.
    pub end_words :
        status_test (endpoint_at m Part.Status e) m e ≡ true → abort_test (endpoint_at m Part.Aborting e) m e ≡ true
        → Chain m (endpoint_queue e) 0 l 0
        → SameEnd (λ p. endpoint_at m p e) l (endpoint_from (λ p. endpoint_at m p e) l)
    unfolding endpoint_from
    end_words st a =
        end_at (endpoint_at m Part.Status e) refl ((tells_status m e (endpoint_at m Part.Status e)).holds st)
        ((tells_aborting m e (endpoint_at m Part.Aborting e)).holds a)

-- From the endpoint to the tests

module _ (m : List ℕ) (s : State) (R : Reads m s) (e : ℕ) (h : e ≤ 63) where
  X : NeatEndpoint (s.endpoints e)
  X = R.neat.endpoints e

  here : (p : Part) → endpoint_at m p e ≡ endpoint_word (s.endpoints e) p
  here p = R.slots (Slot.Endpoint p e) h

  has_status : Standing m e (endpoint_at m Part.Status e)
  has_status = rw (here Part.Status) (go (s.endpoints e).status refl)
    where
      no_abort_there : ((s.endpoints e).status ≡ live → ⊥) → endpoint_at m Part.Aborting e ≡ 0
      no_abort_there n = here Part.Aborting ∙ ap abort_code (X.no_abort n)

      go : (z : Status) → (s.endpoints e).status ≡ z → Standing m e (status_code z)
      go missing i = (
        chain_first m (endpoint_queue e) 0 (s.endpoints e).waiters (end_joined m s R e h) ∙ ap first_of (X.empty i),
        no_abort_there (λ j. omega (arith, ap status_code (sym i ∙ j))),
      )
      go live i = tt
      go closing i = no_abort_there (λ j. omega (arith, ap status_code (sym i ∙ j)))

  has_abort : (o : Option Abort) → (s.endpoints e).abort ≡ o → Aborting m e (abort_code o)
  has_abort none i = (
    (here Part.Aborted ∙ ap badge_code i, here Part.Cursor ∙ ap (λ (o : Option Abort). first_of (pending_of o)) i),
    here Part.End ∙ ap (λ (o : Option Abort). last_of 0 (pending_of o)) i,
  )
  has_abort (some b) i = (
    omega (arith, here Part.Aborted, X.neat.badge),
    rw (here Part.Cursor, here Part.End) (both_none (pending_of (s.endpoints e).abort)),
  )

  pub abort_passes : abort_test (endpoint_at m Part.Aborting e) m e ≡ true
  abort_passes =
      rw (here Part.Aborting) ((tells_aborting m e (abort_code (s.endpoints e).abort)).back
      (has_abort (s.endpoints e).abort refl))

  pub status_passes : status_test (endpoint_at m Part.Status e) m e ≡ true
  status_passes = (tells_status m e (endpoint_at m Part.Status e)).back has_status
