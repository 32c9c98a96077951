-- The words of an endpoint: after stores to some of them the memory shows the state with another endpoint there, which
-- has the same waiters.
use Prim.Native.Nat.{ℕ, ◌-◌, ◌≤◌}
use mathlib.Core.Path.{◌≡◌, refl, sym, ◌∙◌, ap}
use mathlib.Core.Option.{Option, none, some}
use mathlib.Core.List.{List}
use lib.Dec.{ltb}
use lib.ListN.{set}
use Rattle.machine.specs.Lists.{pick, put}
use Rattle.machine.specs.State.{State, Endpoint, Abort, Status, set_endpoint}
use Rattle.machine.specs.Endpoints.{pending_of}
use Rattle.machine.proofs.Lists.{Same, same, other, same?, put_same, put_other}
use Rattle.layout.specs.declared.Part.{Part}
use Rattle.layout.specs.declared.Slot.{Slot}
use Rattle.layout.specs.Addresses.{ValidSlot, offset, at, word}
use Rattle.layout.specs.Words.{status_code, abort_code, badge_code, first_of, last_of, endpoint_word, content}
use Rattle.layout.specs.Words.{queues_of}
use Rattle.layout.specs.Shows.{Shows}
use Rattle.layout.proofs.Addresses.{same_part}
use Rattle.store.specs.Store.{SetsStatus, SetsAbort, SetsPending, with_pending}
use Rattle.store.proofs.Rows.{RowChanged, change, IsRow, row_store, row_start, row_shows}

-- The slots that are not of endpoint e.
abbrev OffSite : ℕ → Slot → Type 0
OffSite e (Slot.Thread f t) = Unit {0}
OffSite e (Slot.Endpoint p k) = k ≡ e → ⊥
OffSite e (Slot.Line l) = Unit {0}
OffSite e (Slot.Summary w) = Unit {0}
OffSite e Slot.Top = Unit {0}
OffSite e Slot.Running = Unit {0}
OffSite e (Slot.Unused i) = Unit {0}

abbrev site_row : ℕ → Part → Slot
site_row e p = Slot.Endpoint p e

abbrev Site : ℕ → List ℕ → List ℕ → (Part → ℕ) → Type 0
Site e m n w = RowChanged (site_row e) (OffSite e) m n w

-- A word for each part, where five are right.
pub parts :
    (w : Part → ℕ) (x : Endpoint) → w Part.Status ≡ status_code x.status → w Part.Aborting ≡ abort_code x.abort
    → w Part.Aborted ≡ badge_code x.abort → w Part.Cursor ≡ first_of (pending_of x.abort)
    → w Part.End ≡ last_of 0 (pending_of x.abort)
    → (p : Part) → w p ≡ endpoint_word x p
parts w x a b c d e Part.Status = a
parts w x a b c d e Part.Aborting = b
parts w x a b c d e Part.Aborted = c
parts w x a b c d e Part.Cursor = d
parts w x a b c d e Part.End = e

module _ (e : ℕ) (small : e ≤ 63) where
  is_site : IsRow (site_row e) (OffSite e) offset
  is_site =
      record {
        valid = λ p. small;
        to = λ p q. same_part p q e;
        from = λ p q k. let j : p ≡ q = cc in ap offset j;
        off = λ a p o k. (rw k at o) refl;
      }

  waiters_keep :
      (f : ℕ → Endpoint) (x : Endpoint) → x.waiters ≡ (f e).waiters → (k : ℕ) → (put f e x k).waiters ≡ (f k).waiters
  waiters_keep f x l k = go (same? k e)
    where
      go : Same k e → (put f e x k).waiters ≡ (f k).waiters
      go (same j _) = rw (j, put_same f e x) l
      go (other d _) = rw (put_other f e k x d)

  queues_keep :
      (s : State) (x : Endpoint) → x.waiters ≡ (s.endpoints e).waiters → (q : ℕ)
      → queues_of (set_endpoint e x s) q ≡ queues_of s q
  unfolding queues_of
  queues_keep s x l q = ap (pick (ltb q 256) (s.levels q)) (waiters_keep s.endpoints x l (q - 256))

  -- Endpoint e becomes x, with the same waiters.
  pub site_shows :
      (m n : List ℕ) (w : Part → ℕ) (s : State) (x : Endpoint) → Shows m s → Site e m n w
      → x.waiters ≡ (s.endpoints e).waiters → ((p : Part) → w p ≡ endpoint_word x p) → Shows n (set_endpoint e x s)
  site_shows m n w s x M B l k =
      row_shows (site_row e) (OffSite e) m n w s (set_endpoint e x s) M B slots (λ q h. queues_keep s x l q)
    where
      in_site : (p : Part) (u : ℕ) → u ≤ 63 → Same u e
          → word n (at (Slot.Endpoint p u)) ≡ endpoint_word (put s.endpoints e x u) p
      in_site p u h (same j _) = rw (j, put_same s.endpoints e x) (B.here p ∙ k p)
      in_site p u h (other d _) =
          rw (put_other s.endpoints e u x d) (B.slots (Slot.Endpoint p u) h d ∙ M.slots (Slot.Endpoint p u) h)

      slots : (a : Slot) → ValidSlot a → word n (at a) ≡ content (set_endpoint e x s) a
      slots (Slot.Thread f t) h = B.slots (Slot.Thread f t) h tt ∙ M.slots (Slot.Thread f t) h
      slots (Slot.Endpoint p u) h = in_site p u h (same? u e)
      slots (Slot.Line j) h = B.slots (Slot.Line j) h tt ∙ M.slots (Slot.Line j) h
      slots (Slot.Summary j) h = B.slots (Slot.Summary j) h tt ∙ M.slots (Slot.Summary j) h
      slots Slot.Top h = B.slots Slot.Top h tt ∙ M.slots Slot.Top h
      slots Slot.Running h = B.slots Slot.Running h tt ∙ M.slots Slot.Running h
      slots (Slot.Unused i) h = B.slots (Slot.Unused i) h tt ∙ M.slots (Slot.Unused i) h

  pub site_store :
      (m n n' : List ℕ) (w : Part → ℕ) (p : Part) (v : ℕ) → n' ≡ set n (at (Slot.Endpoint p e)) v
      → Site e m n w → Site e m n' (change offset p v w)
  site_store = row_store (site_row e) (OffSite e) offset is_site

  pub site_start : (m : List ℕ) (s : State) → Shows m s → Site e m m (endpoint_word (s.endpoints e))
  site_start = row_start (site_row e) (OffSite e) offset is_site

-- Endpoint e with another status, and with another abort.
abbrev with_status : ℕ → State → Status → Endpoint
with_status e s x = record { status = x; waiters = (s.endpoints e).waiters; abort = (s.endpoints e).abort }

abbrev with_abort : ℕ → State → Option Abort → Endpoint
with_abort e s o = record { status = (s.endpoints e).status; waiters = (s.endpoints e).waiters; abort = o }

-- The steps on an endpoint, from the stores that they are.

module _ (e : ℕ) {m n₁ : List ℕ} where
  pub status_does :
      (code : ℕ) → n₁ ≡ set m (at (Slot.Endpoint Part.Status e)) code → SetsStatus m e code n₁
  status_does code e₁ =
      record {
        does = λ x k.
            record {
              shows = λ s M h.
                  site_shows e h m n₁ _ s _ M
                  (site_store e h m m n₁ _ Part.Status code e₁ (site_start e h m s M)) refl
                  (parts _ (with_status e s x) (sym k) refl refl refl refl);
            };
      }

  module _ {n₂ n₃ n₄ : List ℕ} where
    pub abort_does :
        (here badge first last : ℕ) → n₁ ≡ set m (at (Slot.Endpoint Part.Aborting e)) here
        → n₂ ≡ set n₁ (at (Slot.Endpoint Part.Aborted e)) badge
        → n₃ ≡ set n₂ (at (Slot.Endpoint Part.Cursor e)) first
        → n₄ ≡ set n₃ (at (Slot.Endpoint Part.End e)) last → SetsAbort m e here badge first last n₄
    abort_does here badge first last e₁ e₂ e₃ e₄ =
        record {
          none = λ h₁ h₂ h₃ h₄.
              record {
                shows = λ s M h.
                    site_shows e h m n₄ _ s _ M (stores s M h) refl (parts _ (with_abort e s none) refl h₁ h₂ h₃ h₄);
              };
          some = λ a h₁ h₂ h₃ h₄.
              record {
                shows = λ s M h.
                    site_shows e h m n₄ _ s _ M (stores s M h) refl
                    (parts _ (with_abort e s (some a)) refl h₁ h₂ h₃ h₄);
              };
        }
      where
        stores : (s : State) → Shows m s → (h : e ≤ 63) → Site e m n₄
            (change offset Part.End last
            (change offset Part.Cursor first
            (change offset Part.Aborted badge (change offset Part.Aborting here (endpoint_word (s.endpoints e))))))
        stores s M h =
            site_store e h m n₃ n₄ _ Part.End last e₄
            (site_store e h m n₂ n₃ _ Part.Cursor first e₃
            (site_store e h m n₁ n₂ _ Part.Aborted badge e₂
            (site_store e h m m n₁ _ Part.Aborting here e₁ (site_start e h m s M))))

-- The two stores of the marks.
pub looks :
    (e : ℕ) {m n o : List ℕ} (first last : ℕ) → n ≡ set m (at (Slot.Endpoint Part.Cursor e)) first
    → o ≡ set n (at (Slot.Endpoint Part.End e)) last → SetsPending m e first last o
looks e {m} {n} {o} first last a b =
    record {
      does = λ l f g.
          record {
            shows = λ s M h.
                let z : (s.endpoints e).abort ≡ some h.1.0 = h.1.1 in
                site_shows e h.0 m o _ s _ M
                (site_store e h.0 m n o _ Part.End last b
                (site_store e h.0 m m n _ Part.Cursor first a (site_start e h.0 m s M))) refl
                (parts _ (with_abort e s (with_pending l (s.endpoints e).abort))
                refl (rw z) (rw z) (rw z (sym f)) (rw z (sym g)));
          };
    }
