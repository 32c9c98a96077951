-- The queue of an endpoint: the test of its walk finds the queue with its marks; and what it tells of a memory that is
-- read as a neat state.
use Prim.Native.Nat.{ℕ, ◌+◌, ◌^◌, ◌≤◌, ◌<◌}
use mathlib.Core.Path.{◌≡◌, refl, sym, ◌∙◌, ap, subst}
use mathlib.Core.Logic.{◌⊎◌, inl, inr, ⊎_elim}
use mathlib.Core.Bool.{Bool, true, ◌&&◌}
use mathlib.Core.Option.{Option, none, some}
use mathlib.Core.List.{List, [], ◌∷◌}
use native.Mathlib.Omega.{arith}
use lib.Dec.{eqb}
use borrow.Author.Tests.{le-leb, eq-eqb, ne_eqb}
use Rattle.machine.specs.Lists.{pick, Mem, Distinct}
use Rattle.machine.specs.State.{State, Place, absent, sending, receiving, Abort}
use Rattle.machine.specs.Endpoints.{pending_of}
use Rattle.layout.specs.declared.Field.{Field}
use Rattle.layout.specs.declared.Part.{Part}
use Rattle.layout.specs.declared.Slot.{Slot}
use Rattle.layout.specs.declared.Link.{Link}
use Rattle.layout.specs.Addresses.{link_at, word, after_at, endpoint_queue}
use Rattle.layout.specs.Words.{first_of, last_of, place_code, abort_code, badge_code}
use Rattle.layout.specs.Shows.{Chain}
use Rattle.layout.specs.Decode.{between, queue_from}
use Rattle.layout.proofs.Chains.{chain_first, first_zero}
use Rattle.layout.proofs.Following.{between_back}
use Rattle.layout.proofs.Tests.{Decides, tells_map, tells_and, tells_or, tells_eqb}
use Rattle.soundness.specs.declared.Phase.{Phase}
use Rattle.soundness.specs.Checks.{thread_at, endpoint_at, waiters_from, kind_of, banned_of, waiters_test}
use Rattle.soundness.proofs.Tests.{tells_itself, every, tells_every, decided}
use Rattle.soundness.proofs.Following.{phased, waiters_split, walk_found, walk_along, chain_distinct}
use Rattle.soundness.proofs.Cursors.{FromTo, tells_marked}
use Rattle.soundness.proofs.Reading.{Reads, end_joined, tells_seat}

-- The place that all in the queue must have, and the badge that may not stand outside the marks.

abbrev kind_in : List ℕ → ℕ → ℕ
kind_in m e = kind_of (word m (link_at (Link.Head (endpoint_queue e)))) m e

abbrev banned_in : List ℕ → ℕ → ℕ
banned_in m e = banned_of m e (kind_in m e)

-- What the walk tests of the threads met.
abbrev threads_test : List ℕ → ℕ → List ℕ → Bool
threads_test m e l =
    every (λ t. eqb (thread_at m Field.Place t) (kind_in m e)) l
    && phased Phase.Ahead (endpoint_at m Part.Cursor e) (endpoint_at m Part.End e) (banned_in m e)
    (thread_at m Field.Badge) l

-- The kind, the threads that are all of it, and the marks.
abbrev Kind : List ℕ → ℕ → Type 0
Kind m e = (kind_in m e ≡ 2 + e) ⊎ ((kind_in m e ≡ 66 + e) × (endpoint_at m Part.Cursor e ≡ 0))

abbrev AllOf : List ℕ → ℕ → List ℕ → Type 0
AllOf m e l = (t : ℕ) → Mem t l → thread_at m Field.Place t ≡ kind_in m e

abbrev pub MarksIn : List ℕ → ℕ → List ℕ → Type 0
MarksIn m e l =
    FromTo (endpoint_at m Part.Cursor e) (endpoint_at m Part.End e) (banned_in m e) (thread_at m Field.Badge) l
    (between (endpoint_at m Part.Cursor e) (endpoint_at m Part.End e) l)

module _ (m : List ℕ) (e : ℕ) where
  tells_threads : (l : List ℕ) → Distinct l → Decides (threads_test m e l) (AllOf m e l × MarksIn m e l)
  tells_threads l d =
      tells_and (tells_every _ _ l (λ t k. tells_eqb (thread_at m Field.Place t) (kind_in m e)))
      (tells_marked (endpoint_at m Part.Cursor e) (endpoint_at m Part.End e) (banned_in m e) (thread_at m Field.Badge) l
      d)

  tells_kind :
      Decides
      (waiters_test m e)
      (Kind m e
      × (waiters_from 257 (word m (after_at (endpoint_queue e) 0)) Phase.Ahead m (endpoint_queue e) (kind_in m e)
      (endpoint_at m Part.Cursor e)
      (endpoint_at m Part.End e) (banned_in m e) 0 ≡ true))
  unfolding waiters_test
  tells_kind =
      tells_and (tells_or (tells_eqb _ (2 + e)) (tells_and (tells_eqb _ (66 + e)) (tells_eqb _ 0)))
      tells_itself

  -- The test finds the queue, with its marks.
  pub end_found :
      waiters_test m e ≡ true
      → Chain m (endpoint_queue e) 0 (queue_from m (endpoint_queue e)) 0
      × MarksIn m e (queue_from m (endpoint_queue e))
  end_found h =
      let r = walk_found m (endpoint_queue e) (threads_test m e)
      (sym (waiters_split m (endpoint_queue e) (kind_in m e) (endpoint_at m Part.Cursor e) (endpoint_at m Part.End e)
      (banned_in m e) 257
      (word m (after_at (endpoint_queue e) 0)) Phase.Ahead 0) ∙ (tells_kind.holds h).1) in
      let apart = chain_distinct m (endpoint_queue e) (queue_from m (endpoint_queue e)) r.0 in
      (r.0, ((tells_threads (queue_from m (endpoint_queue e)) apart).holds r.1).1)

-- What the test tells of the state

-- All that wait are senders, or all are receivers and nothing is pending.
abbrev pub AllAlike : State → ℕ → Type 0
AllAlike s e =
    ((t : ℕ) → Mem t (s.endpoints e).waiters → (s.threads t).place ≡ sending e)
    ⊎ (((t : ℕ) → Mem t (s.endpoints e).waiters → (s.threads t).place ≡ receiving e)
    × (pending_of (s.endpoints e).abort ≡ []))

-- No waiting sender under the aborted badge stands outside the marks.
abbrev pub NoneOutside : State → ℕ → Type 0
NoneOutside s e =
    (a : Abort) (t : ℕ) → (s.endpoints e).abort ≡ some a → (s.threads t).place ≡ sending e
    → Mem t (s.endpoints e).waiters → (s.threads t).badge ≡ a.badge → Mem t (pending_of (s.endpoints e).abort)

banned_hit :
    (m : List ℕ) (e : ℕ) → endpoint_at m Part.Aborting e ≡ 1 → kind_in m e ≡ 2 + e
    → banned_in m e ≡ endpoint_at m Part.Aborted e
unfolding banned_of
banned_hit m e a k = rw (eq-eqb (endpoint_at m Part.Aborting e) 1 a, eq-eqb (kind_in m e) (2 + e) k)

banned_miss :
    (m : List ℕ) (e : ℕ) → ((endpoint_at m Part.Aborting e ≡ 1) × (kind_in m e ≡ 2 + e) → ⊥) → banned_in m e ≡ 2 ^ 28
unfolding banned_of
banned_miss m e n = go (decided (tells_eqb (endpoint_at m Part.Aborting e) 1))
    (decided (tells_eqb (kind_in m e) (2 + e)))
  where
    go : (endpoint_at m Part.Aborting e ≡ 1) ⊎ (endpoint_at m Part.Aborting e ≡ 1 → ⊥)
        → (kind_in m e ≡ 2 + e) ⊎ (kind_in m e ≡ 2 + e → ⊥)
        → pick (eqb (endpoint_at m Part.Aborting e) 1 && eqb (kind_in m e) (2 + e)) (endpoint_at m Part.Aborted e)
        (2 ^ 28)
        ≡ 2 ^ 28
    go (inl a) (inl k) = absurd (n (a, k))
    go (inl a) (inr k) = rw (eq-eqb (endpoint_at m Part.Aborting e) 1 a, ne_eqb (kind_in m e) (2 + e) k)
    go (inr a) k = rw (ne_eqb (endpoint_at m Part.Aborting e) 1 a)

kind_first :
    (m : List ℕ) (e code : ℕ) (l : List ℕ) → ((t : ℕ) → Mem t l → (t ≤ 255) × (thread_at m Field.Place t ≡ code))
    → (l ≡ [] → 2 + e ≡ code) → kind_of (first_of l) m e ≡ code
unfolding kind_of
kind_first m e code [] f g = g refl
kind_first m e code (t ∷ l) f g = rw (le-leb t 255 (f t (inl refl)).0) (f t (inl refl)).1

nobody? : (l : List ℕ) → (l ≡ []) ⊎ (l ≡ [] → ⊥)
nobody? [] = inl refl
nobody? (t ∷ l) = inr (λ e. omega (arith, ap first_of e))

module _ (m : List ℕ) (s : State) (R : Reads m s) (e : ℕ) (h : e ≤ 63) where
  abbrev l : List ℕ
  l = (s.endpoints e).waiters

  abbrev pend : List ℕ
  pend = pending_of (s.endpoints e).abort

  small : (t : ℕ) → Mem t l → t ≤ 255
  small = (R.neat.endpoints e).small

  apart : Distinct l
  apart = chain_distinct m (endpoint_queue e) l (end_joined m s R e h)

  pending_there : between (endpoint_at m Part.Cursor e) (endpoint_at m Part.End e) l ≡ pend
  pending_there =
      rw (R.slots (Slot.Endpoint Part.Cursor e) h, R.slots (Slot.Endpoint Part.End e) h)
      (between_back l pend (R.neat.endpoints e).neat.part apart)

  tells_walk : Decides (waiters_test m e) (Kind m e × (AllOf m e l × MarksIn m e l))
  tells_walk =
      tells_map (λ r. (r.0, (tells_threads m e l apart).holds (sym walked ∙ r.1)))
      (λ r. (r.0, walked ∙ (tells_threads m e l apart).back r.1)) (tells_kind m e)
    where
      walked : waiters_from 257 (word m (after_at (endpoint_queue e) 0)) Phase.Ahead m (endpoint_queue e) (kind_in m e)
          (endpoint_at m Part.Cursor e)
          (endpoint_at m Part.End e) (banned_in m e) 0 ≡ threads_test m e l
      walked =
          waiters_split m (endpoint_queue e) (kind_in m e) (endpoint_at m Part.Cursor e) (endpoint_at m Part.End e)
          (banned_in m e) 257
          (word m (after_at (endpoint_queue e) 0)) Phase.Ahead 0
          ∙ walk_along m (endpoint_queue e) l (end_joined m s R e h) small (threads_test m e)

  at_place : (t : ℕ) (q : Place) → t ≤ 255 → (s.threads t).place ≡ q → thread_at m Field.Place t ≡ place_code q
  at_place t q k i = R.slots (Slot.Thread Field.Place t) k ∙ ap place_code i

  sends : AllOf m e l → kind_in m e ≡ 2 + e → (t : ℕ) → Mem t l → (s.threads t).place ≡ sending e
  sends A k t i =
      (tells_seat m s R t (sending e) (small t i) h).holds
      ((tells_eqb (thread_at m Field.Place t) (2 + e)).back (A t i ∙ k))

  receives : AllOf m e l → kind_in m e ≡ 66 + e → (t : ℕ) → Mem t l → (s.threads t).place ≡ receiving e
  receives A k t i =
      (tells_seat m s R t (receiving e) (small t i) h).holds
      ((tells_eqb (thread_at m Field.Place t) (66 + e)).back (A t i ∙ k))

  -- From the test

  alike : Kind m e → AllOf m e l → AllAlike s e
  alike (inl k) A = inl (sends A k)
  alike (inr k) A = inr (receives A k.0, first_zero pend (sym (R.slots (Slot.Endpoint Part.Cursor e) h) ∙ k.1))

  none_outside : Kind m e → AllOf m e l → MarksIn m e l → NoneOutside s e
  none_outside (inr k) A M a t i p u b =
      absurd (omega (arith, sym (ap place_code p) ∙ ap place_code (receives A k.0 t u)))
  none_outside (inl k) A M a t i p u b =
      let banned : banned_in m e ≡ a.badge
      = banned_hit m e (R.slots (Slot.Endpoint Part.Aborting e) h ∙ ap abort_code i) k
      ∙ R.slots (Slot.Endpoint Part.Aborted e) h ∙ ap badge_code i in
      subst (Mem t) pending_there (M.outside t u (R.slots (Slot.Thread Field.Badge t) (small t u) ∙ b ∙ sym banned))

  -- To the test

  kind_of_lem : (code : ℕ) → ((t : ℕ) → Mem t l → thread_at m Field.Place t ≡ code) → (l ≡ [] → 2 + e ≡ code)
      → kind_in m e ≡ code
  kind_of_lem code f g =
      rw (chain_first m (endpoint_queue e) 0 l (end_joined m s R e h))
      (kind_first m e code l (λ t i. (small t i, f t i)) g)

  to_kind : AllAlike s e → Kind m e × AllOf m e l
  to_kind (inl f) =
      let there : (t : ℕ) → Mem t l → thread_at m Field.Place t ≡ 2 + e
      = λ t i. at_place t (sending e) (small t i) (f t i) in
      let k = kind_of_lem (2 + e) there (λ _. refl) in
      (inl k, λ t i. there t i ∙ sym k)
  to_kind (inr f) = go (nobody? l)
    where
      there : (t : ℕ) → Mem t l → thread_at m Field.Place t ≡ 66 + e
      there t i = at_place t (receiving e) (small t i) (f.0 t i)

      go : (l ≡ []) ⊎ (l ≡ [] → ⊥) → Kind m e × AllOf m e l
      go (inl z) = (
        inl (kind_of_lem (2 + e) (λ t i. absurd (subst (Mem t) z i)) (λ _. refl)),
        λ t i. absurd (subst (Mem t) z i),
      )
      go (inr n) =
          let k = kind_of_lem (66 + e) there (λ z. absurd (n z)) in
          (inr (k, R.slots (Slot.Endpoint Part.Cursor e) h ∙ ap first_of f.1), λ t i. there t i ∙ sym k)

  badge_small : Kind m e → AllOf m e l → (t : ℕ) → Mem t l → thread_at m Field.Badge t < 2 ^ 28
  badge_small K A t i =
      let n : (s.threads t).place ≡ absent → ⊥
      = λ z. ⊎_elim (λ k. omega (arith, at_place t absent (small t i) z, A t i))
      (λ k. omega (arith, at_place t absent (small t i) z, A t i, k.0)) K in
      omega (arith, R.slots (Slot.Thread Field.Badge t) (small t i), ((R.neat.threads t).numbers n).badge)

  to_marks : Kind m e → AllOf m e l → NoneOutside s e → MarksIn m e l
  to_marks K A O =
      record {
        first = ap first_of pending_there ∙ sym (R.slots (Slot.Endpoint Part.Cursor e) h);
        last = λ _. ap (last_of 0) pending_there ∙ sym (R.slots (Slot.Endpoint Part.End e) h);
        outside = λ t i b.
            subst (Mem t) (sym pending_there)
            (⊎_elim (λ r. under t i b r (s.endpoints e).abort refl)
            (λ n. absurd (omega (arith, b ∙ banned_miss m e n, badge_small K A t i)))
            (decided (tells_and (tells_eqb (endpoint_at m Part.Aborting e) 1) (tells_eqb (kind_in m e) (2 + e)))));
      }
    where
      under : (t : ℕ) → Mem t l → thread_at m Field.Badge t ≡ banned_in m e
          → (endpoint_at m Part.Aborting e ≡ 1) × (kind_in m e ≡ 2 + e) → (o : Option Abort) → (s.endpoints e).abort ≡ o
          → Mem t pend
      under t i b r none z =
          absurd (omega (arith, sym r.0 ∙ R.slots (Slot.Endpoint Part.Aborting e) h ∙ ap abort_code z))
      under t i b r (some a) z =
          O a t z (sends A r.1 t i) i
          (sym (R.slots (Slot.Thread Field.Badge t) (small t i)) ∙ b ∙ banned_hit m e r.0 r.1
          ∙ R.slots (Slot.Endpoint Part.Aborted e) h ∙ ap badge_code z)

  pub tells_waiters : Decides (waiters_test m e) (AllAlike s e × NoneOutside s e)
  tells_waiters =
      tells_map (λ r. (alike r.0 r.1.0, none_outside r.0 r.1.0 r.1.1))
      (λ r. let k = to_kind r.0 in (k.0, (k.1, to_marks k.0 k.1 r.1))) tells_walk
