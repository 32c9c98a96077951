-- A thread's block: where its test passes its words are those of the thread read off them; and what is left of the test
-- once they are a neat thread's: the line that it waits on, and the abort that it works on.
use Prim.Native.Nat.{ℕ, zero, suc, ◌+◌, ◌-◌, ◌^◌, ◌≤◌, ◌<◌}
use mathlib.Core.Path.{◌≡◌, refl, sym, ◌∙◌, ap, subst, fun_ext}
use mathlib.Core.Logic.{◌⊎◌, inl, inr, ⊎_elim}
use mathlib.Core.Bool.{true}
use mathlib.Core.List.{List}
use native.Mathlib.Omega.{arith}
use Rattle.machine.specs.State.{State, Thread, Place, absent, able, sending, receiving, waiting, Debt, nothing, works}
use Rattle.machine.specs.State.{noted, awaited, absent_thread}
use Rattle.machine.specs.Endpoints.{is_aborting}
use Rattle.machine.specs.Sound.{Stores}
use Rattle.machine.proofs.Lists.{Same, same, other, same?}
use Rattle.layout.specs.declared.Field.{Field}
use Rattle.layout.specs.declared.Part.{Part}
use Rattle.layout.specs.declared.Slot.{Slot}
use Rattle.layout.specs.Addresses.{at, word}
use Rattle.layout.specs.Words.{place_code, debt_code, note_code, line_code, abort_code, thread_word}
use Rattle.layout.specs.Decode.{place_of, thread_from}
use Rattle.layout.proofs.Addresses.{below?}
use Rattle.layout.proofs.RoundTrip.{PlaceSmall, place_back, DebtSmall}
use Rattle.layout.proofs.Blocks.{NeatThread, absent_neat, thread_back, debt_in_range}
use Rattle.layout.proofs.Neat.{seat_small}
use Rattle.layout.proofs.Tests.{Decides, tells_map, tells_and, tells_or, tells_eqb, tells_leb}
use Rattle.layout.proofs.Tests.{tells_awaited, tells_stands}
use Rattle.soundness.specs.Checks.{thread_at, endpoint_at, absent_test, numbers_test, stored_test, waits_test}
use Rattle.soundness.specs.Checks.{owes_test}
use Rattle.soundness.specs.Checks.{present_test, block_test}
use Rattle.soundness.proofs.Tests.{tells_ltb, tells_pick, decided}
use Rattle.soundness.proofs.Reading.{Reads}

-- What the tests say of a thread's words.

abbrev Zeros : (Field → ℕ) → Type 0
Zeros w =
    ((((((w Field.Priority ≡ 0) × (w Field.Ticks ≡ 0)) × (w Field.Outcome ≡ 0)) × (w Field.Badge ≡ 0))
    × (w Field.Message ≡ 0)) × (w Field.Owes ≡ 0)) × (w Field.Note ≡ 0)

abbrev Counted : (Field → ℕ) → Type 0
Counted w =
    (((((w Field.Place ≤ 161) × (w Field.Priority ≤ 255)) × ((1 ≤ w Field.Ticks) × (w Field.Ticks ≤ 5)))
    × (w Field.Outcome ≤ 5)) × (w Field.Badge < 2 ^ 28)) × (w Field.Message < 2 ^ 28)

abbrev Kept : (Field → ℕ) → Type 0
Kept w =
    ((w Field.Place ≡ 1) ⊎ (w Field.Outcome ≡ 0))
    × (((w Field.Outcome ≡ 2) ⊎ ((2 ≤ w Field.Place) × (w Field.Place < 66)))
    ⊎ ((w Field.Badge ≡ 0) × (w Field.Message ≡ 0)))

abbrev OnLine : List ℕ → ℕ → ℕ → Type 0
OnLine m t w = (w < 130) ⊎ (word m (at (Slot.Line (w - 130))) ≡ suc (suc t))

abbrev Owing : List ℕ → ℕ → ℕ → ℕ → Type 0
Owing m t n zero = n ≡ 0
Owing m t n (suc w) =
    (w < 64 → (n ≡ 0) × (endpoint_at m Part.Aborting w ≡ 1)) × ((w < 64 → ⊥) → (w < 128) × (n < 2 ^ 28))

module _ (m : List ℕ) (t : ℕ) where
  tells_absent : Decides (absent_test m t) (Zeros (λ f. thread_at m f t))
  unfolding absent_test
  tells_absent =
      tells_and (tells_and (tells_and (tells_and (tells_and (tells_and (tells_eqb _ 0) (tells_eqb _ 0)) (tells_eqb _ 0))
      (tells_eqb _ 0)) (tells_eqb _ 0)) (tells_eqb _ 0)) (tells_eqb _ 0)

  tells_numbers : Decides (numbers_test m t) (Counted (λ f. thread_at m f t))
  unfolding numbers_test
  tells_numbers =
      tells_and (tells_and (tells_and (tells_and (tells_and (tells_leb _ 161) (tells_leb _ 255))
      (tells_and (tells_leb 1 _) (tells_leb _ 5))) (tells_leb _ 5)) (tells_ltb _ (2 ^ 28))) (tells_ltb _ (2 ^ 28))

  tells_stored : Decides (stored_test m t) (Kept (λ f. thread_at m f t))
  unfolding stored_test
  tells_stored =
      tells_and (tells_or (tells_eqb _ 1) (tells_eqb _ 0))
      (tells_or (tells_or (tells_eqb _ 2) (tells_and (tells_leb 2 _) (tells_ltb _ 66)))
      (tells_and (tells_eqb _ 0) (tells_eqb _ 0)))

  tells_waits : Decides (waits_test m t) (OnLine m t (thread_at m Field.Place t))
  unfolding waits_test
  tells_waits = tells_or (tells_ltb _ 130) (tells_eqb _ (suc (suc t)))

  tells_owes : (w : ℕ) → Decides (owes_test w m t) (Owing m t (thread_at m Field.Note t) w)
  unfolding owes_test
  tells_owes zero = tells_eqb _ 0
  tells_owes (suc w) =
      tells_pick (tells_ltb w 64) (tells_and (tells_eqb _ 0) (tells_eqb _ 1))
      (tells_and (tells_ltb w 128) (tells_ltb _ (2 ^ 28)))

  tells_words :
      Decides (block_test m t)
      ((thread_at m Field.Place t ≡ 0 → Zeros (λ f. thread_at m f t))
      × ((thread_at m Field.Place t ≡ 0 → ⊥)
      → ((Counted (λ f. thread_at m f t) × Kept (λ f. thread_at m f t)) × OnLine m t (thread_at m Field.Place t))
      × Owing m t (thread_at m Field.Note t) (thread_at m Field.Owes t)))
  unfolding block_test present_test
  tells_words =
      tells_pick (tells_eqb _ 0) tells_absent
      (tells_and (tells_and (tells_and tells_numbers tells_stored) tells_waits) (tells_owes (thread_at m Field.Owes t)))

-- Each code in range is that of a place, and of a debt with its note.

same_place : (p q : Place) → PlaceSmall p → PlaceSmall q → place_code p ≡ place_code q → p ≡ q
same_place p q h g e = sym (place_back p h) ∙ ap place_of e ∙ place_back q g

place_coded : (w : ℕ) → w ≤ 161 → (p : Place) × PlaceSmall p × (place_code p ≡ w)
place_coded zero h = (absent, tt, refl)
place_coded (suc zero) h = (able, tt, refl)
place_coded (suc (suc n)) h = go (below? n 64) (below? n 128)
  where
    go : (n < 64) ⊎ (64 ≤ n) → (n < 128) ⊎ (128 ≤ n) → (p : Place) × PlaceSmall p × (place_code p ≡ suc (suc n))
    go (inl g) k = (sending n, omega arith, omega arith)
    go (inr g) (inl k) = (receiving (n - 64), omega arith, omega arith)
    go (inr g) (inr k) = (waiting (n - 128), omega arith, omega arith)

debt_coded :
    (m : List ℕ) (t n w : ℕ) → Owing m t n w → (d : Debt) × DebtSmall d × (debt_code d ≡ w) × (note_code d ≡ n)
debt_coded m t n zero h = (nothing, tt, refl, sym h)
debt_coded m t n (suc w) h = go (below? w 64)
  where
    go : (w < 64) ⊎ (64 ≤ w) → (d : Debt) × DebtSmall d × (debt_code d ≡ suc w) × (note_code d ≡ n)
    go (inl g) = (works w, omega arith, omega arith, sym (h.0 g).0)
    go (inr g) =
        let k = h.1 (λ z. omega arith) in
        (noted (w - 64) n, (omega (arith, k.0), k.1), omega arith, refl)

-- Who stores a badge and message, by the code of the place.

stores_sender : (p : Place) (o : ℕ) → PlaceSmall p → 2 ≤ place_code p → place_code p < 66 → Stores p o
stores_sender absent o s h g = absurd (omega arith)
stores_sender able o s h g = absurd (omega arith)
stores_sender (sending e) o s h g = tt
stores_sender (receiving e) o s h g = absurd (omega arith)
stores_sender (waiting l) o s h g = absurd (omega arith)

stores_code : (p : Place) (o : ℕ) → PlaceSmall p → Stores p o → (o ≡ 2) ⊎ ((2 ≤ place_code p) × (place_code p < 66))
stores_code absent o s h = absurd h
stores_code able o s h = inl h
stores_code (sending e) o s h = inr (omega arith)
stores_code (receiving e) o s h = absurd h
stores_code (waiting l) o s h = absurd h

-- From the tests to the thread

-- A thread's words, read and written again, are the same.
abbrev SameWords : (Field → ℕ) → Type 0
SameWords w = (f : Field) → thread_word (thread_from w) f ≡ w f

same_words :
    (t : ℕ) (x : Thread) (w : Field → ℕ) → NeatThread t x → ((f : Field) → thread_word x f ≡ w f) → SameWords w
same_words t x w X e f =
    ap (λ (v : Thread). thread_word v f) (ap thread_from (sym (fun_ext e)) ∙ thread_back t x X) ∙ e f

absent_words : (t : ℕ) (w : Field → ℕ) → w Field.Place ≡ 0 → Zeros w → SameWords w
absent_words t w e z = same_words t absent_thread w (absent_neat t) go
  where
    go : (f : Field) → thread_word absent_thread f ≡ w f
    go Field.Place = sym e
    go Field.Priority = omega arith
    go Field.Ticks = omega arith
    go Field.Outcome = omega arith
    go Field.Badge = omega arith
    go Field.Message = omega arith
    go Field.Owes = omega arith
    go Field.Note = omega arith

module _
    (t : ℕ) (h : t ≤ 255) (w : Field → ℕ) (c : Counted w) (k : Kept w)
    (p : Place) (ps : PlaceSmall p) (pe : place_code p ≡ w Field.Place) (n : w Field.Place ≡ 0 → ⊥)
    (d : Debt) (ds : DebtSmall d) (de : debt_code d ≡ w Field.Owes) (ne : note_code d ≡ w Field.Note)
  where
    abbrev present : Thread
    present =
        record {
          place = p;
          priority = w Field.Priority;
          ticks = w Field.Ticks;
          outcome = w Field.Outcome;
          badge = w Field.Badge;
          message = w Field.Message;
          debt = d;
        }

    kept_outcome : (p ≡ able → ⊥) → w Field.Outcome ≡ 0
    kept_outcome a = ⊎_elim (λ e. absurd (a (same_place p able ps tt (pe ∙ e)))) (λ e. e) k.0

    kept_store : (Stores p (w Field.Outcome) → ⊥) → (w Field.Badge ≡ 0) × (w Field.Message ≡ 0)
    kept_store a = ⊎_elim (λ r. absurd (a (⊎_elim two between r))) (λ e. e) k.1
      where
        two : w Field.Outcome ≡ 2 → Stores p (w Field.Outcome)
        two o =
            ⊎_elim (λ e. subst (λ (q : Place). Stores q (w Field.Outcome)) (sym (same_place p able ps tt (pe ∙ e))) o)
            (λ e. absurd (omega arith)) k.0

        between : (2 ≤ w Field.Place) × (w Field.Place < 66) → Stores p (w Field.Outcome)
        between r = stores_sender p (w Field.Outcome) ps (omega arith) (omega arith)

    present_neat : NeatThread t present
    present_neat =
        record {
          place_small = ps;
          debt_small = ds;
          numbers = λ _.
              record {
                thread = h;
                priority = c.0.0.0.0.1;
                ticks_least = c.0.0.0.1.0;
                ticks_most = c.0.0.0.1.1;
                outcome = c.0.0.1;
                badge = c.0.1;
                message = c.1;
                debt = debt_in_range d ds;
              };
          unused = λ e. absurd (n (sym pe ∙ ap place_code e));
          blocked = kept_outcome;
          stored = kept_store;
        }

    present_words : SameWords w
    present_words = same_words t present w present_neat go
      where
        go : (f : Field) → thread_word present f ≡ w f
        go Field.Place = pe
        go Field.Priority = refl
        go Field.Ticks = refl
        go Field.Outcome = refl
        go Field.Badge = refl
        go Field.Message = refl
        go Field.Owes = de
        go Field.Note = ne

-- Where the test passes, the words are those of the thread read off them.
pub block_words : (m : List ℕ) (t : ℕ) → t ≤ 255 → block_test m t ≡ true → SameWords (λ f. thread_at m f t)
block_words m t h e = go (same? (thread_at m Field.Place t) 0) ((tells_words m t).holds e)
  where
    w : Field → ℕ
    w f = thread_at m f t

    go : Same (w Field.Place) 0
        → ((w Field.Place ≡ 0 → Zeros w)
        × ((w Field.Place ≡ 0 → ⊥) → ((Counted w × Kept w) × OnLine m t (w Field.Place))
        × Owing m t (w Field.Note) (w Field.Owes)))
        → SameWords w
    go (same i _) r = absent_words t w i (r.0 i)
    go (other n _) r =
        let f = r.1 n in
        let p = place_coded (w Field.Place) f.0.0.0.0.0.0.0.0 in
        let d = debt_coded m t (w Field.Note) (w Field.Owes) f.1 in
        present_words t h w f.0.0.0 f.0.0.1 p.0 p.1 p.2 n d.0 d.1 d.2 d.3

-- What is left of the test

-- The line that a thread waits on names it; the abort that it works on stands.
abbrev pub NamesWaiter : State → ℕ → Type 0
NamesWaiter s t = (l : ℕ) → (s.threads t).place ≡ waiting l → s.lines l ≡ awaited t

abbrev pub WorkStands : State → ℕ → Type 0
WorkStands s t = (e : ℕ) → (s.threads t).debt ≡ works e → is_aborting (s.endpoints e).abort ≡ true

code_small : (p : Place) → PlaceSmall p → place_code p ≤ 161
code_small absent h = omega arith
code_small able h = omega arith
code_small (sending e) h = omega arith
code_small (receiving e) h = omega arith
code_small (waiting l) h = omega arith

module _ (m : List ℕ) (s : State) (R : Reads m s) (t : ℕ) (h : t ≤ 255) where
  X : NeatThread t (s.threads t)
  X = R.neat.threads t

  here : (f : Field) → thread_at m f t ≡ thread_word (s.threads t) f
  here f = R.slots (Slot.Thread f t) h

  is_absent_lem : thread_at m Field.Place t ≡ 0 → (s.threads t).place ≡ absent
  is_absent_lem e = same_place (s.threads t).place absent X.place_small tt (sym (here Field.Place) ∙ e)

  zero_word : thread_at m Field.Place t ≡ 0 → (f : Field) → thread_at m f t ≡ thread_word absent_thread f
  zero_word e f = here f ∙ ap (λ (x : Thread). thread_word x f) (X.unused (is_absent_lem e))

  has_numbers : (thread_at m Field.Place t ≡ 0 → ⊥) → Counted (λ f. thread_at m f t)
  has_numbers n =
      let N = X.numbers (λ e. n (here Field.Place ∙ ap place_code e)) in (
        (
          (
            (
              (
                subst (λ (v : ℕ). v ≤ 161) (sym (here Field.Place)) (code_small (s.threads t).place X.place_small),
                omega (arith, here Field.Priority, N.priority),
              ),
              (omega (arith, here Field.Ticks, N.ticks_least), omega (arith, here Field.Ticks, N.ticks_most)),
            ),
            omega (arith, here Field.Outcome, N.outcome),
          ),
          omega (arith, here Field.Badge, N.badge),
        ),
        omega (arith, here Field.Message, N.message),
      )

  none_stored :
      ((thread_at m Field.Outcome t ≡ 2) ⊎ ((2 ≤ thread_at m Field.Place t) × (thread_at m Field.Place t < 66)) → ⊥)
      → (thread_at m Field.Badge t ≡ 0) × (thread_at m Field.Message t ≡ 0)
  none_stored n =
      let r = X.stored (λ z. n (⊎_elim (λ e. inl (here Field.Outcome ∙ e))
      (λ r. inr (omega (arith, here Field.Place, r.0), omega (arith, here Field.Place, r.1)))
      (stores_code (s.threads t).place (s.threads t).outcome X.place_small z))) in
      (here Field.Badge ∙ r.0, here Field.Message ∙ r.1)

  has_kept : Kept (λ f. thread_at m f t)
  has_kept = (
    ⊎_elim inl (λ n. inr (here Field.Outcome ∙ X.blocked (λ e. n (here Field.Place ∙ ap place_code e))))
        (decided (tells_eqb (thread_at m Field.Place t) 1)),
    ⊎_elim inl (λ n. inr (none_stored n))
        (decided
        (tells_or (tells_eqb (thread_at m Field.Outcome t) 2)
        (tells_and (tells_leb 2 (thread_at m Field.Place t)) (tells_ltb (thread_at m Field.Place t) 66)))),
  )

  -- The line that the thread waits on.

  waits_of : OnLine m t (thread_at m Field.Place t) → NamesWaiter s t
  waits_of o l e =
      let code : thread_at m Field.Place t ≡ 130 + l = here Field.Place ∙ ap place_code e in
      let back : thread_at m Field.Place t - 130 ≡ l = omega arith in
      ⊎_elim (λ z. absurd (omega arith))
      (λ k. (tells_awaited (s.lines l) t).holds
      ((tells_eqb (line_code (s.lines l)) (suc (suc t))).back
      (sym (R.slots (Slot.Line l) (seat_small s R.neat t e)) ∙ rw back at k)))
      o

  on_line : NamesWaiter s t → (p : Place) → (s.threads t).place ≡ p → PlaceSmall p → OnLine m t (place_code p)
  on_line W absent e g = inl (omega arith)
  on_line W able e g = inl (omega arith)
  on_line W (sending n) e g = inl (omega arith)
  on_line W (receiving n) e g = inl (omega arith)
  on_line W (waiting l) e g =
      let back : 130 + l - 130 ≡ l = omega arith in
      inr (rw back (R.slots (Slot.Line l) g ∙ ap line_code (W l e)))

  -- The abort that it works on.

  owes_of : Owing m t (thread_at m Field.Note t) (thread_at m Field.Owes t) → WorkStands s t
  owes_of o e i =
      let small : e ≤ 63 = subst DebtSmall i X.debt_small in
      let code : thread_at m Field.Owes t ≡ suc e
      = (here Field.Owes ∙ ap debt_code i) ∙ (let z : 1 + e ≡ suc e = omega arith in z) in
      let k = ((subst (Owing m t (thread_at m Field.Note t)) code o).0 (omega arith)).1 in
      (tells_stands (s.endpoints e).abort).holds
      ((tells_eqb (abort_code (s.endpoints e).abort) 1).back
      (sym (R.slots (Slot.Endpoint Part.Aborting e) small) ∙ k))

  owing : WorkStands s t → (d : Debt) → (s.threads t).debt ≡ d → DebtSmall d → Owing m t (note_code d) (debt_code d)
  owing W nothing i g = refl
  owing W (works e) i g =
      let z : 1 + e ≡ suc e = omega arith in
      let code = (tells_eqb (abort_code (s.endpoints e).abort) 1).holds
      ((tells_stands (s.endpoints e).abort).back (W e i)) in
      subst (Owing m t 0) (sym z)
      (λ _. (refl, R.slots (Slot.Endpoint Part.Aborting e) g ∙ code), λ n. absurd (n (omega arith)))
  owing W (noted e b) i g =
      let z : 65 + e ≡ suc (64 + e) = omega arith in
      subst (Owing m t b) (sym z) (λ k. absurd (omega arith), λ _. (omega arith, g.1))

  -- What is left of the test of a neat thread's words.
  pub tells_block : Decides (block_test m t) (NamesWaiter s t × WorkStands s t)
  tells_block = tells_map from to (tells_words m t)
    where
      absent_owes : thread_at m Field.Place t ≡ 0 → WorkStands s t
      absent_owes z e i =
          absurd (omega (arith, sym (zero_word z Field.Owes) ∙ here Field.Owes ∙ ap debt_code i))

      absent_waits : thread_at m Field.Place t ≡ 0 → NamesWaiter s t
      absent_waits z l e = absurd (omega (arith, sym z ∙ here Field.Place ∙ ap place_code e))

      from : (thread_at m Field.Place t ≡ 0 → Zeros (λ f. thread_at m f t))
          × ((thread_at m Field.Place t ≡ 0 → ⊥)
          → ((Counted (λ f. thread_at m f t) × Kept (λ f. thread_at m f t)) × OnLine m t (thread_at m Field.Place t))
          × Owing m t (thread_at m Field.Note t) (thread_at m Field.Owes t))
          → NamesWaiter s t × WorkStands s t
      from r =
          ⊎_elim (λ z. (absent_waits z, absent_owes z)) (λ n. (waits_of (r.1 n).0.1, owes_of (r.1 n).1))
          (decided (tells_eqb (thread_at m Field.Place t) 0))

      to : NamesWaiter s t × WorkStands s t
          → (thread_at m Field.Place t ≡ 0 → Zeros (λ f. thread_at m f t))
          × ((thread_at m Field.Place t ≡ 0 → ⊥)
          → ((Counted (λ f. thread_at m f t) × Kept (λ f. thread_at m f t)) × OnLine m t (thread_at m Field.Place t))
          × Owing m t (thread_at m Field.Note t) (thread_at m Field.Owes t))
      to r = (
        λ z. (
          (
            (
              (
                ((zero_word z Field.Priority, zero_word z Field.Ticks), zero_word z Field.Outcome),
                zero_word z Field.Badge,
              ),
              zero_word z Field.Message,
            ),
            zero_word z Field.Owes,
          ),
          zero_word z Field.Note,
        ),
        λ n. (
          (
            (has_numbers n, has_kept),
            subst (OnLine m t) (sym (here Field.Place)) (on_line r.0 (s.threads t).place refl X.place_small),
          ),
          rw (here Field.Note, here Field.Owes) (owing r.1 (s.threads t).debt refl X.debt_small),
        ),
      )
