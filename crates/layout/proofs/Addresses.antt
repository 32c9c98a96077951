-- The laws of addresses: each valid name is the name of its address, and each address is that of a valid name.
use Prim.Native.Nat.{ℕ, zero, suc, ◌+◌, ◌*◌, ◌-◌, ◌/◌, ◌%◌, ◌≤◌, ◌<◌}
use mathlib.Core.Path.{◌≡◌, refl, sym, ◌∙◌, ap}
use mathlib.Core.Logic.{◌⊎◌, inl, inr}
use mathlib.Core.Bool.{Bool, true, false}
use mathlib.Core.List.{List}
use native.Mathlib.Omega.{arith}
use lib.Dec.{ltb}
use lib.ListN.{length, set}
use lib.Seq.{get_or-set_same, get_or-set_other}
use borrow.Author.Tests.{lt-ltb, le-ltb, ltb-true, ltb-false}
use Rattle.layout.specs.declared.Field.{Field}
use Rattle.layout.specs.declared.Part.{Part}
use Rattle.layout.specs.declared.Slot.{Slot}
use Rattle.layout.specs.declared.Link.{Link}
use Rattle.layout.specs.Addresses.{table_words}
use Rattle.layout.specs.Addresses.{Name, slot, link, ValidSlot, ValidLink, Valid, column, offset, at, link_at}
use Rattle.layout.specs.Addresses.{address, in_thread, in_queue, in_endpoint, name_of, word}

-- The name of word k of a row.

thread_row : (t k : ℕ) → t ≤ 255 → k < 10 → name_of (10 * t + k) ≡ in_thread t k
unfolding name_of
thread_row t k h g =
    let d : (10 * t + k) / 10 ≡ t = omega arith in
    let r : (10 * t + k) % 10 ≡ k = omega arith in
    rw (lt-ltb (10 * t + k) 2560 (omega arith), d, r)

queue_row : (q k : ℕ) → q ≤ 319 → k < 2 → (i : ℕ) → i ≡ 2560 + 2 * q + k → name_of i ≡ in_queue q k
unfolding name_of
queue_row q k h g i e =
    let d : (i - 2560) / 2 ≡ q = omega arith in
    let r : (i - 2560) % 2 ≡ k = omega arith in
    rw (le-ltb i 2560 (omega arith), lt-ltb i 3200 (omega arith), d, r)

endpoint_row : (e k : ℕ) → e ≤ 63 → k < 5 → name_of (3200 + 5 * e + k) ≡ in_endpoint e k
unfolding name_of
endpoint_row e k h g =
    let i = 3200 + 5 * e + k in
    let d : (i - 3200) / 5 ≡ e = omega arith in
    let r : (i - 3200) % 5 ≡ k = omega arith in
    rw (le-ltb i 2560 (omega arith), le-ltb i 3200 (omega arith), lt-ltb i 3520 (omega arith), d, r)

column_small : (f : Field) → column f < 10
column_small Field.Place = omega arith
column_small Field.Priority = omega arith
column_small Field.Ticks = omega arith
column_small Field.Outcome = omega arith
column_small Field.Badge = omega arith
column_small Field.Message = omega arith
column_small Field.Owes = omega arith
column_small Field.Note = omega arith

offset_small : (p : Part) → offset p < 5
offset_small Part.Status = omega arith
offset_small Part.Aborting = omega arith
offset_small Part.Aborted = omega arith
offset_small Part.Cursor = omega arith
offset_small Part.End = omega arith

field_name : (f : Field) (t : ℕ) → in_thread t (column f) ≡ slot (Slot.Thread f t)
unfolding in_thread
field_name Field.Place t = refl
field_name Field.Priority t = refl
field_name Field.Ticks t = refl
field_name Field.Outcome t = refl
field_name Field.Badge t = refl
field_name Field.Message t = refl
field_name Field.Owes t = refl
field_name Field.Note t = refl

part_name : (p : Part) (e : ℕ) → in_endpoint e (offset p) ≡ slot (Slot.Endpoint p e)
unfolding in_endpoint
part_name Part.Status e = refl
part_name Part.Aborting e = refl
part_name Part.Aborted e = refl
part_name Part.Cursor e = refl
part_name Part.End e = refl

-- An address from 3520 on has the name that its range says.
module _ (i : ℕ) where
  line_name_lem : 3520 ≤ i → i < 3552 → name_of i ≡ slot (Slot.Line (i - 3520))
  unfolding name_of
  line_name_lem h g =
      rw (le-ltb i 2560 (omega arith), le-ltb i 3200 (omega arith), le-ltb i 3520 h, lt-ltb i 3552 g)

  summary_name : 3552 ≤ i → i < 3560 → name_of i ≡ slot (Slot.Summary (i - 3552))
  unfolding name_of
  summary_name h g =
      rw (
        le-ltb i 2560 (omega arith),
        le-ltb i 3200 (omega arith),
        le-ltb i 3520 (omega arith),
        le-ltb i 3552 h,
        lt-ltb i 3560 g,
      )

  unused_name : 3562 ≤ i → name_of i ≡ slot (Slot.Unused (i - 3562))
  unfolding name_of
  unused_name h =
      rw (
        le-ltb i 2560 (omega arith),
        le-ltb i 3200 (omega arith),
        le-ltb i 3520 (omega arith),
        le-ltb i 3552 (omega arith),
        le-ltb i 3560 (omega arith),
        le-ltb i 3561 (omega arith),
        le-ltb i 3562 h,
      )

name_at : (a : Slot) → ValidSlot a → name_of (at a) ≡ slot a
unfolding at
name_at (Slot.Thread f t) h = thread_row t (column f) h (column_small f) ∙ field_name f t
name_at (Slot.Endpoint p e) h = endpoint_row e (offset p) h (offset_small p) ∙ part_name p e
name_at (Slot.Line l) h =
    line_name_lem (3520 + l) (omega arith) (omega arith)
    ∙ ap (λ (k : ℕ). slot (Slot.Line k)) (let e : 3520 + l - 3520 ≡ l = omega arith in e)
name_at (Slot.Summary w) h =
    summary_name (3552 + w) (omega arith) (omega arith)
    ∙ ap (λ (k : ℕ). slot (Slot.Summary k)) (let e : 3552 + w - 3552 ≡ w = omega arith in e)
name_at Slot.Top h = unfold name_of in refl
name_at Slot.Running h = unfold name_of in refl
name_at (Slot.Unused i) h =
    unused_name (3562 + i) (omega arith)
    ∙ ap (λ (k : ℕ). slot (Slot.Unused k)) (let e : 3562 + i - 3562 ≡ i = omega arith in e)

name_link_at : (k : Link) → ValidLink k → name_of (link_at k) ≡ link k
unfolding link_at in_thread in_queue
name_link_at (Link.Next t) h = thread_row t 6 h (omega arith)
name_link_at (Link.Prev t) h = thread_row t 7 h (omega arith)
name_link_at (Link.Head q) h = queue_row q 0 h (omega arith) (2560 + 2 * q) (omega arith)
name_link_at (Link.Tail q) h = queue_row q 1 h (omega arith) (2561 + 2 * q) (omega arith)

-- The place in its row names a word of a thread, and of an endpoint.
pub same_field : (f g : Field) (t : ℕ) → column f ≡ column g → Slot.Thread f t ≡ Slot.Thread g t
same_field f g t e =
    let k : slot (Slot.Thread f t) ≡ slot (Slot.Thread g t) =
    sym (field_name f t) ∙ ap (in_thread t) e ∙ field_name g t in cc

pub same_part : (p q : Part) (e : ℕ) → offset p ≡ offset q → Slot.Endpoint p e ≡ Slot.Endpoint q e
same_part p q e k =
    let j : slot (Slot.Endpoint p e) ≡ slot (Slot.Endpoint q e) =
    sym (part_name p e) ∙ ap (in_endpoint e) k ∙ part_name q e in cc

-- Each valid name is the name of its address: two valid names have the same address only if they are the same.
pub name_address : (a : Name) → Valid a → name_of (address a) ≡ a
name_address (slot a) h = name_at a h
name_address (link k) h = name_link_at k h

pub address_injective : (a b : Name) → Valid a → Valid b → address a ≡ address b → a ≡ b
address_injective a b h g e = sym (name_address a h) ∙ ap name_of e ∙ name_address b g

pub at_small : (a : Slot) → ValidSlot a → at a < table_words
unfolding at
at_small (Slot.Thread f t) h = omega (arith, column_small f)
at_small (Slot.Endpoint p e) h = omega (arith, offset_small p)
at_small (Slot.Line l) h = omega arith
at_small (Slot.Summary w) h = omega arith
at_small Slot.Top h = omega arith
at_small Slot.Running h = omega arith
at_small (Slot.Unused i) h = omega arith

pub link_at_small : (k : Link) → ValidLink k → link_at k < table_words
unfolding link_at
link_at_small (Link.Next t) h = omega arith
link_at_small (Link.Prev t) h = omega arith
link_at_small (Link.Head q) h = omega arith
link_at_small (Link.Tail q) h = omega arith

pub address_small : (a : Name) → Valid a → address a < table_words
address_small (slot a) h = at_small a h
address_small (link k) h = link_at_small k h

-- Each address is that of a valid name.
pub record HasName (i : ℕ) : Type 0 where
  pub name : Name
  pub valid : Valid name
  pub here : address name ≡ i

-- The valid name of word k of thread t, of queue q and of endpoint e.
in_thread_lem : (t k i : ℕ) → t ≤ 255 → k < 10 → 10 * t + k ≡ i → HasName i
unfolding at link_at
in_thread_lem t zero i h g e = record { name = slot (Slot.Thread Field.Place t); valid = h; here = e }
in_thread_lem t (suc zero) i h g e = record { name = slot (Slot.Thread Field.Priority t); valid = h; here = e }
in_thread_lem t (suc (suc zero)) i h g e = record { name = slot (Slot.Thread Field.Ticks t); valid = h; here = e }
in_thread_lem t (suc (suc (suc zero))) i h g e =
    record { name = slot (Slot.Thread Field.Outcome t); valid = h; here = e }
in_thread_lem t (suc (suc (suc (suc zero)))) i h g e =
    record { name = slot (Slot.Thread Field.Badge t); valid = h; here = e }
in_thread_lem t (suc (suc (suc (suc (suc zero))))) i h g e =
    record { name = slot (Slot.Thread Field.Message t); valid = h; here = e }
in_thread_lem t (suc (suc (suc (suc (suc (suc zero)))))) i h g e =
    record { name = link (Link.Next t); valid = h; here = e }
in_thread_lem t (suc (suc (suc (suc (suc (suc (suc zero))))))) i h g e =
    record { name = link (Link.Prev t); valid = h; here = e }
in_thread_lem t (suc (suc (suc (suc (suc (suc (suc (suc zero)))))))) i h g e =
    record { name = slot (Slot.Thread Field.Owes t); valid = h; here = e }
in_thread_lem t (suc (suc (suc (suc (suc (suc (suc (suc (suc zero))))))))) i h g e =
    record { name = slot (Slot.Thread Field.Note t); valid = h; here = e }
in_thread_lem t (suc (suc (suc (suc (suc (suc (suc (suc (suc (suc k)))))))))) i h g e = absurd (omega arith)

in_queue_lem : (q k i : ℕ) → q ≤ 319 → k < 2 → 2560 + 2 * q + k ≡ i → HasName i
unfolding link_at
in_queue_lem q zero i h g e = record { name = link (Link.Head q); valid = h; here = omega arith }
in_queue_lem q (suc zero) i h g e = record { name = link (Link.Tail q); valid = h; here = omega arith }
in_queue_lem q (suc (suc k)) i h g e = absurd (omega arith)

in_endpoint_lem : (n k i : ℕ) → n ≤ 63 → k < 5 → 3200 + 5 * n + k ≡ i → HasName i
unfolding at
in_endpoint_lem n zero i h g e = record { name = slot (Slot.Endpoint Part.Status n); valid = h; here = e }
in_endpoint_lem n (suc zero) i h g e = record { name = slot (Slot.Endpoint Part.Aborting n); valid = h; here = e }
in_endpoint_lem n (suc (suc zero)) i h g e = record { name = slot (Slot.Endpoint Part.Aborted n); valid = h; here = e }
in_endpoint_lem n (suc (suc (suc zero))) i h g e =
    record { name = slot (Slot.Endpoint Part.Cursor n); valid = h; here = e }
in_endpoint_lem n (suc (suc (suc (suc zero)))) i h g e =
    record { name = slot (Slot.Endpoint Part.End n); valid = h; here = e }
in_endpoint_lem n (suc (suc (suc (suc (suc k))))) i h g e = absurd (omega arith)

-- Whether a number is below a bound.
pub below? : (i n : ℕ) → (i < n) ⊎ (n ≤ i)
below? i n = go (ltb i n) refl
  where
    go : (b : Bool) → ltb i n ≡ b → (i < n) ⊎ (n ≤ i)
    go true e = inl (ltb-true i n e)
    go false e = inr (ltb-false i n e)

module _ (i : ℕ) (small : i < table_words) where
  from_marks : 3560 ≤ i → HasName i
  unfolding at
  from_marks h = go (below? i 3561) (below? i 3562)
    where
      go : (i < 3561) ⊎ (3561 ≤ i) → (i < 3562) ⊎ (3562 ≤ i) → HasName i
      go (inl g) k = record { name = slot Slot.Top; valid = tt; here = omega arith }
      go (inr g) (inl k) = record { name = slot Slot.Running; valid = tt; here = omega arith }
      go (inr g) (inr k) = record { name = slot (Slot.Unused (i - 3562)); valid = omega arith; here = omega arith }

  from_lines : 3520 ≤ i → HasName i
  unfolding at
  from_lines h = go (below? i 3552) (below? i 3560)
    where
      go : (i < 3552) ⊎ (3552 ≤ i) → (i < 3560) ⊎ (3560 ≤ i) → HasName i
      go (inl g) k = record { name = slot (Slot.Line (i - 3520)); valid = omega arith; here = omega arith }
      go (inr g) (inl k) = record { name = slot (Slot.Summary (i - 3552)); valid = omega arith; here = omega arith }
      go (inr g) (inr k) = from_marks k

  pub named : HasName i
  named = go (below? i 2560) (below? i 3200) (below? i 3520)
    where
      go : (i < 2560) ⊎ (2560 ≤ i) → (i < 3200) ⊎ (3200 ≤ i) → (i < 3520) ⊎ (3520 ≤ i) → HasName i
      go (inl g) k l = in_thread_lem (i / 10) (i % 10) i (omega arith) (omega arith) (omega arith)
      go (inr g) (inl k) l =
          in_queue_lem ((i - 2560) / 2) ((i - 2560) % 2) i (omega arith) (omega arith) (omega arith)
      go (inr g) (inr k) (inl l) =
          in_endpoint_lem ((i - 3200) / 5) ((i - 3200) % 5) i (omega arith) (omega arith) (omega arith)
      go (inr g) (inr k) (inr l) = from_lines l

-- A word after a store.

pub word_set_same : (m : List ℕ) (i v : ℕ) → i < length m → word (set m i v) i ≡ v
unfolding word
word_set_same m i v h = get_or-set_same m i v 0 h

pub word_set_other : (m : List ℕ) (i j v : ℕ) → (j ≡ i → ⊥) → word (set m i v) j ≡ word m j
unfolding word
word_set_other m i j v h = get_or-set_other m i j v 0 h
