-- Texts written to a buffer, one behind the other: the room they need, what was written, what is untouched.
use Prim.Native.Nat.{ℕ, ◌+◌, ◌≤◌, ◌<◌}
use mathlib.Core.Path.{◌≡◌, sym, ◌∙◌, ap, subst}
use mathlib.Core.List.{List, [], ◌∷◌, ◌++◌, append_assoc}
use native.Mathlib.Omega.{arith}
use native.Mathlib.Nat.{add-zero, zero-add}
use lib.ListN.{length, take, drop, set, length-append, length-drop, take-append-drop}
use lib.Seq.{length-take-le, take_all, drop-append-le, drop-drop}
use Rattle.texts.specs.Buffer.{Room, pasted, Wrote, Counts}
use Rattle.texts.proofs.Texts.{length_pasted, pasted_then, pasted_nil, set_is}

-- One text

pub wrote_nothing : (m : List ℕ) (at : ℕ) → Wrote m at [] at m
wrote_nothing m at = record { next = sym (add-zero at); bytes = sym (pasted_nil m at) }

pub wrote_byte :
    {m m' : List ℕ} {at d p : ℕ} → at < length m → p ≡ at + 1 → m' ≡ set m at d → Wrote m at (d ∷ []) p m'
wrote_byte {m} {m'} {at} {d} {p} h e g = record { next = e; bytes = g ∙ set_is m at d h }

-- A text copied to the front.
pub copied :
    {m m' text : List ℕ} {r : ℕ} → r ≡ length text
    → m' ≡ take (length text) text ++ drop (length text) m → Wrote m 0 text r m'
unfolding pasted
copied {m} {text = text} e g =
    record {
      next = omega (arith, e);
      bytes =
          rw zero-add (g ∙ ap (λ (t : List ℕ). t ++ drop (length text) m) (take_all (length text) text (omega arith)));
    }

-- A text at the front of a part that was lent of the buffer stands at the part's place of the buffer.

module _ (m : List ℕ) (at k : ℕ) (lent : at + k ≤ length m) where
  -- What stands behind a text in the part, and behind the part.
  behind : (t : ℕ) → t ≤ k → drop t (take k (drop at m)) ++ drop k (drop at m) ≡ drop (at + t) m
  behind t h =
      let long = length-take-le k (drop at m) (omega (arith, lent, length-drop at m)) in
      sym (drop-append-le t (take k (drop at m)) (drop k (drop at m)) (omega (arith, h, long)))
      ∙ ap (drop t) (take-append-drop k (drop at m))
      ∙ drop-drop t at m

-- A text copied over the part that begins at its place and is as long.
pub copied_over :
    (m text m' part : List ℕ) (at k : ℕ) → k ≡ length text → part ≡ text
    → m' ≡ take at m ++ (part ++ drop k (drop at m)) → Wrote m at text (at + length text) m'
unfolding pasted
copied_over m text m' part at k e p g =
    record {
      next = omega arith;
      bytes =
          g
          ∙ ap (λ (l : List ℕ). take at m ++ (l ++ drop k (drop at m))) p
          ∙ ap (λ (j : ℕ). take at m ++ (text ++ drop j (drop at m))) e
          ∙ ap (λ (l : List ℕ). take at m ++ (text ++ l)) (drop-drop (length text) at m)
          ∙ sym (append_assoc (take at m) text (drop (at + length text) m));
    }

-- The length stays, and so do the bytes before the text and behind it.

module _ {m m' text : List ℕ} {at p : ℕ} (room : Room m at text) (w : Wrote m at text p m') where
  pub length_wrote : length m' ≡ length m
  length_wrote = rw w.bytes (length_pasted m at text room.fits)

-- Texts that are the same

pub wrote_is : {m m' text text' : List ℕ} {at p : ℕ} → text ≡ text' → Wrote m at text p m' → Wrote m at text' p m'
wrote_is {m} {m'} {at = at} {p = p} = subst (λ (t : List ℕ). Wrote m at t p m')

-- Two texts in turn

-- Room for two texts is room for the first,
pub front_room : {m : List ℕ} {at : ℕ} (text rest : List ℕ) → Room m at (text ++ rest) → Room m at text
front_room text rest r = record { fits = omega (arith, r.fits, length-append text rest) }

-- and where it was written, for the second.
pub rest_room :
    {m m' : List ℕ} {at p : ℕ} (text rest : List ℕ)
    → Room m at (text ++ rest) → Wrote m at text p m' → Room m' p rest
rest_room text rest r w =
    record {
      fits = omega (arith, r.fits, length-append text rest, w.next, length_wrote (front_room text rest r) w);
    }

pub wrote_then :
    {m m₁ m₂ s t : List ℕ} {at p q : ℕ}
    → Room m at s → Wrote m at s p m₁ → Wrote m₁ p t q m₂ → Wrote m at (s ++ t) q m₂
wrote_then {m} {m₁} {m₂} {s} {t} {at} {p} {q} r v w = record {
  next = rw length-append (omega (arith, v.next, w.next));
  bytes =
      w.bytes ∙ ap (λ (l : List ℕ). pasted l p t) v.bytes ∙ ap (λ (k : ℕ). pasted (pasted m at s) k t) v.next
      ∙ pasted_then m at s r.fits t;
}

-- Two texts written in turn are the two as one.
pub in_turn :
    {m m₁ m₂ text rest : List ℕ} {at p q : ℕ}
    → Room m at (text ++ rest) → Wrote m at text p m₁ → Wrote m₁ p rest q m₂ → Wrote m at (text ++ rest) q m₂
in_turn {text = text} {rest = rest} r v w = wrote_then (front_room text rest r) v w

-- Bytes counted

pub counts : {r : ℕ} {out : List ℕ} → r ≤ length out → Counts r out
counts {r} {out} h = record { within = h; taken = sym (length-take-le r out h) }
