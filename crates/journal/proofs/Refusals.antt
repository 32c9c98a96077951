-- What a refusal says, that 18 comes before 19, and when the journal has ended.
use mathlib.Core.Path.{◌≡◌, sym, ap, subst, ◌∙◌}
use mathlib.Core.Bool.{true, false, true≢false}
use mathlib.Core.List.{List, ◌∷◌}
use mathlib.Core.Logic.{◌⊎◌, inl, inr, ◌≢◌}
use mathlib.Core.Option.{some}
use Prim.Native.Nat.{ℕ, ◌^◌, ◌/◌, ◌%◌, ◌≤◌, ◌<◌}
use native.Mathlib.Omega.{arith}
use native.Mathlib.Nat.{add-zero}
use borrow.Author.Tests.{eq-eqb, le-leb, lt-ltb}
use lib.ListN.{length, get_or, take, drop, take-append-drop, drop_of_length-le}
use lib.Seq.{get_or-drop}
use Rattle.calls.specs.declared.Call.{Call}
use Rattle.calls.specs.declared.Call.TheVariants.{Grant}
use Rattle.calls.specs.Calls.{in_range}
use Rattle.journal.specs.declared.types.Read.{Read}
use Rattle.journal.specs.declared.types.Read.TheVariants.{Refused, Ended}
use Rattle.calls.specs.Answers.{plain}
use Rattle.journal.specs.Words.{top_bits, top_byte, call_number, subject, argument, call_of, call_at}
use Rattle.journal.specs.Words.{read_from, read_at, answer_to_read, words_of}
use Rattle.journal.proofs.Naming.{NumbersFit, call_read, Granted, granted, spelled}
use Rattle.journal.proofs.Causes.{Cause, caused, cause_of}
use Rattle.journal.proofs.Outcomes.{Outcome, outcome}
use Rattle.journal.proofs.Outcomes.Outcome.{past_end, no_call, out_of_range, a_call}

-- a refusal at a place: the reader stays there, the number is 18 or 19, and three zeros follow it
pub record RefusedAt (journal : List ℕ) (at code place : ℕ) : Type 0 where
  pub stays : place ≡ at
  pub number : (code ≡ 18) ⊎ (code ≡ 19)
  pub zeros : answer_to_read (read_at journal at) ≡ some (plain code)

-- The reader gives only 18 and 19, and stays at the word where the call began.
pub refused_at :
    (journal : List ℕ) (at code place : ℕ) → read_at journal at ≡ Refused code place → RefusedAt journal at code place
refused_at journal at code place e = go (read_at journal at) (outcome journal at) e
  where
    go : (r : Read) → Outcome journal at r → r ≡ Refused code place → RefusedAt journal at code place
    go r (past_end h) f = let z : ◌≡◌ {A = ℕ} 0 1 = cc in absurd (omega arith)
    go r (no_call w rest l n) f =
        let p : place ≡ at = cc in
        let k : code ≡ 18 = cc in
        record { stays = p; number = inl k; zeros = ap answer_to_read e }
    go r (out_of_range w rest l c n b) f =
        let p : place ≡ at = cc in
        let k : code ≡ 19 = cc in
        record { stays = p; number = inr k; zeros = ap answer_to_read e }
    go r (a_call w rest l c n b) f = let z : ◌≡◌ {A = ℕ} 0 1 = cc in absurd (omega arith)

-- 18 comes before 19: where a cause of 18 holds, the answer is 18, whatever the ranges.
pub eighteen_first :
    (journal : List ℕ) (at w : ℕ) (rest : List ℕ) → drop at journal ≡ w ∷ rest → Cause w rest →
    read_at journal at ≡ Refused 18 at
unfolding read_at read_from
eighteen_first journal at w rest l cause = rw (l, caused w rest cause)

-- It is 18 only there.
pub eighteen_only :
    (journal : List ℕ) (at : ℕ) → read_at journal at ≡ Refused 18 at →
    (w : ℕ) × (rest : List ℕ) × (drop at journal ≡ w ∷ rest) × Cause w rest
eighteen_only journal at e = go (read_at journal at) (outcome journal at) e
  where
    go :
        (r : Read) → Outcome journal at r → r ≡ Refused 18 at →
        (w : ℕ) × (rest : List ℕ) × (drop at journal ≡ w ∷ rest) × Cause w rest
    go r (past_end h) e = let z : ◌≡◌ {A = ℕ} 0 1 = cc in absurd (omega arith)
    go r (no_call w rest l n) e = (w, rest, l, cause_of w rest n)
    go r (out_of_range w rest l c n b) e = let z : ◌≡◌ {A = ℕ} 19 18 = cc in absurd (omega arith)
    go r (a_call w rest l c n b) e = let z : ◌≡◌ {A = ℕ} 0 1 = cc in absurd (omega arith)

-- the words at a place are those of a call that is not in range
pub record OutOfRange (journal : List ℕ) (at : ℕ) (c : Call) : Type 0 where
  pub fits : NumbersFit c
  pub words : take (length (words_of c)) (drop at journal) ≡ words_of c
  pub out : in_range c ≡ false

-- It is 19 where the words are those of a call that is not in range,
pub nineteen :
    (journal : List ℕ) (at : ℕ) (c : Call) → OutOfRange journal at c → read_at journal at ≡ Refused 19 at
unfolding read_at
nineteen journal at c o =
    ap (read_from at) (sym (take-append-drop (length (words_of c)) (drop at journal)))
    ∙ rw (o.words, call_read at c o.fits (drop (length (words_of c)) (drop at journal)), o.out)

-- and only there.
pub nineteen_only :
    (journal : List ℕ) (at : ℕ) → read_at journal at ≡ Refused 19 at → (c : Call) × OutOfRange journal at c
nineteen_only journal at e = go (read_at journal at) (outcome journal at) e
  where
    go : (r : Read) → Outcome journal at r → r ≡ Refused 19 at → (c : Call) × OutOfRange journal at c
    go r (past_end h) e = let z : ◌≡◌ {A = ℕ} 0 1 = cc in absurd (omega arith)
    go r (no_call w rest l n) e = let z : ◌≡◌ {A = ℕ} 18 19 = cc in absurd (omega arith)
    go r (out_of_range w rest l c n b) e =
        let s = spelled w rest c n in (c, record { fits = s.fits; words = rw l s.words; out = b })
    go r (a_call w rest l c n b) e = let z : ◌≡◌ {A = ℕ} 0 1 = cc in absurd (omega arith)

-- Every number of a grant is as wide as its part of the words,
grant_in_range : (s a : ℕ) (rest : List ℕ) (c : Call) → s < 2 ^ 8 → Granted s a rest c → in_range c ≡ true
grant_in_range s a rest c h g = subst (λ (x : Call). in_range x ≡ true) g.is fits
  where
    fits : in_range (Grant s (a % 2 ^ 6) (a / 2 ^ 8 % 2 ^ 4) g.badge) ≡ true
    fits =
        rw (
          le-leb s 255 (omega (arith, h)),
          le-leb (a % 2 ^ 6) 63 (omega arith),
          le-leb (a / 2 ^ 8 % 2 ^ 4) 15 (omega arith),
          lt-ltb g.badge (2 ^ 28) g.word.0,
        )

grant_read : (w : ℕ) (rest : List ℕ) (c : Call) → top_byte w ≡ 0x1D → call_at w rest ≡ some c → in_range c ≡ true
unfolding call_at call_of
grant_read w rest c top e =
    let one : top_bits w ≡ 1 = omega (arith, top) in
    let thirteen : call_number w ≡ 13 = omega (arith, top) in
    let named = rw (eq-eqb (top_bits w) 1 one, thirteen) at e in
    grant_in_range (subject w) (argument w) rest c (omega arith) (granted (subject w) (argument w) rest c named)

-- so no reading that begins with the call word of a grant is refused by 19, in any journal and at any place.
pub never_nineteen :
    (journal : List ℕ) (at place : ℕ) → top_byte (get_or journal at 0) ≡ 0x1D → read_at journal at ≢ Refused 19 place
never_nineteen journal at place top e = go (read_at journal at) (outcome journal at) e
  where
    first : (w : ℕ) (rest : List ℕ) → drop at journal ≡ w ∷ rest → get_or journal at 0 ≡ w
    first w rest l =
        ap (λ (i : ℕ). get_or journal i 0) (sym (add-zero at))
        ∙ sym (get_or-drop at journal 0 0)
        ∙ ap (λ (k : List ℕ). get_or k 0 0) l

    go : (r : Read) → Outcome journal at r → r ≢ Refused 19 place
    go r (past_end h) f = let z : ◌≡◌ {A = ℕ} 0 1 = cc in omega arith
    go r (no_call w rest l n) f = let z : ◌≡◌ {A = ℕ} 18 19 = cc in omega arith
    go r (out_of_range w rest l c n b) f =
        true≢false (sym (grant_read w rest c (sym (ap top_byte (first w rest l)) ∙ top) n) ∙ b)
    go r (a_call w rest l c n b) f = let z : ◌≡◌ {A = ℕ} 0 1 = cc in omega arith

-- At or past the last word the journal has ended,
pub ends : (journal : List ℕ) (at : ℕ) → length journal ≤ at → read_at journal at ≡ Ended
unfolding read_at read_from
ends journal at h = rw (drop_of_length-le journal h)

-- and only there.
pub ends_only : (journal : List ℕ) (at : ℕ) → read_at journal at ≡ Ended → length journal ≤ at
ends_only journal at e = go (read_at journal at) (outcome journal at) e
  where
    go : (r : Read) → Outcome journal at r → r ≡ Ended → length journal ≤ at
    go r (past_end h) e = h
    go r (no_call w rest l n) e = let z : ◌≡◌ {A = ℕ} 0 1 = cc in absurd (omega arith)
    go r (out_of_range w rest l c n b) e = let z : ◌≡◌ {A = ℕ} 0 1 = cc in absurd (omega arith)
    go r (a_call w rest l c n b) e = let z : ◌≡◌ {A = ℕ} 0 1 = cc in absurd (omega arith)
