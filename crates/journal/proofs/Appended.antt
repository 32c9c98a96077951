-- What stays of a reading where words are appended to the journal, and where words are dropped from its front.
use mathlib.Core.Path.{◌≡◌, refl, sym, ap, subst, ◌∙◌}
use mathlib.Core.Bool.{Bool, true, false}
use mathlib.Core.List.{List, [], ◌∷◌, ◌++◌}
use mathlib.Core.Option.{Option, none, some, none-ne-some}
use Prim.Native.Nat.{ℕ, zero, suc, ◌+◌, ◌≤◌, ◌<◌}
use native.Mathlib.Omega.{arith}
use native.Mathlib.Nat.{add_assoc}
use borrow.Author.Tests.{eqb-true}
use lib.Dec.{eqb}
use lib.ListN.{length, drop}
use lib.Seq.{drop-drop}
use Rattle.calls.specs.declared.Call.{Call}
use Rattle.calls.specs.Calls.{in_range}
use Rattle.machine.specs.Lists.{pick}
use Rattle.journal.specs.declared.types.Read.{Read}
use Rattle.journal.specs.declared.types.Read.TheVariants.{Found, Refused, Ended}
use Rattle.journal.specs.Words.{top_bits, top_byte, call_number, subject, argument, unused, send_of, abort_of, grant_of}
use Rattle.journal.specs.Words.{words_taken, call_of, call_at, judged, read_from, read_at}
use Rattle.journal.proofs.Parts.{byte_of}
use Rattle.journal.proofs.Numbers.{by_number}
use Rattle.journal.proofs.Causes.{caused}
use Rattle.journal.proofs.Causes.Cause.{wrong_word, missing}
use Rattle.journal.proofs.Refusals.{eighteen_first}

-- A call's number asks for these words; nothing behind them names it,
number_appended :
    (s a : ℕ) (rest more : List ℕ) (n : ℕ) → words_taken (16 + n) ≤ suc (length rest) →
    call_of n s a (rest ++ more) ≡ call_of n s a rest
unfolding words_taken call_of
number_appended s a rest more =
    by_number (λ n. words_taken (16 + n) ≤ suc (length rest) → call_of n s a (rest ++ more) ≡ call_of n s a rest)
    (λ h. refl)
    (λ h. refl)
    (λ h. refl)
    (λ h. refl)
    (λ h. refl)
    (λ h. refl)
    (λ h. refl)
    (send rest)
    (λ h. refl)
    (λ h. refl)
    (λ h. refl)
    (λ h. refl)
    (abort rest)
    (grant rest)
    (λ k h. refl)
  where
    send :
        (l : List ℕ) → 3 ≤ suc (length l) → unused a (send_of s (l ++ more)) ≡ unused a (send_of s l)
    send [] h = absurd (omega (arith, h))
    send (u ∷ []) h = absurd (omega (arith, h))
    send (u ∷ v ∷ l) h = refl

    abort : (l : List ℕ) → 2 ≤ suc (length l) → abort_of s a (l ++ more) ≡ abort_of s a l
    abort [] h = absurd (omega (arith, h))
    abort (u ∷ l) h = refl

    grant : (l : List ℕ) → 2 ≤ suc (length l) → grant_of s a (l ++ more) ≡ grant_of s a l
    grant [] h = absurd (omega (arith, h))
    grant (u ∷ l) h = refl

call_appended :
    (w : ℕ) (rest more : List ℕ) → words_taken (top_byte w) ≤ suc (length rest) →
    call_at w (rest ++ more) ≡ call_at w rest
unfolding call_at
call_appended w rest more h = go (eqb (top_bits w) 1) refl
  where
    go :
        (b : Bool) → eqb (top_bits w) 1 ≡ b →
        pick b (call_of (call_number w) (subject w) (argument w) (rest ++ more)) none
        ≡ pick b (call_of (call_number w) (subject w) (argument w) rest) none
    go true t =
        number_appended (subject w) (argument w) rest more (call_number w)
        (subst (λ (top : ℕ). words_taken top ≤ suc (length rest)) (byte_of w (eqb-true (top_bits w) 1 t)) h)
    go false t = refl

-- so a journal whose first word has all the words that it asks for reads as before, whatever is appended.
pub whole_appended :
    (w : ℕ) (rest more : List ℕ) → words_taken (top_byte w) ≤ length (w ∷ rest) →
    read_at (w ∷ rest ++ more) 0 ≡ read_at (w ∷ rest) 0
unfolding read_at read_from
whole_appended w rest more h = ap (judged 0 (0 + words_taken (top_byte w))) (call_appended w rest more h)

-- Where it has fewer, no call is read.
pub words_missing :
    (w : ℕ) (rest : List ℕ) → length (w ∷ rest) < words_taken (top_byte w) → read_at (w ∷ rest) 0 ≡ Refused 18 0
words_missing w rest h = eighteen_first (w ∷ rest) 0 w rest refl (missing h)

-- The next call stands behind the words that the first word asks for, which are not none.
pub record Behind (w next : ℕ) : Type 0 where
  pub taken : next ≡ words_taken (top_byte w)
  pub some_words : 1 ≤ next

pub found_behind :
    (w : ℕ) (rest : List ℕ) (c : Call) (next : ℕ) → read_at (w ∷ rest) 0 ≡ Found c next → Behind w next
unfolding read_at read_from
found_behind w rest c next e = named (call_at w rest) refl e
  where
    n : ℕ
    n = words_taken (top_byte w)

    asked : (k : ℕ) (found : Call) → n ≡ k → call_at w rest ≡ some found → 1 ≤ n
    asked zero found z o = absurd (none-ne-some found (sym (caused w rest (wrong_word z)) ∙ o))
    asked (suc k) found z o = omega (arith, z)

    ranged :
        (b : Bool) (found : Call) → call_at w rest ≡ some found →
        pick b (Found found (0 + n)) (Refused 19 0) ≡ Found c next → Behind w next
    ranged true found o f =
        let z : 0 + n ≡ next = cc in
        record { taken = omega (arith, z); some_words = omega (arith, z, asked n found refl o) }
    ranged false found o f = let z : ◌≡◌ {A = ℕ} 0 1 = cc in absurd (omega arith)

    named : (o : Option Call) → call_at w rest ≡ o → judged 0 (0 + n) o ≡ Found c next → Behind w next
    named none o f = let z : ◌≡◌ {A = ℕ} 0 1 = cc in absurd (omega arith)
    named (some found) o f = ranged (in_range found) found o f

-- A reading whose places are counted from p words further ahead.
abbrev pub moved : ℕ → Read → Read
moved p (Found c next) = Found c (p + next)
moved p (Refused code at) = Refused code (p + at)
moved p Ended = Ended

moved_from : (p at : ℕ) (l : List ℕ) → read_from (p + at) l ≡ moved p (read_from at l)
unfolding read_from
moved_from p at [] = refl
moved_from p at (w ∷ rest) = named (call_at w rest)
  where
    n : ℕ
    n = words_taken (top_byte w)

    ranged :
        (c : Call) (b : Bool) →
        pick b (Found c (p + at + n)) (Refused 19 (p + at)) ≡ moved p (pick b (Found c (at + n)) (Refused 19 at))
    ranged c true = ap (λ (k : ℕ). Found c k) (add_assoc p at n)
    ranged c false = refl

    named : (o : Option Call) → judged (p + at) (p + at + n) o ≡ moved p (judged at (at + n) o)
    named none = refl
    named (some c) = ranged c (in_range c)

-- Without its first p words a journal reads as before, at places that are p less.
pub read_dropped : (journal : List ℕ) (p at : ℕ) → read_at journal (p + at) ≡ moved p (read_at (drop p journal) at)
unfolding read_at
read_dropped journal p at =
    ap (read_from (p + at)) (sym (drop-drop at p journal)) ∙ moved_from p at (drop at (drop p journal))
