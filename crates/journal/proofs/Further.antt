-- A call that is read moves on, and all its words are in the journal.
use Prim.Native.Nat.{ℕ, zero, suc, ◌+◌, ◌≤◌, ◌<◌}
use mathlib.Core.Path.{◌≡◌, refl, sym, ap, ◌∙◌}
use mathlib.Core.Bool.{Bool, true, false}
use mathlib.Core.List.{List, ◌∷◌}
use mathlib.Core.Option.{some, none-ne-some}
use native.Mathlib.Omega.{arith}
use borrow.Author.Tests.{leb-true, leb-false}
use lib.Dec.{leb}
use lib.ListN.{length, length-drop}
use Rattle.calls.specs.declared.Call.{Call}
use Rattle.journal.specs.declared.types.Read.{Read}
use Rattle.journal.specs.declared.types.Read.TheVariants.{Found}
use Rattle.journal.specs.Words.{top_byte, words_taken, call_at, read_at}
use Rattle.journal.proofs.Causes.{Cause, caused}
use Rattle.journal.proofs.Causes.Cause.{wrong_word, missing}
use Rattle.journal.proofs.Outcomes.{Outcome, outcome}
use Rattle.journal.proofs.Outcomes.Outcome.{past_end, no_call, out_of_range, a_call}

-- The next word stands behind this one, or the journal ends there.
pub record Further (journal : List ℕ) (at next : ℕ) : Type 0 where
  pub more : at < next
  pub within : next ≤ length journal

module _ (w : ℕ) (rest : List ℕ) (c : Call) (named : call_at w rest ≡ some c) where
  -- No cause of 18 holds of words that name a call,
  no_cause : {A : Type 0} → Cause w rest → A
  no_cause x = absurd (none-ne-some c (sym (caused w rest x) ∙ named))

  -- so the first word asks for one at least,
  some_words : 1 ≤ words_taken (top_byte w)
  some_words = go (words_taken (top_byte w)) refl
    where
      go : (n : ℕ) → words_taken (top_byte w) ≡ n → 1 ≤ n
      go zero e = no_cause (wrong_word e)
      go (suc n) e = omega arith

  -- and all that it asks for are there.
  all_there : words_taken (top_byte w) ≤ length (w ∷ rest)
  all_there = go (leb (words_taken (top_byte w)) (length (w ∷ rest))) refl
    where
      go : (b : Bool) → leb (words_taken (top_byte w)) (length (w ∷ rest)) ≡ b
          → words_taken (top_byte w) ≤ length (w ∷ rest)
      go true e = leb-true (words_taken (top_byte w)) (length (w ∷ rest)) e
      go false e = no_cause (missing (leb-false (words_taken (top_byte w)) (length (w ∷ rest)) e))

pub further :
    (journal : List ℕ) (at : ℕ) (c : Call) (next : ℕ) → read_at journal at ≡ Found c next → Further journal at next
further journal at c next e = go (read_at journal at) (outcome journal at) e
  where
    go : (r : Read) → Outcome journal at r → r ≡ Found c next → Further journal at next
    go r (past_end h) f = let z : ◌≡◌ {A = ℕ} 0 1 = cc in absurd (omega arith)
    go r (no_call w rest l n) f = let z : ◌≡◌ {A = ℕ} 0 1 = cc in absurd (omega arith)
    go r (out_of_range w rest l d n b) f = let z : ◌≡◌ {A = ℕ} 0 1 = cc in absurd (omega arith)
    go r (a_call w rest l d n b) f =
        let z : at + words_taken (top_byte w) ≡ next = cc in
        let k = sym (length-drop at journal) ∙ ap length l in
        record {
          more = omega (arith, z, some_words w rest d n);
          within = omega (arith, z, some_words w rest d n, all_there w rest d n, k);
        }
