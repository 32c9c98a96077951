-- The parts of a line, in turn.
use Prim.Native.Nat.{ℕ, zero, suc}
use mathlib.Core.Path.{◌≡◌, refl}
use mathlib.Core.Bool.{Bool, true, false, ◌||◌, not}
use mathlib.Core.List.{List, [], ◌++◌, append_assoc}
use lib.Dec.{eqb}
use Rattle.calls.specs.declared.Answer.{Answer}
use Rattle.calls.specs.declared.Call.{Call}
use Rattle.calls.specs.declared.Call.TheVariants.{Send, Abort, Grant}
use Rattle.calls.specs.Calls.{number_of}
use Rattle.texts.specs.Text.{bytes}
use Rattle.texts.specs.Decimal.{decimal}
use Rattle.wording.specs.Sentence.{request, cause, outcome, detail, asks_count, asks_message, details}
use Rattle.wording.specs.Sentence.{clause, sentence, stop_clause, stop_line}
use Rattle.wording.proofs.Causes.{NoneOf}

-- From each part on, by the call's number.

abbrev pub from_details : ℕ → Answer → List ℕ
from_details call a = details call a ++ bytes ".\n"

abbrev pub from_outcome : ℕ → Answer → List ℕ
from_outcome call a = outcome a.code ++ from_details call a

abbrev pub from_colon : ℕ → Answer → List ℕ
from_colon call a = bytes ": " ++ from_outcome call a

pub sentence_is : (c : Call) (a : Answer) → sentence c a ≡ request c ++ from_colon (number_of c) a
unfolding sentence
sentence_is c a = simp append_assoc

-- The same without the full stop.

-- A line is its clause and a full stop.

-- The outcome of a refusal

-- A code past the three that have no number said.
pub refused_is : (n : ℕ) → NoneOf 0 3 n → outcome n ≡ bytes "refused by " ++ decimal n ++ cause n
unfolding outcome
refused_is zero h = absurd (h.0.0.1 refl)
refused_is (suc zero) h = absurd (h.0.1 refl)
refused_is (suc (suc zero)) h = absurd (h.1 refl)
refused_is (suc (suc (suc n))) h = refl

-- Whether a number is told

module _ (asked : Bool) (name : List ℕ) (n : ℕ) where
  pub detail_said : (asked || not (eqb n 0)) ≡ true → detail asked name n ≡ name ++ decimal n
  unfolding detail
  detail_said e = rw e

  pub detail_left : (asked || not (eqb n 0)) ≡ false → detail asked name n ≡ []
  unfolding detail
  detail_left e = rw e

  -- What holds of the number behind its name, and of nothing, holds whether it is told or not.
  pub detail_cases : (P : List ℕ → Type 0) → P (name ++ decimal n) → P [] → P (detail asked name n)
  detail_cases P said left = go (asked || not (eqb n 0)) refl
    where
      go : (b : Bool) → (asked || not (eqb n 0)) ≡ b → P (detail asked name n)
      go true e = rw (detail_said e) said
      go false e = rw (detail_left e) left

-- The calls of three numbers: a text and a number, and then two.

module _ (e b n : ℕ) where
  pub send_is :
      request (Send e b n)
      ≡ (bytes "Send message " ++ decimal n)
      ++ (bytes " under badge " ++ decimal b ++ bytes " to endpoint " ++ decimal e)
  unfolding request
  send_is = simp append_assoc

  pub abort_is :
      request (Abort e n b)
      ≡ (bytes "Abort badge " ++ decimal b)
      ++ (bytes " at endpoint " ++ decimal e ++ bytes " with allowance " ++ decimal n)
  unfolding request
  abort_is = simp append_assoc

-- The call of four: twice two.
