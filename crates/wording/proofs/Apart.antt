-- Two different pairs of call and answer never give the same line: both can be read back.
use Prim.Native.Nat.{ℕ, zero, suc}
use mathlib.Core.Path.{◌≡◌, refl, sym, ◌∙◌, ap}
use mathlib.Core.Bool.{Bool, true, false, ◌||◌, not, true≢false}
use mathlib.Core.List.{List, [], ◌∷◌, ◌++◌, append_assoc}
use lib.Dec.{eqb, eqb-suc-zero}
use lib.ListN.{get_or}
use Rattle.calls.specs.declared.Answer.{Answer}
use Rattle.calls.specs.declared.Call.{Call}
use Rattle.calls.specs.Calls.{number_of}
use Rattle.machine.specs.Lists.{pick}
use Rattle.calls.proofs.Answers.{same_answer}
use Rattle.texts.specs.Text.{bytes}
use Rattle.texts.specs.Decimal.{decimal}
use Rattle.texts.proofs.Apart.{is_digit, is_plain, all, Stops, plain_is, opens_with, opens_same, numbers_in}
use Rattle.texts.proofs.Apart.{numbers_plain, numbers_decimal, same_front, read_apart, reading}
use Rattle.wording.specs.Sentence.{request, cause, outcome, detail, asks_count, asks_message, details}
use Rattle.wording.specs.Sentence.{sentence}
use Rattle.wording.proofs.Causes.{each_cause}
use Rattle.wording.proofs.Parts.{from_details, from_outcome, sentence_is, detail_said, detail_left, detail_cases}
use Rattle.wording.proofs.Requests.{call_said, call_read}

-- The first number that a text says.
abbrev number_said : List ℕ → ℕ
number_said l = get_or (numbers_in l) 0 0

-- The outcome

-- The text does not open with a digit.
abbrev opens_plain : List ℕ → Bool
opens_plain [] = true
opens_plain (d ∷ x) = is_plain d

plain_stops : (x t : List ℕ) → opens_plain x ≡ true → Stops is_digit t → Stops is_digit (x ++ t)
plain_stops [] t p q = q
plain_stops (d ∷ x) t p q = plain_is d p

-- The digits of a refusal end before its cause.
cause_stops : (n : ℕ) (t : List ℕ) → Stops is_digit t → Stops is_digit (cause n ++ t)
unfolding bytes
cause_stops n t q = plain_stops (cause n) t (each_cause opens_plain n refl refl) q

-- The code that an outcome says.
abbrev code_in : List ℕ → ℕ
code_in l =
    pick (opens_with (bytes "done") l) 0
    (pick (opens_with (bytes "blocked") l) 1 (pick (opens_with (bytes "broken off") l) 2 (number_said l)))

code_read : (n : ℕ) (t : List ℕ) → Stops is_digit t → code_in (outcome n ++ t) ≡ n
unfolding outcome bytes
code_read zero t q = refl
code_read (suc zero) t q = refl
code_read (suc (suc zero)) t q = refl
code_read (suc (suc (suc n))) t q =
    simp (reading, cause_stops (suc (suc (suc n))) t q)

-- Count, badge and message

-- The number behind the name, 0 where the text does not begin with it.
abbrev detail_in : List ℕ → List ℕ → ℕ
detail_in name l = pick (opens_with name l) (number_said l) 0

-- What may follow a number that is told: no digit, and not the same name.
abbrev Ends : List ℕ → List ℕ → Type 0
Ends name t = Stops is_digit t × (opens_with name t ≡ false)

-- What is not told is 0.
not_told : (asked : Bool) (n : ℕ) → (asked || not (eqb n 0)) ≡ false → n ≡ 0
not_told true n e = absurd (true≢false e)
not_told false zero e = refl
not_told false (suc n) e = absurd (true≢false (rw eqb-suc-zero at e))

detail_read :
    (asked : Bool) (name : List ℕ) (n : ℕ) (t : List ℕ) → all is_plain name ≡ true → Ends name t
    → detail_in name (detail asked name n ++ t) ≡ n
detail_read asked name n t p q = go (asked || not (eqb n 0)) refl
  where
    said : detail_in name (name ++ (decimal n ++ t)) ≡ n
    said = rw (opens_same, numbers_plain name (decimal n ++ t) p, numbers_decimal n t q.0)

    go : (b : Bool) → (asked || not (eqb n 0)) ≡ b → detail_in name (detail asked name n ++ t) ≡ n
    go true e = rw (detail_said asked name n e, append_assoc) said
    go false e = rw (detail_left asked name n e, q.1) (sym (not_told asked n e))

-- What holds of every text that begins with the name, and of what follows, holds whether the number is told or not.
detail_then :
    (P : List ℕ → Type 0) (asked : Bool) (name : List ℕ) (n : ℕ) (t : List ℕ) → ((s : List ℕ) → P (name ++ s)) → P t
    → P (detail asked name n ++ t)
detail_then P asked name n t f h =
    detail_cases asked name n (λ (l : List ℕ). P (l ++ t)) (rw append_assoc (f (decimal n ++ t))) h

detail_apart :
    (asked : Bool) (name : List ℕ) {n n' : ℕ} {t t' : List ℕ} → all is_plain name ≡ true → Ends name t → Ends name t'
    → detail asked name n ++ t ≡ detail asked name n' ++ t' → (n ≡ n') × (t ≡ t')
detail_apart asked name p q q' e =
    read_apart (detail asked name) (detail_in name) (detail_read asked name _ _ p q) (detail_read asked name _ _ p q') e

-- The details, in turn

abbrev from_message : Bool → Answer → List ℕ
from_message asked a = detail asked (bytes ", message ") a.message ++ bytes ".\n"

abbrev from_badge : Bool → Answer → List ℕ
from_badge asked a = detail asked (bytes ", badge ") a.badge ++ from_message asked a

abbrev from_count : ℕ → ℕ → Answer → List ℕ
from_count call code a =
    detail (asks_count call code) (bytes ", count ") a.count ++ from_badge (asks_message call code) a

details_said : (call : ℕ) (a : Answer) → from_details call a ≡ from_count call a.code a
unfolding details
details_said call a = simp append_assoc

-- What follows the outcome, the count and the badge.

message_ends : (asked : Bool) (a : Answer) → Ends (bytes ", badge ") (from_message asked a)
unfolding bytes
message_ends asked a = detail_then (Ends (bytes ", badge ")) asked _ _ _ (λ (s : List ℕ). (refl, refl)) (refl, refl)

badge_ends : (asked : Bool) (a : Answer) → Ends (bytes ", count ") (from_badge asked a)
unfolding bytes
badge_ends asked a =
    detail_then (Ends (bytes ", count ")) asked _ _ _ (λ (s : List ℕ). (refl, refl))
    (detail_then (Ends (bytes ", count ")) asked _ _ _ (λ (s : List ℕ). (refl, refl)) (refl, refl))

count_stops : (call code : ℕ) (a : Answer) → Stops is_digit (from_count call code a)
unfolding bytes
count_stops call code a =
    let h = badge_ends (asks_message call code) a in
    detail_then (Stops is_digit) (asks_count call code) _ _ _ (λ (s : List ℕ). refl) h.0

-- The three numbers, of the same call and code.
details_apart :
    (call code : ℕ) (a a' : Answer) → from_count call code a ≡ from_count call code a'
    → (a.count ≡ a'.count) × ((a.badge ≡ a'.badge) × (a.message ≡ a'.message))
unfolding bytes
details_apart call code a a' e =
    let b = asks_message call code in
    let h₁ = detail_apart (asks_count call code) (bytes ", count ") refl (badge_ends b a) (badge_ends b a') e in
    let h₂ = detail_apart b (bytes ", badge ") refl (message_ends b a) (message_ends b a') h₁.1 in
    let h₃ = detail_apart b (bytes ", message ") refl (refl, refl) (refl, refl) h₂.1 in
    (h₁.0, (h₂.0, h₃.0))

outcome_read : (call : ℕ) (a : Answer) → code_in (from_outcome call a) ≡ a.code
outcome_read call a = rw (details_said call a) (code_read a.code _ (count_stops call a.code a))

answers_apart : (call : ℕ) (a a' : Answer) → from_outcome call a ≡ from_outcome call a' → a ≡ a'
answers_apart call a a' e =
    let h = read_apart outcome code_in (outcome_read call a) (outcome_read call a') e in
    let d = sym (details_said call a) ∙ h.1 ∙ details_said call a' in
    let g = details_apart call a.code a a' (d ∙ ap (λ (n : ℕ). from_count call n a') (sym h.0)) in
    same_answer a a' h.0 g.0 g.1.0 g.1.1

-- Two pairs whose lines are the same bytes are the same.
pub sentences_apart : (c c' : Call) (a a' : Answer) → sentence c a ≡ sentence c' a' → (c ≡ c') × (a ≡ a')
sentences_apart c c' a a' e =
    let parts = sym (sentence_is c a) ∙ e ∙ sentence_is c' a' in
    let h = read_apart request call_said (call_read c _) (call_read c' _) parts in
    let g = same_front (bytes ": ") _ _ h.1 in
    (h.0, answers_apart (number_of c) a a' (g ∙ ap (λ (d : Call). from_outcome (number_of d) a') (sym h.0)))
