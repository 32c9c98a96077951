-- A sentence is one line: printable ASCII, and a newline at its end.
use Prim.Native.Nat.{ℕ, zero, suc}
use mathlib.Core.Path.{◌≡◌, refl}
use mathlib.Core.Bool.{Bool, true, ◌&&◌, and-eq-true_iff}
use mathlib.Core.List.{List, [], ◌∷◌, ◌++◌, append_assoc}
use native.Mathlib.Omega.{arith}
use lib.Dec.{leb}
use borrow.Author.Tests.{le-leb, leb-true}
use Rattle.calls.specs.declared.Answer.{Answer}
use Rattle.calls.specs.declared.Call.{Call}
use Rattle.calls.specs.declared.Call.TheVariants.{CreateThread, DestroyThread, SetPriority, CreateEndpoint}
use Rattle.calls.specs.declared.Call.TheVariants.{Interrupt, Tick, Send, Receive, Yield, Wait, Delete, Abort}
use Rattle.calls.specs.declared.Call.TheVariants.{Grant}
use Rattle.calls.specs.Calls.{number_of}
use Rattle.texts.specs.Text.{bytes}
use Rattle.texts.specs.Decimal.{decimal}
use Rattle.texts.proofs.Apart.{all, all_append, is_digit, decimal_digits}
use Rattle.wording.specs.Sentence.{request, cause, outcome, detail, asks_count, asks_message, details}
use Rattle.wording.specs.Sentence.{sentence}
use Rattle.wording.proofs.Causes.{each_cause}
use Rattle.wording.proofs.Parts.{detail_cases}

-- From the space to the tilde.
abbrev pub is_printable : ℕ → Bool
is_printable d = leb 32 d && leb d 126

pub record OneLine (line : List ℕ) : Type 0 where
  pub text : List ℕ
  pub whole : line ≡ text ++ (10 ∷ [])
  pub printable : all is_printable text ≡ true

-- A kind that a wider one has.
all_wider :
    (f g : ℕ → Bool) (l : List ℕ) → ((d : ℕ) → f d ≡ true → g d ≡ true) → all f l ≡ true → all g l ≡ true
all_wider f g [] w h = refl
all_wider f g (d ∷ l) w h =
    let k = (and-eq-true_iff (f d) (all f l)).0 h in
    (and-eq-true_iff (g d) (all g l)).1 (w d k.0, all_wider f g l w k.1)

digit_printable : (d : ℕ) → is_digit d ≡ true → is_printable d ≡ true
digit_printable d h =
    let k = (and-eq-true_iff (leb 48 d) (leb d 57)).0 h in
    (and-eq-true_iff (leb 32 d) (leb d 126)).1
    (le-leb 32 d (omega (arith, leb-true 48 d k.0)), le-leb d 126 (omega (arith, leb-true d 57 k.1)))

pub decimal_printable : (n : ℕ) → all is_printable (decimal n) ≡ true
decimal_printable n = all_wider is_digit is_printable (decimal n) digit_printable (decimal_digits n)

-- The parts

pub request_printable : (c : Call) → all is_printable (request c) ≡ true
unfolding request bytes
request_printable (CreateThread t p) = simp (all_append, decimal_printable)
request_printable (DestroyThread t) = simp (all_append, decimal_printable)
request_printable (SetPriority t p) = simp (all_append, decimal_printable)
request_printable (CreateEndpoint e) = simp (all_append, decimal_printable)
request_printable (Interrupt l) = simp (all_append, decimal_printable)
request_printable Tick = refl
request_printable (Send e b m) = simp (all_append, decimal_printable)
request_printable (Receive e) = simp (all_append, decimal_printable)
request_printable Yield = refl
request_printable (Wait l) = simp (all_append, decimal_printable)
request_printable (Delete e a) = simp (all_append, decimal_printable)
request_printable (Abort e a b) = simp (all_append, decimal_printable)
request_printable (Grant t e r b) = simp (all_append, decimal_printable)

cause_printable : (n : ℕ) → all is_printable (cause n) ≡ true
unfolding bytes
cause_printable n = each_cause (all is_printable) n refl refl

pub outcome_printable : (n : ℕ) → all is_printable (outcome n) ≡ true
unfolding bytes outcome
outcome_printable zero = refl
outcome_printable (suc zero) = refl
outcome_printable (suc (suc zero)) = refl
outcome_printable (suc (suc (suc n))) = simp (all_append, decimal_printable, cause_printable)

detail_printable :
    (asked : Bool) (name : List ℕ) (n : ℕ) → all is_printable name ≡ true → all is_printable (detail asked name n)
    ≡ true
detail_printable asked name n h =
    detail_cases asked name n (λ (l : List ℕ). all is_printable l ≡ true) (simp (all_append, h, decimal_printable)) refl

pub details_printable : (call : ℕ) (a : Answer) → all is_printable (details call a) ≡ true
unfolding bytes details
details_printable call a =
    let count = detail_printable (asks_count call a.code) (bytes ", count ") a.count refl in
    let badge = detail_printable (asks_message call a.code) (bytes ", badge ") a.badge refl in
    let message = detail_printable (asks_message call a.code) (bytes ", message ") a.message refl in
    simp (all_append, count, badge, message)

pub one_line : (c : Call) (a : Answer) → OneLine (sentence c a)
unfolding bytes sentence
one_line c a =
    record {
      text = request c ++ (bytes ": " ++ (outcome a.code ++ (details (number_of c) a ++ bytes ".")));
      whole = simp append_assoc;
      printable =
          simp (all_append, request_printable, outcome_printable, details_printable);
    }
