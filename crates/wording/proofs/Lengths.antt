-- How long a line is: that of a call in range fits 160 bytes, whatever words the answer is.
use Prim.Native.Nat.{ℕ, zero, suc, ◌+◌, ◌^◌, ◌≤◌, ◌<◌}
use mathlib.Core.Path.{◌≡◌, refl}
use mathlib.Core.Bool.{Bool, true, false}
use mathlib.Core.List.{List}
use native.Mathlib.Omega.{arith}
use lib.Dec.{leb}
use lib.ListN.{length, length-append}
use borrow.Author.Tests.{leb-true, leb-false}
use Rattle.calls.specs.declared.Answer.{Answer}
use Rattle.calls.specs.declared.Call.{Call}
use Rattle.calls.specs.declared.Call.TheVariants.{CreateThread, DestroyThread, SetPriority, CreateEndpoint}
use Rattle.calls.specs.declared.Call.TheVariants.{Interrupt, Tick, Send, Receive, Yield, Wait, Delete, Abort}
use Rattle.calls.specs.declared.Call.TheVariants.{Grant}
use Rattle.calls.specs.Calls.{number_of, in_range}
use Rattle.calls.proofs.Answers.{Words}
use Rattle.calls.proofs.Ranges.{Bounds, bounds}
use Rattle.texts.specs.Text.{bytes}
use Rattle.texts.specs.Decimal.{decimal}
use Rattle.texts.proofs.Digits.{length_below}
use Rattle.wording.specs.Sentence.{request, cause, outcome, detail, asks_count, asks_message, details}
use Rattle.wording.specs.Sentence.{clause, sentence, stop_clause, stop_line}
use Rattle.wording.specs.Entry.{sentence_room}
use Rattle.wording.proofs.Causes.{each_cause, uncaused_above}
use Rattle.wording.proofs.Parts.{detail_cases}

-- Digits

byte_short : (n : ℕ) → n ≤ 255 → length (decimal n) ≤ 3
byte_short n h = length_below 2 n (omega (arith, h))

badge_short : (n : ℕ) → n < 2 ^ 28 → length (decimal n) ≤ 9
badge_short n h = length_below 8 n (omega (arith, h))

word_short : (n : ℕ) → n < 2 ^ 32 → length (decimal n) ≤ 10
word_short n h = length_below 9 n (omega (arith, h))

-- The request

within_short : (c : Call) → Bounds c → length (request c) ≤ 63
unfolding request bytes
within_short (CreateThread t p) h =
    simp length-append (omega (arith, byte_short t h.0, byte_short p h.1))
within_short (DestroyThread t) h = simp length-append (omega (arith, byte_short t h))
within_short (SetPriority t p) h =
    simp length-append (omega (arith, byte_short t h.0, byte_short p h.1))
within_short (CreateEndpoint e) h = simp length-append (omega (arith, length_below 1 e (omega (arith, h))))
within_short (Interrupt l) h = simp length-append (omega (arith, length_below 1 l (omega (arith, h))))
within_short Tick h = omega arith
within_short (Send e b m) h =
    simp length-append
    (omega (arith, length_below 1 e (omega (arith, h.0)), badge_short b h.1, badge_short m h.2))
within_short (Receive e) h = simp length-append (omega (arith, length_below 1 e (omega (arith, h))))
within_short Yield h = omega arith
within_short (Wait l) h = simp length-append (omega (arith, length_below 1 l (omega (arith, h))))
within_short (Delete e a) h =
    simp length-append
    (omega (arith, length_below 1 e (omega (arith, h.0)), length_below 4 a (omega (arith, h.1.1))))
within_short (Abort e a b) h =
    simp length-append
    (omega (
      arith,
      length_below 1 e (omega (arith, h.0)),
      length_below 4 a (omega (arith, h.1.1)),
      badge_short b h.2,
    ))
within_short (Grant t e r b) h =
    simp length-append
    (omega (
      arith,
      byte_short t h.0,
      length_below 1 e (omega (arith, h.1)),
      length_below 1 r (omega (arith, h.2)),
      badge_short b h.3,
    ))

-- The outcome

cause_short : (n : ℕ) → length (cause n) ≤ 23
unfolding bytes
cause_short n = leb-true _ 23 (each_cause (λ (l : List ℕ). leb (length l) 23) n refl refl)

-- A number with a cause has two digits; one with more has no cause.
numbered_short : (n : ℕ) → n < 2 ^ 32 → length (decimal n) + length (cause n) ≤ 25
numbered_short n h = go (leb 31 n) refl
  where
    go : (b : Bool) → leb 31 n ≡ b → length (decimal n) + length (cause n) ≤ 25
    go true e = rw (uncaused_above n (leb-true 31 n e)) (omega (arith, word_short n h))
    go false e = omega (arith, cause_short n, length_below 1 n (omega (arith, leb-false 31 n e)))

outcome_short : (n : ℕ) → n < 2 ^ 32 → length (outcome n) ≤ 36
unfolding bytes outcome
outcome_short zero h = omega arith
outcome_short (suc zero) h = omega arith
outcome_short (suc (suc zero)) h = omega arith
outcome_short (suc (suc (suc n))) h = simp length-append (omega (arith, numbered_short (suc (suc (suc n))) h))

-- Count, badge and message

detail_short : (asked : Bool) (name : List ℕ) (n : ℕ) → n < 2 ^ 32 → length (detail asked name n) ≤ length name + 10
detail_short asked name n h =
    detail_cases asked name n (λ (l : List ℕ). length l ≤ length name + 10)
    (rw length-append (omega (arith, word_short n h))) (omega arith)

details_short : (call : ℕ) (a : Answer) → Words a → length (details call a) ≤ 56
unfolding bytes details
details_short call a w =
    simp length-append
    (omega (
      arith,
      detail_short (asks_count call a.code) (bytes ", count ") a.count w.count,
      detail_short (asks_message call a.code) (bytes ", badge ") a.badge w.badge,
      detail_short (asks_message call a.code) (bytes ", message ") a.message w.message,
    ))

-- The longest line has 159 bytes (Examples has it).
pub sentence_short : (c : Call) (a : Answer) → in_range c ≡ true → Words a → length (sentence c a) ≤ 159
unfolding bytes sentence
sentence_short c a h w =
    simp length-append
    (omega (
      arith,
      within_short c (bounds c h),
      outcome_short a.code w.code,
      details_short (number_of c) a w,
    ))

pub sentence_fits : (c : Call) (a : Answer) → in_range c ≡ true → Words a → length (sentence c a) ≤ sentence_room
sentence_fits c a h w = omega (arith, sentence_short c a h w)

pub stop_fits : (code : ℕ) → code < 2 ^ 32 → length (stop_line code) ≤ sentence_room
unfolding bytes stop_line
stop_fits code h = simp length-append (omega (arith, outcome_short code h))

-- Without its full stop and newline each is two bytes shorter.

pub clause_short : (c : Call) (a : Answer) → in_range c ≡ true → Words a → length (clause c a) ≤ 157
unfolding sentence bytes
clause_short c a h w = omega (arith, sentence_short c a h w, length-append (clause c a) (bytes ".\n"))

pub stop_short : (code : ℕ) → code < 2 ^ 32 → length (stop_clause code) ≤ 158
unfolding stop_line bytes
stop_short code h = omega (arith, stop_fits code h, length-append (stop_clause code) (bytes ".\n"))
