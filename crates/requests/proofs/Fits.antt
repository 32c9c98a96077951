-- A request has room whatever its numbers are.
use Prim.Native.Nat.{ℕ, ◌^◌, ◌≤◌, ◌<◌}
use mathlib.Core.List.{List}
use native.Mathlib.Omega.{arith}
use lib.ListN.{length, length-append}
use mir.Val.{Val}
use denote.Shadow.{shadow}
use denote.Enum.Declared.{row}
use Rattle.calls.specs.declared.Call.{Call}
use Rattle.calls.specs.declared.Call.TheVariants.{CreateThread, DestroyThread, SetPriority, CreateEndpoint}
use Rattle.calls.specs.declared.Call.TheVariants.{Interrupt, Tick, Send, Receive, Yield, Wait, Delete, Abort}
use Rattle.calls.specs.declared.Call.TheVariants.{Grant}
use Rattle.calls.specs.contracts.Call.{the_type}
use Rattle.texts.specs.Text.{bytes}
use Rattle.texts.specs.Decimal.{decimal}
use Rattle.texts.proofs.Digits.{length_below}
use Rattle.wording.specs.Sentence.{request}

word_short : (n : ℕ) → n < 2 ^ 32 → length (decimal n) ≤ 10
word_short n h = length_below 9 n (omega (arith, h))

-- The numbers of a call of the code are words.
pub request_short : (c : Call) (vs : List Val) → shadow ((row the_type).own_val c vs) → length (request c) ≤ 87
unfolding request bytes
request_short (CreateThread t p) vs h =
    let f = h.1.1.1.1 in simp length-append (omega (arith, word_short t f.0.1, word_short p f.1.0.1))
request_short (DestroyThread t) vs h =
    let f = h.1.1.1.1 in simp length-append (omega (arith, word_short t f.0.1))
request_short (SetPriority t p) vs h =
    let f = h.1.1.1.1 in simp length-append (omega (arith, word_short t f.0.1, word_short p f.1.0.1))
request_short (CreateEndpoint e) vs h =
    let f = h.1.1.1.1 in simp length-append (omega (arith, word_short e f.0.1))
request_short (Interrupt l) vs h =
    let f = h.1.1.1.1 in simp length-append (omega (arith, word_short l f.0.1))
request_short Tick vs h = omega arith
request_short (Send e b m) vs h =
    let f = h.1.1.1.1 in
    simp length-append
    (omega (
      arith,
      word_short e f.0.1,
      word_short b f.1.0.1,
      word_short m f.1.1.0.1,
    ))
request_short (Receive e) vs h =
    let f = h.1.1.1.1 in simp length-append (omega (arith, word_short e f.0.1))
request_short Yield vs h = omega arith
request_short (Wait l) vs h =
    let f = h.1.1.1.1 in simp length-append (omega (arith, word_short l f.0.1))
request_short (Delete e a) vs h =
    let f = h.1.1.1.1 in simp length-append (omega (arith, word_short e f.0.1, word_short a f.1.0.1))
request_short (Abort e a b) vs h =
    let f = h.1.1.1.1 in
    simp length-append
    (omega (
      arith,
      word_short e f.0.1,
      word_short a f.1.0.1,
      word_short b f.1.1.0.1,
    ))
request_short (Grant t e r b) vs h =
    let f = h.1.1.1.1 in
    simp length-append
    (omega (
      arith,
      word_short t f.0.1,
      word_short e f.1.0.1,
      word_short r f.1.1.0.1,
      word_short b f.1.1.1.0.1,
    ))
