-- How long the parts of a numbered sentence are.
use Prim.Native.Nat.{ℕ, ◌^◌, ◌≤◌, ◌<◌}
use mathlib.Core.Path.{◌≡◌, refl}
use mathlib.Core.Bool.{Bool, true, false, ◌&&◌}
use mathlib.Core.Option.{Option, none, some}
use mathlib.Core.List.{List}
use native.Mathlib.Omega.{arith}
use lib.Dec.{leb}
use lib.ListN.{length, length-append}
use mir.Val.{Val}
use denote.Shadow.{shadow}
use Rattle.calls.specs.declared.Answer.{Answer}
use Rattle.calls.specs.declared.Call.{Call}
use Rattle.calls.specs.Calls.{number_of, in_range}
use Rattle.calls.specs.Answers.{thread_of}
use Rattle.std.specs.Prelude.{None, Some}
use Rattle.std.specs.Prelude as code
use Rattle.std.specs.contracts.option.Option.{the_field}
use denote.Builtin.{u32}
use Rattle.calls.proofs.Answers.{Words}
use Rattle.texts.specs.Text.{bytes}
use Rattle.texts.specs.Decimal.{decimal}
use Rattle.texts.proofs.Digits.{length_below}
use Rattle.wording.proofs.Lengths.{clause_short, stop_short}
use Rattle.numbered.specs.Numbered.{named, caller, heading, closing, numbered_sentence, numbered_stop}
use Rattle.numbered.specs.Numbered.{numbered_room}

-- Who makes a call

module _ (number : ℕ) (ran : Option ℕ) where
  pub by_thread : (leb 7 number && leb number 12) ≡ true → caller number ran ≡ named ran
  unfolding caller
  by_thread e = rw e

  pub by_host : (leb 7 number && leb number 12) ≡ false → caller number ran ≡ bytes "host"
  unfolding caller
  by_host e = rw e

-- Lengths

-- A thread's number is a word.
abbrev pub Word : Option ℕ → Type 0
Word none = Unit {0}
Word (some t) = t < 2 ^ 32

pub word :
    (who : code.Option ℕ) (vs : List Val) → shadow ((the_field u32).row.own_val ((the_field u32).into who) vs)
    → Word (thread_of who)
word None vs h = tt
word (Some t) vs h = h.1.1.1.1.0.1

named_short : (who : Option ℕ) → Word who → length (named who) ≤ 17
unfolding named bytes
named_short none h = omega arith
named_short (some t) h = rw length-append (omega (arith, length_below 9 t (omega (arith, h))))

caller_short : (number : ℕ) (ran : Option ℕ) → Word ran → length (caller number ran) ≤ 17
unfolding bytes
caller_short number ran h = go (leb 7 number && leb number 12) refl
  where
    go : (b : Bool) → (leb 7 number && leb number 12) ≡ b → length (caller number ran) ≤ 17
    go true e = rw (by_thread number ran e) (named_short ran h)
    go false e = rw (by_host number ran e) (omega arith)

pub index_short : (i : ℕ) → i < 2 ^ 64 → length (decimal i) ≤ 20
index_short i h = length_below 19 i (omega (arith, h))

pub heading_short : (i number : ℕ) (ran : Option ℕ) → i < 2 ^ 64 → Word ran → length (heading i number ran) ≤ 41
unfolding heading bytes
heading_short i number ran h w =
    simp length-append (omega (arith, index_short i h, caller_short number ran w))

pub closing_short : (runs : Option ℕ) → Word runs → length (closing runs) ≤ 26
unfolding closing bytes
closing_short runs w = simp length-append (omega (arith, named_short runs w))

-- Every line of a call in range fits, whatever words the answer and the threads are.
pub sentence_fits :
    (i : ℕ) (ran : Option ℕ) (c : Call) (a : Answer) (runs : Option ℕ) → i < 2 ^ 64 → Word ran → in_range c ≡ true
    → Words a → Word runs → length (numbered_sentence i ran c a runs) ≤ numbered_room
unfolding numbered_sentence
sentence_fits i ran c a runs h w ranged words u =
    rw (length-append, length-append)
    (omega (arith, heading_short i (number_of c) ran h w, clause_short c a ranged words, closing_short runs u))

pub stop_fits_in :
    (i code : ℕ) (runs : Option ℕ) → i < 2 ^ 64 → code < 2 ^ 32 → Word runs
    → length (numbered_stop i code runs) ≤ numbered_room
unfolding numbered_stop bytes
stop_fits_in i code runs h k w =
    rw (length-append, length-append, length-append)
    (omega (arith, index_short i h, stop_short code k, closing_short runs w))
