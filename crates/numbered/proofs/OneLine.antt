-- A numbered sentence is one line: printable ASCII, and a newline at its end.
use Prim.Native.Nat.{ℕ}
use mathlib.Core.Path.{◌≡◌, refl}
use mathlib.Core.Bool.{Bool, true, false, ◌&&◌}
use mathlib.Core.Option.{Option, none, some}
use mathlib.Core.List.{◌++◌, append_assoc}
use lib.Dec.{leb}
use Rattle.calls.specs.declared.Answer.{Answer}
use Rattle.calls.specs.declared.Call.{Call}
use Rattle.calls.specs.Calls.{number_of}
use Rattle.texts.specs.Text.{bytes}
use Rattle.texts.specs.Decimal.{decimal}
use Rattle.texts.proofs.Apart.{all, all_append}
use Rattle.wording.specs.Sentence.{request, outcome, details}
use Rattle.wording.proofs.OneLine.{is_printable, OneLine, decimal_printable, request_printable, outcome_printable}
use Rattle.wording.proofs.OneLine.{details_printable}
use Rattle.numbered.specs.Numbered.{named, caller, heading, closing, numbered_sentence, numbered_stop}
use Rattle.numbered.proofs.Places.{by_thread, by_host}

named_printable : (who : Option ℕ) → all is_printable (named who) ≡ true
unfolding named bytes
named_printable none = refl
named_printable (some t) = simp (all_append, decimal_printable)

caller_printable : (number : ℕ) (ran : Option ℕ) → all is_printable (caller number ran) ≡ true
unfolding bytes
caller_printable number ran = go (leb 7 number && leb number 12) refl
  where
    go : (b : Bool) → (leb 7 number && leb number 12) ≡ b → all is_printable (caller number ran) ≡ true
    go true e = rw (by_thread number ran e) (named_printable ran)
    go false e = rw (by_host number ran e) refl

pub numbered_one_line :
    (i : ℕ) (ran : Option ℕ) (c : Call) (a : Answer) (runs : Option ℕ) → OneLine (numbered_sentence i ran c a runs)
unfolding bytes heading closing numbered_sentence
numbered_one_line i ran c a runs =
    record {
      text =
          decimal i
          ++ (bytes ", "
          ++ (caller (number_of c) ran
          ++ (bytes ": "
          ++ (request c
          ++ (bytes ": "
          ++ (outcome a.code ++ (details (number_of c) a ++ (bytes "; " ++ (named runs ++ bytes " runs.")))))))));
      whole = simp append_assoc;
      printable =
          simp (
            all_append,
            decimal_printable,
            caller_printable,
            request_printable,
            outcome_printable,
            details_printable,
            named_printable,
          );
    }

pub stop_one_line : (i code : ℕ) (runs : Option ℕ) → OneLine (numbered_stop i code runs)
unfolding bytes closing numbered_stop
stop_one_line i code runs =
    record {
      text =
          decimal i
          ++ (bytes ": "
          ++ (bytes "The journal does not go on: "
          ++ (outcome code ++ (bytes "; " ++ (named runs ++ bytes " runs.")))));
      whole = simp append_assoc;
      printable = simp (all_append, decimal_printable, outcome_printable, named_printable);
    }
