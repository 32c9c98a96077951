-- Lines of numbered sentences, computed.
use mathlib.Core.Path.{◌≡◌, refl}
use mathlib.Core.Option.{none, some}
use Rattle.calls.specs.declared.Call.TheVariants.{CreateThread, Yield, Abort}
use Rattle.calls.specs.Answers.{plain, counted}
use Rattle.texts.specs.Text.{bytes}
use Rattle.texts.specs.Decimal.{last_digits, decimal}
use Rattle.wording.specs.Sentence.{request, cause, outcome, detail, asks_count, asks_message, details}
use Rattle.numbered.specs.Numbered.{named, caller, heading, closing, numbered_sentence, numbered_stop}

-- The host's call, and a thread's.
by_the_host :
    numbered_sentence 0 none (CreateThread 3 100) (plain 0) (some 3)
    ≡ bytes "0, host: Create thread 3 with priority 100: done; thread 3 runs.\n"
unfolding bytes last_digits decimal request cause outcome detail asks_count asks_message details
    named caller heading closing numbered_sentence
by_the_host = refl

by_a_thread :
    numbered_sentence 9 (some 2) (Abort 0 1 7) (counted 2 1) (some 3)
    ≡ bytes "9, thread 2: Abort badge 7 at endpoint 0 with allowance 1: broken off, count 1; thread 3 runs.\n"
unfolding bytes last_digits decimal request cause outcome detail asks_count asks_message details
    named caller heading closing numbered_sentence
by_a_thread = refl

-- A thread's call where nobody runs.
by_nobody :
    numbered_sentence 12 none Yield (plain 20) none
    ≡ bytes "12, nobody: Yield: refused by 20, no thread runs; nobody runs.\n"
unfolding bytes last_digits decimal request cause outcome detail asks_count asks_message details
    named caller heading closing numbered_sentence
by_nobody = refl

stopped :
    numbered_stop 15 18 (some 3)
    ≡ bytes "15: The journal does not go on: refused by 18, this is no call; thread 3 runs.\n"
unfolding bytes last_digits decimal cause outcome named closing numbered_stop
stopped = refl
