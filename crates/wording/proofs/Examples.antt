-- Lines of sentences, computed.
use mathlib.Core.Path.{◌≡◌, refl}
use lib.ListN.{length}
use Rattle.calls.specs.declared.Answer.{Answer}
use Rattle.calls.specs.declared.Call.TheVariants.{CreateThread, Tick, Send, Receive, Abort, Grant}
use Rattle.calls.specs.Answers.{plain, counted}
use Rattle.texts.specs.Text.{bytes}
use Rattle.texts.specs.Decimal.{last_digits, decimal}
use Rattle.wording.specs.Sentence.{request, cause, outcome, detail, asks_count, asks_message, details, sentence}

done : sentence (CreateThread 3 100) (plain 0) ≡ bytes "Create thread 3 with priority 100: done.\n"
unfolding bytes last_digits decimal request cause outcome detail asks_count asks_message details sentence
done = refl

blocked : sentence (Send 0 7 100) (plain 1) ≡ bytes "Send message 100 under badge 7 to endpoint 0: blocked.\n"
unfolding bytes last_digits decimal request cause outcome detail asks_count asks_message details sentence
blocked = refl

broken_off :
    sentence (Abort 0 1 7) (counted 2 1) ≡ bytes "Abort badge 7 at endpoint 0 with allowance 1: broken off, count 1.\n"
unfolding bytes last_digits decimal request cause outcome detail asks_count asks_message details sentence
broken_off = refl

-- An abort that had nothing to look at, and a message of noughts: both are said.
none_removed :
    sentence (Abort 0 1 7) (plain 0) ≡ bytes "Abort badge 7 at endpoint 0 with allowance 1: done, count 0.\n"
unfolding bytes last_digits decimal request cause outcome detail asks_count asks_message details sentence
none_removed = refl

noughts : sentence (Receive 0) (plain 0) ≡ bytes "Receive at endpoint 0: done, badge 0, message 0.\n"
unfolding bytes last_digits decimal request cause outcome detail asks_count asks_message details sentence
noughts = refl

refused :
    sentence (Send 0 7 101) (plain 26)
    ≡ bytes "Send message 101 under badge 7 to endpoint 0: refused by 26, badge is under abort.\n"
unfolding bytes last_digits decimal request cause outcome detail asks_count asks_message details sentence
refused = refl

granted : sentence (Grant 3 0 11 7) (plain 0) ≡ bytes "Grant thread 3 rights 11 at endpoint 0 under badge 7: done.\n"
unfolding bytes last_digits decimal request cause outcome detail asks_count asks_message details sentence
granted = refl

lacking :
    sentence (Send 0 7 100) (plain 29)
    ≡ bytes "Send message 100 under badge 7 to endpoint 0: refused by 29, lacks right or badge.\n"
unfolding bytes last_digits decimal request cause outcome detail asks_count asks_message details sentence
lacking = refl

abbrev odd : Answer
odd = record { code = 77; count = 5; badge = 4294967295; message = 1 }

-- An answer that the core never gives.
odd_told : sentence Tick odd ≡ bytes "Tick: refused by 77, count 5, badge 4294967295, message 1.\n"
unfolding bytes last_digits decimal request cause outcome detail asks_count asks_message details sentence
odd_told = refl

abbrev largest : Answer
largest = record { code = 27; count = 4294967295; badge = 4294967295; message = 4294967295 }

-- No line of a call in range is longer.
longest : length (sentence (Grant 255 63 15 268435455) largest) ≡ 159
unfolding bytes last_digits decimal request cause outcome detail asks_count asks_message details sentence
longest = refl
