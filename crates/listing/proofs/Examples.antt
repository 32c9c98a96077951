-- Two lines of the listing, computed: an answer with a badge and a message, and a word that does not read.
use mathlib.Core.Path.{◌≡◌, refl}
use mathlib.Core.Option.{none, some}
use Rattle.calls.specs.declared.Answer.{Answer}
use Rattle.calls.specs.Answers.{plain}
use Rattle.texts.specs.Text.{bytes}
use Rattle.texts.specs.Decimal.{last_digits, decimal, spaced}
use Rattle.listing.specs.Line.{answer_text, runner, line_of}

abbrev got : Answer
got = record { code = 0; count = 0; badge = 8; message = 200 }

received : line_of (record { index = 8; call = 8; answer = got; running = some 3 }) ≡ bytes "8 8 0 0 8 200 3\n"
unfolding bytes last_digits decimal spaced answer_text runner line_of
received = refl

unread : line_of (record { index = 0; call = 0; answer = plain 18; running = none }) ≡ bytes "0 0 18 0 0 0 -\n"
unfolding bytes last_digits decimal spaced answer_text runner line_of
unread = refl

-- The largest word.
largest : decimal 4294967295 ≡ bytes "4294967295"
unfolding bytes last_digits decimal
largest = refl
