-- The listing of a journal, its telling and its numbered telling: from all its bytes to all bytes of its text.
use Rattle.std.specs.Prelude.{◌≡◌, ℕ, zero, suc, ◌%◌, List, [], ◌∷◌, ◌++◌, length}
use Rattle.std.proofs.Math.Option.{Option, none, some}
use Rattle.listing.specs.Line.{header}
use Rattle.input.specs.Words.{words_in}
use Rattle.forms.specs.declared.Form.{Form}
use Rattle.forms.specs.declared.Form.TheVariants.{Lines, Sentences, Numbered}
use Rattle.journal.specs.Course.{Made, Course, course_of}
use Rattle.forms.specs.Forms.{call_text, stop_text}

-- The texts of calls made, one behind the other.
abbrev pub call_texts : Form → List Made → List ℕ
call_texts f [] = []
call_texts f (x ∷ l) = call_text f x.index x.ran x.call x.answer x.runs ++ call_texts f l

-- "1 to 3 odd bytes after calls that all read, with 18": of so many odd bytes
abbrev pub odd_text : Form → ℕ → ℕ → Option ℕ → List ℕ
odd_text f zero i running = []
odd_text f (suc k) i running = stop_text f i 18 running

-- What stands behind the calls: the text of a word that does not read as a call, or that of odd bytes.
abbrev pub stop_with : Form → ℕ → Option ℕ → ℕ → Option ℕ → List ℕ
stop_with f k none i running = odd_text f k i running
stop_with f k (some code) i running = stop_text f i code running

-- The text of the calls, and of what stops them.
pub record Text : Type 0 where
  pub calls : List ℕ
  pub stop : List ℕ

abbrev pub whole_of : Text → List ℕ
whole_of t = t.calls ++ t.stop

-- Of a journal behind whose words k odd bytes stand.
abbrev pub text_in : Form → ℕ → Course → Text
text_in f k x = record { calls = call_texts f x.made; stop = stop_with f k x.stop x.index x.runs }

abbrev pub text_of : Form → List ℕ → Text
text_of f bytes = text_in f (length bytes % 4) (course_of (words_in bytes))

-- "Empty input gives the header alone."
unfoldable pub listing_of : List ℕ → List ℕ
listing_of bytes = header ++ whole_of (text_of Lines bytes)

-- Sentences have no header: empty input gives nothing.
unfoldable pub telling_of : List ℕ → List ℕ
telling_of bytes = whole_of (text_of Sentences bytes)

-- Numbered sentences have none either.
unfoldable pub numbered_of : List ℕ → List ℕ
numbered_of bytes = whole_of (text_of Numbered bytes)

-- The bytes b begin with the bytes a.
pub record Prefix (a b : List ℕ) : Type 0 where
  pub more : List ℕ
  pub whole : b ≡ a ++ more
