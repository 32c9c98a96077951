-- What a text becomes in a lent buffer.
use Rattle.std.specs.Prelude.{ℕ, ◌+◌, ◌≤◌, ◌≡◌, List, ◌++◌, length, take, drop}

-- From this place on the buffer has room for the text.
pub record Room (out : List ℕ) (at : ℕ) (text : List ℕ) : Type 0 where
  pub fits : at + length text ≤ length out

-- The buffer with the text from place at on, the bytes before and after it as they were.
unfoldable pub pasted : List ℕ → ℕ → List ℕ → List ℕ
pasted out at text = take at out ++ text ++ drop (at + length text) out

-- A text was written at a place: the place after it, and the buffer.
pub record Wrote (out : List ℕ) (at : ℕ) (text : List ℕ) (r : ℕ) (out' : List ℕ) : Type 0 where
  pub next : r ≡ at + length text
  pub bytes : out' ≡ pasted out at text

-- r counts bytes at the front of the buffer. taken follows from within; a caller's `&out[..r]` goes by both.
pub record Counts (r : ℕ) (out : List ℕ) : Type 0 where
  pub within : r ≤ length out
  pub taken : r ≡ length (take r out)
