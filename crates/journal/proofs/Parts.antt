-- The parts of the words that calls are written with, and a word put together from its parts.
use mathlib.Core.Path.{◌≡◌}
use Prim.Native.Nat.{ℕ, ◌+◌, ◌*◌, ◌^◌, ◌/◌, ◌%◌, ◌<◌}
use native.Mathlib.Omega.{arith}
use Rattle.journal.specs.Words.{top_bits, top_byte, call_number, subject, argument, call_word}

module _ (n s a : ℕ) (hn : n < 16) (hs : s < 256) (ha : a < 65536) where
  pub top_bits_lem : top_bits (call_word n s a) ≡ 1
  top_bits_lem = omega arith

  pub top_byte_lem : top_byte (call_word n s a) ≡ 16 + n
  top_byte_lem = omega arith

  pub call_number_lem : call_number (call_word n s a) ≡ n
  call_number_lem = omega arith

  pub its_subject : subject (call_word n s a) ≡ s
  its_subject = omega arith

  pub its_argument : argument (call_word n s a) ≡ a
  its_argument = omega arith

-- the parts of a grant's argument, and the argument put together from them
module _ (r e : ℕ) (he : e < 2 ^ 6) (hr : r < 2 ^ 4) where
  pub its_endpoint : (r * 2 ^ 8 + e) % 2 ^ 6 ≡ e
  its_endpoint = omega arith

  pub its_rights : (r * 2 ^ 8 + e) / 2 ^ 8 % 2 ^ 4 ≡ r
  its_rights = omega arith

  pub its_bits : (r * 2 ^ 8 + e) / 2 ^ 6 % 2 ^ 2 ≡ 0
  its_bits = omega arith

  pub its_rest : (r * 2 ^ 8 + e) / 2 ^ 12 ≡ 0
  its_rest = omega arith

pub grant_argument : (a : ℕ) → a / 2 ^ 6 % 2 ^ 2 ≡ 0 → a / 2 ^ 12 ≡ 0 → a ≡ a / 2 ^ 8 % 2 ^ 4 * 2 ^ 8 + a % 2 ^ 6
grant_argument a h k = omega arith

pub number_top : (k x : ℕ) → x < 2 ^ 28 → top_bits (k * 2 ^ 28 + x) ≡ k
number_top k x h = omega arith

pub number_below : (k x : ℕ) → x < 2 ^ 28 → (k * 2 ^ 28 + x) % 2 ^ 28 ≡ x
number_below k x h = omega arith

-- a word is the call word of its parts
pub call_word_lem : (w : ℕ) → top_bits w ≡ 1 → call_word (call_number w) (subject w) (argument w) ≡ w
call_word_lem w h = omega arith

pub number_word : (w k : ℕ) → top_bits w ≡ k → k * 2 ^ 28 + w % 2 ^ 28 ≡ w
number_word w k h = omega arith

-- the top byte of a call word, by its call number
pub byte_of : (w : ℕ) → top_bits w ≡ 1 → top_byte w ≡ 16 + call_number w
byte_of w one = omega arith
