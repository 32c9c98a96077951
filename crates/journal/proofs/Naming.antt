-- The words of a call name that call, and words that name a call are its words.
use mathlib.Core.Path.{◌≡◌, refl, ap, ◌∙◌, subst, subst⁻¹}
use mathlib.Core.Bool.{Bool, true, false}
use mathlib.Core.List.{List, [], ◌∷◌, ◌++◌}
use mathlib.Core.Option.{none, some, none-ne-some, some-injective}
use Prim.Native.Nat.{ℕ, ◌+◌, ◌*◌, ◌^◌, ◌/◌, ◌%◌, ◌<◌}
use native.Mathlib.Omega.{arith}
use borrow.Author.Tests.{eqb-true}
use lib.Dec.{eqb, lit<}
use lib.ListN.{length, take, drop}
use Rattle.calls.specs.declared.Call.{Call}
use Rattle.calls.specs.declared.Call.TheVariants.{CreateThread, DestroyThread, SetPriority, CreateEndpoint}
use Rattle.calls.specs.declared.Call.TheVariants.{Interrupt, Tick, Send, Receive, Yield, Wait, Delete, Abort}
use Rattle.calls.specs.declared.Call.TheVariants.{Grant}
use Rattle.calls.specs.Calls.{in_range}
use Rattle.machine.specs.Lists.{pick}
use Rattle.calls.proofs.Ranges.{bounds}
use Rattle.journal.specs.Words.{top_bits, top_byte, call_number, subject, argument, words_taken, unused}
use Rattle.journal.specs.Words.{number_in, with_message, send_of, abort_of, grant_of, call_of, call_at}
use Rattle.journal.specs.Words.{judged, read_from, call_word, badge_word, message_word, words_of}
use Rattle.journal.proofs.Parts.{top_bits_lem, top_byte_lem, call_number_lem, its_subject, its_argument, call_word_lem}
use Rattle.journal.proofs.Parts.{byte_of, its_endpoint, its_rights, its_bits, its_rest, grant_argument}
use Rattle.journal.proofs.Numbers.{by_number}
use Rattle.journal.proofs.Options.{unused_some, given_some, number_read, number_some}

-- each number of a call fits its part of a word
abbrev pub NumbersFit : Call → Type 0
NumbersFit (CreateThread t p) = (t < 2 ^ 8) × (p < 2 ^ 16)
NumbersFit (DestroyThread t) = t < 2 ^ 8
NumbersFit (SetPriority t p) = (t < 2 ^ 8) × (p < 2 ^ 16)
NumbersFit (CreateEndpoint e) = e < 2 ^ 8
NumbersFit (Interrupt l) = l < 2 ^ 8
NumbersFit Tick = Unit {0}
NumbersFit (Send e b m) = (e < 2 ^ 8) × (b < 2 ^ 28) × (m < 2 ^ 28)
NumbersFit (Receive e) = e < 2 ^ 8
NumbersFit Yield = Unit {0}
NumbersFit (Wait l) = l < 2 ^ 8
NumbersFit (Delete e a) = (e < 2 ^ 8) × (a < 2 ^ 16)
NumbersFit (Abort e a b) = (e < 2 ^ 8) × (a < 2 ^ 16) × (b < 2 ^ 28)
NumbersFit (Grant t e r b) = (t < 2 ^ 8) × (e < 2 ^ 6) × (r < 2 ^ 4) × (b < 2 ^ 28)

pub in_range_fits : (c : Call) → in_range c ≡ true → NumbersFit c
in_range_fits (CreateThread t p) e = let h = bounds (CreateThread t p) e in (omega (arith, h.0), omega (arith, h.1))
in_range_fits (DestroyThread t) e = omega (arith, bounds (DestroyThread t) e)
in_range_fits (SetPriority t p) e = let h = bounds (SetPriority t p) e in (omega (arith, h.0), omega (arith, h.1))
in_range_fits (CreateEndpoint x) e = omega (arith, bounds (CreateEndpoint x) e)
in_range_fits (Interrupt l) e = omega (arith, bounds (Interrupt l) e)
in_range_fits Tick e = tt
in_range_fits (Send x b m) e = let h = bounds (Send x b m) e in (omega (arith, h.0), h.1, h.2)
in_range_fits (Receive x) e = omega (arith, bounds (Receive x) e)
in_range_fits Yield e = tt
in_range_fits (Wait l) e = omega (arith, bounds (Wait l) e)
in_range_fits (Delete x a) e = let h = bounds (Delete x a) e in (omega (arith, h.0), omega (arith, h.1.1))
in_range_fits (Abort x a b) e = let h = bounds (Abort x a b) e in (omega (arith, h.0), omega (arith, h.1.1), h.2)
in_range_fits (Grant t x r b) e =
    let h = bounds (Grant t x r b) e in (omega (arith, h.0), omega (arith, h.1), omega (arith, h.2), h.3)

-- what a call word reads as, by its parts
pub read_word :
    (at n s a : ℕ) (rest : List ℕ) → n < 2 ^ 4 → s < 2 ^ 8 → a < 2 ^ 16 →
    read_from at (call_word n s a ∷ rest) ≡ judged at (at + words_taken (16 + n)) (call_of n s a rest)
unfolding read_from call_at
read_word at n s a rest hn hs ha =
    rw (
      top_bits_lem n s a hn hs ha,
      call_number_lem n s a hn hs ha,
      top_byte_lem n s a hn hs ha,
      its_subject n s a hn hs ha,
      its_argument n s a hn hs ha,
    )

-- the words of a call, whatever follows, read as that call
pub call_read :
    (at : ℕ) (c : Call) → NumbersFit c → (after : List ℕ) →
    read_from at (words_of c ++ after) ≡ judged at (at + length (words_of c)) (some c)
unfolding words_of call_of words_taken
call_read at (CreateThread t p) h after = read_word at 1 t p after (lit< tt) h.0 h.1
call_read at (DestroyThread t) h after = read_word at 2 t 0 after (lit< tt) h (lit< tt)
call_read at (SetPriority t p) h after = read_word at 3 t p after (lit< tt) h.0 h.1
call_read at (CreateEndpoint x) h after = read_word at 4 x 0 after (lit< tt) h (lit< tt)
call_read at (Interrupt l) h after = read_word at 5 l 0 after (lit< tt) h (lit< tt)
call_read at Tick h after = read_word at 6 0 0 after (lit< tt) (lit< tt) (lit< tt)
call_read at (Send x b m) h after =
    read_word at 7 x 0 (badge_word b ∷ message_word m ∷ after) (lit< tt) h.0 (lit< tt)
    ∙ rw (number_read 2 b (message_word m ∷ after) h.1, number_read 3 m after h.2)
call_read at (Receive x) h after = read_word at 8 x 0 after (lit< tt) h (lit< tt)
call_read at Yield h after = read_word at 9 0 0 after (lit< tt) (lit< tt) (lit< tt)
call_read at (Wait l) h after = read_word at 10 l 0 after (lit< tt) h (lit< tt)
call_read at (Delete x a) h after = read_word at 11 x a after (lit< tt) h.0 h.1
call_read at (Abort x a b) h after =
    read_word at 12 x a (badge_word b ∷ after) (lit< tt) h.0 h.1 ∙ rw (number_read 2 b after h.2)
call_read at (Grant t x r b) h after =
    read_word at 13 t (r * 2 ^ 8 + x) (badge_word b ∷ after) (lit< tt) h.0 (omega (arith, h.1, h.2))
    ∙ rw (
      its_bits r x h.1 h.2,
      its_rest r x h.1 h.2,
      its_endpoint r x h.1 h.2,
      its_rights r x h.1 h.2,
      number_read 2 b after h.3,
    )

-- the words that begin with the call word of these parts are the call's
pub record CallRow (n s a : ℕ) (rest : List ℕ) (c : Call) : Type 0 where
  pub fits : NumbersFit c
  pub words : take (length (words_of c)) (call_word n s a ∷ rest) ≡ words_of c
  pub taken : words_taken (16 + n) ≡ length (words_of c)

-- a part that is not used, and is 0
zero_argument : (n s a : ℕ) (rest : List ℕ) (c : Call) → a ≡ 0 → CallRow n s 0 rest c → CallRow n s a rest c
zero_argument n s a rest c h r = subst⁻¹ (λ (x : ℕ). CallRow n s x rest c) h r

zero_subject : (n s a : ℕ) (rest : List ℕ) (c : Call) → s ≡ 0 → CallRow n 0 a rest c → CallRow n s a rest c
zero_subject n s a rest c h r = subst⁻¹ (λ (x : ℕ). CallRow n x a rest c) h r

-- the grant that words name: the other bits of its argument are 0, and its badge stands in the badge word
pub record Granted (s a : ℕ) (rest : List ℕ) (c : Call) : Type 0 where
  pub bits : a / 2 ^ 6 % 2 ^ 2 ≡ 0
  pub above : a / 2 ^ 12 ≡ 0
  pub badge : ℕ
  pub word : (badge < 2 ^ 28) × (rest ≡ badge_word badge ∷ drop 1 rest)
  pub is : Grant s (a % 2 ^ 6) (a / 2 ^ 8 % 2 ^ 4) badge ≡ c

pub granted : (s a : ℕ) (rest : List ℕ) (c : Call) → grant_of s a rest ≡ some c → Granted s a rest c
granted s a rest c e =
    let (h, e₁) = unused_some (a / 2 ^ 6 % 2 ^ 2) _ c e in
    let (k, e₂) = unused_some (a / 2 ^ 12) _ c e₁ in
    let (b, eb, e₃) = given_some (number_in 2 rest) (λ b. some (Grant s (a % 2 ^ 6) (a / 2 ^ 8 % 2 ^ 4) b)) c e₂ in
    record {
      bits = h;
      above = k;
      badge = b;
      word = number_some 2 rest b eb;
      is = some-injective _ c e₃;
    }

module _ (s a : ℕ) (hs : s < 2 ^ 8) (ha : a < 2 ^ 16) (rest : List ℕ) (c : Call) where
  -- the number takes a subject and an argument
  both_used : (n : ℕ) (k : Call) → CallRow n s a rest k → some k ≡ some c → CallRow n s a rest c
  both_used n k r e = subst (CallRow n s a rest) (some-injective k c e) r

  -- it takes a subject
  subject_used : (n : ℕ) (k : Call) → CallRow n s 0 rest k → unused a (some k) ≡ some c → CallRow n s a rest c
  subject_used n k r e =
      let h = unused_some a (some k) c e in
      zero_argument n s a rest c h.0 (subst (CallRow n s 0 rest) (some-injective k c h.1) r)

  -- it takes none
  none_used : (n : ℕ) (k : Call) → CallRow n 0 0 rest k → unused s (unused a (some k)) ≡ some c → CallRow n s a rest c
  none_used n k r e =
      let h = unused_some s (unused a (some k)) c e in
      let g = unused_some a (some k) c h.1 in
      zero_subject n s a rest c h.0 (zero_argument n 0 a rest c g.0
      (subst (CallRow n 0 0 rest) (some-injective k c g.1) r))

  send_row :
      (b m : ℕ) → (b < 2 ^ 28) × (rest ≡ badge_word b ∷ drop 1 rest) →
      (m < 2 ^ 28) × (drop 1 rest ≡ message_word m ∷ drop 1 (drop 1 rest)) → CallRow 7 s 0 rest (Send s b m)
  unfolding words_of words_taken
  send_row b m fb fm = record {
    fits = (hs, fb.0, fm.0);
    words = ap (λ (l : List ℕ). call_word 7 s 0 ∷ take 2 l) fb.1
        ∙ ap (λ (l : List ℕ). call_word 7 s 0 ∷ badge_word b ∷ take 1 l) fm.1;
    taken = refl;
  }

  abort_row : (b : ℕ) → (b < 2 ^ 28) × (rest ≡ badge_word b ∷ drop 1 rest) → CallRow 12 s a rest (Abort s a b)
  unfolding words_of words_taken
  abort_row b fb = record {
    fits = (hs, ha, fb.0);
    words = ap (λ (l : List ℕ). call_word 12 s a ∷ take 1 l) fb.1;
    taken = refl;
  }

  -- the argument of a grant whose other bits are 0
  grant_row :
      (b : ℕ) → a / 2 ^ 6 % 2 ^ 2 ≡ 0 → a / 2 ^ 12 ≡ 0 → (b < 2 ^ 28) × (rest ≡ badge_word b ∷ drop 1 rest) →
      CallRow 13 s a rest (Grant s (a % 2 ^ 6) (a / 2 ^ 8 % 2 ^ 4) b)
  unfolding words_of words_taken
  grant_row b h k fb = record {
    fits = (hs, omega arith, omega arith, fb.0);
    words = ap (λ (l : List ℕ). call_word 13 s a ∷ take 1 l) fb.1
        ∙ ap (λ (x : ℕ). call_word 13 s x ∷ badge_word b ∷ []) (grant_argument a h k);
    taken = refl;
  }

  with_send : send_of s rest ≡ some c → CallRow 7 s 0 rest c
  with_send e =
      let (b, eb, e₁) = given_some (number_in 2 rest) (λ b. with_message rest (λ m. some (Send s b m))) c e in
      let (m, em, e₂) = given_some (number_in 3 (drop 1 rest)) (λ m. some (Send s b m)) c e₁ in
      subst (CallRow 7 s 0 rest) (some-injective (Send s b m) c e₂)
      (send_row b m (number_some 2 rest b eb) (number_some 3 (drop 1 rest) m em))

  with_abort : abort_of s a rest ≡ some c → CallRow 12 s a rest c
  with_abort e =
      let (b, eb, e₁) = given_some (number_in 2 rest) (λ b. some (Abort s a b)) c e in
      subst (CallRow 12 s a rest) (some-injective (Abort s a b) c e₁) (abort_row b (number_some 2 rest b eb))

  with_grant : grant_of s a rest ≡ some c → CallRow 13 s a rest c
  with_grant e =
      let g = granted s a rest c e in
      subst (CallRow 13 s a rest) g.is (grant_row g.badge g.bits g.above g.word)

  pub row : (n : ℕ) → call_of n s a rest ≡ some c → CallRow n s a rest c
  unfolding call_of words_of words_taken
  row =
      by_number (λ n. call_of n s a rest ≡ some c → CallRow n s a rest c)
      (λ e. absurd (none-ne-some c e))
      (both_used 1 (CreateThread s a) (record { fits = (hs, ha); words = refl; taken = refl }))
      (subject_used 2 (DestroyThread s) (record { fits = hs; words = refl; taken = refl }))
      (both_used 3 (SetPriority s a) (record { fits = (hs, ha); words = refl; taken = refl }))
      (subject_used 4 (CreateEndpoint s) (record { fits = hs; words = refl; taken = refl }))
      (subject_used 5 (Interrupt s) (record { fits = hs; words = refl; taken = refl }))
      (none_used 6 Tick (record { fits = tt; words = refl; taken = refl }))
      (λ e.
      let h = unused_some a (send_of s rest) c e in
      zero_argument 7 s a rest c h.0 (with_send h.1))
      (subject_used 8 (Receive s) (record { fits = hs; words = refl; taken = refl }))
      (none_used 9 Yield (record { fits = tt; words = refl; taken = refl }))
      (subject_used 10 (Wait s) (record { fits = hs; words = refl; taken = refl }))
      (both_used 11 (Delete s a) (record { fits = (hs, ha); words = refl; taken = refl }))
      with_abort
      with_grant
      (λ k e. absurd (none-ne-some c e))

-- words that name a call are its words, and as many as the top byte says
pub record Spelled (w : ℕ) (rest : List ℕ) (c : Call) : Type 0 where
  pub fits : NumbersFit c
  pub words : take (length (words_of c)) (w ∷ rest) ≡ words_of c
  pub taken : words_taken (top_byte w) ≡ length (words_of c)

pub spelled : (w : ℕ) (rest : List ℕ) (c : Call) → call_at w rest ≡ some c → Spelled w rest c
unfolding call_at
spelled w rest c e = go (eqb (top_bits w) 1) refl e
  where
    go :
        (b : Bool) → eqb (top_bits w) 1 ≡ b →
        pick b (call_of (call_number w) (subject w) (argument w) rest) none ≡ some c → Spelled w rest c
    go true t e' =
        let one = eqb-true (top_bits w) 1 t in
        let r = row (subject w) (argument w) (omega arith) (omega arith) rest c (call_number w) e' in
        record {
          fits = r.fits;
          words = subst (λ (x : ℕ). take (length (words_of c)) (x ∷ rest) ≡ words_of c) (call_word_lem w one) r.words;
          taken = ap words_taken (byte_of w one) ∙ r.taken;
        }
    go false t e' = absurd (none-ne-some c e')
