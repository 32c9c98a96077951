-- The causes of 18: words name no call exactly where one of them holds.
use mathlib.Core.Path.{◌≡◌, refl, sym, ap, ◌∙◌}
use mathlib.Core.Bool.{Bool, true, false, not, ◌||◌}
use mathlib.Core.List.{List, [], ◌∷◌}
use mathlib.Core.Logic.{◌⊎◌, inl, inr, ⊎_elim, ◌≢◌}
use mathlib.Core.Option.{Option, none, some, none-ne-some}
use Prim.Native.Nat.{ℕ, suc, ◌+◌, ◌^◌, ◌/◌, ◌%◌, ◌≤◌, ◌<◌}
use native.Mathlib.Omega.{arith}
use borrow.Author.Tests.{eqb-true, eqb-false, leb-true, leb-false}
use lib.Dec.{eqb, leb}
use lib.ListN.{length, get_or, drop, length-drop}
use lib.Seq.{get_or-drop}
use Rattle.calls.specs.declared.Call.{Call}
use Rattle.calls.specs.declared.Call.TheVariants.{CreateThread, DestroyThread, SetPriority, CreateEndpoint}
use Rattle.calls.specs.declared.Call.TheVariants.{Interrupt, Tick, Send, Receive, Yield, Wait, Delete, Abort}
use Rattle.calls.specs.declared.Call.TheVariants.{Grant}
use Rattle.machine.specs.Lists.{pick}
use Rattle.journal.specs.Words.{top_bits, top_byte, call_number, subject, argument, words_taken, unused}
use Rattle.journal.specs.Words.{number_in, with_message, send_of, abort_of, grant_of, call_of, call_at}
use Rattle.journal.proofs.Parts.{byte_of}
use Rattle.journal.proofs.Numbers.{by_number, taken_low, taken_high, taken_most}
use Rattle.journal.proofs.Options.{unused_none, unused_both_none, unused_not_0, unused_which}
use Rattle.journal.proofs.Options.{given_none, given_which, number_other, number_which}

-- calls 6 and 9 use no subject
abbrev pub uses_subject : ℕ → Bool
uses_subject n = not (eqb n 6 || eqb n 9)

-- calls 1, 3, 11, 12 and 13 use an argument
abbrev pub uses_argument : ℕ → Bool
uses_argument n = eqb n 1 || eqb n 3 || eqb n 11 || eqb n 12 || eqb n 13

-- the causes of 18, in a word where a call should begin and the words after it
pub data Cause (w : ℕ) (rest : List ℕ) : Type 0 where
  -- "word of wrong kind or call number"
  wrong_word : words_taken (top_byte w) ≡ 0 → Cause w rest
  wrong_badge : 2 ≤ words_taken (top_byte w) → top_bits (get_or rest 0 0) ≢ 2 → Cause w rest
  wrong_message : 3 ≤ words_taken (top_byte w) → top_bits (get_or rest 1 0) ≢ 3 → Cause w rest
  -- "unused part not 0"
  subject_not_0 : uses_subject (call_number w) ≡ false → subject w ≢ 0 → Cause w rest
  argument_not_0 : uses_argument (call_number w) ≡ false → argument w ≢ 0 → Cause w rest
  -- a grant's argument has two unused parts, bits 7..6 and 15..12
  bits_not_0 :
      call_number w ≡ 13 → (argument w / 2 ^ 6 % 2 ^ 2 ≢ 0) ⊎ (argument w / 2 ^ 12 ≢ 0) → Cause w rest
  -- "word missing"
  missing : length (w ∷ rest) < words_taken (top_byte w) → Cause w rest

no_one : {A : Type 0} → ◌≡◌ {A = Bool} true false → A
no_one e = let z : ◌≡◌ {A = ℕ} 0 1 = cc in absurd (omega arith)

module _ (s a : ℕ) (rest : List ℕ) where
  -- no call begins so
  none_taken : (n : ℕ) → words_taken (16 + n) ≡ 0 → call_of n s a rest ≡ none
  unfolding words_taken call_of
  none_taken =
      by_number (λ n. words_taken (16 + n) ≡ 0 → call_of n s a rest ≡ none)
      (λ e. refl)
      (λ e. absurd (omega arith))
      (λ e. absurd (omega arith))
      (λ e. absurd (omega arith))
      (λ e. absurd (omega arith))
      (λ e. absurd (omega arith))
      (λ e. absurd (omega arith))
      (λ e. absurd (omega arith))
      (λ e. absurd (omega arith))
      (λ e. absurd (omega arith))
      (λ e. absurd (omega arith))
      (λ e. absurd (omega arith))
      (λ e. absurd (omega arith))
      (λ e. absurd (omega arith))
      (λ k e. refl)

  subject_wrong : s ≢ 0 → (n : ℕ) → uses_subject n ≡ false → call_of n s a rest ≡ none
  unfolding call_of
  subject_wrong h =
      by_number (λ n. uses_subject n ≡ false → call_of n s a rest ≡ none)
      (λ e. refl)
      no_one
      no_one
      no_one
      no_one
      no_one
      (λ e. unused_not_0 s _ h)
      no_one
      no_one
      (λ e. unused_not_0 s _ h)
      no_one
      no_one
      no_one
      no_one
      (λ k e. refl)

  argument_wrong : a ≢ 0 → (n : ℕ) → uses_argument n ≡ false → call_of n s a rest ≡ none
  unfolding call_of
  argument_wrong h =
      by_number (λ n. uses_argument n ≡ false → call_of n s a rest ≡ none)
      (λ e. refl)
      no_one
      (λ e. unused_not_0 a _ h)
      no_one
      (λ e. unused_not_0 a _ h)
      (λ e. unused_not_0 a _ h)
      (λ e. rw (unused_not_0 a _ h) (unused_none s))
      (λ e. unused_not_0 a _ h)
      (λ e. unused_not_0 a _ h)
      (λ e. rw (unused_not_0 a _ h) (unused_none s))
      (λ e. unused_not_0 a _ h)
      no_one
      no_one
      no_one
      (λ k e. refl)

  badge_wrong : number_in 2 rest ≡ none → (n : ℕ) → 2 ≤ words_taken (16 + n) → call_of n s a rest ≡ none
  unfolding words_taken call_of
  badge_wrong h =
      by_number (λ n. 2 ≤ words_taken (16 + n) → call_of n s a rest ≡ none)
      (λ e. refl)
      (λ e. absurd (omega arith))
      (λ e. absurd (omega arith))
      (λ e. absurd (omega arith))
      (λ e. absurd (omega arith))
      (λ e. absurd (omega arith))
      (λ e. absurd (omega arith))
      (λ e. rw h (unused_none a))
      (λ e. absurd (omega arith))
      (λ e. absurd (omega arith))
      (λ e. absurd (omega arith))
      (λ e. absurd (omega arith))
      (λ e. rw h)
      (λ e. rw h (unused_both_none (a / 2 ^ 6 % 2 ^ 2) (a / 2 ^ 12)))
      (λ k e. refl)

  message_wrong : number_in 3 (drop 1 rest) ≡ none → (n : ℕ) → 3 ≤ words_taken (16 + n) → call_of n s a rest ≡ none
  unfolding words_taken call_of
  message_wrong h =
      by_number (λ n. 3 ≤ words_taken (16 + n) → call_of n s a rest ≡ none)
      (λ e. refl)
      (λ e. absurd (omega arith))
      (λ e. absurd (omega arith))
      (λ e. absurd (omega arith))
      (λ e. absurd (omega arith))
      (λ e. absurd (omega arith))
      (λ e. absurd (omega arith))
      (λ e. simp (h, given_none (number_in 2 rest), unused_none a))
      (λ e. absurd (omega arith))
      (λ e. absurd (omega arith))
      (λ e. absurd (omega arith))
      (λ e. absurd (omega arith))
      (λ e. absurd (omega arith))
      (λ e. absurd (omega arith))
      (λ k e. refl)

  bits_wrong : (a / 2 ^ 6 % 2 ^ 2 ≢ 0) ⊎ (a / 2 ^ 12 ≢ 0) → (n : ℕ) → n ≡ 13 → call_of n s a rest ≡ none
  unfolding call_of
  bits_wrong (inl h) n e = rw e (unused_not_0 (a / 2 ^ 6 % 2 ^ 2) _ h)
  bits_wrong (inr h) n e = rw (e, unused_not_0 (a / 2 ^ 12) _ h) (unused_none (a / 2 ^ 6 % 2 ^ 2))

-- the words after a call word are too few
word_missing : (s a : ℕ) (rest : List ℕ) (n : ℕ) → suc (length rest) < words_taken (16 + n) → call_of n s a rest ≡ none
word_missing s a [] n h = badge_wrong s a [] refl n (omega arith)
word_missing s a (x ∷ []) n h = message_wrong s a (x ∷ []) refl n (omega arith)
word_missing s a (x ∷ y ∷ rest) n h = absurd (omega (arith, taken_most (16 + n)))

-- a word names a call only where its top bits are 1, and then by its parts
unless_one :
    (w : ℕ) (rest : List ℕ) →
    (top_byte w ≡ 16 + call_number w → call_of (call_number w) (subject w) (argument w) rest ≡ none) → call_at w rest
    ≡ none
unfolding call_at
unless_one w rest f = go (eqb (top_bits w) 1) refl
  where
    go :
        (b : Bool) → eqb (top_bits w) 1 ≡ b →
        pick b (call_of (call_number w) (subject w) (argument w) rest) none ≡ none
    go true t = f (byte_of w (eqb-true (top_bits w) 1 t))
    go false t = refl

-- where a cause of 18 holds, the words name no call
pub caused : (w : ℕ) (rest : List ℕ) → Cause w rest → call_at w rest ≡ none
caused w rest (wrong_word e) =
    unless_one w rest (λ b. none_taken (subject w) (argument w) rest (call_number w) (sym (ap words_taken b) ∙ e))
caused w rest (wrong_badge two h) =
    let none_there = number_other 2 rest h in
    unless_one w rest (λ b. badge_wrong (subject w) (argument w) rest none_there (call_number w) (rw b at two))
caused w rest (wrong_message three h) =
    let none_there = number_other 3 (drop 1 rest) (second rest h) in
    unless_one w rest (λ b. message_wrong (subject w) (argument w) rest none_there (call_number w) (rw b at three))
  where
    second : (l : List ℕ) → top_bits (get_or l 1 0) ≢ 3 → top_bits (get_or (drop 1 l) 0 0) ≢ 3
    second l h = rw (get_or-drop 1 l 0 0) h
caused w rest (subject_not_0 u h) =
    unless_one w rest (λ b. subject_wrong (subject w) (argument w) rest h (call_number w) u)
caused w rest (argument_not_0 u h) =
    unless_one w rest (λ b. argument_wrong (subject w) (argument w) rest h (call_number w) u)
caused w rest (bits_not_0 n h) =
    unless_one w rest (λ b. bits_wrong (subject w) (argument w) rest h (call_number w) n)
caused w rest (missing h) =
    unless_one w rest (λ b. word_missing (subject w) (argument w) rest (call_number w) (rw b at h))

not_none : {A : Type 0} (c : Call) → ◌≡◌ {A = Option Call} (some c) none → A
not_none c e = absurd (none-ne-some c (sym e))

module _ (w : ℕ) (rest : List ℕ) where
  -- w begins a call of number n
  abbrev Begins : ℕ → Type 0
  Begins n = (call_number w ≡ n) × (top_byte w ≡ 16 + n)

  -- the argument of such a call is not 0
  argument_cause : (n : ℕ) → Begins n → uses_argument n ≡ false → argument w ≢ 0 → Cause w rest
  argument_cause n b u h = argument_not_0 (ap uses_argument b.0 ∙ u) h

  only_argument :
      (n : ℕ) (c : Call) → uses_argument n ≡ false → Begins n → unused (argument w) (some c) ≡ none → Cause w rest
  only_argument n c u b e =
      ⊎_elim (argument_cause n b u) (not_none c) (unused_which (argument w) (some c) e)

  neither :
      (n : ℕ) (c : Call) → uses_subject n ≡ false → uses_argument n ≡ false → Begins n →
      unused (subject w) (unused (argument w) (some c)) ≡ none → Cause w rest
  neither n c us ua b e =
      ⊎_elim
      (λ h. subject_not_0 (ap uses_subject b.0 ∙ us) h)
      (only_argument n c ua b)
      (unused_which (subject w) (unused (argument w) (some c)) e)

  badge_cause : (n : ℕ) → Begins n → 2 ≤ words_taken (16 + n) → number_in 2 rest ≡ none → Cause w rest
  badge_cause n b two e =
      let t = ap words_taken b.1 in
      ⊎_elim (λ z. missing (omega arith)) (wrong_badge (omega arith)) (number_which 2 rest e)

  message_cause : (n : ℕ) → Begins n → 3 ≤ words_taken (16 + n) → number_in 3 (drop 1 rest) ≡ none → Cause w rest
  message_cause n b three e =
      let t = ap words_taken b.1 in
      ⊎_elim
      (λ z. missing (omega (arith, length-drop 1 rest)))
      (λ h. wrong_message (omega arith) (rw (get_or-drop 1 rest 0 0) at h))
      (number_which 3 (drop 1 rest) e)

  send_cause : Begins 7 → unused (argument w) (send_of (subject w) rest) ≡ none → Cause w rest
  unfolding words_taken
  send_cause b e =
      ⊎_elim (argument_cause 7 b refl)
      (λ e₁.
      ⊎_elim (badge_cause 7 b (omega arith))
      (λ n. ⊎_elim (message_cause 7 b (omega arith)) (λ m. not_none (Send (subject w) n.0 m.0) m.1)
      (given_which (number_in 3 (drop 1 rest)) (λ m. some (Send (subject w) n.0 m)) n.1))
      (given_which (number_in 2 rest) (λ b. with_message rest (λ m. some (Send (subject w) b m))) e₁))
      (unused_which (argument w) (send_of (subject w) rest) e)

  abort_cause : Begins 12 → abort_of (subject w) (argument w) rest ≡ none → Cause w rest
  unfolding words_taken
  abort_cause b e =
      ⊎_elim (badge_cause 12 b (omega arith)) (λ n. not_none (Abort (subject w) (argument w) n.0) n.1)
      (given_which (number_in 2 rest) (λ b. some (Abort (subject w) (argument w) b)) e)

  grant_cause : Begins 13 → grant_of (subject w) (argument w) rest ≡ none → Cause w rest
  unfolding words_taken
  grant_cause b e =
      ⊎_elim (λ h. bits_not_0 b.0 (inl h))
      (λ e₁.
      ⊎_elim (λ h. bits_not_0 b.0 (inr h))
      (λ e₂.
      ⊎_elim (badge_cause 13 b (omega arith)) (λ n. not_none (grant n.0) n.1)
      (given_which (number_in 2 rest) (λ b. some (grant b)) e₂))
      (unused_which (argument w / 2 ^ 12) _ e₁))
      (unused_which (argument w / 2 ^ 6 % 2 ^ 2) _ e)
    where
      grant : ℕ → Call
      grant b = Grant (subject w) (argument w % 2 ^ 6) (argument w / 2 ^ 8 % 2 ^ 4) b

  number_cause : (n : ℕ) → Begins n → call_of n (subject w) (argument w) rest ≡ none → Cause w rest
  unfolding call_of words_taken
  number_cause =
      by_number (λ n. Begins n → call_of n (subject w) (argument w) rest ≡ none → Cause w rest)
      (λ b e. wrong_word (ap words_taken b.1))
      (λ b. not_none (CreateThread (subject w) (argument w)))
      (only_argument 2 (DestroyThread (subject w)) refl)
      (λ b. not_none (SetPriority (subject w) (argument w)))
      (only_argument 4 (CreateEndpoint (subject w)) refl)
      (only_argument 5 (Interrupt (subject w)) refl)
      (neither 6 Tick refl refl)
      send_cause
      (only_argument 8 (Receive (subject w)) refl)
      (neither 9 Yield refl refl)
      (only_argument 10 (Wait (subject w)) refl)
      (λ b. not_none (Delete (subject w) (argument w)))
      abort_cause
      grant_cause
      (λ k b e. wrong_word (taken_high (top_byte w) (omega arith)))

  pub cause_of : call_at w rest ≡ none → Cause w rest
  unfolding call_at
  cause_of e = go (eqb (top_bits w) 1) refl e
    where
      other : top_bits w ≢ 1 → (b : Bool) → leb (top_byte w) 16 ≡ b → Cause w rest
      other h true l = wrong_word (taken_low (top_byte w) (omega (arith, leb-true (top_byte w) 16 l)))
      other h false l = wrong_word (taken_high (top_byte w) (omega (arith, leb-false (top_byte w) 16 l)))

      go :
          (b : Bool) → eqb (top_bits w) 1 ≡ b →
          pick b (call_of (call_number w) (subject w) (argument w) rest) none ≡ none → Cause w rest
      go true t e' = number_cause (call_number w) (refl, byte_of w (eqb-true (top_bits w) 1 t)) e'
      go false t e' = other (eqb-false (top_bits w) 1 t) (leb (top_byte w) 16) refl
