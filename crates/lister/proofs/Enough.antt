-- Bytes that have all the words that their first word asks for, and bytes that lack some: how they read.
use Rattle.std.proofs.Common.{◌≡◌, ℕ, ◌+◌, ◌*◌, ◌<◌, ◌≤◌, Bool, true, false, ◌&&◌, leb, List, [], ◌∷◌, ◌++◌, length}
use Rattle.std.proofs.Common.{drop, sym, refl, ap, ◌∙◌, subst, arith, length-append, leb-false, leb-true}
use Rattle.calls.specs.declared.Call.{Call}
use Rattle.journal.specs.declared.types.Read.TheVariants.{Found, Refused, Ended}
use Rattle.journal.specs.Words.{top_byte, words_taken, read_at}
use Rattle.journal.proofs.Appended.{whole_appended, words_missing, found_behind}
use Rattle.journal.proofs.Refusals.{ends_only}
use Rattle.input.specs.Words.{little_endian, words_in}
use Rattle.input.proofs.Appended.{first_word, first_appended, length_words, words_append}
use Rattle.lister.specs.Feeding.{ready}

-- How many words the first word of the bytes asks for.
abbrev pub asked : List ℕ → ℕ
asked bytes = words_taken (top_byte (little_endian bytes 0))

differ : {A : Type 0} → ◌≡◌ {A = Bool} true false → A
differ e = let z : ◌≡◌ {A = ℕ} 0 1 = cc in absurd (omega arith)

-- What it is to be ready, by the number of bytes and of those asked for.
both_there : (n k : ℕ) → (leb 4 n && leb k n) ≡ true → (4 ≤ n) × (k ≤ n)
both_there n k = go (leb 4 n) (leb k n) refl refl
  where
    go : (t u : Bool) → leb 4 n ≡ t → leb k n ≡ u → (t && u) ≡ true → (4 ≤ n) × (k ≤ n)
    go true true e f r = (leb-true 4 n e, leb-true k n f)
    go true false e f r = differ (sym r)
    go false u e f r = differ (sym r)

one_lacks : (n k : ℕ) → (leb 4 n && leb k n) ≡ false → 4 ≤ n → n < k
one_lacks n k = go (leb 4 n) (leb k n) refl refl
  where
    go : (t u : Bool) → leb 4 n ≡ t → leb k n ≡ u → (t && u) ≡ false → 4 ≤ n → n < k
    go true true e f r h = differ r
    go true false e f r h = leb-false k n f
    go false u e f r h = absurd (omega (arith, h, leb-false 4 n e))

-- The bytes are whole words, as many as are asked for: one at least, which a word that begins no call has.
pub record Whole (bytes : List ℕ) : Type 0 where
  pub words : ℕ
  pub fills : length bytes ≡ words * 4
  pub one : 1 ≤ words
  pub enough : asked bytes ≤ words
  pub exact : 1 ≤ asked bytes → words ≡ asked bytes

grown :
    (held : List ℕ) (b : ℕ) → length held + 1 ≡ asked (held ++ (b ∷ [])) * 4 → 4 ≤ length held
    → Whole (held ++ (b ∷ []))
grown held b e h =
    let k = asked (held ++ (b ∷ [])) in
    record {
      words = k;
      fills = length-append held (b ∷ []) ∙ e;
      one = omega (arith, e, h);
      enough = omega arith;
      exact = λ _. refl;
    }

begun :
    (held : List ℕ) (b : ℕ) → length held + 1 ≡ 4 → asked (held ++ (b ∷ [])) * 4 ≤ 4 → Whole (held ++ (b ∷ []))
begun held b e h =
    record {
      words = 1;
      fills = length-append held (b ∷ []) ∙ e;
      one = omega arith;
      enough = omega (arith, h);
      exact = λ some. omega (arith, h, some);
    }

-- Bytes become ready exactly at the last byte asked for.
pub whole_now :
    (held : List ℕ) (b : ℕ) → ready held ≡ false → ready (held ++ (b ∷ [])) ≡ true → Whole (held ++ (b ∷ []))
whole_now held b before after = go (leb 4 (length held)) refl
  where
    longer : length (held ++ (b ∷ [])) ≡ length held + 1
    longer = length-append held (b ∷ [])

    there : (4 ≤ length (held ++ (b ∷ []))) × (asked (held ++ (b ∷ [])) * 4 ≤ length (held ++ (b ∷ [])))
    there = both_there (length (held ++ (b ∷ []))) (asked (held ++ (b ∷ [])) * 4) after

    go : (t : Bool) → leb 4 (length held) ≡ t → Whole (held ++ (b ∷ []))
    go true e =
        let h = leb-true 4 (length held) e in
        let same : asked (held ++ (b ∷ [])) ≡ asked held =
        ap (λ (w : ℕ). words_taken (top_byte w)) (first_appended held (b ∷ []) h) in
        let less = one_lacks (length held) (asked held * 4) before h in
        grown held b (omega (arith, longer, there.1, same, less)) h
    go false e =
        let h = leb-false 4 (length held) e in
        begun held b (omega (arith, longer, there.0, h)) (omega (arith, longer, there.0, there.1, h))

-- Bytes that are ready have a word, and as many words as they are whole.
module _ (bytes : List ℕ) (v : Whole bytes) where
  rest : List ℕ
  rest = words_in (drop 4 bytes)

  some_bytes : 4 ≤ length bytes
  some_bytes = omega (arith, v.fills, v.one)

  begins : words_in bytes ≡ little_endian bytes 0 ∷ rest
  unfolding rest
  begins = first_word bytes some_bytes

  pub how_many : length (words_in bytes) ≡ v.words
  how_many = omega (arith, length_words bytes, v.fills)

  all_there : asked bytes ≤ length (little_endian bytes 0 ∷ rest)
  all_there = subst (λ (l : List ℕ). asked bytes ≤ length l) begins (omega (arith, how_many, v.enough))

  -- Their words come before those of what is appended,
  pub whole_words : (more : List ℕ) → words_in (bytes ++ more) ≡ words_in bytes ++ words_in more
  whole_words more = words_append bytes more v.words v.fills

  -- which does not change how they read.
  pub read_same : (more : List ℕ) → read_at (words_in bytes ++ words_in more) 0 ≡ read_at (words_in bytes) 0
  read_same more =
      let w = little_endian bytes 0 in
      ap (λ (l : List ℕ). read_at (l ++ words_in more) 0) begins
      ∙ whole_appended w rest (words_in more) all_there
      ∙ sym (ap (λ (l : List ℕ). read_at l 0) begins)

  -- A call that is read has all of them.
  pub read_all : (c : Call) (next : ℕ) → read_at (words_in bytes) 0 ≡ Found c next → next ≡ length (words_in bytes)
  read_all c next e =
      let f = found_behind (little_endian bytes 0) rest c next (sym (ap (λ (l : List ℕ). read_at l 0) begins) ∙ e) in
      let x = v.exact (omega (arith, f.taken, f.some_words)) in
      omega (arith, f.taken, x, how_many)

  pub not_over : {A : Type 0} → read_at (words_in bytes) 0 ≡ Ended → A
  not_over e = absurd (omega (arith, ends_only (words_in bytes) 0 e, how_many, v.one))

-- Bytes that are not ready, though they have a word, are no call.
pub read_missing :
    (bytes : List ℕ) → ready bytes ≡ false → 4 ≤ length bytes → read_at (words_in bytes) 0 ≡ Refused 18 0
read_missing bytes e h =
    let w = little_endian bytes 0 in
    let l = words_in (drop 4 bytes) in
    let begins : words_in bytes ≡ w ∷ l = first_word bytes h in
    let less = one_lacks (length bytes) (asked bytes * 4) e h in
    ap (λ (k : List ℕ). read_at k 0) begins
    ∙ words_missing w l
    (subst (λ (k : List ℕ). length k < asked bytes) begins (omega (arith, length_words bytes, less)))
