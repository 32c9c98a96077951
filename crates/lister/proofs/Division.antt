-- The listing and the tellings of a journal do not depend on how its bytes are divided into parts.
use Rattle.std.proofs.Common.{◌≡◌, ℕ, suc, ◌^◌, ◌<◌, List, [], ◌++◌, length, sym, refl, ap, ◌∙◌, subst, append_assoc}
use Rattle.std.proofs.Common.{arith}
use Rattle.machine.specs.State.{fresh_state}
use Rattle.machine.specs.Grants.{fresh_grants}
use Rattle.machine.proofs.Granted.{fresh_grants_sound}
use Rattle.machine.proofs.Preserved.Steps.{fresh_sound}
use Rattle.lent_tables.specs.Entries.{Lent, lent, Sized, Freshened}
use Rattle.lent_tables.proofs.Verdict.{fresh_left}
use Rattle.listing.specs.Line.{header}
use Rattle.input.specs.Words.{words_in}
use Rattle.forms.specs.declared.Form.{Form}
use Rattle.forms.specs.declared.Form.TheVariants.{Lines, Sentences, Numbered}
use Rattle.journal.specs.Course.{course_of}
use Rattle.lister.specs.Listing.{whole_of, text_of, listing_of, telling_of, numbered_of, Prefix}
use Rattle.lister.specs.Feeding.{Told, fed, ending, fed_parts, joined, starting, starting_fresh}
use Rattle.lister.proofs.Feeding.{following, fed_append, parts_joined}
use Rattle.lister.proofs.Streams.{Streams, streams}

-- In each form.

-- All that is told, with what is written at the end.
abbrev ended : Form → Told → List ℕ
ended f t = t.text ++ ending f t.after

module _ (f : Form) (m : Lent) (z : Sized m) where
  in_one :
      (bytes : List ℕ) → length bytes < 2 ^ 64 → Streams f (fed f bytes (starting_fresh m)) (text_of f bytes)
  unfolding course_of
  in_one bytes few =
      subst
      (λ (k : Freshened).
      Streams f (fed f bytes (starting (lent k.tables k.grants m.scratch))) (text_of f bytes))
      (sym (fresh_left m.tables m.grants z.0 z.1))
      (streams f bytes [] (suc (length (words_in bytes))) 0 fresh_grants fresh_state m.scratch fresh_grants_sound
      fresh_sound z.2 refl (omega arith) (omega (arith, few)))

  in_parts :
      (parts : List (List ℕ)) → length (joined parts) < 2 ^ 64
      → Streams f (fed_parts f parts (starting_fresh m)) (text_of f (joined parts))
  in_parts parts few =
      subst (λ (t : Told). Streams f t (text_of f (joined parts))) (sym (parts_joined f parts (starting_fresh m)))
      (in_one (joined parts) few)

  a_front :
      (parts : List (List ℕ)) (behind : List ℕ) → length (joined parts ++ behind) < 2 ^ 64
      → Prefix (fed_parts f parts (starting_fresh m)).text (whole_of (text_of f (joined parts ++ behind)))
  a_front parts behind few =
      let s = starting_fresh m in
      let t = fed_parts f parts s in
      let u = fed f behind t.after in
      let first : fed f (joined parts ++ behind) s ≡ following t u =
      fed_append f (joined parts) behind s
      ∙ ap (λ (k : Told). following k (fed f behind k.after)) (sym (parts_joined f parts s)) in
      record {
        more = ended f u;
        whole =
            sym (in_one (joined parts ++ behind) few).whole
            ∙ ap (ended f) first
            ∙ append_assoc t.text u.text (ending f u.after);
      }

-- In lines of numbers.

-- For every division of the bytes into parts, from whatever the lent memory held before it was made fresh, the
-- header and the bytes written, with those at the end, are the listing of the whole. The bound is there because a
-- line's index has 64 bits.
pub every_division :
    (parts : List (List ℕ)) (m : Lent) → Sized m → length (joined parts) < 2 ^ 64
    → header
    ++ ((fed_parts Lines parts (starting_fresh m)).text
    ++ ending Lines (fed_parts Lines parts (starting_fresh m)).after)
    ≡ listing_of (joined parts)
unfolding listing_of
every_division parts m z few = ap (λ (l : List ℕ). header ++ l) (in_parts Lines m z parts few).whole

-- After each part every call whose words are all there is listed at once: the text so far begins with their lines.
pub at_once :
    (parts : List (List ℕ)) (m : Lent) → Sized m → length (joined parts) < 2 ^ 64
    → Prefix (text_of Lines (joined parts)).calls (fed_parts Lines parts (starting_fresh m)).text
at_once parts m z few = (in_parts Lines m z parts few).begun

-- After each part nothing is written that the whole listing would not have, whatever bytes come behind.
pub no_more :
    (parts : List (List ℕ)) (behind : List ℕ) (m : Lent) → Sized m → length (joined parts ++ behind) < 2 ^ 64
    → Prefix (header ++ (fed_parts Lines parts (starting_fresh m)).text) (listing_of (joined parts ++ behind))
unfolding listing_of
no_more parts behind m z few =
    let p = a_front Lines m z parts behind few in
    record {
      more = p.more;
      whole =
          ap (λ (l : List ℕ). header ++ l) p.whole
          ∙ sym (append_assoc header (fed_parts Lines parts (starting_fresh m)).text p.more);
    }

-- In sentences, which have no header.

-- For every division of the bytes into parts the bytes written, with those at the end, are the telling of the whole.
pub every_division_told :
    (parts : List (List ℕ)) (m : Lent) → Sized m → length (joined parts) < 2 ^ 64
    → (fed_parts Sentences parts (starting_fresh m)).text
    ++ ending Sentences (fed_parts Sentences parts (starting_fresh m)).after
    ≡ telling_of (joined parts)
unfolding telling_of
every_division_told parts m z few = (in_parts Sentences m z parts few).whole

-- After each part every call whose words are all there is told at once: the text so far begins with their sentences.
pub at_once_told :
    (parts : List (List ℕ)) (m : Lent) → Sized m → length (joined parts) < 2 ^ 64
    → Prefix (text_of Sentences (joined parts)).calls (fed_parts Sentences parts (starting_fresh m)).text
at_once_told parts m z few = (in_parts Sentences m z parts few).begun

-- After each part nothing is written that the whole telling would not have, whatever bytes come behind.
pub no_more_told :
    (parts : List (List ℕ)) (behind : List ℕ) (m : Lent) → Sized m → length (joined parts ++ behind) < 2 ^ 64
    → Prefix (fed_parts Sentences parts (starting_fresh m)).text (telling_of (joined parts ++ behind))
unfolding telling_of
no_more_told parts behind m z few = a_front Sentences m z parts behind few

-- In numbered sentences, which have none either.

-- For every division of the bytes into parts the bytes written, with those at the end, are the numbered telling of the
-- whole.
pub every_division_numbered :
    (parts : List (List ℕ)) (m : Lent) → Sized m → length (joined parts) < 2 ^ 64
    → (fed_parts Numbered parts (starting_fresh m)).text
    ++ ending Numbered (fed_parts Numbered parts (starting_fresh m)).after
    ≡ numbered_of (joined parts)
unfolding numbered_of
every_division_numbered parts m z few = (in_parts Numbered m z parts few).whole

-- After each part every call whose words are all there is told at once: the text so far begins with their sentences.
pub at_once_numbered :
    (parts : List (List ℕ)) (m : Lent) → Sized m → length (joined parts) < 2 ^ 64
    → Prefix (text_of Numbered (joined parts)).calls (fed_parts Numbered parts (starting_fresh m)).text
at_once_numbered parts m z few = (in_parts Numbered m z parts few).begun

-- After each part nothing is written that the whole numbered telling would not have, whatever bytes come behind.
pub no_more_numbered :
    (parts : List (List ℕ)) (behind : List ℕ) (m : Lent) → Sized m → length (joined parts ++ behind) < 2 ^ 64
    → Prefix (fed_parts Numbered parts (starting_fresh m)).text (numbered_of (joined parts ++ behind))
unfolding numbered_of
no_more_numbered parts behind m z few = a_front Numbered m z parts behind few
