-- What is written while bytes come in, byte by byte: the text of all of them.
use Rattle.std.proofs.Common.{◌≡◌, ℕ, zero, suc, ◌+◌, ◌^◌, ◌<◌, Bool, true, false, List, [], ◌∷◌, ◌++◌, length, sym}
use Rattle.std.proofs.Common.{refl, ap, ◌∙◌, subst, append_assoc, append-nil, arith, length-append}
use lib.Seq.{append_snoc}
use Rattle.calls.specs.declared.Call.{Call}
use Rattle.machine.specs.State.{State}
use Rattle.machine.specs.Grants.{Grants, SoundGrants}
use Rattle.machine.specs.Machine.{step, grants_by}
use Rattle.machine.specs.Sound.{Sound}
use Rattle.machine.proofs.Granted.{grants_sound}
use Rattle.machine.proofs.Preserved.Steps.{step_sound}
use Rattle.journal.specs.declared.types.Read.{Read}
use Rattle.journal.specs.declared.types.Read.TheVariants.{Found, Refused, Ended}
use Rattle.journal.specs.Words.{read_at, read_from}
use Rattle.layout.specs.Addresses.{scratch_words}
use Rattle.lent_tables.specs.Entries.{zeros}
use Rattle.lent_tables.proofs.Verdict.{zeros_length}
use Rattle.input.specs.Words.{words_in}
use Rattle.forms.specs.declared.Form.{Form}
use Rattle.journal.specs.Course.{course_from}
use Rattle.lister.specs.Listing.{Text, whole_of, Prefix}
use Rattle.forms.specs.Forms.{stop_text}
use Rattle.lister.specs.Feeding.{Told, ready, holding, fed, ending}
use Rattle.lister.proofs.Enough.{Whole, whole_now, how_many, whole_words, not_over}
use Rattle.lister.proofs.Texts.{before, stops_with, text_for}
use Rattle.lister.proofs.Behind.{text_on, text_taken, text_refused, text_lacking}
use Rattle.lister.proofs.Feeding.{following, fed_first, fed_stopped, ending_stopped, on, byte_held, byte_taken}
use Rattle.lister.proofs.Feeding.{taken_told, call_told_lem, stopped, stop_told, refused_told, ending_held}

-- With what is written at the end, what is told is the whole text; it begins with the text of the calls.
pub record Streams (f : Form) (t : Told) (x : Text) : Type 0 where
  pub whole : t.text ++ ending f t.after ≡ whole_of x
  pub begun : Prefix x.calls t.text

module _ (f : Form) where
  -- The same told of the same text.
  alike : {t u : Told} {x y : Text} → t ≡ u → x ≡ y → Streams f u y → Streams f t x
  alike {t} {u} {x} {y} e g v =
      subst (λ (k : Told). Streams f k x) (sym e) (subst (λ (k : Text). Streams f u k) (sym g) v)

  -- No byte is left.
  at_end :
      (held : List ℕ) (n i : ℕ) (g : Grants) (s : State) (x : List ℕ) → Sound s → ready held ≡ false
      → Streams f (fed f [] (on held i g s x)) (text_on f (suc n) i held g s)
  unfolding fed ending course_from read_at read_from words_in
  at_end [] n i g s x S e = record { whole = refl; begun = record { more = []; whole = refl } }
  at_end (b ∷ held) n i g s x S e =
      alike refl (text_lacking f (b ∷ held) n i g s e (omega arith))
      (record { whole = ending_held f b held i g s x S; begun = record { more = []; whole = refl } })

  -- A call's text is written before the others,
  one_taken :
      (i : ℕ) (c : Call) (g : Grants) (s : State) (u : Told) (y : Text) → Streams f u y
      → Streams f (following (taken_told f i c g s) u) (before (text_for f i c g s) y)
  one_taken i c g s u y v =
      let text = text_for f i c g s in
      let more = v.begun.more in
      record {
        whole =
            append_assoc text u.text (ending f u.after)
            ∙ ap (λ (l : List ℕ). text ++ l) v.whole
            ∙ sym (append_assoc text y.calls y.stop);
        begun =
            record {
              more = more;
              whole = ap (λ (l : List ℕ). text ++ l) v.begun.whole ∙ sym (append_assoc text y.calls more);
            };
      }

  -- and nothing behind what stops the journal.
  one_refused :
      (i code : ℕ) (g : Grants) (s : State) (x bytes : List ℕ)
      → Streams f (following (stop_told f i code g s x) (fed f bytes (stopped i g s x)))
      (stops_with (stop_text f i code s.runs))
  one_refused i code g s x bytes =
      let text = stop_text f i code s.runs in
      let stands = stopped i g s x in
      alike (ap (following (stop_told f i code g s x)) (fed_stopped f bytes stands refl)) refl
      (record {
        whole =
            ap (λ (l : List ℕ). text ++ [] ++ l) (ending_stopped f stands refl) ∙ append-nil (text ++ [])
            ∙ append-nil text;
        begun = record { more = text ++ []; whole = refl };
      })

-- One byte more: it is held with the others or, as the last byte of a call, gives its text.
module _
    (f : Form)
    (b : ℕ)
    (bytes held : List ℕ)
    (n i : ℕ)
    (g : Grants)
    (s : State)
    (x : List ℕ)
    (G : SoundGrants g)
    (S : Sound s)
    (k : length x ≡ scratch_words)
  where
    -- the bytes held and this one
    abbrev longer : List ℕ
    longer = held ++ (b ∷ [])

    -- what is to show
    abbrev Goal : Type 0
    Goal = Streams f (fed f (b ∷ bytes) (on held i g s x)) (text_on f (suc n) i (longer ++ bytes) g s)

    -- the same with these bytes held, and behind a call
    abbrev Held : Type 0
    Held = Streams f (fed f bytes (on longer i g s x)) (text_on f (suc n) i (longer ++ bytes) g s)

    abbrev Behind : Call → Type 0
    Behind c =
        Streams f (fed f bytes (on [] (suc i) (grants_by g s c) (step g s c).state zeros))
        (text_on f n (suc i) bytes (grants_by g s c) (step g s c).state)

    still_held : ready longer ≡ false → Held → Goal
    still_held e v =
        alike f
        (fed_first f b bytes (on held i g s x) (holding longer (on held i g s x)) (byte_held f b held i g s x e)) refl v

    call_read :
        ready longer ≡ true → Whole longer → i + 1 < 2 ^ 64 → (c : Call) (next : ℕ)
        → read_at (words_in longer) 0 ≡ Found c next → Behind c → Goal
    call_read e v h c next j w =
        let s' = (step g s c).state in
        let g' = grants_by g s c in
        alike f
        (fed_first f b bytes (on held i g s x) (taken_told f i c g s)
        (byte_taken f b held i g s x e (Found c next) j ∙ call_told_lem f c next held i g s x G S k h))
        (text_taken f longer bytes v n i g s c next j)
        (one_taken f i c g s (fed f bytes (on [] (suc i) g' s' zeros)) (text_on f n (suc i) bytes g' s') w)

    none_read :
        ready longer ≡ true → Whole longer → (code at : ℕ) → read_at (words_in longer) 0 ≡ Refused code at → Goal
    none_read e v code at j =
        alike f
        (fed_first f b bytes (on held i g s x) (stop_told f i code g s x)
        (byte_taken f b held i g s x e (Refused code at) j ∙ refused_told f code at held i g s x S))
        (text_refused f longer bytes v n i g s code at j)
        (one_refused f i code g s x bytes)

    one_byte :
        ready held ≡ false → length (words_in (longer ++ bytes)) < suc n → i + length (longer ++ bytes) < 2 ^ 64
        → (ready longer ≡ false → Held)
        → ((c : Call) → length (words_in bytes) < n → suc i + length bytes < 2 ^ 64 → Behind c)
        → Goal
    one_byte before words few keeps goes = at (ready longer) refl
      where
        fewer : Whole longer → length (words_in bytes) < n
        fewer v =
            omega (
              arith,
              words,
              ap length (whole_words longer v bytes),
              length-append (words_in longer) (words_in bytes),
              how_many longer v,
              v.one,
            )

        within : Whole longer → suc i + length bytes < 2 ^ 64
        within v = omega (arith, few, length-append longer bytes, v.fills, v.one)

        by : ready longer ≡ true → Whole longer → (r : Read) → read_at (words_in longer) 0 ≡ r → Goal
        by e v (Found c next) j =
            call_read e v (omega (arith, within v)) c next j (goes c (fewer v) (within v))
        by e v (Refused code place) j = none_read e v code place j
        by e v Ended j = not_over longer v j

        at : (t : Bool) → ready longer ≡ t → Goal
        at true e = by e (whole_now held b before e) (read_at (words_in longer) 0) refl
        at false e = still_held e (keeps e)

-- For any bytes held that are not ready, any index, any sound state and as many turns as there are words.
pub streams :
    (f : Form) (bytes held : List ℕ) (n i : ℕ) (g : Grants) (s : State) (x : List ℕ) → SoundGrants g → Sound s
    → length x ≡ scratch_words
    → ready held ≡ false → length (words_in (held ++ bytes)) < n → i + length (held ++ bytes) < 2 ^ 64
    → Streams f (fed f bytes (on held i g s x)) (text_on f n i (held ++ bytes) g s)
streams f bytes held zero i g s x G S k e words few = absurd (omega (arith, words))
streams f [] held (suc n) i g s x G S k e words few =
    subst (λ (l : List ℕ). Streams f (fed f [] (on held i g s x)) (text_on f (suc n) i l g s))
    (sym (append-nil held)) (at_end f held n i g s x S e)
streams f (b ∷ bytes) held (suc n) i g s x G S k e words few =
    let longer = held ++ (b ∷ []) in
    let same : longer ++ bytes ≡ held ++ (b ∷ bytes) = append_snoc held b bytes in
    let words' = subst (λ (l : List ℕ). length (words_in l) < suc n) (sym same) words in
    let few' = subst (λ (l : List ℕ). i + length l < 2 ^ 64) (sym same) few in
    subst
    (λ (l : List ℕ). Streams f (fed f (b ∷ bytes) (on held i g s x)) (text_on f (suc n) i l g s)) same
    (one_byte f b bytes held n i g s x G S k e words' few'
    (λ h. streams f bytes longer (suc n) i g s x G S k h words' few')
    (λ c w h.
    streams f bytes [] n (suc i) (grants_by g s c) (step g s c).state zeros (grants_sound g s c G) (step_sound g s c S)
    zeros_length refl w h))
