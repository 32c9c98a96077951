-- One byte: whether the bytes held are ready with it, and that they are held or taken; and a part, byte by byte.
use Rattle.std.proofs.Common.{◌≡◌, ℕ, suc, ◌+◌, ◌*◌, ◌<◌, ◌≤◌, Bool, true, false, leb, List, [], ◌∷◌, ◌++◌, length}
use Rattle.std.proofs.Common.{get_or, take, set, sym, refl, ap, ◌∙◌, subst, true≢false, append_assoc, append-nil, arith}
use Rattle.std.proofs.Common.{length-take-le, take-suc, take-suc-set, le-leb, leb-false, leb-true}
use Rattle.machine.specs.Lists.{pick}
use Rattle.journal.specs.Words.{top_byte, words_taken, read_at}
use Rattle.journal.proofs.Numbers.{taken_most}
use Rattle.lent_tables.specs.Entries.{Lent}
use Rattle.texts.proofs.Writing.{wrote_nothing, wrote_then}
use Rattle.input.specs.Words.{little_endian, words_in}
use Rattle.rows.specs.Taking.{turned}
use Rattle.forms.specs.declared.Form.{Form}
use Rattle.lister.specs.declared.Lister.{Lister}
use Rattle.lister.specs.Feeding.{Progress, Told, ready, holding, told_by, offered, byte_to, fed}
use Rattle.lister.specs.Buffers.{progress_of, Feeds}

-- Twelve bytes are ready: no call has more.
all_ready : (bytes : List ℕ) → 12 ≤ length bytes → ready bytes ≡ true
all_ready bytes h =
    let n = words_taken (top_byte (little_endian bytes 0)) in
    let enough : n * 4 ≤ length bytes = omega (arith, h, taken_most (top_byte (little_endian bytes 0))) in
    rw (le-leb 4 (length bytes) (omega (arith, h)), le-leb (n * 4) (length bytes) enough)

few : (bytes : List ℕ) → ready bytes ≡ false → length bytes < 12
few bytes e = go (leb 12 (length bytes)) refl
  where
    go : (b : Bool) → leb 12 (length bytes) ≡ b → length bytes < 12
    go true t = absurd (true≢false (sym (all_ready bytes (leb-true 12 (length bytes) t)) ∙ e))
    go false f = leb-false 12 (length bytes) f

pub still_few : (bytes : List ℕ) (held : ℕ) → held ≤ length bytes → ready (take held bytes) ≡ false → held < 12
still_few bytes held h e = omega (arith, few (take held bytes) e, length-take-le held bytes h)

-- One byte.

pub one_more_held :
    (bytes : List ℕ) (held b : ℕ) → held < length bytes
    → take (held + 1) (set bytes held b) ≡ take held bytes ++ (b ∷ [])
one_more_held bytes held b h =
    let one : held + 1 ≡ suc held = omega arith in
    ap (λ (n : ℕ). take n (set bytes held b)) one ∙ take-suc-set bytes held b h

module _ (f : Form) (b : ℕ) (l : Lister) (m : Lent) (out : List ℕ) (used : ℕ) where
  -- The journal has stopped.
  pub stays : l.going ≡ false → Feeds (byte_to f b (progress_of l m)) out used l used m out
  unfolding byte_to
  stays g =
      subst (λ (o : Told). Feeds o out used l used m out)
      (sym
      (ap (λ (k : Bool). pick k (offered f (take l.held l.bytes ++ (b ∷ [])) (progress_of l m))
      (holding (take l.held l.bytes) (progress_of l m))) g))
      (record { after = refl; text = wrote_nothing out used })

  module _ (more : List ℕ) (is : more ≡ take l.held l.bytes ++ (b ∷ [])) (g : l.going ≡ true) where
    bytes_offered :
        (r : Bool) → ready more ≡ r
        → byte_to f b (progress_of l m)
        ≡ pick r (told_by f (turned (read_at (words_in more) 0) m) (progress_of l m))
        (holding more (progress_of l m))
    unfolding byte_to
    bytes_offered r e =
        ap (λ (h : Bool). pick h (offered f (take l.held l.bytes ++ (b ∷ [])) (progress_of l m))
        (holding (take l.held l.bytes) (progress_of l m))) g
        ∙ ap (λ (bytes : List ℕ). offered f bytes (progress_of l m)) (sym is)
        ∙ ap (λ (h : Bool). pick h (told_by f (turned (read_at (words_in more) 0) m) (progress_of l m))
        (holding more (progress_of l m))) e

    -- The byte is held.
    pub not_yet :
        ready more ≡ false → (k : Lister) → progress_of k m ≡ (holding more (progress_of l m)).after
        → Feeds (byte_to f b (progress_of l m)) out used k used m out
    not_yet e k stands =
        subst (λ (o : Told). Feeds o out used k used m out) (sym (bytes_offered false e))
        (record { after = stands; text = wrote_nothing out used })

    -- The byte was a call's last.
    pub now_taken :
        ready more ≡ true → (k : Lister) (n : ℕ) (m' : Lent) (out' : List ℕ)
        → Feeds (told_by f (turned (read_at (words_in more) 0) m) (progress_of l m)) out used k n m' out'
        → Feeds (byte_to f b (progress_of l m)) out used k n m' out'
    now_taken e k n m' out' told =
        subst (λ (o : Told). Feeds o out used k n m' out') (sym (bytes_offered true e)) told

-- A part.

then : Told → Told → Told
then a b = record { after = b.after; text = a.text ++ b.text }

one_byte_more :
    (f : Form) (bytes : List ℕ) (b : ℕ) (s : Progress)
    → fed f (bytes ++ (b ∷ [])) s ≡ then (fed f bytes s) (byte_to f b (fed f bytes s).after)
unfolding fed then
one_byte_more f [] b s = ap (λ (t : List ℕ). told (byte_to f b s).after t) (append-nil (byte_to f b s).text)
  where
    told : Progress → List ℕ → Told
    told a t = record { after = a; text = t }
one_byte_more f (a ∷ bytes) b s =
    let s' = (byte_to f a s).after in
    ap (λ (t : Told). then (byte_to f a s) t) (one_byte_more f bytes b s')
    ∙ ap (λ (t : List ℕ). told (byte_to f b (fed f bytes s').after).after t)
    (sym (append_assoc (byte_to f a s).text (fed f bytes s').text (byte_to f b (fed f bytes s').after).text))
  where
    told : Progress → List ℕ → Told
    told a t = record { after = a; text = t }

module _ (f : Form) (l : Lister) (m : Lent) (out : List ℕ) where
  pub none_fed : Feeds (fed f [] (progress_of l m)) out 0 l 0 m out
  unfolding fed
  none_fed = record { after = refl; text = wrote_nothing out 0 }

  -- One byte more of the part.
  pub one_fed :
      (part : List ℕ) (i : ℕ) → i < length part
      → (a : Lister) (used : ℕ) (m₁ : Lent) (out₁ : List ℕ)
      → Feeds (fed f (take i part) (progress_of l m)) out 0 a used m₁ out₁ → used ≤ length out
      → (r : Lister) (n : ℕ) (m₂ : Lent) (out₂ : List ℕ)
      → Feeds (byte_to f (get_or part i 0) (progress_of a m₁)) out₁ used r n m₂ out₂
      → Feeds (fed f (take (i + 1) part) (progress_of l m)) out 0 r n m₂ out₂
  unfolding then
  one_fed part i h a used m₁ out₁ so_far room r n m₂ out₂ new =
      subst (λ (o : Told). Feeds o out 0 r n m₂ out₂)
      (sym
      (ap (λ (bytes : List ℕ). fed f bytes (progress_of l m)) one
      ∙ one_byte_more f (take i part) (get_or part i 0) (progress_of l m)))
      (record {
        after = new'.after;
        text = wrote_then (record { fits = omega (arith, so_far.text.next, room) }) so_far.text new'.text;
      })
    where
      one : take (i + 1) part ≡ take i part ++ (get_or part i 0 ∷ [])
      one = let e : i + 1 ≡ suc i = omega arith in ap (λ (n : ℕ). take n part) e ∙ take-suc part i 0 h

      new' :
          Feeds (byte_to f (get_or part i 0) (fed f (take i part) (progress_of l m)).after) out₁ used r n m₂ out₂
      new' =
          subst (λ (s : Progress). Feeds (byte_to f (get_or part i 0) s) out₁ used r n m₂ out₂) so_far.after new
