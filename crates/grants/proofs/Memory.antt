-- The memory of grants and the grants in a memory are inverse, and the test tells the sound ones.
use Prim.Native.Nat.{ℕ, zero, suc, ◌+◌, ◌*◌, ◌^◌, ◌/◌, ◌%◌, ◌≤◌, ◌<◌}
use mathlib.Core.Path.{◌≡◌, refl, sym, ◌∙◌, ap, subst, fun_ext}
use mathlib.Core.Logic.{◌⊎◌, inl, inr, ◌↔◌, ⊎_elim}
use mathlib.Core.Bool.{Bool, true, false, ◌&&◌, and-false, true≢false}
use mathlib.Core.List.{List}
use native.Mathlib.Omega.{arith}
use lib.Dec.{leb}
use lib.ListN.{length, get_or, replicate, length-replicate, get_or-replicate, get_or-eq_default}
use lib.Seq.{ext_get_or}
use borrow.Author.Tests.{le-leb, lt-leb, leb-true, leb-false}
use Rattle.machine.specs.Grants.{Grants, fresh_grants, SoundGrants}
use Rattle.layout.specs.Addresses.{word}
use Rattle.layout.specs.Tests.{all}
use Rattle.layout.proofs.Image.{length_tabulate, get_d_tabulate}
use Rattle.layout.proofs.Tests.{Decides, tells_below, tells_or, tells_eqb, tells_leb}
use Rattle.grants.specs.Memory.{grant_words, Words32, grants_of, grant_image, Bare, sound_word, sound_at}
use Rattle.grants.specs.Memory.{grants_test}

-- Words

pub length_image : (g : Grants) → length (grant_image g) ≡ grant_words
unfolding grant_image
length_image g = length_tabulate grant_words (λ i. g (i / 64) (i % 64))

word_image : (g : Grants) (i : ℕ) → i < grant_words → word (grant_image g) i ≡ g (i / 64) (i % 64)
unfolding grant_image word
word_image g i h = get_d_tabulate grant_words (λ i. g (i / 64) (i % 64)) i h

-- The word of a thread at an endpoint, in the memory of grants and in any memory.
pub image_at : (g : Grants) (t e : ℕ) → t ≤ 255 → e ≤ 63 → word (grant_image g) (64 * t + e) ≡ g t e
image_at g t e h k =
    let d : (64 * t + e) / 64 ≡ t = omega arith in
    let r : (64 * t + e) % 64 ≡ e = omega arith in
    word_image g (64 * t + e) (omega arith) ∙ rw (d, r)

pub grants_at : (l : List ℕ) (t e : ℕ) → t ≤ 255 → e ≤ 63 → grants_of l t e ≡ word l (64 * t + e)
unfolding grants_of
grants_at l t e h k = rw (le-leb t 255 h, le-leb e 63 k)

-- The word that is read at an address.
pub word_read :
    (l : List ℕ) (t e i w : ℕ) → t ≤ 255 → e ≤ 63 → i ≡ 64 * t + e → w ≡ word l i → w ≡ grants_of l t e
word_read l t e i w h k a is = is ∙ ap (word l) a ∙ sym (grants_at l t e h k)

-- A memory with the grants' words is their memory.
pub memory_is :
    (l : List ℕ) (g : Grants) → length l ≡ grant_words
    → ((t e : ℕ) → t ≤ 255 → e ≤ 63 → word l (64 * t + e) ≡ g t e) → l ≡ grant_image g
unfolding word
memory_is l g size f = ext_get_or 0 l (grant_image g) (size ∙ sym (length_image g)) same
  where
    same : (i : ℕ) → i < length l → get_or l i 0 ≡ get_or (grant_image g) i 0
    same i h =
        let b : i < grant_words = omega arith in
        let s : 64 * (i / 64) + i % 64 ≡ i = omega arith in
        subst (λ (j : ℕ). get_or l j 0 ≡ g (i / 64) (i % 64)) s (f (i / 64) (i % 64) (omega arith) (omega arith))
        ∙ sym (word_image g i b)

abbrev Within : ℕ → ℕ → Type 0
Within t e = (t ≤ 255) × (e ≤ 63)

abbrev Past : ℕ → ℕ → Type 0
Past t e = (255 < t) ⊎ (63 < e)

-- Past the last thread or endpoint a memory grants nothing.
beyond : (l : List ℕ) (t e : ℕ) → Past t e → grants_of l t e ≡ 0
unfolding grants_of
beyond l t e (inl h) = rw (lt-leb t 255 h)
beyond l t e (inr h) = rw (lt-leb e 63 h, and-false (leb t 255))

within : (t e : ℕ) → Within t e ⊎ Past t e
within t e = go (leb t 255) refl (leb e 63) refl
  where
    go : (a : Bool) → leb t 255 ≡ a → (b : Bool) → leb e 63 ≡ b → Within t e ⊎ Past t e
    go true h true k = inl (leb-true t 255 h, leb-true e 63 k)
    go true h false k = inr (inr (leb-false e 63 k))
    go false h b k = inr (inl (leb-false t 255 h))

-- Soundness

tells_word : (w : ℕ) → Decides (sound_word w) ((w ≡ 0) ⊎ (2 ^ 28 ≤ w))
tells_word w = tells_or (tells_eqb w 0) (tells_leb (2 ^ 28) w)

-- The test tells that each word is 0 or grants a right.
tells_grants :
    (l : List ℕ) → Decides (grants_test l) ((i : ℕ) → i < grant_words → (word l i ≡ 0) ⊎ (2 ^ 28 ≤ word l i))
unfolding grants_test sound_at
tells_grants l =
    tells_below grant_words (sound_at l) (λ i. (word l i ≡ 0) ⊎ (2 ^ 28 ≤ word l i)) (λ i h. tells_word (word l i))

test_sound : (l : List ℕ) → Words32 l → grants_test l ≡ true → SoundGrants (grants_of l)
test_sound l small h = record { words = λ t e. go t e (within t e); unused = beyond l }
  where
    go : (t e : ℕ) → Within t e ⊎ Past t e
        → (grants_of l t e ≡ 0) ⊎ ((2 ^ 28 ≤ grants_of l t e) × (grants_of l t e < 2 ^ 32))
    go t e (inl b) =
        rw (grants_at l t e b.0 b.1)
        (⊎_elim inl (λ k. inr (k, small (64 * t + e))) ((tells_grants l).holds h (64 * t + e) (omega arith)))
    go t e (inr b) = inl (beyond l t e b)

-- The memory of sound grants is one of 32-bit words, and passes the test.

pub image_words : (g : Grants) → SoundGrants g → Words32 (grant_image g)
unfolding word
image_words g s i = go (leb grant_words i) refl
  where
    small : (w : ℕ) → (w ≡ 0) ⊎ ((2 ^ 28 ≤ w) × (w < 2 ^ 32)) → w < 2 ^ 32
    small w (inl h) = omega (arith, h)
    small w (inr h) = h.1

    go : (b : Bool) → leb grant_words i ≡ b → get_or (grant_image g) i 0 < 2 ^ 32
    go true h =
        rw (get_or-eq_default (grant_image g) 0 {n = i} (omega (arith, length_image g, leb-true grant_words i h)))
        (omega arith)
    go false h =
        rw (word_image g i (leb-false grant_words i h)) (small (g (i / 64) (i % 64)) (s.words (i / 64) (i % 64)))

pub image_sound : (g : Grants) → SoundGrants g → grants_test (grant_image g) ≡ true
image_sound g s =
    (tells_grants (grant_image g)).back
    (λ i h. rw (word_image g i h) (⊎_elim inl (λ k. inr k.0) (s.words (i / 64) (i % 64))))

-- Each memory is that of its grants.
pub image_of : (l : List ℕ) → length l ≡ grant_words → grant_image (grants_of l) ≡ l
image_of l size = sym (memory_is l (grants_of l) size (λ t e h k. sym (grants_at l t e h k)))

-- Sound grants are those of their memory.
pub of_image : (g : Grants) → SoundGrants g → grants_of (grant_image g) ≡ g
of_image g s = fun_ext (λ t. fun_ext (λ e. go t e (within t e)))
  where
    go : (t e : ℕ) → Within t e ⊎ Past t e → grants_of (grant_image g) t e ≡ g t e
    go t e (inl b) = grants_at (grant_image g) t e b.0 b.1 ∙ image_at g t e b.0 b.1
    go t e (inr b) = beyond (grant_image g) t e b ∙ sym (s.unused t e b)

-- Each sound memory holds one table of sound grants, and each such table has one memory.
pub grants_exact :
    (l : List ℕ) (g : Grants) → length l ≡ grant_words → Words32 l
    → ((grants_test l ≡ true) × (grants_of l ≡ g)) ↔ (SoundGrants g × (l ≡ grant_image g))
grants_exact l g size small = (
  λ p. (
    subst SoundGrants p.1 (test_sound l small p.0),
    sym (image_of l size) ∙ ap grant_image p.1,
  ),
  λ p. (rw p.1 (image_sound g p.0), ap grants_of p.1 ∙ of_image g p.0),
)

-- The memory without any grant is all 0.
pub fresh_image : grant_image fresh_grants ≡ replicate grant_words 0
fresh_image =
    sym (memory_is (replicate grant_words 0) fresh_grants (length-replicate {A = ℕ} grant_words 0)
    (λ t e h k. unfold word in get_or-replicate grant_words (64 * t + e) 0 0 (omega arith)))

-- "one holding a badge without any right": the test fails exactly where some word has a badge, and of the rights none.

fails_somewhere : (n : ℕ) (f : ℕ → Bool) → all n f ≡ false → (i : ℕ) × (i < n) × (f i ≡ false)
unfolding all
fails_somewhere zero f h = absurd (true≢false h)
fails_somewhere (suc n) f h = go (f n) refl h (fails_somewhere n f)
  where
    go : (b : Bool) → f n ≡ b → b && all n f ≡ false → (all n f ≡ false → (i : ℕ) × (i < n) × (f i ≡ false))
        → (i : ℕ) × (i < suc n) × (f i ≡ false)
    go false e h below = (n, omega arith, e)
    go true e h below = let k = below h in (k.0, omega (arith, k.1), k.2)

bare_exactly : (w : ℕ) → (sound_word w ≡ false) ↔ Bare w
bare_exactly w = (λ h. there (leb (2 ^ 28) w) refl h, λ k. back (sound_word w) refl k)
  where
    there : (b : Bool) → leb (2 ^ 28) w ≡ b → sound_word w ≡ false → Bare w
    there true e h = absurd (true≢false (sym ((tells_word w).back (inr (leb-true (2 ^ 28) w e))) ∙ h))
    there false e h =
        let less = leb-false (2 ^ 28) w e in
        (omega (arith, less), λ z. true≢false (sym ((tells_word w).back (inl (omega (arith, less, z)))) ∙ h))

    back : (b : Bool) → sound_word w ≡ b → Bare w → sound_word w ≡ false
    back false e k = e
    back true e k =
        let rights = k.0 in
        absurd (⊎_elim (λ z. k.1 (omega (arith, z))) (λ z. omega (arith, z, rights)) ((tells_word w).holds e))

pub unsound_exactly : (l : List ℕ) → (grants_test l ≡ false) ↔ ((i : ℕ) × (i < grant_words) × Bare (word l i))
unfolding grants_test sound_at
unsound_exactly l = (there, back (grants_test l) refl)
  where
    there : grants_test l ≡ false → (i : ℕ) × (i < grant_words) × Bare (word l i)
    there h = let k = fails_somewhere grant_words (sound_at l) h in (k.0, k.1, (bare_exactly (word l k.0)).0 k.2)

    back : (b : Bool) → grants_test l ≡ b → (i : ℕ) × (i < grant_words) × Bare (word l i) → grants_test l ≡ false
    back false e k = e
    back true e k =
        absurd
        (true≢false
        (sym ((tells_word (word l k.0)).back ((tells_grants l).holds e k.0 k.1))
        ∙ (bare_exactly (word l k.0)).1 k.2))
