-- Numbers can be read back: two numbers, each followed by a byte that is no digit, are never the same bytes.
use Prim.Native.Nat.{ℕ, zero, suc, ◌+◌, ◌-◌, ◌*◌, ◌/◌, ◌%◌, ◌<◌}
use mathlib.Core.Path.{◌≡◌, refl, sym, ◌∙◌, ap, subst}
use mathlib.Core.Bool.{Bool, true, false, cond, ◌&&◌, not, false≢true, and_assoc, and-eq-true_iff, not-not}
use mathlib.Core.Option.{Option, none, some}
use mathlib.Core.List.{List, [], ◌∷◌, ◌++◌, append_assoc}
use native.Mathlib.Omega.{arith}
use native.Mathlib.Nat.{zero-add}
use lib.Dec.{leb, eqb}
use lib.ListN.{length, drop}
use lib.Seq.{drop-append_seam}
use borrow.Author.Tests.{le-leb, eq-eqb}
use Rattle.texts.specs.Decimal.{digit, decimal, spaced}
use Rattle.texts.proofs.Digits.{Digits, one, more, digits?, decimal_one, decimal_more, length_some}

-- A test fails where its opposite holds, and holds where that fails.
pub opposite : (b : Bool) {c : Bool} → not b ≡ c → b ≡ not c
opposite b e = sym (not-not b) ∙ ap not e

-- Reading digits

-- The number that a text of digits says, after those read so far.
unfoldable pub value : ℕ → List ℕ → ℕ
value n [] = n
value n (d ∷ l) = value (n * 10 + (d - 48)) l

value_last : (n : ℕ) (l : List ℕ) (d : ℕ) → value n (l ++ (d ∷ [])) ≡ value n l * 10 + (d - 48)
unfolding value
value_last n [] d = refl
value_last n (x ∷ l) d = value_last (n * 10 + (x - 48)) l d

value_one : (n : ℕ) → value 0 (digit n ∷ []) ≡ n
unfolding value
value_one n = omega arith

value_below : (k n : ℕ) → n < k → value 0 (decimal n) ≡ n
value_below zero n h = absurd (omega arith)
value_below (suc k) n h = go (digits? n) (value_below k (n / 10))
  where
    go : Digits n → (n / 10 < k → value 0 (decimal (n / 10)) ≡ n / 10) → value 0 (decimal n) ≡ n
    go (one s) ih = rw (decimal_one n s) (value_one n)
    go (more l) ih = rw (decimal_more n l, value_last, ih (omega arith)) (omega arith)

-- Reading back a number in decimal gives the number.
pub value_decimal : (n : ℕ) → value 0 (decimal n) ≡ n
value_decimal n = value_below (suc n) n (omega arith)

pub decimal_injective : (n n' : ℕ) → decimal n ≡ decimal n' → n ≡ n'
decimal_injective n n' e = sym (value_decimal n) ∙ ap (value 0) e ∙ value_decimal n'

-- Cutting a text where a kind of bytes ends

-- All bytes of a text are of the kind.
abbrev pub all : (ℕ → Bool) → List ℕ → Bool
all f [] = true
all f (d ∷ l) = f d && all f l

-- A text that does not go on with the kind.
abbrev pub Stops : (ℕ → Bool) → List ℕ → Type 0
Stops f [] = Unit {0}
Stops f (d ∷ l) = f d ≡ false

pub all_append : (f : ℕ → Bool) (l r : List ℕ) → all f (l ++ r) ≡ (all f l && all f r)
all_append f [] r = refl
all_append f (d ∷ l) r =
    ap (λ (b : Bool). f d && b) (all_append f l r) ∙ sym (and_assoc (f d) (all f l) (all f r))

-- The kind cannot both go on and stop.
goes_on : (f : ℕ → Bool) (d : ℕ) (s t t' : List ℕ) → all f (d ∷ s) ≡ true → Stops f t → t ≡ d ∷ (s ++ t') → ⊥
goes_on f d s t t' p q e =
    false≢true (sym (subst (Stops f) e q) ∙ ((and-eq-true_iff (f d) (all f s)).0 p).0)

pub cut_by :
    (f : ℕ → Bool) (s s' t t' : List ℕ) → all f s ≡ true → all f s' ≡ true → Stops f t → Stops f t'
    → s ++ t ≡ s' ++ t' → (s ≡ s') × (t ≡ t')
cut_by f [] [] t t' p p' q q' e = (refl, e)
cut_by f [] (d ∷ s') t t' p p' q q' e = absurd (goes_on f d s' t t' p' q e)
cut_by f (d ∷ s) [] t t' p p' q q' e = absurd (goes_on f d s t' t p q' (sym e))
cut_by f (d ∷ s) (d' ∷ s') t t' p p' q q' e =
    let r = ((and-eq-true_iff (f d) (all f s)).0 p).1 in
    let r' = ((and-eq-true_iff (f d') (all f s')).0 p').1 in
    let h = cut_by f s s' t t' r r' q q' (cc) in
    ((cc h.0), h.1)

-- Numbers

abbrev pub is_digit : ℕ → Bool
is_digit d = leb 48 d && leb d 57

digit_is : (d : ℕ) → d < 10 → all is_digit (digit d ∷ []) ≡ true
digit_is d h = rw (le-leb 48 (digit d) (omega arith), le-leb (digit d) 57 (omega arith))

digits_below : (k n : ℕ) → n < k → all is_digit (decimal n) ≡ true
digits_below zero n h = absurd (omega arith)
digits_below (suc k) n h = go (digits? n) (digits_below k (n / 10))
  where
    go : Digits n → (n / 10 < k → all is_digit (decimal (n / 10)) ≡ true) → all is_digit (decimal n) ≡ true
    go (one s) ih = rw (decimal_one n s) (digit_is n s)
    go (more l) ih =
        rw (decimal_more n l, all_append, ih (omega arith)) (digit_is (n % 10) (omega arith))

-- A number in decimal is digits alone.
pub decimal_digits : (n : ℕ) → all is_digit (decimal n) ≡ true
decimal_digits n = digits_below (suc n) n (omega arith)

-- Two numbers followed by no digit, of the same bytes, are the same, and so is what follows.
pub numbers_apart :
    (n n' : ℕ) (t t' : List ℕ) → Stops is_digit t → Stops is_digit t' → decimal n ++ t ≡ decimal n' ++ t'
    → (n ≡ n') × (t ≡ t')
numbers_apart n n' t t' q q' e =
    let h = cut_by is_digit (decimal n) (decimal n') t t' (decimal_digits n) (decimal_digits n') q q' e in
    (decimal_injective n n' h.0, h.1)

-- The same of numbers and their spaces.
pub spaced_apart : (n n' : ℕ) (t t' : List ℕ) → spaced n ++ t ≡ spaced n' ++ t' → (n ≡ n') × (t ≡ t')
unfolding spaced
spaced_apart n n' t t' e =
    let h = numbers_apart n n' (32 ∷ t) (32 ∷ t') refl refl (simp append_assoc at e) in
    (h.0, cc h.1)

-- Reading back what was written

-- The same front can be taken off.
pub same_front : (s t t' : List ℕ) → s ++ t ≡ s ++ t' → t ≡ t'
same_front s t t' e =
    sym (drop-append_seam s t) ∙ ap (λ (l : List ℕ). drop (length s) l) e ∙ drop-append_seam s t'

-- What can be read off the front of two texts is the same if the texts are, and so is what follows it.
pub read_apart :
    {A : Type 0} (write : A → List ℕ) (read : List ℕ → A) {a a' : A} {t t' : List ℕ}
    → read (write a ++ t) ≡ a → read (write a' ++ t') ≡ a' → write a ++ t ≡ write a' ++ t' → (a ≡ a') × (t ≡ t')
read_apart write read {a} {a'} {t} {t'} p p' e =
    let h = sym p ∙ ap read e ∙ p' in
    (h, same_front (write a) t t' (e ∙ ap (λ b. write b ++ t') (sym h)))

-- The text l begins with x.
abbrev pub opens_with : List ℕ → List ℕ → Bool
opens_with [] l = true
opens_with (d ∷ x) [] = false
opens_with (d ∷ x) (d' ∷ l) = eqb d d' && opens_with x l

pub opens_same : (x t : List ℕ) → opens_with x (x ++ t) ≡ true
opens_same [] t = refl
opens_same (d ∷ x) t = rw (eq-eqb d d refl) (opens_same x t)

-- The numbers that a text says, in turn, the first of them begun by the digits before the text, if there were any.
abbrev numbers_from : Option ℕ → List ℕ → List ℕ
numbers_from none [] = []
numbers_from (some n) [] = n ∷ []
numbers_from none (d ∷ l) = cond (is_digit d) (numbers_from (some (d - 48)) l) (numbers_from none l)
numbers_from (some n) (d ∷ l) = cond (is_digit d) (numbers_from (some (n * 10 + (d - 48))) l) (n ∷ numbers_from none l)

unfoldable pub numbers_in : List ℕ → List ℕ
numbers_in l = numbers_from none l

-- A byte that is no digit says nothing,
pub numbers_step : (d : ℕ) (t : List ℕ) → is_digit d ≡ false → numbers_in (d ∷ t) ≡ numbers_in t
unfolding numbers_in
numbers_step d t e = rw e

abbrev pub is_plain : ℕ → Bool
is_plain d = not (is_digit d)

pub plain_is : (d : ℕ) → is_plain d ≡ true → is_digit d ≡ false
plain_is d e = opposite (is_digit d) e

-- nor does a text without digits.
pub numbers_plain : (x t : List ℕ) → all is_plain x ≡ true → numbers_in (x ++ t) ≡ numbers_in t
numbers_plain [] t p = refl
numbers_plain (d ∷ x) t p =
    let h = (and-eq-true_iff (is_plain d) (all is_plain x)).0 p in
    numbers_step d (x ++ t) (plain_is d h.0) ∙ numbers_plain x t h.1

-- A number goes on to the end of its digits,
numbers_some :
    (n : ℕ) (s t : List ℕ) → all is_digit s ≡ true → Stops is_digit t
    → numbers_from (some n) (s ++ t) ≡ value n s ∷ numbers_in t
unfolding value numbers_in
numbers_some n [] [] p q = refl
numbers_some n [] (d ∷ t) p q = rw q
numbers_some n (d ∷ s) t p q =
    let h = (and-eq-true_iff (is_digit d) (all is_digit s)).0 p in
    rw h.0 (numbers_some (n * 10 + (d - 48)) s t h.1 q)

-- so a number in decimal that no digit follows is said.
pub numbers_decimal : (n : ℕ) (t : List ℕ) → Stops is_digit t → numbers_in (decimal n ++ t) ≡ n ∷ numbers_in t
unfolding value numbers_in
numbers_decimal n t q = go (decimal n) (length_some n) (decimal_digits n) (value_decimal n)
  where
    go : (s : List ℕ) → 0 < length s → all is_digit s ≡ true → value 0 s ≡ n → numbers_in (s ++ t) ≡ n ∷ numbers_in t
    go [] h p v = absurd (omega arith)
    go (d ∷ s) h p v =
        let g = (and-eq-true_iff (is_digit d) (all is_digit s)).0 p in
        rw (g.0, ← v, value, zero-add) (numbers_some (d - 48) s t g.1 q)

-- Reading the numbers of a text that is written out.
pub ruleset reading = (append_assoc, numbers_step, numbers_decimal)
