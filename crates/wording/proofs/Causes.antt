-- The causes: which numbers have none, and what holds of all of them.
use Prim.Native.Nat.{ℕ, zero, suc, ◌+◌, ◌≤◌, ◌<◌}
use mathlib.Core.Path.{◌≡◌, refl}
use mathlib.Core.Bool.{Bool, true, false, ◌&&◌, and-eq-true_iff}
use mathlib.Core.List.{List, [], ◌∷◌, ◌++◌}
use native.Mathlib.Omega.{arith}
use lib.Dec.{leb}
use lib.ListN.{length, get_or, replicate}
use borrow.Author.Tests.{leb-true, leb-false}
use Rattle.wording.specs.Sentence.{causes, cause}

-- None of the k numbers from low on.
abbrev pub NoneOf : ℕ → ℕ → ℕ → Type 0
NoneOf low zero n = Unit {0}
NoneOf low (suc k) n = NoneOf low k n × (n ≡ low + k → ⊥)

above : (low k n : ℕ) → NoneOf low k n → low ≤ n → low + k ≤ n
above low zero n h g = omega (arith, g)
above low (suc k) n h g = omega (arith, above low k n h.0 g, h.1)

front_empty : (k n : ℕ) (l : List (List ℕ)) → n < k → get_or (replicate k [] ++ l) n [] ≡ []
front_empty zero n l h = absurd (omega (arith, h))
front_empty (suc k) zero l h = refl
front_empty (suc k) (suc n) l h = front_empty k n l (omega (arith, h))

behind_empty : (l : List (List ℕ)) (n : ℕ) → length l ≤ n → get_or l n [] ≡ []
behind_empty [] n h = refl
behind_empty (x ∷ l) zero h = absurd (omega (arith, h))
behind_empty (x ∷ l) (suc n) h = behind_empty l n (omega (arith, h))

pub uncaused_above : (n : ℕ) → 31 ≤ n → cause n ≡ []
unfolding cause
uncaused_above n h = behind_empty (replicate 16 [] ++ causes) n h

pub uncaused : (n : ℕ) → NoneOf 16 15 n → cause n ≡ []
unfolding cause
uncaused n h = go (leb 16 n) refl
  where
    go : (b : Bool) → leb 16 n ≡ b → cause n ≡ []
    go true e = uncaused_above n (above 16 15 n h (leb-true 16 n e))
    go false e = front_empty 16 n causes (leb-false 16 n e)

-- What holds of the empty text and of every cause in the list holds of the cause of every number.

abbrev pub each : (List ℕ → Bool) → List (List ℕ) → Bool
each f [] = true
each f (text ∷ l) = f text && each f l

got_each :
    (f : List ℕ → Bool) (l : List (List ℕ)) (n : ℕ) → f [] ≡ true → each f l ≡ true → f (get_or l n []) ≡ true
got_each f [] n e h = e
got_each f (text ∷ l) zero e h = ((and-eq-true_iff (f text) (each f l)).0 h).0
got_each f (text ∷ l) (suc n) e h = got_each f l n e ((and-eq-true_iff (f text) (each f l)).0 h).1

pub each_cause :
    (f : List ℕ → Bool) (n : ℕ) → f [] ≡ true → each f (replicate 16 [] ++ causes) ≡ true → f (cause n) ≡ true
unfolding cause
each_cause f n e h = got_each f (replicate 16 [] ++ causes) n e h
