-- The threads that the check has met in the queues so far, as it keeps them in the scratch. Only the functions of
-- module met and their proofs know how; all else goes by their promises.
use Rattle.std.specs.Prelude.{ℕ, ◌≡◌, Bool, true, false, ◌||◌, List}
use Rattle.machine.specs.Lists.{pick, put}
use Rattle.layout.specs.Addresses.{scratch_words}
use Rattle.layout.specs.Words.{tabulate}
use Rattle.layout.specs.Tests.{member}

-- The scratch of exactly the threads of the set.
unfoldable pub met_in : (ℕ → Bool) → List ℕ
met_in f = tabulate scratch_words (λ t. pick (f t) 1 0)

-- No thread is met.
abbrev pub none_met : ℕ → Bool
none_met t = false

-- The set with the threads of a list put in.
unfoldable pub also : List ℕ → (ℕ → Bool) → ℕ → Bool
also l f t = member t l || f t

-- Thread t is met besides those that were.
pub record Meets (before after : List ℕ) (t : ℕ) : Type 0 where
  pub meets : (f : ℕ → Bool) → before ≡ met_in f → after ≡ met_in (put f t true)

-- r tells whether thread t was met.
pub record HasMet (scratch : List ℕ) (t : ℕ) (r : Bool) : Type 0 where
  pub tells : (f : ℕ → Bool) → scratch ≡ met_in f → r ≡ f t

-- What the walk of a queue promises: r is the test, and where it holds, its threads are met besides the others.
pub record Follows (before after : List ℕ) (l : List ℕ) (test r : Bool) : Type 0 where
  pub is : r ≡ test
  pub meets : r ≡ true → (f : ℕ → Bool) → before ≡ met_in f → after ≡ met_in (also l f)

-- What the walks of several queues promise: r is the test, and where it holds, those of the set are met.
pub record FollowsAll (after : List ℕ) (f : ℕ → Bool) (test r : Bool) : Type 0 where
  pub is : r ≡ test
  pub meets : r ≡ true → after ≡ met_in f
