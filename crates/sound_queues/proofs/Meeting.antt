-- The threads met, in the scratch: put in, told, and none in a cleared one.
use Prim.Native.Nat.{ℕ, zero, suc, ◌<◌, ◌≤◌}
use mathlib.Core.Bool.{Bool, true, false}
use mathlib.Core.List.{List, ◌∷◌}
use mathlib.Core.Path.{◌≡◌, refl, ap, ◌∙◌, fun_ext}
use native.Mathlib.Omega.{arith}
use lib.Dec.{eqb, eqb-zero-suc, eqb-suc-zero, eqb-suc-suc}
use lib.ListN.{get_or, set, replicate}
use Rattle.machine.specs.Lists.{pick, put}
use Rattle.layout.specs.Words.{tabulate}
use Rattle.layout.proofs.Image.{get_d_tabulate}
use Rattle.sound_queues.specs.Met.{met_in, none_met}

same_table : (n : ℕ) (f g : ℕ → ℕ) → ((i : ℕ) → f i ≡ g i) → tabulate n f ≡ tabulate n g
same_table n f g h = ap (tabulate n) (fun_ext h)

set_tabulate :
    (n : ℕ) (f : ℕ → ℕ) (i v : ℕ) → i < n → set (tabulate n f) i v ≡ tabulate n (λ k. pick (eqb k i) v (f k))
unfolding tabulate
set_tabulate zero f i v h = absurd (omega arith)
set_tabulate (suc n) f zero v h = ap (λ (l : List ℕ). v ∷ l) (same_table n _ _ (λ k. rw (eqb-suc-zero k)))
set_tabulate (suc n) f (suc i) v h =
    rw (eqb-zero-suc i) (ap (λ (l : List ℕ). f 0 ∷ l)
    (set_tabulate n (λ k. f (suc k)) i v (omega arith) ∙ same_table n _ _ (λ k. rw (eqb-suc-suc k i))))

zeros_tabulate : (n : ℕ) → replicate n 0 ≡ tabulate n (λ k. 0)
unfolding tabulate
zeros_tabulate zero = refl
zeros_tabulate (suc n) = ap (λ (l : List ℕ). 0 ∷ l) (zeros_tabulate n)

pub set_met : (f : ℕ → Bool) (t : ℕ) → t ≤ 255 → set (met_in f) t 1 ≡ met_in (put f t true)
unfolding met_in put
set_met f t h =
    set_tabulate 256 (λ k. pick (f k) 1 0) t 1 (omega arith) ∙ same_table 256 _ _ (λ k. go (eqb k t) (f k))
  where
    go : (b x : Bool) → ◌≡◌ {A = ℕ} (pick b 1 (pick x 1 0)) (pick (pick b true x) 1 0)
    go true x = refl
    go false x = refl

pub tell_met : (f : ℕ → Bool) (t : ℕ) → t ≤ 255 → eqb (get_or (met_in f) t 0) 1 ≡ f t
unfolding met_in
tell_met f t h = ap (λ (w : ℕ). eqb w 1) (get_d_tabulate 256 (λ k. pick (f k) 1 0) t (omega arith)) ∙ go (f t)
  where
    go : (x : Bool) → eqb (pick x 1 0) 1 ≡ x
    go true = refl
    go false = refl

-- In a cleared scratch nobody is met.
pub none_met_lem : replicate 256 0 ≡ met_in none_met
unfolding met_in
none_met_lem = zeros_tabulate 256
