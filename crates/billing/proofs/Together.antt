use Prim.Native.Nat.{ℕ, zero, suc, ◌+◌, ◌≤◌, ◌<◌}
use mathlib.Core.Path.{◌≡◌, refl, ap, ◌∙◌}
use mathlib.Core.Bool.{Bool}
use mathlib.Core.Option.{Option, none, some}
use mathlib.Core.List.{List, [], ◌∷◌}
use native.Mathlib.Omega.{arith}
use borrow.Author.Tests.{eq-eqb, ne_eqb}
use lib.Dec.{eqb}
use lib.ListN.{length}
use Rattle.calls.specs.Answers.{seat}
use Rattle.machine.specs.Lists.{pick}
use Rattle.machine.specs.State.{State, fresh_state}
use Rattle.machine.specs.Grants.{Grants, fresh_grants}
use Rattle.machine.specs.Machine.{step, grants_by}
use Rattle.machine.specs.Sound.{Sound}
use Rattle.machine.proofs.Preserved.Steps.{step_sound, fresh_sound}
use Rattle.journal.specs.declared.types.Read.{Read}
use Rattle.journal.specs.declared.types.Read.TheVariants.{Found, Refused, Ended}
use Rattle.journal.specs.Words.{read_at}
use Rattle.journal.specs.Course.{Made, course_from, course_of}
use Rattle.layout.specs.Words.{tabulate}
use Rattle.layout.proofs.Neat.{sound_neat}
use Rattle.billing.specs.Ticks.{sum, ticked, ticks_of, accepted_ticks, count_words, counts_of, Chained}

sum_zero : (n : ℕ) (f : ℕ → ℕ) → ((i : ℕ) → f i ≡ 0) → sum (tabulate n f) ≡ 0
unfolding sum tabulate
sum_zero zero f h = refl
sum_zero (suc n) f h = omega (arith, h 0, sum_zero n (λ i. f (suc i)) (λ i. h (suc i)))

sum_add : (n : ℕ) (f g : ℕ → ℕ) → sum (tabulate n (λ i. f i + g i)) ≡ sum (tabulate n f) + sum (tabulate n g)
unfolding sum tabulate
sum_add zero f g = refl
sum_add (suc n) f g = omega (arith, sum_add n (λ i. f (suc i)) (λ i. g (suc i)))

other_eqb : (a b x : ℕ) → (a ≡ b → ⊥) → pick (eqb a b) x 0 ≡ 0
other_eqb a b x h = ap (λ (t : Bool). pick t x 0) (ne_eqb a b h)

same_eqb : (a x : ℕ) → pick (eqb a a) x 0 ≡ x
same_eqb a x = ap (λ (t : Bool). pick t x 0) (eq-eqb a a refl)

sum_one :
    (n k x : ℕ) (f : ℕ → ℕ) → ((i : ℕ) → (k ≡ i → ⊥) → f i ≡ 0) → f k ≡ x → k < n → sum (tabulate n f) ≡ x
unfolding sum tabulate
sum_one zero k x f o s h = absurd (omega arith)
sum_one (suc n) zero x f o s h = omega (arith, s, sum_zero n (λ i. f (suc i)) (λ i. o (suc i) (λ e. omega (arith, e))))
sum_one (suc n) (suc k) x f o s h =
    omega (
      arith,
      o 0 (λ e. omega (arith, e)),
      sum_one n k x (λ i. f (suc i)) (λ i d. o (suc i) (λ e. d (omega (arith, e)))) s (omega (arith, h)),
    )

abbrev Seated : List Made → Type 0
Seated [] = 0 ≤ 256
Seated (x ∷ l) = (seat x.ran ≤ 256) × Seated l

seat_fits : (o : Option ℕ) → ((t : ℕ) → o ≡ some t → t ≤ 255) → seat o ≤ 256
seat_fits none h = omega arith
seat_fits (some t) h = omega (arith, h t refl)

seated_from :
    (n i : ℕ) (r : Read) (journal : List ℕ) (g : Grants) (s : State) → Sound s
    → Seated (course_from n r i journal g s).made
unfolding course_from
seated_from zero i r journal g s S = omega arith
seated_from (suc n) i (Found c next) journal g s S = (
  seat_fits s.runs (λ t e. omega (arith, (sound_neat s S).runs_small t e)),
  seated_from n (suc i) (read_at journal next) journal (grants_by g s c) (step g s c).state (step_sound g s c S),
)
seated_from (suc n) i (Refused code p) journal g s S = omega arith
seated_from (suc n) i Ended journal g s S = omega arith

together :
    (l : List Made) → Seated l → sum (tabulate count_words (λ i. ticks_of i l)) ≡ accepted_ticks l
unfolding ticks_of accepted_ticks
together [] h = sum_zero count_words (λ i. 0) (λ i. refl)
together (x ∷ l) h =
    sum_add count_words (λ i. pick (eqb (seat x.ran) i) (ticked x) 0) (λ i. ticks_of i l)
    ∙ ap (λ (n : ℕ). n + sum (tabulate count_words (λ i. ticks_of i l)))
    (sum_one count_words (seat x.ran) (ticked x) (λ i. pick (eqb (seat x.ran) i) (ticked x) 0)
    (λ i d. other_eqb (seat x.ran) i (ticked x) d) (same_eqb (seat x.ran) (ticked x)) (omega (arith, h.0)))
    ∙ ap (λ (n : ℕ). ticked x + n) (together l h.1)

pub counts_together : (journal : List ℕ) → sum (counts_of journal) ≡ accepted_ticks (course_of journal).made
unfolding counts_of course_of
counts_together journal =
    together (course_of journal).made
    (seated_from (suc (length journal)) 0 (read_at journal 0) journal fresh_grants fresh_state fresh_sound)

chained_from :
    (n i : ℕ) (r : Read) (journal : List ℕ) (g : Grants) (s : State)
    → Chained s.runs (course_from n r i journal g s).made
unfolding course_from
chained_from zero i r journal g s = refl
chained_from (suc n) i (Found c next) journal g s =
    (refl, chained_from n (suc i) (read_at journal next) journal (grants_by g s c) (step g s c).state)
chained_from (suc n) i (Refused code p) journal g s = refl
chained_from (suc n) i Ended journal g s = refl

-- "just before": nobody before the first call, and before each later one who runs after the call before it
pub ran_before : (journal : List ℕ) → Chained none (course_of journal).made
unfolding course_of
ran_before journal = chained_from (suc (length journal)) 0 (read_at journal 0) journal fresh_grants fresh_state
