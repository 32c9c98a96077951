-- No number has more ticks than the journal has words.
use Prim.Native.Nat.{ℕ, zero, suc, ◌-◌, ◌≤◌}
use mathlib.Core.Path.{◌≡◌, refl}
use mathlib.Core.Bool.{Bool, true, false, ◌&&◌}
use mathlib.Core.List.{List}
use native.Mathlib.Omega.{arith}
use lib.Dec.{eqb}
use lib.ListN.{length}
use Rattle.calls.specs.Calls.{number_of}
use Rattle.machine.specs.Lists.{pick}
use Rattle.calls.specs.Answers.{is_accepted, seat}
use Rattle.machine.specs.State.{State, fresh_state}
use Rattle.machine.specs.Grants.{Grants, fresh_grants}
use Rattle.machine.specs.Machine.{step, grants_by}
use Rattle.journal.specs.declared.types.Read.{Read}
use Rattle.journal.specs.declared.types.Read.TheVariants.{Found, Refused, Ended}
use Rattle.journal.specs.Words.{read_at}
use Rattle.journal.specs.Course.{Made, made_in, course_from, course_of}
use Rattle.journal.proofs.Further.{further}
use Rattle.billing.specs.Ticks.{ticked, ticks_of}

one_at_most : (b : Bool) (n : ℕ) → n ≤ 1 → pick b n 0 ≤ 1
one_at_most true n h = h
one_at_most false n h = omega arith

charged_few : (k : ℕ) (x : Made) → pick (eqb (seat x.ran) k) (ticked x) 0 ≤ 1
unfolding ticked
charged_few k x =
    one_at_most (eqb (seat x.ran) k) (ticked x)
    (one_at_most (eqb (number_of x.call) 6 && is_accepted x.answer) 1 (omega arith))

few_from :
    (k n at i : ℕ) (journal : List ℕ) (g : Grants) (s : State)
    → ticks_of k (course_from n (read_at journal at) i journal g s).made ≤ length journal - at
unfolding course_from ticks_of
few_from k zero at i journal g s = omega arith
few_from k (suc n) at i journal g s = go (read_at journal at) refl (few_from k n)
  where
    go :
        (r : Read) → read_at journal at ≡ r
        → ((a j : ℕ) (l : List ℕ) (f : Grants) (t : State)
        → ticks_of k (course_from n (read_at l a) j l f t).made ≤ length l - a)
        → ticks_of k (course_from (suc n) r i journal g s).made ≤ length journal - at
    go (Found c next) e ih =
        let f = further journal at c next e in
        omega (
          arith,
          f.more,
          f.within,
          charged_few k (made_in i c g s),
          ih next (suc i) journal (grants_by g s c) (step g s c).state,
        )
    go (Refused code p) e ih = omega arith
    go Ended e ih = omega arith

pub ticks_few : (k : ℕ) (journal : List ℕ) → ticks_of k (course_of journal).made ≤ length journal
unfolding course_of
ticks_few k journal = omega (arith, few_from k (suc (length journal)) 0 0 journal fresh_grants fresh_state)
