-- The abort that stands is joined.
use Prim.Native.Nat.{ℕ}
use mathlib.Core.Path.{refl, ◌∙◌}
use mathlib.Core.List.{List, []}
use Rattle.calls.specs.declared.Answer.{Answer}
use Rattle.machine.specs.State.{State}
use Rattle.machine.specs.Aborts.{join, work_own}
use Rattle.machine.proofs.Preserved.AbortSteps.{mid_join}
use Rattle.machine.proofs.Preserved.Aborts.{running_present, join_status}
use Rattle.store.specs.Steps.{Shown, Does}
use Rattle.debts.specs.Debts.{PairInRange}
use Rattle.endings.specs.Results.{Performs}
use Rattle.endings.proofs.Ends.{performs_after, does_for, shown_for}
use Rattle.endings.proofs.Conditions.{running_range}
use Rattle.own_aborts.specs.Own.{Open, Joining, Continues, joined_on}

joining_joins : {t e : ℕ} {s : State} → Joining t e s → PairInRange t e s
joining_joins J = let O = J.opened in running_range O.mid O.runs O.endpoint

joined_open : {t e : ℕ} {s : State} → Joining t e s → Open t e (join t e s)
unfolding join
joined_open {t} {e} {s} J =
    let O = J.opened in
    record {
      mid = mid_join t e s J.stands O.mid (running_present O.mid O.runs);
      endpoint = O.endpoint;
      runs = O.runs;
      status = join_status t e s ∙ O.status;
    }

module _ {m : List ℕ} {t e : ℕ} where
  pub joins_asked : Shown m (Joining t e) → Shown m (PairInRange t e)
  joins_asked S = shown_for S (λ s J. joining_joins J)

  module _ {n : List ℕ} (D : Does m n (PairInRange t e) (join t e)) where
    pub joined_asked : Shown m (Joining t e) → Shown n (Open t e)
    joined_asked S =
        record {
          state = join t e S.state;
          shows = D.shows S.state S.shows (joining_joins S.holds);
          holds = joined_open S.holds;
        }

    pub own_joins :
        {o : List ℕ} {r : Answer} (a : ℕ) → Continues n 0 r (Open t e) (work_own t e a) o
        → Performs m o r (Joining t e) (joined_on t e a)
    own_joins a C =
        performs_after (does_for D (λ s J. joining_joins J)) (λ s M J. joined_open J) (C.performs [] refl)
