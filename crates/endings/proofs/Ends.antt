-- The end of a call: refused, accepted, and steps before the end.
use Prim.Native.Nat.{ℕ}
use mathlib.Core.Path.{◌≡◌, ◌∙◌, ap, subst}
use mathlib.Core.List.{List}
use Rattle.calls.specs.declared.Answer.{Answer}
use Rattle.machine.specs.State.{State}
use Rattle.machine.specs.Results.{Result, refuse}
use Rattle.calls.specs.Answers.{plain}
use Rattle.layout.specs.Shows.{Shows}
use Rattle.store.specs.Steps.{Shown, Does}
use Rattle.endings.specs.Results.{Performs}

-- A refusal leaves the memory.
pub refused :
    {m : List ℕ} {P : State → Type 0} {a : Answer} (code : ℕ) → a ≡ plain code → Performs m m a P (refuse code)
refused code e = record { answers = λ s M h. e; shows = λ s M h. M }

-- A call whose result is, for every state that the memory shows, that of f, is f.
pub performs_as :
    {m n : List ℕ} {a : Answer} {P : State → Type 0} {f g : State → Result} → Performs m n a P f
    → ((s : State) → Shows m s → P s → f s ≡ g s) → Performs m n a P g
performs_as {n = n} F e =
    record {
      answers = λ s M h. F.answers s M h ∙ ap (λ (r : Result). r.answer) (e s M h);
      shows = λ s M h. subst (λ (r : Result). Shows n r.state) (e s M h) (F.shows s M h);
    }

-- A call that asks less.
pub performs_for :
    {m n : List ℕ} {a : Answer} {P Q : State → Type 0} {f : State → Result} → Performs m n a Q f
    → ((s : State) → Shows m s → P s → Q s) → Performs m n a P f
performs_for F q =
    record {
      answers = λ s M h. F.answers s M (q s M h);
      shows = λ s M h. F.shows s M (q s M h);
    }

-- A step, then the rest of the call.
pub performs_after :
    {m n o : List ℕ} {a : Answer} {P Q : State → Type 0} {op : State → State} {f : State → Result} → Does m n P op
    → ((s : State) → Shows m s → P s → Q (op s)) → Performs n o a Q f → Performs m o a P (λ s. f (op s))
performs_after {op = op} D q F =
    record {
      answers = λ s M h. F.answers (op s) (D.shows s M h) (q s M h);
      shows = λ s M h. F.shows (op s) (D.shows s M h) (q s M h);
    }

-- A step that asks less.
pub does_for :
    {m n : List ℕ} {P Q : State → Type 0} {op : State → State} → Does m n Q op → ((s : State) → P s → Q s)
    → Does m n P op
does_for D q = record { shows = λ s M h. D.shows s M (q s h) }

pub shown_for :
    {m : List ℕ} {P Q : State → Type 0} → Shown m P → ((s : State) → P s → Q s) → Shown m Q
shown_for S q = record { state = S.state; shows = S.shows; holds = q S.state S.holds }
