-- What the entry points for C come to, where they are not those of the libraries below: a call, who runs, and how a
-- thread was woken.
use Rattle.std.specs.Prelude.{ℕ, zero, suc, List, [], ◌∷◌}
use Rattle.std.specs.Prelude as code
use Rattle.std.proofs.Math.Option.{Option, none, some}
use Rattle.calls.specs.declared.Answer.{Answer}
use Rattle.calls.specs.declared.Call.{Call}
use Rattle.calls.specs.Answers.{plain, thread_of, seat}
use Rattle.calls.specs.Numbers.{four}
use Rattle.lent_tables.specs.declared.how.Waking.{Waking}
use Rattle.lent_tables.specs.Entries.{Lent, lent, checked, Called, called}
use Rattle.numbers.specs.Numbers.{call_in}

-- The code answered, the answer's four numbers, and the memory left.
pub record Answered : Type 0 where
  pub code : ℕ
  pub answer : List ℕ
  pub left : Lent

-- 16 or 17 where the check answers so, else 18
abbrev pub refusal : ℕ → ℕ
refusal zero = 18
refusal (suc n) = suc n

-- A call is taken as the core takes it. Where none is named, tables and grants are checked and stay, and the scratch is
-- left as the check leaves it.
abbrev pub called_for : Option Call → Lent → Called
called_for (some c) l = called l c
called_for none l =
    record { answer = plain (refusal (checked l).code); left = lent l.tables l.grants (checked l).scratch }

abbrev pub as_answered : Called → Answered
as_answered r = record { code = r.answer.code; answer = four r.answer; left = r.left }

-- Take a call that passes as six numbers.
unfoldable pub answered : Lent → List ℕ → Answered
answered l numbers = as_answered (called_for (call_in numbers) l)

-- Who runs: the thread's number; 256 where nobody runs.
abbrev pub runner_number : code.Option ℕ → ℕ
runner_number r = seat (thread_of r)

-- outcome, badge, message
abbrev pub three : Waking → List ℕ
three w = w.outcome ∷ w.badge ∷ w.message ∷ []
