-- An answer as four numbers, and the answer that four numbers are.
use Rattle.std.specs.Prelude.{ℕ, List, [], ◌∷◌, get_or}
use Rattle.calls.specs.declared.Answer.{Answer}

-- code, count, badge, message
abbrev pub four : Answer → List ℕ
four a = a.code ∷ a.count ∷ a.badge ∷ a.message ∷ []

abbrev pub answer_in : List ℕ → Answer
answer_in ns = record { code = get_or ns 0 0; count = get_or ns 1 0; badge = get_or ns 2 0; message = get_or ns 3 0 }
