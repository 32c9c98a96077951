-- Answers: what their four numbers say of them.
use Prim.Native.Nat.{ℕ, ◌^◌, ◌<◌}
use mathlib.Core.Path.{◌≡◌, ap, ◌∙◌}
use Rattle.calls.specs.declared.Answer.{Answer}

abbrev answer_with : ℕ → ℕ → ℕ → ℕ → Answer
answer_with code count badge message = record { code = code; count = count; badge = badge; message = message }

-- Two answers of the same numbers are the same.
pub same_answer :
    (a a' : Answer) → a.code ≡ a'.code → a.count ≡ a'.count → a.badge ≡ a'.badge → a.message ≡ a'.message
    → a ≡ a'
same_answer a a' e₁ e₂ e₃ e₄ =
    ap (λ (n : ℕ). answer_with n a.count a.badge a.message) e₁
    ∙ ap (λ (n : ℕ). answer_with a'.code n a.badge a.message) e₂
    ∙ ap (λ (n : ℕ). answer_with a'.code a'.count n a.message) e₃
    ∙ ap (λ (n : ℕ). answer_with a'.code a'.count a'.badge n) e₄

-- The numbers are words.
pub record Words (a : Answer) : Type 0 where
  pub code : a.code < 2 ^ 32
  pub count : a.count < 2 ^ 32
  pub badge : a.badge < 2 ^ 32
  pub message : a.message < 2 ^ 32
