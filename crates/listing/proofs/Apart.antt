-- Two lines of different numbers are different bytes: the numbers can be read back.
use Prim.Native.Nat.{ℕ}
use mathlib.Core.Path.{◌≡◌, refl, sym, ◌∙◌, ap}
use mathlib.Core.Option.{Option, none, some}
use mathlib.Core.List.{List, [], ◌∷◌, ◌++◌, append_assoc}
use native.Mathlib.Omega.{arith}
use lib.ListN.{length}
use Rattle.calls.specs.declared.Answer.{Answer}
use Rattle.calls.proofs.Answers.{same_answer}
use Rattle.journal.specs.Rows.{Row}
use Rattle.texts.specs.Decimal.{decimal}
use Rattle.texts.proofs.Digits.{length_some}
use Rattle.texts.proofs.Apart.{is_digit, cut_by, decimal_digits, numbers_apart, spaced_apart}
use Rattle.listing.specs.Line.{answer_text, runner, line_of}
use Rattle.listing.proofs.Parts.{newline, line_is}

-- The sign - is no number.
sign_apart : (t : ℕ) → 45 ∷ newline ≡ decimal t ++ newline → ⊥
sign_apart t e =
    let h = cut_by is_digit [] (decimal t) (45 ∷ newline) newline refl (decimal_digits t) refl refl e in
    omega (arith, length_some t, ap (λ (l : List ℕ). length l) h.0)

runner_apart : (r r' : Option ℕ) → runner r ++ newline ≡ runner r' ++ newline → r ≡ r'
unfolding runner
runner_apart none none e = refl
runner_apart none (some t) e = absurd (sign_apart t e)
runner_apart (some t) none e = absurd (sign_apart t (sym e))
runner_apart (some t) (some t') e = ap some (numbers_apart t t' newline newline refl refl e).0

abbrev row_with : ℕ → ℕ → Answer → Option ℕ → Row
row_with index call answer running = record { index = index; call = call; answer = answer; running = running }

same_row :
    (r r' : Row) → r.index ≡ r'.index → r.call ≡ r'.call → r.answer ≡ r'.answer → r.running ≡ r'.running
    → r ≡ r'
same_row r r' e₁ e₂ e₃ e₄ =
    ap (λ (n : ℕ). row_with n r.call r.answer r.running) e₁
    ∙ ap (λ (n : ℕ). row_with r'.index n r.answer r.running) e₂
    ∙ ap (λ (a : Answer). row_with r'.index r'.call a r.running) e₃
    ∙ ap (λ (o : Option ℕ). row_with r'.index r'.call r'.answer o) e₄

-- The answer's numbers, and what follows them.
answer_apart : (a a' : Answer) (t t' : List ℕ) → answer_text a ++ t ≡ answer_text a' ++ t' → (a ≡ a') × (t ≡ t')
unfolding answer_text
answer_apart a a' t t' e =
    let h₁ = spaced_apart a.code a'.code _ _ (simp append_assoc at e) in
    let h₂ = spaced_apart a.count a'.count _ _ h₁.1 in
    let h₃ = spaced_apart a.badge a'.badge _ _ h₂.1 in
    let h₄ = spaced_apart a.message a'.message _ _ h₃.1 in
    (same_answer a a' h₁.0 h₂.0 h₃.0 h₄.0, h₄.1)

-- Two rows whose lines are the same bytes are the same.
pub lines_apart : (r r' : Row) → line_of r ≡ line_of r' → r ≡ r'
lines_apart r r' e =
    let h₁ = spaced_apart r.index r'.index _ _ (sym (line_is r) ∙ e ∙ line_is r') in
    let h₂ = spaced_apart r.call r'.call _ _ h₁.1 in
    let h₃ = answer_apart r.answer r'.answer _ _ h₂.1 in
    let h₄ = runner_apart r.running r'.running h₃.1 in
    same_row r r' h₁.0 h₂.0 h₃.0 h₄
