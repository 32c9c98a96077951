-- The ways a reading can end, each with what is known then.
use mathlib.Core.Path.{◌≡◌, refl, sym, ap, ◌∙◌}
use mathlib.Core.Bool.{Bool, true, false}
use mathlib.Core.List.{List, [], ◌∷◌}
use mathlib.Core.Option.{Option, none, some}
use Prim.Native.Nat.{ℕ, ◌+◌, ◌≤◌}
use native.Mathlib.Omega.{arith}
use lib.ListN.{length, drop, length-drop}
use Rattle.calls.specs.declared.Call.{Call}
use Rattle.calls.specs.Calls.{in_range}
use Rattle.journal.specs.declared.types.Read.{Read}
use Rattle.journal.specs.declared.types.Read.TheVariants.{Found, Refused, Ended}
use Rattle.machine.specs.Lists.{pick}
use Rattle.journal.specs.Words.{top_byte, words_taken, call_at, judged, read_from, read_at}

module _ (journal : List ℕ) (at : ℕ) where
  pub data Outcome : Read → Type 0 where
    past_end : length journal ≤ at → Outcome Ended
    no_call : (w : ℕ) (rest : List ℕ) → drop at journal ≡ w ∷ rest → call_at w rest ≡ none → Outcome (Refused 18 at)
    out_of_range :
        (w : ℕ) (rest : List ℕ) → drop at journal ≡ w ∷ rest →
        (c : Call) → call_at w rest ≡ some c → in_range c ≡ false → Outcome (Refused 19 at)
    a_call :
        (w : ℕ) (rest : List ℕ) → drop at journal ≡ w ∷ rest →
        (c : Call) → call_at w rest ≡ some c → in_range c ≡ true → Outcome (Found c (at + words_taken (top_byte w)))

  pub outcome : Outcome (read_at journal at)
  unfolding read_at read_from
  outcome = go (drop at journal) refl
    where
      ranged :
          (w : ℕ) (rest : List ℕ) → drop at journal ≡ w ∷ rest → (c : Call) → call_at w rest ≡ some c →
          (b : Bool) → in_range c ≡ b →
          Outcome (pick b (Found c (at + words_taken (top_byte w))) (Refused 19 at))
      ranged w rest l c n true b = a_call w rest l c n b
      ranged w rest l c n false b = out_of_range w rest l c n b

      named :
          (w : ℕ) (rest : List ℕ) → drop at journal ≡ w ∷ rest → (o : Option Call) → call_at w rest ≡ o →
          Outcome (judged at (at + words_taken (top_byte w)) o)
      named w rest l none n = no_call w rest l n
      named w rest l (some c) n = ranged w rest l c n (in_range c) refl

      go : (l : List ℕ) → drop at journal ≡ l → Outcome (read_from at l)
      go [] l = past_end (omega (arith, sym (length-drop at journal) ∙ ap length l))
      go (w ∷ rest) l = named w rest l (call_at w rest) refl
