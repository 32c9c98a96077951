-- What a call's bytes come to, from what the functions promise: a call in range, the text that stops the journal, or
-- nothing; and the end.
use Rattle.std.proofs.Common.{◌≡◌, ℕ, zero, suc, Bool, true, false, List, [], ◌∷◌, length, take, sym, refl, ap, ◌∙◌}
use Rattle.std.proofs.Common.{subst, arith}
use Rattle.calls.specs.declared.Answer.{Answer}
use Rattle.calls.specs.declared.Call.{Call}
use Rattle.std.specs.Prelude as source
use Rattle.calls.specs.Calls.{in_range}
use Rattle.machine.specs.Lists.{pick}
use Rattle.calls.specs.Answers.{thread_of}
use Rattle.journal.specs.declared.types.Read.{Read}
use Rattle.journal.specs.declared.types.Read.TheVariants.{Found, Refused, Ended}
use Rattle.journal.specs.Words.{read_at}
use Rattle.journal.proofs.RoundTrip.{writes_what_was_read}
use Rattle.texts.specs.Buffer.{Wrote}
use Rattle.texts.proofs.Writing.{wrote_nothing}
use Rattle.lent_tables.specs.Entries.{Lent, runner_in}
use Rattle.rows.specs.declared.Turn.{Turn}
use Rattle.rows.specs.declared.Turn.TheVariants.{Took, Stopped, Over}
use Rattle.rows.specs.Taking.{Turned, turned}
use Rattle.forms.specs.declared.Form.{Form}
use Rattle.lister.specs.declared.Lister.{Lister}
use Rattle.forms.specs.Forms.{stop_text}
use Rattle.lister.specs.Feeding.{Progress, Told, told_of, told_by, ending_with, ending}
use Rattle.lister.specs.Buffers.{progress_of, Feeds}

-- A call that was taken was read, so it is in range.

abbrev Ranged : Turn → Type 0
Ranged (Took c a who next) = in_range c ≡ true
Ranged (Stopped code who) = Unit {0}
Ranged Over = Unit {0}

read_ranged : (words : List ℕ) (m : Lent) (r : Read) → read_at words 0 ≡ r → Ranged (turned r m).turn
read_ranged words m (Found c next) e = (writes_what_was_read words 0 c next e).in_range_lem
read_ranged words m (Refused code at) e = tt
read_ranged words m Ended e = tt

pub taken_ranged :
    (words : List ℕ) (m m' : Lent) (turn : Turn) (c : Call) (a : Answer) (who : source.Option ℕ) (next : ℕ)
    → ◌≡◌ {A = Turned} (record { turn = turn; left = m' }) (turned (read_at words 0) m) → turn ≡ Took c a who next
    → in_range c ≡ true
taken_ranged words m m' turn c a who next e found =
    subst Ranged (sym (ap (λ (t : Turned). t.turn) e) ∙ found) (read_ranged words m (read_at words 0) refl)

-- What the bytes come to is what the turn of their words does.
pub answered :
    (f : Form) (s : Progress) (t : Turned) (m' : Lent) (came turn : Turn)
    → ◌≡◌ {A = Turned} (record { turn = came; left = m' }) t → came ≡ turn
    → (out : List ℕ) (used : ℕ) (l : Lister) (n : ℕ) (out' : List ℕ)
    → Feeds (told_of f turn m' s) out used l n m' out' → Feeds (told_by f t s) out used l n m' out'
answered f s t m' came turn e is out used l n out' told =
    subst (λ (o : Told). Feeds o out used l n m' out')
    (ap (λ (k : Turn). told_of f k m' s) (sym is) ∙ ap (λ (k : Turned). told_by f k s) e)
    told

-- The end.

module _ (f : Form) where
  ended : (s : Progress) (g : Bool) → s.going ≡ g → ending f s ≡ pick g (ending_with f s.held s) []
  unfolding ending
  ended s g e = ap (λ (b : Bool). pick b (ending_with f s.held s) []) e

  last_text : (s : Progress) (n : ℕ) (bytes : List ℕ)
      → length bytes ≡ 12 → ending_with f (take (suc n) bytes) s
      ≡ stop_text f s.index 18 (thread_of (runner_in s.lent.tables))
  last_text s n [] h = absurd (omega (arith, h))
  last_text s n (b ∷ bytes) h = refl

  some_held : (s : Progress) (n : ℕ) (bytes : List ℕ) → length bytes ≡ 12 → (n ≡ 0 → ⊥)
      → ending_with f (take n bytes) s ≡ stop_text f s.index 18 (thread_of (runner_in s.lent.tables))
  some_held s zero bytes h g = absurd (g refl)
  some_held s (suc n) bytes h g = last_text s n bytes h

module _ (f : Form) (l : Lister) (m : Lent) (out : List ℕ) where
  pub stopped_ends : l.going ≡ false → Wrote out 0 (ending f (progress_of l m)) 0 out
  stopped_ends g =
      subst (λ (t : List ℕ). Wrote out 0 t 0 out) (sym (ended f (progress_of l m) false g)) (wrote_nothing out 0)

  pub nothing_ends : l.held ≡ 0 → Wrote out 0 (ending f (progress_of l m)) 0 out
  nothing_ends z = go l.going refl
    where
      go : (g : Bool) → l.going ≡ g → Wrote out 0 (ending f (progress_of l m)) 0 out
      go true g =
          subst (λ (t : List ℕ). Wrote out 0 t 0 out)
          (sym (ended f (progress_of l m) true g ∙ ap (λ (n : ℕ). ending_with f (take n l.bytes) (progress_of l m)) z))
          (wrote_nothing out 0)
      go false g = stopped_ends g

  pub held_ends :
      l.going ≡ true → (l.held ≡ 0 → ⊥) → length l.bytes ≡ 12 → (who : source.Option ℕ) → who ≡ runner_in m.tables
      → (r : ℕ) (out' : List ℕ) → Wrote out 0 (stop_text f l.index 18 (thread_of who)) r out'
      → Wrote out 0 (ending f (progress_of l m)) r out'
  held_ends g some long who runs r out' w =
      subst (λ (t : List ℕ). Wrote out 0 t r out')
      (ap (λ (o : source.Option ℕ). stop_text f l.index 18 (thread_of o)) runs
      ∙ sym (ended f (progress_of l m) true g ∙ some_held f (progress_of l m) l.held l.bytes long some))
      w
