-- Bytes fed in parts are fed in one; a byte is held or makes the bytes ready; what a call does to a memory that holds a
-- sound state and sound grants.
use Rattle.std.proofs.Common.{◌≡◌, ℕ, suc, ◌+◌, ◌%◌, ◌^◌, ◌<◌, Bool, true, false, List, [], ◌∷◌, ◌++◌, length, sym}
use Rattle.std.proofs.Common.{refl, ap, ◌∙◌, append_assoc, arith}
use mathlib.Core.Option.{Option}
use Rattle.calls.specs.declared.Call.{Call}
use Rattle.machine.specs.Lists.{pick}
use Rattle.calls.specs.Answers.{thread_of}
use Rattle.machine.specs.State.{State}
use Rattle.machine.specs.Grants.{Grants, SoundGrants}
use Rattle.machine.specs.Machine.{step, grants_by}
use Rattle.machine.specs.Sound.{Sound}
use Rattle.journal.specs.declared.types.Read.{Read}
use Rattle.journal.specs.declared.types.Read.TheVariants.{Found, Refused}
use Rattle.journal.specs.Words.{read_at}
use Rattle.layout.specs.Addresses.{scratch_words}
use Rattle.layout.specs.Words.{image}
use Rattle.grants.specs.Memory.{grant_image}
use Rattle.lent_tables.specs.Entries.{lent, zeros, Called, stepped, runner_in}
use Rattle.machine.proofs.Preserved.Steps.{step_sound}
use Rattle.lent_tables.proofs.Runner.{running_image}
use Rattle.kernel.proofs.InTurn.{called_image}
use Rattle.input.specs.Words.{words_in}
use Rattle.rows.specs.Taking.{turned}
use Rattle.forms.specs.declared.Form.{Form}
use Rattle.forms.specs.Forms.{call_text, stop_text}
use Rattle.lister.specs.Feeding.{Progress, Told, ready, holding, told_by, offered, byte_to, fed, ending, ending_with}
use Rattle.lister.specs.Feeding.{fed_parts, joined}
use Rattle.lister.proofs.Texts.{text_for}

-- What is told where u is told behind t.
abbrev pub following : Told → Told → Told
following t u = record { after = u.after; text = t.text ++ u.text }

module _ (f : Form) where
  -- A part fed behind another is fed in one with it,
  pub fed_append :
      (a b : List ℕ) (s : Progress) → fed f (a ++ b) s ≡ following (fed f a s) (fed f b (fed f a s).after)
  unfolding fed
  fed_append [] b s = refl
  fed_append (x ∷ a) b s =
      let t = byte_to f x s in
      let u = fed f a t.after in
      let r = fed f b u.after in
      ap (following t) (fed_append a b t.after)
      ∙ ap (λ (l : List ℕ). record { after = r.after; text = l }) (sym (append_assoc t.text u.text r.text))

  -- and so are any parts.
  pub parts_joined : (parts : List (List ℕ)) (s : Progress) → fed_parts f parts s ≡ fed f (joined parts) s
  unfolding fed_parts joined fed
  parts_joined [] s = refl
  parts_joined (part ∷ parts) s =
      ap (following (fed f part s)) (parts_joined parts (fed f part s).after) ∙ sym (fed_append part (joined parts) s)

  -- The first byte tells what it tells, and the others from there.
  pub fed_first :
      (b : ℕ) (part : List ℕ) (s : Progress) (t : Told) → byte_to f b s ≡ t
      → fed f (b ∷ part) s ≡ following t (fed f part t.after)
  unfolding fed
  fed_first b part s t e = ap (λ (u : Told). following u (fed f part u.after)) e

  -- Once the journal has stopped nothing is written.
  pub fed_stopped : (part : List ℕ) (s : Progress) → s.going ≡ false → fed f part s ≡ holding s.held s
  unfolding fed byte_to
  fed_stopped [] s e = refl
  fed_stopped (b ∷ part) s e =
      let t = holding s.held s in
      fed_first b part s t (ap (λ (g : Bool). pick g (offered f (s.held ++ (b ∷ [])) s) t) e)
      ∙ ap (following t) (fed_stopped part s e)

  pub ending_stopped : (s : Progress) → s.going ≡ false → ending f s ≡ []
  unfolding ending
  ending_stopped s e = ap (λ (g : Bool). pick g (ending_with f s.held s) []) e

-- Where the lister stands that goes on, with the tables of a state and the memory of grants.
abbrev pub on : List ℕ → ℕ → Grants → State → List ℕ → Progress
on held i g s x = record { held = held; index = i; going = true; lent = lent (image s) (grant_image g) x }

module _ (f : Form) (b : ℕ) (held : List ℕ) (i : ℕ) (g : Grants) (s : State) (x : List ℕ) where
  abbrev offers : Bool → Told
  offers t =
      pick t
      (told_by f (turned (read_at (words_in (held ++ (b ∷ []))) 0) (lent (image s) (grant_image g) x))
      (on held i g s x))
      (holding (held ++ (b ∷ [])) (on held i g s x))

  -- Bytes that are not ready are held,
  pub byte_held :
      ready (held ++ (b ∷ [])) ≡ false → byte_to f b (on held i g s x) ≡ holding (held ++ (b ∷ [])) (on held i g s x)
  unfolding byte_to
  byte_held e = ap offers e

  -- and those that are ready tell what their reading comes to.
  pub byte_taken :
      ready (held ++ (b ∷ [])) ≡ true → (r : Read) → read_at (words_in (held ++ (b ∷ []))) 0 ≡ r
      → byte_to f b (on held i g s x) ≡ told_by f (turned r (lent (image s) (grant_image g) x)) (on held i g s x)
  unfolding byte_to
  byte_taken e r j =
      ap offers e ∙ ap (λ (k : Read). told_by f (turned k (lent (image s) (grant_image g) x)) (on held i g s x)) j

-- What a call tells that was answered so.
abbrev call_told : Form → ℕ → Option ℕ → Call → Called → ℕ → Option ℕ → Told
call_told f i ran c k next runs =
    record {
      after = record { held = []; index = next; going = true; lent = k.left };
      text = call_text f i ran c k.answer runs;
    }

-- A call that was read tells its text, and the lister goes on with the tables and grants after it.
abbrev pub taken_told : Form → ℕ → Call → Grants → State → Told
taken_told f i c g s = record {
  after = on [] (suc i) (grants_by g s c) (step g s c).state zeros;
  text = text_for f i c g s;
}

pub call_told_lem :
    (f : Form) (c : Call) (next : ℕ) (held : List ℕ) (i : ℕ) (g : Grants) (s : State) (x : List ℕ)
    → SoundGrants g → Sound s → length x ≡ scratch_words → i + 1 < 2 ^ 64
    → told_by f (turned (Found c next) (lent (image s) (grant_image g) x)) (on held i g s x) ≡ taken_told f i c g s
call_told_lem f c next held i g s x G S n h =
    let s' = (step g s c).state in
    let k : Called = stepped g s c in
    let ran = thread_of (runner_in (image s)) in
    let index : (i + 1) % 2 ^ 64 ≡ suc i = omega (arith, h) in
    ap (λ (k : Called). call_told f i ran c k ((i + 1) % 2 ^ 64) (thread_of (runner_in k.left.tables)))
    (called_image g s x c G S n)
    ∙ ap (λ (j : ℕ). call_told f i ran c k j (thread_of (runner_in (image s')))) index
    ∙ ap (λ (runs : Option ℕ). call_told f i ran c k (suc i) runs) (running_image s' (step_sound g s c S))
    ∙ ap (λ (r : Option ℕ). call_told f i r c k (suc i) s'.runs) (running_image s S)

-- A refusal stops the journal with its text.
abbrev pub stopped : ℕ → Grants → State → List ℕ → Progress
stopped i g s x = record { held = []; index = i; going = false; lent = lent (image s) (grant_image g) x }

abbrev pub stop_told : Form → ℕ → ℕ → Grants → State → List ℕ → Told
stop_told f i code g s x = record { after = stopped i g s x; text = stop_text f i code s.runs }

pub refused_told :
    (f : Form) (code at : ℕ) (held : List ℕ) (i : ℕ) (g : Grants) (s : State) (x : List ℕ) → Sound s
    → told_by f (turned (Refused code at) (lent (image s) (grant_image g) x)) (on held i g s x)
    ≡ stop_told f i code g s x
refused_told f code at held i g s x S =
    ap
    (λ (running : Option ℕ). record { after = stopped i g s x; text = stop_text f i code running })
    (running_image s S)

-- Bytes held at the end are told by 18.
pub ending_held :
    (f : Form) (b : ℕ) (held : List ℕ) (i : ℕ) (g : Grants) (s : State) (x : List ℕ) → Sound s
    → ending f (on (b ∷ held) i g s x) ≡ stop_text f i 18 s.runs
unfolding ending
ending_held f b held i g s x S = ap (λ (running : Option ℕ). stop_text f i 18 running) (running_image s S)
