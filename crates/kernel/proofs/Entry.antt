-- The entry: where the check refuses the call comes to the check's refusal; else to the machine's step, and the grants
-- to those that it leaves.
use Prim.Native.Nat.{ℕ}
use mathlib.Core.Path.{◌≡◌, refl, ◌∙◌, ap}
use mathlib.Core.Bool.{Bool, true, false}
use mathlib.Core.Option.{Option, none, some}
use mathlib.Core.List.{List}
use native.Mathlib.Omega.{arith}
use lib.ListN.{length}
use Rattle.std.specs.Prelude.{Err}
use Rattle.std.specs.Prelude as code
use Rattle.std.specs.Result.{IsErrAnd}
use Rattle.std.proofs.lemmas.Result.{err_from_is_err_and}
use Rattle.calls.specs.declared.Accepted.{Accepted}
use Rattle.calls.specs.declared.Refusal.{Refusal}
use Rattle.calls.specs.declared.Answer.{Answer}
use Rattle.calls.specs.declared.Call.{Call}
use Rattle.machine.specs.Lists.{pick}
use Rattle.machine.specs.State.{State}
use Rattle.calls.specs.Answers.{plain, code_of, answer_of}
use Rattle.machine.specs.Grants.{grants_after}
use Rattle.machine.specs.Machine.{step}
use Rattle.machine.specs.Sound.{Sound}
use Rattle.machine.proofs.Preserved.Steps.{step_sound}
use Rattle.layout.specs.Addresses.{table_words, scratch_words}
use Rattle.layout.specs.Words.{image}
use Rattle.layout.proofs.Image.{shows_image}
use Rattle.layout.proofs.Tests.{Decides, tells_and, tells_eqb}
use Rattle.soundness.specs.Tables.{state_of}
use Rattle.soundness.proofs.Tables.{state_exact, state_shows}
use Rattle.grants.specs.Memory.{grant_words, grants_of, grant_image, grants_test}
use Rattle.lent_tables.specs.Entries.{Lent, lent, Sized, sized, zeros, Checked, verdict, checked}
use Rattle.lent_tables.specs.Entries.{Called, stepped, taken, called}
use Rattle.store.specs.Steps.{Shown}
use Rattle.endings.specs.Results.{Performs}
use Rattle.dispatch.specs.Steps.{stepping, Regrants}
use Rattle.dispatch.proofs.Granting.{refusal_code}

abbrev pub called_of : Answer → Lent → Called
called_of a l = record { answer = a; left = l }

abbrev checked_of : ℕ → List ℕ → Checked
checked_of code x = record { code = code; scratch = x }

pub sizes : (l : Lent) → Decides (sized l) (Sized l)
sizes l =
    let d =
    tells_and
    (tells_and (tells_eqb (length l.tables) table_words) (tells_eqb (length l.grants) grant_words))
    (tells_eqb (length l.scratch) scratch_words) in
    record {
      holds = λ h. let k = d.holds h in (k.0.0, k.0.1, k.1);
      back = λ z. d.back ((z.0, z.1), z.2);
    }

-- What the check has found where it passes.
record Found (l : Lent) (x : List ℕ) : Type 0 where
  fits : sized l ≡ true
  state : State
  shown : state_of l.tables ≡ some state
  granted : grants_test l.grants ≡ true
  zeroed : x ≡ zeros

module _ (l : Lent) {x : List ℕ} where
  pub check_refuses :
      (why : Refusal) (c : Call) (r : code.Result Accepted Refusal) → IsErrAnd r (λ (v : Refusal). v ≡ why)
      → checked_of (code_of why) x ≡ checked l → called_of (answer_of r) (lent l.tables l.grants x) ≡ called l c
  unfolding checked called
  check_refuses why c r h e =
      let p = err_from_is_err_and r h in
      ap (λ (v : code.Result Accepted Refusal). called_of (answer_of v) (lent l.tables l.grants x)) (p.1 ∙ ap Err p.2)
      ∙ go (sized l) (state_of l.tables) (grants_test l.grants) e
    where
      go : (b : Bool) (o : Option State) (q : Bool)
          → checked_of (code_of why) x ≡ pick b (verdict o q) (checked_of 16 l.scratch)
          → called_of (plain (code_of why)) (lent l.tables l.grants x) ≡ pick b (taken o q l c) (called_of (plain 16) l)
      go false o q k = rw (ap (λ (r : Checked). r.code) k, ap (λ (r : Checked). r.scratch) k)
      go true none q k = rw (ap (λ (r : Checked). r.code) k, ap (λ (r : Checked). r.scratch) k)
      go true (some s) false k = rw (ap (λ (r : Checked). r.code) k, ap (λ (r : Checked). r.scratch) k)
      go true (some s) true k =
          let z : code_of why ≡ 0 = ap (λ (r : Checked). r.code) k in
          absurd (omega (arith, z, refusal_code why))

  module _ (e : checked_of 0 x ≡ checked l) where
    found : Found l x
    unfolding checked
    found = go (sized l) (state_of l.tables) (grants_test l.grants) refl refl refl e
      where
        go : (b : Bool) (o : Option State) (p : Bool) → sized l ≡ b → state_of l.tables ≡ o
            → grants_test l.grants ≡ p → checked_of 0 x ≡ pick b (verdict o p) (checked_of 16 l.scratch)
            → Found l x
        go false o p i j q k = let w = ap (λ (r : Checked). r.code) k in absurd (omega arith)
        go true none p i j q k = let w = ap (λ (r : Checked). r.code) k in absurd (omega arith)
        go true (some s) false i j q k = let w = ap (λ (r : Checked). r.code) k in absurd (omega arith)
        go true (some s) true i j q k =
            record { fits = i; state = s; shown = j; granted = q; zeroed = ap (λ (r : Checked). r.scratch) k }

    pub check_shown : Shown l.tables Sound
    check_shown =
        let F = found in
        record {
          state = F.state;
          shows = state_shows l.tables F.state F.shown;
          holds = ((state_exact l.tables F.state).0 F.shown).0;
        }

    module _ {a : Answer} {n : List ℕ} (c : Call)
        (F : Performs l.tables n a Sound (stepping (grants_of l.grants) c)) where
      answered : a ≡ (step (grants_of l.grants) found.state c).answer
      unfolding found check_shown
      answered = F.answers found.state check_shown.shows check_shown.holds

      called_is : stepped (grants_of l.grants) found.state c ≡ called l c
      unfolding called
      called_is = rw (found.fits, found.shown, found.granted)

      pub step_taken :
          {h : List ℕ} → Regrants l.grants h a c
          → called_of a (lent n h x) ≡ called l c
      unfolding found check_shown
      step_taken {h} q =
          let g = grants_of l.grants in
          let s = found.state in
          let S = check_shown in
          let N = step_sound g s c S.holds in
          let r = step g s c in
          ap (λ (k : List ℕ). called_of a (lent n k x)) q.left
          ∙ ap (λ (b : Answer). called_of b (lent n (grant_image (grants_after b c g)) x)) answered
          ∙ ap (λ (k : List ℕ). called_of r.answer (lent k (grant_image (grants_after r.answer c g)) x))
          (shows_image r.state N.ranges N.queues n (F.shows s S.shows S.holds))
          ∙ ap
          (λ (k : List ℕ).
          called_of r.answer (lent (image r.state) (grant_image (grants_after r.answer c g)) k))
          found.zeroed
          ∙ called_is
