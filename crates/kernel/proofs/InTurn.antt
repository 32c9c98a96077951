-- Lists of calls through the entry, each with any scratch: from fresh tables and grants the answers, the tables and the
-- grants are those of the machine's run of the calls that had a scratch of 256 words.
use Prim.Native.Nat.{ℕ}
use mathlib.Core.Path.{◌≡◌, refl, sym, ◌∙◌, ap}
use mathlib.Core.Bool.{Bool, true, false}
use mathlib.Core.List.{List, [], ◌∷◌, ◌++◌, append-nil}
use lib.Dec.{eqb}
use lib.ListN.{length}
use lib.Seq.{append_snoc}
use borrow.Author.Tests.{eq-eqb, eqb-true}
use Rattle.calls.specs.declared.Answer.{Answer}
use Rattle.calls.specs.declared.Call.{Call}
use Rattle.machine.specs.State.{State}
use Rattle.calls.specs.Answers.{plain}
use Rattle.machine.specs.Grants.{Grants, SoundGrants}
use Rattle.machine.specs.Machine.{step, grants_by}
use Rattle.machine.specs.Sound.{Sound}
use Rattle.history.specs.Recorded.{Run, fresh_run, run_from, recorded, told}
use Rattle.machine.proofs.Granted.{fresh_grants_sound, grants_sound}
use Rattle.history.proofs.Demand3.Demand.{demand}
use Rattle.machine.proofs.Preserved.Steps.{step_sound, fresh_sound}
use Rattle.layout.specs.Addresses.{table_words, scratch_words}
use Rattle.layout.specs.Words.{image}
use Rattle.layout.proofs.Image as Tables
use Rattle.soundness.proofs.Tables.{state_image}
use Rattle.grants.specs.Memory.{grant_words, grant_image}
use Rattle.grants.proofs.Memory.{length_image, of_image, image_sound}
use Rattle.lent_tables.specs.Entries.{lent, Freshened, Called, stepped, called}
use Rattle.lent_tables.proofs.Verdict.{fresh_left}
use Rattle.kernel.specs.InTurn.{Attempt, CalledAll, answered_first, called_all, made, filled, Demanded}

-- On the memory of a sound state and sound grants a call does what the machine does.
pub called_image :
    (g : Grants) (s : State) (scratch : List ℕ) (c : Call) → SoundGrants g → Sound s
    → length scratch ≡ scratch_words → called (lent (image s) (grant_image g) scratch) c ≡ stepped g s c
unfolding called
called_image g s scratch c G S n =
    rw (
      eq-eqb (length (image s)) table_words (Tables.length_image s),
      eq-eqb (length (grant_image g)) grant_words (length_image g),
      eq-eqb (length scratch) scratch_words n,
      state_image s S,
      image_sound g G,
      of_image g G,
    )

-- With a scratch of another length it does nothing.
called_short :
    (g : Grants) (s : State) (scratch : List ℕ) (c : Call) → eqb (length scratch) scratch_words ≡ false
    → called (lent (image s) (grant_image g) scratch) c
    ≡ record { answer = plain 16; left = lent (image s) (grant_image g) scratch }
unfolding called
called_short g s scratch c n =
    rw (
      eq-eqb (length (image s)) table_words (Tables.length_image s),
      eq-eqb (length (grant_image g)) grant_words (length_image g),
      n,
    )

-- Calls made in turn from the memory of a run's state and grants.
abbrev gone_on : List Attempt → Run → CalledAll
gone_on l x = called_all l (image x.state) (grant_image x.grants)

-- They go on as the machine's run does; rest are the machine's answers to those with a scratch of 256 words.
record Same (l : List Attempt) (x : Run) : Type 0 where
  rest : List Answer
  more : x.history.answers ++ rest ≡ (run_from step (made l) x).history.answers
  answers : (gone_on l x).answers ≡ filled l rest
  tables : (gone_on l x).tables ≡ image (run_from step (made l) x).state
  grants : (gone_on l x).grants ≡ grant_image (run_from step (made l) x).grants

next : Run → Call → Run
next x c =
    record {
      state = (step x.grants x.state c).state;
      grants = grants_by x.grants x.state c;
      history = told c x.state (step x.grants x.state c) x.history;
    }

-- A call with a scratch of 256 words is made.
module _ (a : Attempt) (l : List Attempt) (n : eqb (length a.scratch) scratch_words ≡ true) where
  made_one : made (a ∷ l) ≡ a.call ∷ made l
  unfolding made
  made_one = rw n

  filled_one : (r : Answer) (k : List Answer) → filled (a ∷ l) (r ∷ k) ≡ r ∷ filled l k
  unfolding filled
  filled_one r k = rw n

  gone_one :
      (x : Run) → SoundGrants x.grants → Sound x.state
      → gone_on (a ∷ l) x
      ≡ answered_first (step x.grants x.state a.call).answer (gone_on l (next x a.call))
  unfolding called_all next
  gone_one x G S =
      ap (λ (k : Called). answered_first k.answer (called_all l k.left.tables k.left.grants))
      (called_image x.grants x.state a.scratch a.call G S
      (eqb-true (length a.scratch) scratch_words n))

  one_more : (x : Run) → SoundGrants x.grants → Sound x.state → Same l (next x a.call) → Same (a ∷ l) x
  unfolding run_from next told recorded
  one_more x G S ih =
      let e = gone_one x G S in
      let r = (step x.grants x.state a.call).answer in
      record {
        rest = r ∷ ih.rest;
        more =
            sym (append_snoc x.history.answers _ _) ∙ ih.more
            ∙ ap (λ (k : List Call). (run_from step k x).history.answers) (sym made_one);
        answers =
            ap (λ (k : CalledAll). k.answers) e ∙ ap (λ (k : List Answer). r ∷ k) ih.answers
            ∙ sym (filled_one r ih.rest);
        tables =
            ap (λ (k : CalledAll). k.tables) e ∙ ih.tables
            ∙ ap (λ (k : List Call). image (run_from step k x).state) (sym made_one);
        grants =
            ap (λ (k : CalledAll). k.grants) e ∙ ih.grants
            ∙ ap (λ (k : List Call). grant_image (run_from step k x).grants) (sym made_one);
      }

-- One with another is answered 16, and nothing comes of it.
module _ (a : Attempt) (l : List Attempt) (n : eqb (length a.scratch) scratch_words ≡ false) where
  made_none : made (a ∷ l) ≡ made l
  unfolding made
  made_none = rw n

  filled_none : (k : List Answer) → filled (a ∷ l) k ≡ plain 16 ∷ filled l k
  unfolding filled
  filled_none k = rw n

  none_more : (x : Run) → Same l x → Same (a ∷ l) x
  unfolding called_all
  none_more x ih =
      let e : gone_on (a ∷ l) x ≡ answered_first (plain 16) (gone_on l x) =
      ap (λ (k : Called). answered_first k.answer (called_all l k.left.tables k.left.grants))
      (called_short x.grants x.state a.scratch a.call n) in
      record {
        rest = ih.rest;
        more = ih.more ∙ ap (λ (k : List Call). (run_from step k x).history.answers) (sym made_none);
        answers =
            ap (λ (k : CalledAll). k.answers) e ∙ ap (λ (k : List Answer). plain 16 ∷ k) ih.answers
            ∙ sym (filled_none ih.rest);
        tables =
            ap (λ (k : CalledAll). k.tables) e ∙ ih.tables
            ∙ ap (λ (k : List Call). image (run_from step k x).state) (sym made_none);
        grants =
            ap (λ (k : CalledAll). k.grants) e ∙ ih.grants
            ∙ ap (λ (k : List Call). grant_image (run_from step k x).grants) (sym made_none);
      }

same_turns : (l : List Attempt) (x : Run) → SoundGrants x.grants → Sound x.state → Same l x
unfolding called_all made filled run_from next
same_turns [] x G S =
    record { rest = []; more = append-nil x.history.answers; answers = refl; tables = refl; grants = refl }
same_turns (a ∷ l) x G S = go (eqb (length a.scratch) scratch_words) refl (λ y Z Y. same_turns l y Z Y)
  where
    go : (b : Bool) → eqb (length a.scratch) scratch_words ≡ b
        → ((y : Run) → SoundGrants y.grants → Sound y.state → Same l y) → Same (a ∷ l) x
    go true h ih =
        one_more a l h x G S
        (ih (next x a.call) (grants_sound x.grants x.state a.call G)
        (step_sound x.grants x.state a.call S))
    go false h ih = none_more a l h x (ih x G S)

-- Demand 3 of the entry, from tables and grants of any content made fresh.
pub demand_kept :
    (m g : List ℕ) (l : List Attempt) → length m ≡ table_words → length g ≡ grant_words → Demanded m g l
demand_kept m g l n k =
    let e = same_turns l fresh_run fresh_grants_sound fresh_sound in
    let f = ap (λ (x : Freshened). called_all l x.tables x.grants) (fresh_left m g n k) in
    record {
      answers =
          ap (λ (x : CalledAll). x.answers) f ∙ e.answers ∙ ap (λ (x : List Answer). filled l x) e.more;
      tables = ap (λ (x : CalledAll). x.tables) f ∙ e.tables;
      grants = ap (λ (x : CalledAll). x.grants) f ∙ e.grants;
      claim = demand (made l);
    }
