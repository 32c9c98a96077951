-- A journal run from fresh memory: turn after turn its course comes call by call, and ends with the reader's number.
use Prim.Native.Nat.{ℕ, zero, suc, ◌+◌, ◌-◌, ◌≤◌, ◌<◌}
use mathlib.Core.Path.{◌≡◌, refl, sym, ap, subst, ◌∙◌}
use mathlib.Core.Logic.{inl, inr}
use mathlib.Core.Option.{Option, none, some}
use mathlib.Core.List.{List, [], ◌∷◌}
use native.Mathlib.Omega.{arith}
use denote.Enum.Declared.{tag_of}
use types.Run.{OneOf}
use lib.ListN.{length}
use Rattle.calls.specs.declared.Answer.{Answer}
use Rattle.calls.specs.declared.Call.{Call}
use Rattle.std.specs.Prelude as source
use Rattle.calls.specs.Answers.{thread_of, seat}
use Rattle.machine.specs.State.{State, fresh_state}
use Rattle.machine.specs.Grants.{Grants, fresh_grants}
use Rattle.machine.specs.Machine.{step, grants_by}
use Rattle.machine.proofs.Granted.{fresh_grants_sound, grants_sound}
use Rattle.machine.proofs.Preserved.Steps.{step_sound, fresh_sound}
use Rattle.journal.specs.declared.types.Read.{Read}
use Rattle.journal.specs.declared.types.Read.TheVariants.{Found, Refused, Ended}
use Rattle.journal.specs.Words.{read_at}
use Rattle.journal.specs.Course.{Made, Course, made_in, onward, standing, course_from, course_of, stop_code}
use Rattle.journal.proofs.Further.{Further, further}
use Rattle.journal.proofs.Refusals.{ends}
use Rattle.layout.specs.Addresses.{table_words, scratch_words}
use Rattle.layout.specs.Words.{image}
use Rattle.layout.proofs.Neat.{sound_neat}
use Rattle.grants.specs.Memory.{grant_words, grant_image}
use Rattle.lent_tables.specs.Entries.{Lent, lent, Freshened, freshened, Called, called, runner_in}
use Rattle.lent_tables.proofs.Verdict.{fresh_left, zeros_length}
use Rattle.lent_tables.proofs.Runner.{running_image}
use Rattle.kernel.proofs.InTurn.{called_image}
use Rattle.rows.specs.declared.Turn.{Turn}
use Rattle.rows.specs.declared.Turn.TheVariants.{Took, Stopped, Over}
use Rattle.rows.specs.Taking.{Turned, turned, code_of}
use Rattle.rows.specs.Run.{course_at, Ran}
use Rattle.rows.specs.contracts.Turn.{the_type}

-- Turns enough are as good as any more.
pub enough :
    (n k at i : ℕ) (journal : List ℕ) (g : Grants) (s : State) → length journal < at + n → length journal < at + k
    → course_from n (read_at journal at) i journal g s ≡ course_from k (read_at journal at) i journal g s
unfolding course_from
enough zero zero at i journal g s h h' = refl
enough zero (suc k) at i journal g s h h' =
    ap (λ (r : Read). course_from (suc k) r i journal g s) (sym (ends journal at (omega (arith, h))))
enough (suc n) zero at i journal g s h h' =
    ap (λ (r : Read). course_from (suc n) r i journal g s) (ends journal at (omega (arith, h')))
enough (suc n) (suc k) at i journal g s h h' = go (read_at journal at) refl (enough n k)
  where
    go :
        (r : Read) → read_at journal at ≡ r
        → ((a j : ℕ) (l : List ℕ) (f : Grants) (t : State) → length l < a + n → length l < a + k
        → course_from n (read_at l a) j l f t ≡ course_from k (read_at l a) j l f t)
        → course_from (suc n) r i journal g s ≡ course_from (suc k) r i journal g s
    go (Found c next) e ih =
        let f = further journal at c next e in
        ap (onward (made_in i c g s))
        (ih next (suc i) journal (grants_by g s c) (step g s c).state (omega (arith, f.more, h))
        (omega (arith, f.more, h')))
    go (Refused code p) e ih = refl
    go Ended e ih = refl

-- The course from a word on, by what is read there.
module _ (journal : List ℕ) (at i : ℕ) (g : Grants) (s : State) where
  found_on :
      (c : Call) (next : ℕ) → read_at journal at ≡ Found c next
      → course_at journal at i g s
      ≡ onward (made_in i c g s) (course_at journal next (suc i) (grants_by g s c) (step g s c).state)
  unfolding course_from
  found_on c next e =
      let f = further journal at c next e in
      ap (λ (r : Read). course_from (suc (length journal - at)) r i journal g s) e
      ∙ ap (onward (made_in i c g s))
      (enough (length journal - at) (suc (length journal - next)) next (suc i) journal (grants_by g s c)
      (step g s c).state
      (omega (arith, f.more, f.within))
      (omega (arith, f.more, f.within)))

  refused_on :
      (code p : ℕ) → read_at journal at ≡ Refused code p → course_at journal at i g s ≡ standing (some code) i s
  unfolding course_from
  refused_on code p e = ap (λ (r : Read). course_from (suc (length journal - at)) r i journal g s) e

  ended_on : read_at journal at ≡ Ended → course_at journal at i g s ≡ standing none i s
  unfolding course_from
  ended_on e = ap (λ (r : Read). course_from (suc (length journal - at)) r i journal g s) e

ran_fresh :
    (journal tables grants scratch : List ℕ) → length tables ≡ table_words → length grants ≡ grant_words
    → length scratch ≡ scratch_words
    → Ran journal 0 0 none (lent (freshened tables grants).tables (freshened tables grants).grants scratch)
    (course_of journal)
unfolding course_of
ran_fresh journal tables grants scratch t g x =
    record {
      grants = fresh_grants;
      state = fresh_state;
      sound_grants = fresh_grants_sound;
      sound = fresh_sound;
      memory = ap (λ (f : Freshened). lent f.tables f.grants scratch) (fresh_left tables grants t g);
      scratch = x;
      runs = refl;
      course =
          enough (suc (length journal)) (suc (length journal - 0)) 0 0 journal fresh_grants fresh_state (omega arith)
          (omega arith);
    }

-- On memory made fresh nothing was run, and the whole course is to come.
pub ran_freshened :
    (journal tables grants scratch : List ℕ) (f : Freshened) → f ≡ freshened tables grants
    → length tables ≡ table_words → length grants ≡ grant_words → length scratch ≡ scratch_words
    → Ran journal 0 0 none (lent f.tables f.grants scratch) (course_of journal)
ran_freshened journal tables grants scratch f e t g x =
    subst (λ (f : Freshened). Ran journal 0 0 none (lent f.tables f.grants scratch) (course_of journal)) (sym e)
    (ran_fresh journal tables grants scratch t g x)

-- Who runs has a number, 256 for nobody.
pub seat_small :
    {journal : List ℕ} {at i : ℕ} {who : Option ℕ} {m : Lent} {rest : Course}
    → Ran journal at i who m rest → seat who ≤ 256
seat_small {who = who} r = go who r.runs
  where
    go : (o : Option ℕ) → o ≡ r.state.runs → seat o ≤ 256
    go none e = omega arith
    go (some t) e = omega (arith, (sound_neat r.state r.sound).runs_small t (sym e))

-- A call that was made, by what a turn tells of it.
abbrev pub made_by : ℕ → Option ℕ → Call → Answer → source.Option ℕ → Made
made_by i who c a w = record { index = i; ran = who; call = c; answer = a; runs = thread_of w }

-- A call was taken: the course is that call and the others, and the memory holds what it left.
pub record Next (journal : List ℕ) (at i : ℕ) (who : Option ℕ) (c : Call) (a : Answer) (w : source.Option ℕ) (next : ℕ)
    (m : Lent) (rest : Course) : Type 0 where
  pub others : Course
  pub first : rest ≡ onward (made_by i who c a w) others
  pub ran : Ran journal next (suc i) (thread_of w) m others
  pub further : Further journal at next

-- No call was taken: none is to come, and the course stands at this index, with this thread running and this number.
pub record Last (i : ℕ) (who : Option ℕ) (rest : Course) (code : ℕ) : Type 0 where
  pub none_left : rest.made ≡ []
  pub number : stop_code rest.stop ≡ code
  pub index : rest.index ≡ i
  pub runs : rest.runs ≡ who

not_took : OneOf (1 ∷ 2 ∷ []) 0 → ⊥
not_took (inl e) = omega (arith, e)
not_took (inr e) = omega (arith, e)

-- A turn that is not one that took a call.
pub other_turn :
    (t : Turn) → ((c : Call) (a : Answer) (w : source.Option ℕ) (next : ℕ) → t ≡ Took c a w next → ⊥)
    → OneOf (1 ∷ 2 ∷ []) (tag_of the_type t)
other_turn (Took c a w next) h = absurd (h c a w next refl)
other_turn (Stopped code w) h = inl refl
other_turn Over h = inr refl

-- What a turn does where a journal has been run up to its word.
module _ {journal : List ℕ} {at i : ℕ} {who : Option ℕ} {m : Lent} {rest : Course} (r : Ran journal at i who m rest)
  where
    abbrev held : Lent
    held = lent (image r.state) (grant_image r.grants) m.scratch

    took_all :
        (c : Call) (next : ℕ) → read_at journal at ≡ Found c next → (k : Called) → k ≡ called held c
        → Next journal at i who c k.answer (runner_in k.left.tables) next k.left rest
    took_all c next e k is =
        subst (λ (k : Called). Next journal at i who c k.answer (runner_in k.left.tables) next k.left rest)
        (sym (is ∙ called_image g s m.scratch c r.sound_grants r.sound r.scratch))
        (record {
          others = others;
          first =
              r.course ∙ found_on journal at i g s c next e
              ∙ ap (λ (o : Option ℕ). onward (told o (step g s c).state.runs) others) (sym r.runs)
              ∙ ap (λ (o : Option ℕ). onward (told who o) others) (sym runs);
          ran =
              record {
                grants = grants_by g s c;
                state = (step g s c).state;
                sound_grants = grants_sound g s c r.sound_grants;
                sound = step_sound g s c r.sound;
                memory = refl;
                scratch = zeros_length;
                runs = runs;
                course = refl;
              };
          further = further journal at c next e;
        })
      where
        g : Grants
        g = r.grants

        s : State
        s = r.state

        others : Course
        others = course_at journal next (suc i) (grants_by g s c) (step g s c).state

        told : Option ℕ → Option ℕ → Made
        told before after =
            record { index = i; ran = before; call = c; answer = (step g s c).answer; runs = after }

        runs : thread_of (runner_in (image (step g s c).state)) ≡ (step g s c).state.runs
        runs = running_image (step g s c).state (step_sound g s c r.sound)

    -- What is known of the turn that came, by which it is.
    abbrev Came : Turned → Type 0
    Came t = Known t.turn t.left
      where
        Known : Turn → Lent → Type 0
        Known (Took c a w next) left = Next journal at i who c a w next left rest
        Known (Stopped code w) left = Last i who rest code
        Known Over left = Last i who rest 0

    stood : (stop : Option ℕ) → rest ≡ standing stop i r.state → Last i who rest (stop_code stop)
    stood stop e =
        subst (λ (k : Course). Last i who k (stop_code stop)) (sym e)
        (record { none_left = refl; number = refl; index = refl; runs = sym r.runs })

    came : (k : Read) → read_at journal at ≡ k → Came (turned k held)
    came (Found c next) e = took_all c next e _ refl
    came (Refused code p) e =
        stood (some code) (r.course ∙ refused_on journal at i r.grants r.state code p e)
    came Ended e = stood none (r.course ∙ ended_on journal at i r.grants r.state e)

    known : (t : Turned) → t ≡ turned (read_at journal at) m → Came t
    known t e =
        subst Came (sym (e ∙ ap (λ (l : Lent). turned (read_at journal at) l) r.memory))
        (came (read_at journal at) refl)

    -- A turn that took a call,
    pub run_took :
        (t : Turn) (left : Lent) → ◌≡◌ {A = Turned} (record { turn = t; left = left }) (turned (read_at journal at) m)
        → (c : Call) (a : Answer) (w : source.Option ℕ) (next : ℕ) → t ≡ Took c a w next
        → Next journal at i who c a w next left rest
    run_took t left e c a w next f =
        subst (λ (t : Turn). Came (record { turn = t; left = left })) f (known _ e)

    -- and one that took none.
    pub run_ended :
        (t : Turn) (left : Lent) → ◌≡◌ {A = Turned} (record { turn = t; left = left }) (turned (read_at journal at) m)
        → OneOf (1 ∷ 2 ∷ []) (tag_of the_type t) → Last i who rest (code_of t)
    run_ended t left e o = go t o (known _ e)
      where
        go : (t : Turn) → OneOf (1 ∷ 2 ∷ []) (tag_of the_type t) → Came (record { turn = t; left = left })
            → Last i who rest (code_of t)
        go (Took c a w next) o k = absurd (not_took o)
        go (Stopped code w) o k = k
        go Over o k = k
