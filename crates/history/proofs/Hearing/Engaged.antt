-- Who is engaged in an abort stays so through whatever others do.
use Prim.Native.Nat.{ℕ}
use mathlib.Core.Path.{◌≡◌, refl, sym, ◌∙◌, ap, subst}
use mathlib.Core.Bool.{Bool, true, false}
use mathlib.Core.Option.{Option, none, some}
use mathlib.Core.List.{List, [], ◌∷◌}
use native.Mathlib.Omega.{arith}
use borrow.Author.Tests.{eq-eqb, eqb-true}
use Rattle.calls.specs.declared.Call.{Call}
use Rattle.calls.specs.declared.Call.TheVariants.{DestroyThread}
use Rattle.machine.specs.State.{State, Thread, nothing, works, noted, Abort, Status, Endpoint, set_thread}
use Rattle.machine.specs.State.{set_endpoint}
use Rattle.machine.specs.Endpoints.{under_abort, is_aborting, works_at, note_all, note, end_abort}
use Rattle.calls.specs.Answers.{is_accepted}
use Rattle.machine.specs.Machine.{step}
use Rattle.machine.specs.Sound.{Sound, Present}
use Rattle.history.specs.Recorded.{Run, next_run, run_from}
use Rattle.history.specs.Heard.{Engaged, working, heard, Aside, AllAside}
use Rattle.machine.proofs.Lists.{Same, same, other, same?, clash, put_other, put_all}
use Rattle.machine.proofs.Preserved.Debts.{nothing_works, live_present, informed_member, end_abort_debt}
use Rattle.machine.proofs.Preserved.Steps.{step_sound}
use Rattle.machine.proofs.Calls.Changes.{Steps}
use Rattle.machine.proofs.Calls.EachCall.{perform_passes, stepped}
use Rattle.machine.proofs.Calls.Ticks.{is_absent_lem}
use Rattle.machine.proofs.Calls.Answers.{refused_state}

under_some : (b : ℕ) (o : Option Abort) → under_abort b o ≡ true → (a : Abort) × ((o ≡ some a) × (a.badge ≡ b))
under_some b none h = absurd (clash h refl)
under_some b (some a) h = (a, (refl, eqb-true a.badge b h))

-- What ends at one endpoint leaves the others as they are.
note_endpoints : (o : Option Abort) (f : ℕ) (s : State) → (note o f s).endpoints ≡ s.endpoints
unfolding note note_all
note_endpoints none f s = refl
note_endpoints (some x) f s = refl

ended_elsewhere :
    (x : Status) (e f : ℕ) (s : State) → (e ≡ f → ⊥) → (end_abort x f s).endpoints e ≡ s.endpoints e
unfolding end_abort
ended_elsewhere x e f s n =
    put_other (note (s.endpoints f).abort f s).endpoints f e _ n
    ∙ ap (λ (k : ℕ → Endpoint). k e) (note_endpoints (s.endpoints f).abort f s)

module _ (t e b : ℕ) where
  -- What t is engaged in is said by its debt and by the badge of the abort that stands at e.
  engaged_alike :
      {s r : State} → (r.threads t).debt ≡ (s.threads t).debt
      → under_abort b (r.endpoints e).abort ≡ under_abort b (s.endpoints e).abort → Engaged t e b s → Engaged t e b r
  engaged_alike {s} {r} d u (working a h k w) =
      let x = under_some b (r.endpoints e).abort (u ∙ (ap (under_abort b) h ∙ eq-eqb a.badge b k)) in
      working x.0 x.1.0 x.1.1 (d ∙ w)
  engaged_alike d u (heard n) = heard (d ∙ n)

  -- Another thread than t.
  abbrev Another : ℕ → Type 0
  Another u = t ≡ u → ⊥

  abbrev Stays : State → State → Type 0
  Stays s r = Engaged t e b s → Engaged t e b r

  stays_thread : (u : ℕ) (x : Thread) (s : State) → Another u → Stays s (set_thread u x s)
  stays_thread u x s n = engaged_alike (ap (λ (y : Thread). y.debt) (put_other s.threads u t x n)) refl

  -- Where no abort stands t does not work.
  stays_opened :
      (f : ℕ) (x : Endpoint) (s : State) → is_aborting (s.endpoints f).abort ≡ false → Stays s (set_endpoint f x s)
  stays_opened f x s h (heard n) = heard n
  stays_opened f x s h (working a k i w) = go (same? e f)
    where
      go : Same e f → Engaged t e b (set_endpoint f x s)
      go (same j _) = absurd (clash (ap is_aborting (subst (λ (g : ℕ). (s.endpoints g).abort ≡ some a) j k)) h)
      go (other n _) =
          working a (ap (λ (y : Endpoint). y.abort) (put_other s.endpoints f e x n) ∙ k) i w

  -- Where the abort that t works on ends, t has its note.
  noted_then :
      (o : Option Abort) (a : Abort) (s : State) → o ≡ some a → a.badge ≡ b → (s.threads t).debt ≡ works e
      → ((note o e s).threads t).debt ≡ noted e b
  unfolding note note_all
  noted_then none a s h i w = let z : ◌≡◌ {A = ℕ} 0 1 = cc in absurd (omega arith)
  noted_then (some x) a s h i w =
      let c : x.badge ≡ b = cc in informed_member e x.badge (s.threads t).debt w ∙ ap (noted e) c

  stays_ended : (x : Status) (f : ℕ) (s : State) → Stays s (end_abort x f s)
  unfolding end_abort
  stays_ended x f s (heard n) = heard (end_abort_debt s f x t (ap (works_at f) n) ∙ n)
  stays_ended x f s (working a h i w) = go (same? e f)
    where
      go : Same e f → Engaged t e b (end_abort x f s)
      go (same j _) =
          subst (λ (g : ℕ). Engaged t e b (end_abort x g s)) j (heard (noted_then (s.endpoints e).abort a s h i w))
      go (other n q) =
          working a (ap (λ (y : Endpoint). y.abort) (ended_elsewhere x e f s n) ∙ h) i
          (end_abort_debt s f x t (ap (works_at f) w ∙ q) ∙ w)

  engaged_steps : Steps t Another Stays
  engaged_steps =
      record {
        both = λ x y k. y (x k);
        still = λ x. engaged_alike (x.debt t) (x.under e b);
        other = stays_thread;
        owes = λ u d s n. stays_thread u _ s n;
        opens = stays_opened;
        ends = stays_ended;
      }

  -- Whoever is engaged is present.
  engaged_present : {s : State} → Sound s → Engaged t e b s → Present s t
  engaged_present {s} S k a = go k (ap (λ (x : Thread). x.debt) (S.ranges.unused_thread t a))
    where
      go : Engaged t e b s → (s.threads t).debt ≡ nothing → ⊥
      go (working x h i w) n = nothing_works n w
      go (heard w) n = let z : ◌≡◌ {A = ℕ} 0 1 = cc in omega arith

  stays_aside :
      (c : Call) (x : Run) → Sound x.state → Engaged t e b x.state → Aside step t c x
      → Engaged t e b (next_run step c x).state
  stays_aside c x S k A = go (is_accepted (step x.grants s c).answer) refl
    where
      s : State
      s = x.state

      go : (y : Bool) → is_accepted (step x.grants s c).answer ≡ y → Engaged t e b (step x.grants s c).state
      go false h = subst (λ (r : State). Engaged t e b r) (sym (refused_state x.grants s c h)) k
      go true h =
          stepped x.grants s c (λ r. Engaged t e b r) k
          (perform_passes engaged_steps c s
          (record {
            created = λ u p i a n. engaged_present S k (ap (λ (v : ℕ). (s.threads v).place) n ∙ is_absent_lem _ a);
            destroyed = λ u i a n. clash h (A.stays (i ∙ ap DestroyThread (sym n)));
            opened =
                λ f y i m. stays_opened f y s (ap is_aborting (S.statuses.no_abort f (λ l. live_present l m)));
            ticked =
                λ u n i.
                engaged_alike
                (put_all (λ v y. y.debt ≡ (s.threads v).debt) s.threads u _ refl (λ v m. refl) t) refl;
            caller = λ u r l m n. clash h (A.calls (r ∙ ap some (sym n)) l m);
          }) k)

-- Whoever works on an abort does so until it ends and has a note of it then, whatever others do: by no call but an
-- accepted call 7 to 12 of its own and its destruction does it leave the set or lose the note.
pub stays_engaged :
    (l : List Call) (x : Run) (t e b : ℕ) → Sound x.state → Engaged t e b x.state → AllAside step t l x
    → Engaged t e b (run_from step l x).state
unfolding run_from
stays_engaged [] x t e b S k A = k
stays_engaged (c ∷ l) x t e b S k A =
    stays_engaged l (next_run step c x) t e b (step_sound x.grants x.state c S) (stays_aside t e b c x S k A.0)
    A.1
