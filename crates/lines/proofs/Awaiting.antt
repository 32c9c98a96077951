-- Waiting on a line: refused where another waits, done where it is pending, and else the caller blocks.
use Prim.Native.Nat.{ℕ, ◌+◌, ◌≤◌}
use mathlib.Core.Path.{◌≡◌, refl}
use mathlib.Core.List.{List, []}
use native.Mathlib.Omega.{arith}
use Rattle.calls.specs.declared.Answer.{Answer}
use Rattle.machine.specs.State.{State, waiting, Line, quiet, pending, awaited, set_line}
use Rattle.machine.specs.Scheduling.{block}
use Rattle.machine.specs.Endpoints.{drop_debt}
use Rattle.machine.specs.Results.{done, blocked}
use Rattle.calls.specs.Answers.{plain}
use Rattle.machine.specs.Machine.{wait_at, wait}
use Rattle.layout.specs.Words.{line_code}
use Rattle.store.specs.Steps.{Shown, Does, Tells}
use Rattle.store.specs.Store.{IsThread, IsLine, SetsLine}
use Rattle.store.specs.Readings.{line_in}
use Rattle.queues.specs.Queues.{Chooses}
use Rattle.endings.specs.Results.{Calling, Performs}
use Rattle.endings.proofs.Ends.{refused, performs_as, performs_after}
use Rattle.waiting.specs.Waiting.{Dropped, Suspends}
use Rattle.queues.proofs.Joining.{shown_next}
use Rattle.waiting.proofs.Callers.{calling_thread, dropped_mid, dropped_first}
use Rattle.lines.proofs.Firing.{line_of, line_chooses}

module _ {m : List ℕ} {t l r : ℕ} (T : Tells m (IsLine l) r (line_in l)) where
  pub awaited_refused : 2 ≤ r → Performs m m (plain 27) (Calling t (l ≤ 31)) (wait t l)
  unfolding wait wait_at
  awaited_refused z =
      performs_as (refused 27 refl) (λ s M h. go s (s.lines l) (T.tells s M h.numbers))
    where
      go : (s : State) (x : Line) → r ≡ line_code x
          → record { state = s; answer = plain 27; looks = [] } ≡ wait_at x t l s
      go s quiet j = absurd (omega arith)
      go s pending j = absurd (omega arith)
      go s (awaited u) j = refl

-- After the debt has gone.

pub line_asked : {m : List ℕ} {t l : ℕ} → Shown m (Dropped t (l ≤ 31)) → Shown m (IsLine l)
line_asked S = record { state = S.state; shows = S.shows; holds = S.holds.calling.numbers }

module _ {n o : List ℕ} {t l : ℕ} where
  lined :
      {code : ℕ} (x : Line) → line_code x ≡ code → SetsLine n l code o
      → Does n o (Dropped t (l ≤ 31)) (set_line l x)
  lined x k W = record { shows = λ s M h. (W.does x k).shows s M h.calling.numbers }

  pub taken_asked : {code : ℕ} → SetsLine n l code o → Shown n (Dropped t (l ≤ 31)) → Shown o Chooses
  taken_asked {code} W S =
      let v = line_of code in
      shown_next (lined v.0 v.1 W) (λ s M h. line_chooses l v.0 (dropped_mid h)) S

  taken :
      {p : List ℕ} {a : Answer} → SetsLine n l 0 o → Performs o p a Chooses done
      → Performs n p a (Dropped t (l ≤ 31)) (λ s. done (set_line l quiet s))
  taken W D = performs_after (lined quiet refl W) (λ s M h. line_chooses l quiet (dropped_mid h)) D

  pub waiter_asked : {code : ℕ} → SetsLine n l code o → Shown n (Dropped t (l ≤ 31)) → Shown o (IsThread t)
  waiter_asked {code} W S =
      let v = line_of code in
      shown_next (lined v.0 v.1 W) (λ s M h. calling_thread h.calling) S

  awaits :
      {p : List ℕ} {a : Answer} → SetsLine n l (2 + t) o → Suspends o t (130 + l) 0 0 a p
      → Performs n p a (Dropped t (l ≤ 31)) (λ s. blocked (block t (waiting l) 0 0 (set_line l (awaited t) s)))
  awaits W D =
      performs_after (lined (awaited t) (omega arith) W) (λ s M h. calling_thread h.calling)
      (D.performs (waiting l) refl)

module _ {m n o p : List ℕ} {t l r : ℕ} {a : Answer} (T : Tells m (IsLine l) r (line_in l))
    (E : Does m n (IsThread t) (drop_debt t)) where
  pub waited_pending :
      r ≡ 1 → SetsLine n l 0 o → Performs o p a Chooses done → Performs m p a (Calling t (l ≤ 31)) (wait t l)
  unfolding wait wait_at
  waited_pending z W D =
      performs_as (dropped_first E (taken W D)) (λ s M h. go s (s.lines l) (T.tells s M h.numbers))
    where
      go : (s : State) (x : Line) → r ≡ line_code x → done (set_line l quiet (drop_debt t s)) ≡ wait_at x t l s
      go s quiet j = absurd (omega arith)
      go s pending j = refl
      go s (awaited u) j = absurd (omega arith)

  pub waited_quiet :
      r ≡ 0 → SetsLine n l (2 + t) o → Suspends o t (130 + l) 0 0 a p
      → Performs m p a (Calling t (l ≤ 31)) (wait t l)
  unfolding wait wait_at
  waited_quiet z W D =
      performs_as (dropped_first E (awaits W D)) (λ s M h. go s (s.lines l) (T.tells s M h.numbers))
    where
      go : (s : State) (x : Line) → r ≡ line_code x
          → blocked (block t (waiting l) 0 0 (set_line l (awaited t) (drop_debt t s))) ≡ wait_at x t l s
      go s quiet j = refl
      go s pending j = absurd (omega arith)
      go s (awaited u) j = absurd (omega arith)
