-- Ending an abort: its members get notes, and the endpoint has no abort and the status given, as one step.
use Prim.Native.Nat.{ℕ}
use mathlib.Core.Path.{◌≡◌, refl, ◌∙◌, ap, subst}
use mathlib.Core.Option.{Option, none, some}
use mathlib.Core.List.{List}
use Rattle.machine.specs.Lists.{put}
use Rattle.machine.specs.State.{State, Abort, Status, Endpoint, set_endpoint}
use Rattle.machine.specs.Endpoints.{set_abort, note_all, note, end_abort}
use Rattle.machine.proofs.Lists.{put_same, put_again}
use Rattle.layout.specs.Shows.{Shows}
use Rattle.store.specs.Steps.{Shown, Does}
use Rattle.store.specs.Store.{IsEndpoint, standing, SetsStatus, SetsAbort}
use Rattle.store.proofs.Composed.{shown_after}
use Rattle.debts.specs.Debts.{noting, EndsAbort}

-- Notes change no endpoint.
note_keeps : (x : Option Abort) (e : ℕ) (s : State) → (note x e s).endpoints ≡ s.endpoints
unfolding note note_all
note_keeps none e s = refl
note_keeps (some a) e s = refl

-- No abort, with the status given.
abbrev bare : Status → List ℕ → Endpoint
bare x l = record { status = x; waiters = l; abort = none }

abbrev standing_as : Status → Endpoint → Endpoint
standing_as x y = record { status = x; waiters = y.waiters; abort = y.abort }

abbrev with_endpoints : State → (ℕ → Endpoint) → State
with_endpoints s f =
    record { threads = s.threads; runs = s.runs; levels = s.levels; endpoints = f; lines = s.lines }

two_as_one :
    (x : Status) (e : ℕ) (s : State)
    → standing e x (set_abort e none s) ≡ set_endpoint e (bare x (s.endpoints e).waiters) s
two_as_one x e s =
    let f : ℕ → Endpoint = s.endpoints in
    let y : Endpoint = bare (f e).status (f e).waiters in
    ap (with_endpoints s)
    (put_again f e y (standing_as x (put f e y e)) ∙ ap (λ z. put f e (standing_as x z)) (put_same f e y))

ended_is : (x : Status) (e : ℕ) (s : State) → standing e x (set_abort e none (noting e s)) ≡ end_abort x e s
unfolding end_abort
ended_is x e s =
    two_as_one x e (noting e s)
    ∙ ap (λ (f : ℕ → Endpoint). set_endpoint e (bare x (f e).waiters) (noting e s))
    (note_keeps (s.endpoints e).abort e s)

module _ {m n : List ℕ} {e : ℕ} (D : Does m n (IsEndpoint e) (noting e)) where
  pub abort_asked : Shown m (IsEndpoint e) → Shown n (IsEndpoint e)
  abort_asked S = shown_after {op = noting e} S D (λ s h. h)

  pub status_asked : {o : List ℕ} → Shown m (IsEndpoint e) → SetsAbort n e 0 0 0 0 o → Shown o (IsEndpoint e)
  status_asked S A = shown_after {op = set_abort e none} (abort_asked S) (A.none refl refl refl refl) (λ s h. h)

  pub ends : {o p : List ℕ} {code : ℕ} → SetsAbort n e 0 0 0 0 o → SetsStatus o e code p → EndsAbort m e code p
  ends {o} {p} A S =
      record {
        does = λ x k.
            record {
              shows = λ s M h.
                  subst (λ z. Shows p z) (ended_is x e s)
                  ((S.does x k).shows (set_abort e none (noting e s))
                  ((A.none refl refl refl refl).shows (noting e s) (D.shows s M h) h) h);
            };
      }
