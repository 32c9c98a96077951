-- Steps one after the other: what a step leaves for the next to ask, and steps on one thread as one.
use Prim.Native.Nat.{ℕ}
use mathlib.Core.Path.{◌≡◌, refl, ◌∙◌, ap, subst}
use mathlib.Core.List.{List}
use Rattle.machine.specs.Lists.{put}
use Rattle.machine.specs.State.{State, Thread, Place, Debt, nothing, set_thread, with_place, with_priority, with_ticks}
use Rattle.machine.specs.State.{with_debt}
use Rattle.machine.proofs.Lists.{put_same, put_again}
use Rattle.layout.specs.Shows.{Shows}
use Rattle.store.specs.Steps.{Shown, Does}
use Rattle.store.specs.Store.{IsThread, placing, prioritising, ticking, owing, SetsPlace, SetsDebt, Remakes}

-- After a step the memory shows the state that the step makes.
pub shown_after :
    {m n : List ℕ} {P Q : State → Type 0} {op : State → State} → Shown m P → Does m n P op
    → ((s : State) → P s → Q (op s)) → Shown n Q
shown_after {op = op} S D q =
    record {
      state = op S.state;
      shows = D.shows S.state S.shows S.holds;
      holds = q S.state S.holds;
    }

-- Thread t goes through g.
abbrev pub altering : ℕ → (Thread → Thread) → State → State
altering t g s = set_thread t (g (s.threads t)) s

altered_twice :
    (t : ℕ) (g h : Thread → Thread) (s : State) → altering t h (altering t g s) ≡ altering t (λ x. h (g x)) s
altered_twice t g h s =
    let k : put (put s.threads t (g (s.threads t))) t (h (put s.threads t (g (s.threads t)) t))
    ≡ put s.threads t (h (g (s.threads t))) =
    put_again s.threads t (g (s.threads t)) (h (put s.threads t (g (s.threads t)) t))
    ∙ ap (λ x. put s.threads t (h x)) (put_same s.threads t (g (s.threads t))) in
    ap (λ f. record {
      threads = f;
      runs = s.runs;
      levels = s.levels;
      endpoints = s.endpoints;
      lines = s.lines;
    }) k

pub altered :
    (t : ℕ) {m n o : List ℕ} (g h : Thread → Thread) → Does m n (IsThread t) (altering t g)
    → Does n o (IsThread t) (altering t h) → Does m o (IsThread t) (altering t (λ x. h (g x)))
altered t {o = o} g h D E =
    record {
      shows = λ s M k.
          subst (λ z. Shows o z) (altered_twice t g h s) (E.shows (altering t g s) (D.shows s M k) k);
    }

-- A step leaves what does not depend on the state as it is: that a thread is in range.
pub still :
    {t : ℕ} {m n : List ℕ} (op : State → State) → Does m n (IsThread t) op → Shown m (IsThread t)
    → Shown n (IsThread t)
still op D S = shown_after S D (λ s h. h)

-- The four steps that make a thread anew.
pub remade :
    (t : ℕ) {m n₁ n₂ n₃ n₄ : List ℕ} (p n : ℕ) (d : Debt) (place : Place) (o b x : ℕ)
    → Does m n₁ (IsThread t) (prioritising t p) → Does n₁ n₂ (IsThread t) (ticking t n)
    → Does n₂ n₃ (IsThread t) (owing t d) → Does n₃ n₄ (IsThread t) (placing t place o b x)
    → Does m n₄ (IsThread t)
    (altering t (λ y. with_place place o b x (with_debt d (with_ticks n (with_priority p y)))))
remade t p n d place o b x A B C D =
    altered t (λ y. with_debt d (with_ticks n (with_priority p y))) (with_place place o b x)
    (altered t (λ y. with_ticks n (with_priority p y)) (with_debt d)
    (altered t (with_priority p) (with_ticks n) A B) C) D

-- The last of them is for whatever place has the number.
pub remade_plain :
    (t : ℕ) {m n₁ n₂ n₃ n₄ : List ℕ} (p n code : ℕ) → Does m n₁ (IsThread t) (prioritising t p)
    → Does n₁ n₂ (IsThread t) (ticking t n) → SetsDebt n₂ t 0 0 n₃ → SetsPlace n₃ t code 0 0 0 n₄
    → Remakes m t code p n n₄
remade_plain t p n code A B C D =
    record { does = λ x e. remade t p n nothing x 0 0 0 A B (C.does nothing refl refl) (D.does x e) }
