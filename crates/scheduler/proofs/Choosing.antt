-- The highest occupied level as the summary finds it, its head that runs, and the choice of the thread that runs.
use Prim.Native.Nat.{ℕ, suc, ◌-◌, ◌≤◌, ◌<◌}
use mathlib.Core.Path.{◌≡◌, refl, sym, ◌∙◌, ap, subst}
use mathlib.Core.Logic.{inl}
use mathlib.Core.Option.{Option, none, some}
use mathlib.Core.List.{List, [], ◌∷◌}
use native.Mathlib.Omega.{arith}
use borrow.Author.Tests.{lt-ltb, le-ltb}
use Rattle.machine.specs.Lists.{without, Distinct}
use Rattle.machine.specs.State.{State, set_runs, set_level}
use Rattle.machine.specs.Scheduling.{stand_back, highest, dispatch_head, dispatch_at, dispatch}
use Rattle.machine.specs.Scheduling.{displace, choose_for, choose}
use Rattle.machine.proofs.Lists.{without_first}
use Rattle.machine.proofs.Running.{Highest, highest_is}
use Rattle.summary.specs.declared.Summary.{Summary}
use Rattle.std.specs.Prelude.{None, Some}
use Rattle.std.specs.Prelude as code
use Rattle.calls.specs.Answers.{maybe_of}
use Rattle.summary.proofs.Tops.{highest_levels}
use Rattle.summary.specs.Levels.{Finds}
use Rattle.layout.specs.declared.Field.{Field}
use Rattle.layout.specs.Words.{first_of, queues_of, occupied_in}
use Rattle.layout.specs.Shows.{Shows}
use Rattle.layout.proofs.Standing.{queues_level}
use Rattle.links.specs.Links.{First}
use Rattle.store.specs.Steps.{Shown, Does, Tells}
use Rattle.store.specs.Store.{IsThread, Any, SetsRunning}
use Rattle.store.specs.Readings.{thread_in, running_in}
use Rattle.store.specs.Levels.{LoadsSummary}
use Rattle.queues.specs.Queues.{Loose, InLevelAt, HeadAt, Chooses, FindsLevel, leave_level}
use Rattle.queues.proofs.Joining.{shown_next}

-- The level that the summary finds is the machine's.

module _ {m : List ℕ} {sm : Summary} {l : code.Option ℕ} (L : LoadsSummary m sm) (F : Finds sm l) where
  pub finds : FindsLevel m l
  finds = record { found = λ s M. F.found (occupied_in s) (L.shown s M) ∙ sym (highest_levels s.levels) }

-- The head of the highest queue: thread t, before those of the rest.
pub record Head (s : State) (p link : ℕ) : Type 0 where
  pub thread : ℕ
  pub rest : List ℕ
  pub small : p ≤ 255
  pub is : highest s.levels ≡ some p
  pub whole : s.levels p ≡ thread ∷ rest
  pub linked : link ≡ suc thread

module _ {m : List ℕ} {l : code.Option ℕ} (T : FindsLevel m l) where
  none_occupied : l ≡ None → (s : State) → Shows m s → highest s.levels ≡ none
  none_occupied e s M = sym (T.found s M) ∙ ap maybe_of e

  pub nobody_ready : l ≡ None → Does m m Any dispatch
  unfolding dispatch dispatch_at
  nobody_ready e = record { shows = λ s M h. rw (none_occupied e s M) M }

  module _ (p : ℕ) (at_p : l ≡ Some p) where
    level_at : (s : State) → Shows m s → highest s.levels ≡ some p
    level_at s M = sym (T.found s M) ∙ ap maybe_of at_p

    top_is : (s : State) → Shows m s → Highest 256 s.levels (some p)
    top_is s M = rw (level_at s M) at (highest_is s.levels)

    pub readable : Shown m Any → p ≤ 319
    readable S = omega (arith, (top_is S.state S.shows).0)

    module _ {link : ℕ} (F : First m p link) where
      head_is : (s : State) → Shows m s → Head s p link
      head_is s M = go (s.levels p) refl
        where
          small : p ≤ 255
          small = omega (arith, (top_is s M).0)

          go : (l : List ℕ) → s.levels p ≡ l → Head s p link
          go [] e = absurd ((top_is s M).1 e)
          go (t ∷ q) e =
              record {
                thread = t;
                rest = q;
                small = small;
                is = level_at s M;
                whole = e;
                linked = F.first (queues_of s) M.links ∙ ap first_of (queues_level s p small ∙ e);
              }

      pub head_stands : (s : State) → Shows m s → InLevelAt p (link - 1) s
      head_stands s M =
          let H = head_is s M in
          let k : link - 1 ≡ H.thread = omega (arith, H.linked) in
          record { level = H.small; stands = rw H.whole (inl k) }

      pub head_shown : Shown m Any → Shown m (HeadAt p (link - 1))
      head_shown S =
          let H = head_is S.state S.shows in
          let k : H.thread ≡ link - 1 = omega (arith, H.linked) in
          record {
            state = S.state;
            shows = S.shows;
            holds = record { level = H.small; first = ap first_of H.whole ∙ ap suc k };
          }

      pub head_there : Shown m Any → 1 ≤ link
      head_there S = omega (arith, (head_is S.state S.shows).linked)

      module _ {o : List ℕ} (D : Does m o (InLevelAt p (link - 1)) (leave_level p (link - 1))) where
        pub head_left : Shown m Any → Shown o Any
        head_left S =
            shown_next D (λ _ _ _. tt)
            (record { state = S.state; shows = S.shows; holds = head_stands S.state S.shows })

        pub dispatched : {k : List ℕ} → SetsRunning o link k → Does m k Any dispatch
        unfolding dispatch dispatch_at dispatch_head
        dispatched {k} R = record { shows = λ s M h. go s M (head_is s M) }
          where
            go : (s : State) → Shows m s → Head s p link → Shows k (dispatch s)
            go s M H =
                let t : link - 1 ≡ H.thread = omega (arith, H.linked) in
                let q : p ≤ 319 = omega (arith, H.small) in
                let d : Distinct (H.thread ∷ H.rest) =
                rw (queues_level s p H.small, H.whole) at (M.links.once p q) in
                let w : without (link - 1) (s.levels p) ≡ H.rest =
                rw (t, H.whole) (without_first H.thread H.rest d) in
                let e : dispatch s ≡ set_runs (some H.thread) (set_level p H.rest s) =
                ap (λ x. dispatch_at x s) H.is ∙ ap (λ l. dispatch_head l p s) H.whole in
                let N = D.shows s M (head_stands s M) in
                rw e ((R.does (some H.thread) (sym H.linked)).shows (set_level p H.rest s) (rw w at N) tt)

-- The running thread t, of priority p, is displaced exactly where a level above p is occupied.
module _ {m : List ℕ} {t p : ℕ} {l : code.Option ℕ} (R : Tells m (IsThread t) p (thread_in Field.Priority t))
    (T : FindsLevel m l) where
  pub none_above : l ≡ None → Does m m (Loose t) (choose_for (some t))
  unfolding choose_for displace
  none_above e = record { shows = λ s M k. rw (none_occupied T e s M) M }

  module _ (q : ℕ) (at_q : l ≡ Some q) where
    pub displaced :
        {n o : List ℕ} → p < q → Does m n (Loose t) (stand_back t) → Does n o Any dispatch
        → Does m o (Loose t) (choose_for (some t))
    unfolding choose_for displace
    displaced {n} {o} h D E = record { shows = λ s M k. go s M k }
      where
        go : (s : State) → Shows m s → Loose t s → Shows o (choose_for (some t) s)
        go s M k =
            let j : (s.threads t).priority < q = omega (arith, R.tells s M k.thread) in
            rw (level_at T q at_q s M, lt-ltb (s.threads t).priority q j)
            (E.shows (stand_back t s) (D.shows s M k) tt)

    pub not_displaced : q ≤ p → Does m m (Loose t) (choose_for (some t))
    unfolding choose_for displace
    not_displaced h = record { shows = λ s M k. go s M k }
      where
        go : (s : State) → Shows m s → Loose t s → Shows m (choose_for (some t) s)
        go s M k =
            let j : q ≤ (s.threads t).priority = omega (arith, R.tells s M k.thread) in
            rw (level_at T q at_q s M, le-ltb (s.threads t).priority q j) M

-- Nobody runs, or the thread of the link does.
module _ {m : List ℕ} {link : ℕ} (L : Tells m Any link running_in) where
  pub chosen_idle : {n : List ℕ} → link ≡ 0 → Does m n Any dispatch → Does m n Chooses choose
  unfolding choose choose_for
  chosen_idle {n} z D = record { shows = λ s M h. go s M s.runs refl }
    where
      go : (s : State) → Shows m s → (x : Option ℕ) → s.runs ≡ x → Shows n (choose s)
      go s M none e = subst (λ x. Shows n (choose_for x s)) (sym e) (D.shows s M tt)
      go s M (some t) e = absurd (omega (arith, (rw e at (L.tells s M tt))))

  module _ (n : link ≡ 0 → ⊥) where
    pub runner : (s : State) → Shows m s → s.runs ≡ some (link - 1)
    runner s M = go s.runs refl
      where
        go : (x : Option ℕ) → s.runs ≡ x → s.runs ≡ some (link - 1)
        go none e = absurd (n (rw e at (L.tells s M tt)))
        go (some t) e =
            let k : link ≡ suc t = rw e at (L.tells s M tt) in
            let j : t ≡ link - 1 = omega arith in
            e ∙ ap some j

    pub runner_shown : Shown m Chooses → Shown m (Loose (link - 1))
    runner_shown S =
        record {
          state = S.state;
          shows = S.shows;
          holds = S.holds.running (link - 1) (runner S.state S.shows);
        }

    pub chosen :
        {o : List ℕ} → Does m o (Loose (link - 1)) (choose_for (some (link - 1))) → Does m o Chooses choose
    unfolding choose
    chosen {o} D =
        record {
          shows = λ s M h.
              let e = runner s M in
              subst (λ x. Shows o (choose_for x s)) (sym e) (D.shows s M (h.running (link - 1) e));
        }
