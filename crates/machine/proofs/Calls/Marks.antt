-- The look of an abort, and the abort's two marks: how cursor and end mark pass on when a waiter leaves its queue.
use Prim.Native.Nat.{ℕ}
use mathlib.Core.Path.{◌≡◌, refl, sym, ◌∙◌, ap, subst}
use mathlib.Core.Logic.{inl, inr, ◌↔◌}
use mathlib.Core.Bool.{Bool, true, false}
use mathlib.Core.Option.{Option, none, some}
use mathlib.Core.List.{List, [], ◌∷◌, ◌++◌, append-nil}
use native.Mathlib.Omega.{arith}
use borrow.Author.Tests.{eq-eqb, ne_eqb}
use Rattle.machine.specs.Lists.{without, first, Mem, Distinct}
use Rattle.machine.specs.State.{State, able, Abort, Endpoint, with_place}
use Rattle.machine.specs.Scheduling.{enqueue, wake}
use Rattle.machine.specs.Endpoints.{pending_of, passing, set_abort, leave_endpoint, wake_from}
use Rattle.machine.specs.Aborts.{hits, look_at, look, pending_at}
use Rattle.machine.specs.Work.{last, cursor_at, end_mark_at}
use Rattle.machine.proofs.Lists.{Same, same, other, same?, put_same, without_hit, without_miss, without_nil}
use Rattle.machine.proofs.Lists.{without_none, without_append, without_first, mem_without, distinct_apart}

-- Lists: the first and the last when one leaves

module _ (t : ℕ) where
  first_kept : (l : List ℕ) → (first l ≡ some t → ⊥) → first (without t l) ≡ first l
  first_kept [] h = ap first (without_nil t)
  first_kept (x ∷ l) h = ap first (without_miss t x l (λ e. h (ap some e)))

  last_cons : (x z : ℕ) (l : List ℕ) → last l ≡ some z → last (x ∷ l) ≡ some z
  last_cons x z [] h = let k : ◌≡◌ {A = ℕ} 0 1 = cc in absurd (omega arith)
  last_cons x z (y ∷ l) h = h

  last_some : (x : ℕ) (l : List ℕ) → (z : ℕ) × (last (x ∷ l) ≡ some z)
  last_some x [] = (x, refl)
  last_some x (y ∷ l) = last_some y l

  last_mem : (l : List ℕ) → last l ≡ some t → Mem t l
  last_mem [] h = let z : ◌≡◌ {A = ℕ} 0 1 = cc in omega arith
  last_mem (x ∷ []) h = inl (cc)
  last_mem (x ∷ (y ∷ l)) h = inr (last_mem (y ∷ l) h)

  last_snoc : (l : List ℕ) → last (l ++ (t ∷ [])) ≡ some t
  last_snoc [] = refl
  last_snoc (x ∷ l) = last_cons x t (l ++ (t ∷ [])) (last_snoc l)

  last_kept : (l : List ℕ) → (last l ≡ some t → ⊥) → last (without t l) ≡ last l
  last_kept [] h = ap last (without_nil t)
  last_kept (x ∷ []) h = ap last (without_miss t x [] (λ e. h (ap some e)) ∙ ap (λ (k : List ℕ). x ∷ k) (without_nil t))
  last_kept (x ∷ (y ∷ l)) h = go (same? x t) (last_kept (y ∷ l) h)
    where
      go : Same x t → last (without t (y ∷ l)) ≡ last (y ∷ l) → last (without t (x ∷ (y ∷ l))) ≡ last (y ∷ l)
      go (same e _) ih = rw (without_hit t x (y ∷ l) e) ih
      go (other n _) ih =
          let z = last_some y l in
          rw (without_miss t x (y ∷ l) n) (last_cons x z.0 (without t (y ∷ l)) (ih ∙ z.1) ∙ sym z.1)

  -- The first that is the last too stands alone.
  alone : (l : List ℕ) → Distinct l → first l ≡ some t → last l ≡ some t → l ≡ t ∷ []
  alone [] d f g = let z : ◌≡◌ {A = ℕ} 0 1 = cc in absurd (omega arith)
  alone (x ∷ []) d f g = cc
  alone (x ∷ (y ∷ l)) d f g =
      let e : x ≡ t = cc in absurd (d.0 (subst (λ (k : ℕ). Mem k (y ∷ l)) (sym e) (last_mem (y ∷ l) g)))

  -- Of a list with t last and not before, all but t.
  without_last : (l : List ℕ) → Distinct (l ++ (t ∷ [])) → without t (l ++ (t ∷ [])) ≡ l
  without_last l d =
      without_append t l (t ∷ []) ∙ rw (
        without_none t l (λ m. distinct_apart t l (t ∷ []) d m (inl refl)),
        without_first t [] ((λ z. z), tt),
      ) (append-nil l)

-- What leaving and looking do to the endpoint

pending_passing : (t : ℕ) (a : Option Abort) → pending_of (passing t a) ≡ without t (pending_of a)
pending_passing t none = sym (without_nil t)
pending_passing t (some a) = refl

module _ (e t : ℕ) (s : State) where
  pub leave_endpoint_lem :
      (leave_endpoint t e s).endpoints e
      ≡ record {
        status = (s.endpoints e).status;
        waiters = without t (s.endpoints e).waiters;
        abort = passing t (s.endpoints e).abort;
      }
  unfolding leave_endpoint
  leave_endpoint_lem = put_same _ e _

  pub leave_pending : pending_at e (leave_endpoint t e s) ≡ without t (pending_at e s)
  leave_pending = ap (λ (x : Endpoint). pending_of x.abort) leave_endpoint_lem ∙ pending_passing t (s.endpoints e).abort

  wake_endpoints : (o b m : ℕ) → (wake_from e t o b m s).endpoints ≡ (leave_endpoint t e s).endpoints
  unfolding wake_from wake enqueue
  wake_endpoints o b m = refl

  pub wake_waiters : (o b m : ℕ) → ((wake_from e t o b m s).endpoints e).waiters ≡ without t (s.endpoints e).waiters
  wake_waiters o b m = rw (wake_endpoints o b m) (ap (λ (x : Endpoint). x.waiters) leave_endpoint_lem)

  wake_thread : (o b m : ℕ) → (wake_from e t o b m s).threads t ≡ with_place able o b m (s.threads t)
  unfolding wake_from wake enqueue leave_endpoint
  wake_thread o b m = put_same _ t _

-- The look

module _ (e w : ℕ) (s : State) where
  look_hit : hits e w s ≡ true → look e w s ≡ wake_from e w 3 0 0 s
  unfolding look look_at
  look_hit h = rw h

  look_miss : hits e w s ≡ false → look e w s ≡ set_abort e (passing w (s.endpoints e).abort) s
  unfolding look look_at
  look_miss h = rw h

  -- "The cursor moves on": the waiter looked at is no longer pending, and the others are, in their order.
  pub look_moves_on : pending_at e (look e w s) ≡ without w (pending_at e s)
  look_moves_on = go (hits e w s) refl
    where
      go : (b : Bool) → hits e w s ≡ b → pending_at e (look e w s) ≡ without w (pending_at e s)
      go true h = ap (pending_at e) (look_hit h) ∙ rw (wake_endpoints e w s 3 0 0) (leave_pending e w s)
      go false h =
          ap (pending_at e) (look_miss h)
          ∙ ap (λ (x : Endpoint). pending_of x.abort) (put_same _ e _)
          ∙ pending_passing w (s.endpoints e).abort

  module _ (a : Abort) (stands : (s.endpoints e).abort ≡ some a) where
    -- "Same badge, removed with outcome 3."
    pub look_removes :
        (s.threads w).badge ≡ a.badge
        → (((look e w s).endpoints e).waiters ≡ without w (s.endpoints e).waiters)
        × ((look e w s).threads w ≡ with_place able 3 0 0 (s.threads w))
    unfolding hits
    look_removes b =
        let h : look e w s ≡ wake_from e w 3 0 0 s = look_hit (rw stands (eq-eqb _ _ (sym b))) in (
          ap (λ (r : State). (r.endpoints e).waiters) h ∙ wake_waiters e w s 3 0 0,
          ap (λ (r : State). r.threads w) h ∙ wake_thread e w s 3 0 0,
        )

    -- "Other badge, kept."
    pub look_keeps :
        ((s.threads w).badge ≡ a.badge → ⊥)
        → (((look e w s).endpoints e).waiters ≡ (s.endpoints e).waiters) × ((look e w s).threads ≡ s.threads)
    unfolding hits
    look_keeps n =
        let h = look_miss (rw stands (ne_eqb _ _ (λ b. n (sym b)))) in (
          ap (λ (r : State). (r.endpoints e).waiters) h ∙ ap (λ (x : Endpoint). x.waiters) (put_same _ e _),
          ap (λ (r : State). r.threads) h,
        )

    -- A waiter looked at is removed exactly if it is of the aborted badge.
    pub look_exactly :
        Mem w (s.endpoints e).waiters
        → Mem w ((look e w s).endpoints e).waiters ↔ ((s.threads w).badge ≡ a.badge → ⊥)
    look_exactly m = (
      λ k b. (mem_without w w (s.endpoints e).waiters (rw (look_removes b).0 at k)).1 refl,
      λ n. rw (look_keeps n).0 m,
    )

-- The marks

module _ (e t : ℕ) (s : State) where
  -- "A cursor waiter that leaves otherwise passes the cursor to the next."
  pub cursor_passes :
      (u : ℕ) (l : List ℕ) → Distinct (pending_at e s) → pending_at e s ≡ t ∷ (u ∷ l)
      → cursor_at e (leave_endpoint t e s) ≡ some u
  cursor_passes u l d h = rw (leave_pending e t s, h) (ap first (without_first t (u ∷ l) (rw h at d)))

  -- "A leaving end mark passes to the one before."
  pub end_mark_passes :
      (u : ℕ) (l : List ℕ) → Distinct (pending_at e s) → pending_at e s ≡ (l ++ (u ∷ [])) ++ (t ∷ [])
      → end_mark_at e (leave_endpoint t e s) ≡ some u
  end_mark_passes u l d h =
      rw (leave_pending e t s, h) (ap last (without_last t (l ++ (u ∷ [])) (rw h at d)) ∙ last_snoc u l)

  both :
      Distinct (pending_at e s) → cursor_at e s ≡ some t → end_mark_at e s ≡ some t → without t (pending_at e s) ≡ []
  both d f g = rw (alone t (pending_at e s) d f g) (without_first t [] ((λ z. z), tt))

  -- "If it was both, nothing is left."
  pub both_leave_nothing :
      Distinct (pending_at e s) → cursor_at e s ≡ some t → end_mark_at e s ≡ some t
      → pending_at e (leave_endpoint t e s) ≡ []
  both_leave_nothing d f g = leave_pending e t s ∙ both d f g

  -- The leaving of anyone else keeps both.
  pub cursor_kept : (cursor_at e s ≡ some t → ⊥) → cursor_at e (leave_endpoint t e s) ≡ cursor_at e s
  cursor_kept n = ap first (leave_pending e t s) ∙ first_kept t (pending_at e s) n

  pub end_mark_kept : (end_mark_at e s ≡ some t → ⊥) → end_mark_at e (leave_endpoint t e s) ≡ end_mark_at e s
  end_mark_kept n = ap last (leave_pending e t s) ∙ last_kept t (pending_at e s) n

  -- A look at the cursor's waiter leaves the rest of what was pending; "past the end mark nothing is left".
  pub look_next : (l : List ℕ) → Distinct (pending_at e s) → pending_at e s ≡ t ∷ l → pending_at e (look e t s) ≡ l
  look_next l d h = look_moves_on e t s ∙ rw h (without_first t l (rw h at d))

  pub past_the_end_mark :
      Distinct (pending_at e s) → cursor_at e s ≡ some t → end_mark_at e s ≡ some t → pending_at e (look e t s) ≡ []
  past_the_end_mark d f g = look_moves_on e t s ∙ both d f g
