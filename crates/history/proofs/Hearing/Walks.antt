-- A call 12 of another thread, from look to look: what t has to do with the abort r at e stays or t hears its end.
use Prim.Native.Nat.{ℕ, zero, suc, ◌-◌}
use mathlib.Core.Path.{◌≡◌, refl, sym, ◌∙◌, subst}
use mathlib.Core.Bool.{Bool, true, false}
use mathlib.Core.Option.{Option, none, some}
use mathlib.Core.List.{List, [], ◌∷◌}
use lib.Dec.{eqb}
use Rattle.machine.specs.Lists.{pick}
use Rattle.history.specs.History.{Aborting, Reported, NamedLook, is_in}
use Rattle.history.specs.Walk.{lets_go, is_none, left_of, report_of, Walk, Walker, begins, ends, passes, settles}
use Rattle.history.specs.Walk.{settle, looked_at, takes, take_look, walk, closes, close}
use Rattle.machine.proofs.Preserved.Ready.{none_some}
use Rattle.history.proofs.Hearing.Sets.{Alike, alike_self, alike_then, alike_go, alike_begin, alike_end, Bound}
use Rattle.history.proofs.Hearing.Sets.{working, heard, bound_alike, bound_end}

module _ (t : ℕ) (c : Walker) (n : t ≡ c.caller → ⊥) where
  -- The walk leaves what t has to do with aborts.
  abbrev Leaves : Walk → Walk → Type 0
  Leaves w w' = Alike t w.debts w'.debts

  -- t is not in the set at the call's endpoint.
  abbrev Out : Walk → Type 0
  Out w = is_in t (w.debts.members c.endpoint) ≡ false

  out_still : (w w' : Walk) → Leaves w w' → Out w → Out w'
  out_still w w' A out = A.members c.endpoint ∙ out

  leaves_begins : (k : ℕ) (w : Walk) → Out w → Leaves w (begins k c w)
  unfolding begins
  leaves_begins zero w out = alike_self t w.debts
  leaves_begins (suc k) w out = alike_begin t c.caller n c.endpoint w.debts out

  leaves_ends : (x : Aborting) (w : Walk) → Out w → Leaves w (ends x c w)
  unfolding ends
  leaves_ends x w out =
      let A = alike_go t c.caller n w.debts in
      alike_then A
      (alike_end t c.endpoint (report_of x) (lets_go c.caller w.debts) (A.members c.endpoint ∙ out))

  leaves_settle : (k : ℕ) (w : Walk) → Out w → Leaves w (settle k c w)
  unfolding settle settles passes
  leaves_settle k w out = go w.standing
    where
      pass : (x : Aborting) (own left : Bool) → Leaves w (passes own left x k c w)
      pass x true left = alike_self t w.debts
      pass x false false = alike_self t w.debts
      pass x false true =
          let A = leaves_ends x w out in
          alike_then A (leaves_begins k (ends x c w) (out_still w (ends x c w) A out))

      go : (o : Option Aborting) → Leaves w (settles o k c w)
      go none = leaves_begins k w out
      go (some x) = pass x (eqb x.badge c.badge) (is_none (left_of x w.queued))

  leaves_look : (v : NamedLook) (w : Walk) → Leaves w (take_look v w)
  unfolding take_look takes
  leaves_look v w = go w.standing
    where
      go : (o : Option Aborting) → Leaves w (takes o v w)
      go none = alike_self t w.debts
      go (some x) = alike_self t w.debts

  pub leaves_walk : (l : List NamedLook) (k : ℕ) (w : Walk) → Out w → Leaves w (walk l k c w)
  unfolding walk
  leaves_walk [] k w out = leaves_settle k w out
  leaves_walk (v ∷ l) k w out =
      let A = alike_then (leaves_settle k w out) (leaves_look v (settle k c w)) in
      alike_then A
      (leaves_walk l (k - 1) (take_look v (settle k c w)) (out_still w (take_look v (settle k c w)) A out))

  pub leaves_close : (w : Walk) → Out w → Leaves w (close c w)
  unfolding close closes
  leaves_close w out = go w.standing
    where
      over : (x : Aborting) (b : Bool) → Leaves w (pick b (ends x c w) w)
      over x true = leaves_ends x w out
      over x false = alike_self t w.debts

      go : (o : Option Aborting) → Leaves w (closes o c w)
      go none = alike_self t w.debts
      go (some x) = over x (is_none (left_of x w.queued))

  -- A call at the endpoint of the abort r.
  module _ (r : Reported) where
    abbrev Stays : Walk → Type 0
    Stays w = Bound t c.endpoint r w.standing w.debts

    stays_begins : (k : ℕ) (w : Walk) → w.standing ≡ none → Stays w → Stays (begins k c w)
    unfolding begins
    stays_begins k w bare (working x i s m only) = absurd (none_some bare i)
    stays_begins zero w bare (heard i out) = heard i out
    stays_begins (suc k) w bare (heard i out) =
        bound_alike (alike_begin t c.caller n c.endpoint w.debts (out c.endpoint)) (heard i out)

    stays_ends : (x : Aborting) (w : Walk) → w.standing ≡ some x → Stays w → Stays (ends x c w)
    unfolding ends
    stays_ends x w i B =
        bound_end x none
        (subst (λ (o : Option Aborting). Bound t c.endpoint r o (lets_go c.caller w.debts)) i
        (bound_alike (alike_go t c.caller n w.debts) B))

    stays_settle : (k : ℕ) (w : Walk) → Stays w → Stays (settle k c w)
    unfolding settle settles passes ends
    stays_settle k w B = go w.standing refl
      where
        pass : (x : Aborting) → w.standing ≡ some x → (own left : Bool) → Stays (passes own left x k c w)
        pass x i true left = B
        pass x i false false = B
        pass x i false true = stays_begins k (ends x c w) refl (stays_ends x w i B)

        go : (o : Option Aborting) → w.standing ≡ o → Stays (settles o k c w)
        go none i = stays_begins k w i B
        go (some x) i = pass x i (eqb x.badge c.badge) (is_none (left_of x w.queued))

    -- A look is at the abort that stands, and leaves it the same abort.
    stays_look : (v : NamedLook) (w : Walk) → Stays w → Stays (take_look v w)
    unfolding take_look takes
    stays_look v w (heard i out) = go w.standing
      where
        go : (o : Option Aborting) → Stays (takes o v w)
        go none = heard i out
        go (some x) = heard i out
    stays_look v w (working x i s m only) =
        subst (λ (o : Option Aborting). Stays (takes o v w)) (sym i) (working (looked_at v x) refl s m only)

    pub stays_walk : (l : List NamedLook) (k : ℕ) (w : Walk) → Stays w → Stays (walk l k c w)
    unfolding walk
    stays_walk [] k w B = stays_settle k w B
    stays_walk (v ∷ l) k w B =
        stays_walk l (k - 1) (take_look v (settle k c w)) (stays_look v (settle k c w) (stays_settle k w B))

    pub stays_close : (w : Walk) → Stays w → Stays (close c w)
    unfolding close closes
    stays_close w B = go w.standing refl
      where
        over : (x : Aborting) → w.standing ≡ some x → (b : Bool) → Stays (pick b (ends x c w) w)
        over x i true = stays_ends x w i B
        over x i false = B

        go : (o : Option Aborting) → w.standing ≡ o → Stays (closes o c w)
        go none i = B
        go (some x) i = over x i (is_none (left_of x w.queued))
