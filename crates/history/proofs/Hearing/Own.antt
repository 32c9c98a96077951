-- A call 12 of t itself, from look to look: whoever begins or joins the abort of its badge is in its set, and whoever
-- finds it standing goes on with it.
use Prim.Native.Nat.{ℕ, zero, suc, ◌-◌}
use mathlib.Core.Path.{◌≡◌, refl, sym, ◌∙◌, ap, subst}
use mathlib.Core.Logic.{◌⊎◌, inl, inr}
use mathlib.Core.Bool.{Bool, true, false}
use mathlib.Core.Option.{Option, none, some}
use mathlib.Core.List.{List, [], ◌∷◌}
use lib.Dec.{eqb}
use borrow.Author.Tests.{eq-eqb, eqb-true}
use Rattle.machine.specs.Lists.{pick, Mem}
use Rattle.history.specs.History.{Aborting, Ended, Reported, NamedLook, Debts, is_in}
use Rattle.history.specs.Walk.{takes_up, joining, joins_in, lets_go, is_none, left_of, report_of, report_if, Walk}
use Rattle.history.specs.Walk.{Walker, begins, ends, passes, settles, settle, looked_at, takes, take_look, walk}
use Rattle.history.specs.Walk.{closes, close}
use Rattle.history.specs.Outcomes.{lets_other, comes_in}
use Rattle.history.specs.Claim.{In}
use Rattle.machine.proofs.Lists.{clash, put_same, mem_left, at_tail, inserted_mem}
use Rattle.machine.proofs.Preserved.Ready.{none_some, some_one}
use Rattle.history.proofs.Demand3.Owing.{joined_self}
use Rattle.history.proofs.Demand3.OwnAbort.{settle_own}

-- Whoever joins is in the set.
joins_in_lem : (t e : ℕ) (d : Debts) → is_in t ((joins_in t e d).members e) ≡ true
unfolding joins_in
joins_in_lem t e d = rw (put_same d.members e (joining t (d.members e))) (joined_self t (d.members e))

pub comes_in_lem :
    (t e b : ℕ) (o : Option Aborting) (d : Debts) (x : Aborting) → o ≡ some x → x.badge ≡ b
    → is_in t ((comes_in t e b o d).members e) ≡ true
comes_in_lem t e b o d x i j =
    subst (λ (p : Option Aborting). is_in t ((comes_in t e b p d).members e) ≡ true) (sym i)
    (under (eqb x.badge b) (lets_other t e b (some x) d) (eq-eqb x.badge b j))
  where
    under : (y : Bool) (k : Debts) → y ≡ true → is_in t ((pick y (joins_in t e k) k).members e) ≡ true
    under true k p = joins_in_lem t e k
    under false k p = absurd (clash p refl)

-- The caller's own abort, where it stands, has the caller in its set.
module _ (c : Walker) where
  abbrev Joined : Walk → Type 0
  Joined w =
      (x : Aborting) → w.standing ≡ some x → x.badge ≡ c.badge
      → is_in c.caller (w.debts.members c.endpoint) ≡ true

  joined_begins : (k : ℕ) (w : Walk) → Joined w → Joined (begins k c w)
  unfolding begins takes_up
  joined_begins zero w M = M
  joined_begins (suc k) w M =
      λ x i j.
      rw (put_same w.debts.members c.endpoint (c.caller ∷ []), eq-eqb c.caller c.caller refl)

  joined_settle : (k : ℕ) (w : Walk) → Joined w → Joined (settle k c w)
  unfolding settle settles passes ends
  joined_settle k w M = go w.standing
    where
      pass : (x : Aborting) (own left : Bool) → Joined (passes own left x k c w)
      pass x true left = M
      pass x false false = M
      pass x false true = joined_begins k (ends x c w) (λ y i j. absurd (none_some refl i))

      go : (o : Option Aborting) → Joined (settles o k c w)
      go none = joined_begins k w M
      go (some x) = pass x (eqb x.badge c.badge) (is_none (left_of x w.queued))

  joined_look : (v : NamedLook) (w : Walk) → Joined w → Joined (take_look v w)
  unfolding take_look takes
  joined_look v w M = go w.standing refl
    where
      go : (o : Option Aborting) → w.standing ≡ o → Joined (takes o v w)
      go none i x p j = absurd (none_some refl p)
      go (some y) i x p j = M y i (ap (λ (z : Aborting). z.badge) (some_one refl p) ∙ j)

  pub joined_walk : (l : List NamedLook) (k : ℕ) (w : Walk) → Joined w → Joined (walk l k c w)
  unfolding walk
  joined_walk [] k w M = joined_settle k w M
  joined_walk (v ∷ l) k w M =
      joined_walk l (k - 1) (take_look v (settle k c w)) (joined_look v (settle k c w) (joined_settle k w M))

-- Which abort a call reports.
pub record IsReported (o : Option Aborting) (b : ℕ) (r : Reported) : Type 0 where
  pub abort : Aborting
  pub stands : o ≡ some abort
  pub badge : abort.badge ≡ b
  pub report : report_of abort ≡ r

pub reported : (o : Option Aborting) (b : ℕ) (r : Reported) → report_if o b ≡ some r → IsReported o b r
reported none b r i = absurd (none_some refl i)
reported (some x) b r i = go (eqb x.badge b) refl i
  where
    go : (y : Bool) → eqb x.badge b ≡ y → pick y (some (report_of x)) none ≡ some r → IsReported (some x) b r
    go true j k = record { abort = x; stands = refl; badge = eqb-true x.badge b j; report = some_one refl k }
    go false j k = absurd (none_some refl k)

-- The abort that stands after the looks ends in the call, or nothing changes.
close_or_not :
    (c : Walker) (w : Walk) (x : Aborting) → w.standing ≡ some x → (close c w ≡ ends x c w) ⊎ (close c w ≡ w)
unfolding close closes
close_or_not c w x i =
    subst (λ (o : Option Aborting). (closes o c w ≡ ends x c w) ⊎ (closes o c w ≡ w)) (sym i)
    (go (is_none (left_of x w.queued)))
  where
    go : (b : Bool) → (pick b (ends x c w) w ≡ ends x c w) ⊎ (pick b (ends x c w) w ≡ w)
    go true = inl refl
    go false = inr refl

-- The abort x, ended in the call.
abbrev ended_in : Walker → Debts → Aborting → Ended
ended_in c d x = record { abort = x; by = c.place; members = (lets_go c.caller d).members c.endpoint }

-- One that stands still was not ended,
pub close_leaves :
    (c : Walker) (w : Walk) (x : Aborting) → w.standing ≡ some x → (close c w).standing ≡ some x
    → (close c w).debts ≡ w.debts
unfolding ends
close_leaves c w x i s = go (close_or_not c w x i)
  where
    go : (close c w ≡ ends x c w) ⊎ (close c w ≡ w) → (close c w).debts ≡ w.debts
    go (inl p) = absurd (none_some (ap (λ (v : Walk). v.standing) p) s)
    go (inr p) = ap (λ (v : Walk). v.debts) p

-- and one that does not is among the ended.
pub close_keeps :
    (c : Walker) (w : Walk) (x : Aborting) → w.standing ≡ some x
    → ((close c w).standing ≡ some x) ⊎ ((z : Ended) × In z (close c w).ended × (z.abort ≡ x))
unfolding ends
close_keeps c w x i = go (close_or_not c w x i)
  where
    go : (close c w ≡ ends x c w) ⊎ (close c w ≡ w)
        → ((close c w).standing ≡ some x) ⊎ ((z : Ended) × In z (close c w).ended × (z.abort ≡ x))
    go (inl p) =
        inr
        (subst (λ (v : Walk). (z : Ended) × In z v.ended × (z.abort ≡ x)) (sym p)
        (ended_in c w.debts x, inl refl, refl))
    go (inr p) = inl (ap (λ (v : Walk). v.standing) p ∙ i)

-- The looks of a call that finds x standing under its badge are x's.
pub record GoesOnWith (l : List NamedLook) (x : Aborting) (o : Option Aborting) : Type 0 where
  pub abort : Aborting
  pub stands : o ≡ some abort
  pub report : report_of abort ≡ report_of x
  pub earlier : (u : ℕ) → Mem u x.looked → Mem u abort.looked
  pub looked : (v : NamedLook) → In v l → Mem v.waiter abort.looked

-- With one more look before them.
after_look :
    (v : NamedLook) (l : List NamedLook) (x : Aborting) (o : Option Aborting) → GoesOnWith l (looked_at v x) o
    → GoesOnWith (v ∷ l) x o
after_look v l x o G =
    record {
      abort = G.abort;
      stands = G.stands;
      report = G.report;
      earlier = λ u m. G.earlier u (mem_left u x.looked (v.waiter ∷ []) m);
      looked = looked;
    }
  where
    looked : (u : NamedLook) → In u (v ∷ l) → Mem u.waiter G.abort.looked
    looked u (inl j) = G.earlier u.waiter (rw j (inserted_mem (at_tail v.waiter x.looked)))
    looked u (inr j) = G.looked u j

module _ (c : Walker) where
  look_own :
      (v : NamedLook) (w : Walk) (x : Aborting) → w.standing ≡ some x → (take_look v w).standing ≡ some (looked_at v x)
  unfolding take_look takes
  look_own v w x i = rw i

  pub goes_on_with :
      (l : List NamedLook) (k : ℕ) (w : Walk) (x : Aborting) → w.standing ≡ some x → x.badge ≡ c.badge
      → GoesOnWith l x (walk l k c w).standing
  unfolding walk
  goes_on_with [] k w x i b =
      rw (settle_own k c w x i b)
      (record { abort = x; stands = i; report = refl; earlier = λ u m. m; looked = λ v j. absurd j })
  goes_on_with (v ∷ l) k w x i b =
      subst (λ (q : Walk). GoesOnWith (v ∷ l) x (walk l (k - 1) c (take_look v q)).standing)
      (sym (settle_own k c w x i b))
      (after_look v l x (walk l (k - 1) c (take_look v w)).standing
      (goes_on_with l (k - 1) (take_look v w) (looked_at v x) (look_own v w x i) b))
