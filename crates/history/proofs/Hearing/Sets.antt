-- What the sets and notes of a history say of one thread t, and which steps of others leave that as it is.
use Prim.Native.Nat.{ℕ}
use mathlib.Core.Path.{◌≡◌, refl, sym, ◌∙◌, ap}
use mathlib.Core.Bool.{Bool, true, false}
use mathlib.Core.Option.{Option, none, some}
use mathlib.Core.List.{[]}
use borrow.Author.Tests.{ne_eqb}
use Rattle.machine.specs.Lists.{pick}
use Rattle.history.specs.History.{Aborting, Reported, Debts, is_in}
use Rattle.history.specs.Walk.{takes_up, joins_in, lets_go, hears, is_under, report_of}
use Rattle.history.specs.Outcomes.{let_go_by, goes_on, lets_other, comes_in}
use Rattle.machine.proofs.Lists.{put_all, put_other}
use Rattle.machine.proofs.Preserved.Ready.{some_one}
use Rattle.history.proofs.Demand3.Owing.{in_others, joined_other}

-- t is in the same sets and has the same note.
pub record Alike (t : ℕ) (d d' : Debts) : Type 0 where
  pub members : (e : ℕ) → is_in t (d'.members e) ≡ is_in t (d.members e)
  pub note : d'.notes t ≡ d.notes t

pub alike_self : (t : ℕ) (d : Debts) → Alike t d d
alike_self t d = record { members = λ e. refl; note = refl }

pub alike_then : {t : ℕ} {d d' d'' : Debts} → Alike t d d' → Alike t d' d'' → Alike t d d''
alike_then A B = record { members = λ e. B.members e ∙ A.members e; note = B.note ∙ A.note }

-- What another, u, does.
module _ (t u : ℕ) (n : t ≡ u → ⊥) where
  pub alike_go : (d : Debts) → Alike t d (lets_go u d)
  unfolding lets_go
  alike_go d =
      record { members = λ e. in_others t u (d.members e) n; note = put_other d.notes u t none n }

  alike_join : (e : ℕ) (d : Debts) → Alike t d (joins_in u e d)
  unfolding joins_in
  alike_join e d =
      record {
        members =
            put_all (λ f l. is_in t l ≡ is_in t (d.members f)) d.members e _ (joined_other t u (d.members e) n)
            (λ f i. refl);
        note = refl;
      }

  pub alike_begin : (e : ℕ) (d : Debts) → is_in t (d.members e) ≡ false → Alike t d (takes_up u e d)
  unfolding takes_up
  alike_begin e d out =
      record {
        members =
            put_all (λ f l. is_in t l ≡ is_in t (d.members f)) d.members e _ (rw (ne_eqb t u n) (sym out))
            (λ f i. refl);
        note = refl;
      }

  pub alike_come : (e b : ℕ) (x : Option Aborting) (d : Debts) → Alike t d (comes_in u e b x d)
  alike_come e b x d = come (is_under b x) (let_other (goes_on u e b x d))
    where
      let_other : (y : Bool) → Alike t d (pick y d (lets_go u d))
      let_other true = alike_self t d
      let_other false = alike_go d

      come : (y : Bool) → Alike t d (lets_other u e b x d)
          → Alike t d (pick y (joins_in u e (lets_other u e b x d)) (lets_other u e b x d))
      come true A = alike_then A (alike_join e (lets_other u e b x d))
      come false A = A

pub alike_by : (t : ℕ) (o : Option ℕ) (d : Debts) → (o ≡ some t → ⊥) → Alike t d (let_go_by o d)
alike_by t none d n = alike_self t d
alike_by t (some u) d n = alike_go t u (λ i. n (ap some (sym i))) d

-- An abort ends of whose set t is not.
pub alike_end : (t e : ℕ) (r : Reported) (d : Debts) → is_in t (d.members e) ≡ false → Alike t d (hears e r d)
unfolding hears
alike_end t e r d out =
    record {
      members =
          put_all (λ f l. is_in t l ≡ is_in t (d.members f)) d.members e [] (sym out) (λ f i. refl);
      note = rw out;
    }

-- Where o stands at e, t works on it there and nowhere else, and it is the abort r; or t has the note of r and works
-- nowhere.
pub data Bound (t e : ℕ) (r : Reported) (o : Option Aborting) (d : Debts) : Type 0 where
  working :
      (x : Aborting) → o ≡ some x → report_of x ≡ r → is_in t (d.members e) ≡ true
      → ((f : ℕ) → (f ≡ e → ⊥) → is_in t (d.members f) ≡ false) → Bound t e r o d
  heard : d.notes t ≡ some r → ((f : ℕ) → is_in t (d.members f) ≡ false) → Bound t e r o d

pub bound_alike :
    {t e : ℕ} {r : Reported} {o : Option Aborting} {d d' : Debts} → Alike t d d' → Bound t e r o d → Bound t e r o d'
bound_alike {e = e} A (working x i s m only) =
    working x i s (A.members e ∙ m) (λ f n. A.members f ∙ only f n)
bound_alike A (heard i out) = heard (A.note ∙ i) (λ f. A.members f ∙ out f)

-- t is in no set but that at e.
pub elsewhere :
    {t e : ℕ} {r : Reported} {o : Option Aborting} {d : Debts} → Bound t e r o d → (f : ℕ) → (f ≡ e → ⊥)
    → is_in t (d.members f) ≡ false
elsewhere (working x i s m only) f n = only f n
elsewhere (heard i out) f n = out f

-- The abort x that stood at e ends, by a call of another: t hears of it.
pub bound_end :
    {t e : ℕ} {r : Reported} {d : Debts} (x : Aborting) (o : Option Aborting) → Bound t e r (some x) d
    → Bound t e r o (hears e (report_of x) d)
unfolding hears
bound_end {t} {e} {r} {d} x o (working y i s m only) =
    heard (rw m (ap some (ap (λ (z : Aborting). report_of z) (some_one refl i) ∙ s)))
    (put_all (λ f l. is_in t l ≡ false) d.members e [] refl only)
bound_end {t} {e} {r} {d} x o (heard i out) =
    bound_alike (alike_end t e (report_of x) d (out e)) (heard i out)
