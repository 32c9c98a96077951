-- Who runs and the ready queues, when one thread t changes its entry, its place or its queue.
use Prim.Native.Nat.{ℕ}
use mathlib.Core.Path.{◌≡◌, refl, sym, ◌∙◌, ap, subst}
use mathlib.Core.Logic.{inl, inr, ◌↔◌, ⊎_elim}
use mathlib.Core.Option.{Option, none, some}
use mathlib.Core.List.{List, ◌∷◌}
use native.Mathlib.Omega.{arith}
use Rattle.machine.specs.Lists.{put, without, Mem, Distinct}
use Rattle.machine.specs.State.{Thread, able}
use Rattle.machine.proofs.Lists.{Same, same, other, same?, put_same, put_other, put_all, mem_without, mem_keep}
use Rattle.machine.proofs.Lists.{Inserted, inserted_mem, inserted_kept, inserted_only, inserted_once}
use Rattle.machine.proofs.Lists.{distinct_without}
use Rattle.machine.proofs.Preserved.Parts.{Levels, Idle}

-- The two tables agree but at t.
abbrev pub Else : {A : Type 0} → ℕ → (ℕ → A) → (ℕ → A) → Type 0
Else t f g = (u : ℕ) → (u ≡ t → ⊥) → g u ≡ f u

-- A table changed at t agrees with the old one elsewhere.
pub put_else : {A : Type 0} (f : ℕ → A) (t : ℕ) (x : A) → Else t f (put f t x)
put_else f t x u n = put_other f t u x n

-- A property of an entry that the new one at t has in common with the old one.
pub put_keeps :
    {A B : Type 0} (h : A → B) (f : ℕ → A) (t : ℕ) (x : A) → h x ≡ h (f t) → (u : ℕ) → h (put f t x u) ≡ h (f u)
put_keeps h f t x e = put_all (λ u y. h y ≡ h (f u)) f t x e (λ u n. refl)

pub put_place : (f : ℕ → Thread) (t : ℕ) (x : Thread) → (put f t x t).place ≡ x.place
put_place f t x = ap (λ (y : Thread). y.place) (put_same f t x)

pub none_some : {A : Type 0} {o : Option A} {x : A} → o ≡ none → o ≡ some x → ⊥
none_some {A} {o} {x} p q = let z : ◌≡◌ {A = ℕ} 0 1 = cc in omega arith

pub some_one : {A : Type 0} {o : Option A} {x y : A} → o ≡ some x → o ≡ some y → x ≡ y
some_one {A} {o} {x} {y} p q = cc

module _ (t : ℕ) (f g : ℕ → Thread) (away : Else t f g) where
  -- What has to be shown: of the others, that they run and stand where they did; of t, where it stands now.
  levels_change :
      (runs now : Option ℕ) (L M : ℕ → List ℕ) → Levels f runs L
      → ((u : ℕ) → (u ≡ t → ⊥) → (runs ≡ some u) ↔ (now ≡ some u))
      → ((u p : ℕ) → (u ≡ t → ⊥) → Mem u (L p) ↔ Mem u (M p))
      → ((p : ℕ) → Distinct (M p)) → (now ≡ some t → (g t).place ≡ able)
      → ((p : ℕ) → Mem t (M p) ↔ (Idle g now t × ((g t).priority ≡ p))) → Levels g now M
  levels_change runs now L M S same_runs same_mem once run stand =
      record { running = λ u. running u (same? u t); ready = λ u p. ready u p (same? u t); once = once }
    where
      running : (u : ℕ) → Same u t → now ≡ some u → (g u).place ≡ able
      running u (same e _) h = subst (λ (k : ℕ). (g k).place ≡ able) (sym e) (run (h ∙ ap some e))
      running u (other n _) h = rw (away u n) (S.running u ((same_runs u n).1 h))

      ready : (u p : ℕ) → Same u t → Mem u (M p) ↔ (Idle g now u × ((g u).priority ≡ p))
      ready u p (same e _) =
          subst (λ (k : ℕ). Mem k (M p) ↔ (Idle g now k × ((g k).priority ≡ p))) (sym e) (stand p)
      ready u p (other n _) =
          rw (away u n) (
            λ m.
                let r = (S.ready u p).0 ((same_mem u p n).1 m) in
                ((r.0.0, λ h. r.0.1 ((same_runs u n).1 h)), r.1),
            λ r. (same_mem u p n).0 ((S.ready u p).1 ((r.0.0, λ h. r.0.1 ((same_runs u n).0 h)), r.1)),
          )

  -- Neither before nor after is t able.
  pub levels_aside :
      {runs : Option ℕ} {L : ℕ → List ℕ} → Levels f runs L
      → ((f t).place ≡ able → ⊥) → ((g t).place ≡ able → ⊥) → Levels g runs L
  levels_aside {runs} {L} S unable unable' =
      levels_change runs runs L L S (λ u n. (λ h. h, λ h. h)) (λ u p n. (λ m. m, λ m. m)) S.once
      (λ h. absurd (unable (S.running t h)))
      (λ p. (λ m. absurd (unable ((S.ready t p).0 m).0.0), λ r. absurd (unable' r.0.0)))

  -- t runs before and after.
  pub levels_runs :
      {runs : Option ℕ} {L : ℕ → List ℕ} → Levels f runs L
      → runs ≡ some t → (g t).place ≡ able → Levels g runs L
  levels_runs {runs} {L} S r able' =
      levels_change runs runs L L S (λ u n. (λ h. h, λ h. h)) (λ u p n. (λ m. m, λ m. m)) S.once
      (λ h. able')
      (λ p. (λ m. absurd (((S.ready t p).0 m).0.1 r), λ k. absurd (k.0.1 r)))

  -- The running thread t stops, and nobody runs.
  pub levels_stop :
      {runs : Option ℕ} {L : ℕ → List ℕ} → Levels f runs L
      → runs ≡ some t → ((g t).place ≡ able → ⊥) → Levels g none L
  levels_stop {runs} {L} S r unable' =
      levels_change runs none L L S (λ u n. (λ h. absurd (n (some_one h r)), λ h. absurd (none_some refl h)))
      (λ u p n. (λ m. m, λ m. m)) S.once (λ h. absurd (none_some refl h))
      (λ p. (λ m. absurd (((S.ready t p).0 m).0.1 r), λ k. absurd (unable' k.0.0)))

  -- t becomes able and joins its level p.
  pub levels_join :
      {runs : Option ℕ} {L : ℕ → List ℕ} (M : ℕ → List ℕ) (p : ℕ) {l : List ℕ} → Levels f runs L
      → ((f t).place ≡ able → ⊥) → (g t).place ≡ able → (g t).priority ≡ p
      → Inserted t (L p) l → M p ≡ l → Else p L M → Levels g runs M
  levels_join {runs} {L} M p {l} S unable able' prio I new rest =
      levels_change runs runs L M S (λ u n. (λ h. h, λ h. h)) (λ u q n. mem u q n (same? q p)) (λ q. once q (same? q p))
      (λ h. able') (λ q. stand q (same? q p))
    where
      mem : (u q : ℕ) → (u ≡ t → ⊥) → Same q p → Mem u (L q) ↔ Mem u (M q)
      mem u q n (same e _) =
          rw (e, new) (
            inserted_kept I u,
            λ m. ⊎_elim (λ h. h) (λ h. absurd (n h)) (inserted_only I u m),
          )
      mem u q n (other k _) = rw (rest q k) (λ m. m, λ m. m)

      once : (q : ℕ) → Same q p → Distinct (M q)
      once q (same e _) = rw (e, new) (inserted_once I (S.once p) (λ m. unable ((S.ready t p).0 m).0.0))
      once q (other k _) = rw (rest q k) (S.once q)

      stand : (q : ℕ) → Same q p → Mem t (M q) ↔ (Idle g runs t × ((g t).priority ≡ q))
      stand q (same e _) =
          (λ m. ((able', λ h. unable (S.running t h)), prio ∙ sym e), λ r. rw (e, new) (inserted_mem I))
      stand q (other k _) = (
        λ m. absurd (unable ((S.ready t q).0 (rw (rest q k) at m)).0.0),
        λ r. absurd (k (sym r.1 ∙ prio)),
      )

  -- t, which does not run, leaves its level.
  pub levels_leave :
      {runs : Option ℕ} {L : ℕ → List ℕ} (M : ℕ → List ℕ) (p : ℕ) → Levels f runs L
      → (runs ≡ some t → ⊥) → ((g t).place ≡ able → ⊥) → (f t).priority ≡ p
      → M p ≡ without t (L p) → Else p L M → Levels g runs M
  levels_leave {runs} {L} M p S idle unable' prio less rest =
      levels_change runs runs L M S (λ u n. (λ h. h, λ h. h)) (λ u q n. mem u q n (same? q p)) (λ q. once q (same? q p))
      (λ h. absurd (idle h)) (λ q. (λ m. gone q (same? q p) m, λ r. absurd (unable' r.0.0)))
    where
      mem : (u q : ℕ) → (u ≡ t → ⊥) → Same q p → Mem u (L q) ↔ Mem u (M q)
      mem u q n (same e _) = rw (e, less) (λ m. mem_keep t u (L p) m n, λ m. (mem_without t u (L p) m).0)
      mem u q n (other k _) = rw (rest q k) (λ m. m, λ m. m)

      once : (q : ℕ) → Same q p → Distinct (M q)
      once q (same e _) = rw (e, less) (distinct_without t (L p) (S.once p))
      once q (other k _) = rw (rest q k) (S.once q)

      gone : (q : ℕ) → Same q p → Mem t (M q) → Idle g runs t × ((g t).priority ≡ q)
      gone q (same e _) m = absurd ((mem_without t t (L p) (rw (e, less) at m)).1 refl)
      gone q (other k _) m = absurd (k (sym ((S.ready t q).0 (rw (rest q k) at m)).1 ∙ prio))

-- The head of level p runs, where nobody did.
pub levels_run :
    {f : ℕ → Thread} {L : ℕ → List ℕ} (M : ℕ → List ℕ) (p t : ℕ) (q : List ℕ) → Levels f none L
    → L p ≡ t ∷ q → M p ≡ q → Else p L M → Levels f (some t) M
levels_run {f} {L} M p t q S head tail rest =
    levels_change t f f (λ u n. refl) none (some t) L M S
    (λ u n. (λ h. absurd (none_some refl h), λ h. absurd (n (some_one h refl))))
    (λ u r n. mem u r n (same? r p)) (λ r. once r (same? r p)) (λ h. ((S.ready t p).0 first).0.0)
    (λ r. (λ m. gone r (same? r p) m, λ k. absurd (k.0.1 refl)))
  where
    first : Mem t (L p)
    first = rw head (inl refl)

    unique : Distinct (t ∷ q)
    unique = subst (λ (l : List ℕ). Distinct l) head (S.once p)

    mem : (u r : ℕ) → (u ≡ t → ⊥) → Same r p → Mem u (L r) ↔ Mem u (M r)
    mem u r n (same e _) = rw (e, tail, head) (λ m. ⊎_elim (λ h. absurd (n h)) (λ h. h) m, λ m. inr m)
    mem u r n (other k _) = rw (rest r k) (λ m. m, λ m. m)

    once : (r : ℕ) → Same r p → Distinct (M r)
    once r (same e _) = rw (e, tail) unique.1
    once r (other k _) = rw (rest r k) (S.once r)

    gone : (r : ℕ) → Same r p → Mem t (M r) → Idle f (some t) t × ((f t).priority ≡ r)
    gone r (same e _) m = absurd (unique.0 (rw (e, tail) at m))
    gone r (other k _) m =
        absurd (k (sym ((S.ready t r).0 (rw (rest r k) at m)).1 ∙ ((S.ready t p).0 first).1))
