-- Facts about tables and lists of thread numbers: put, without, only, first, Mem and
-- Distinct.
use Prim.Native.Nat.{ℕ}
use mathlib.Core.Path.{◌≡◌, refl, sym, ◌∙◌, ap, subst, fun_ext}
use mathlib.Core.Logic.{◌⊎◌, inl, inr, ⊎_elim}
use mathlib.Core.Bool.{Bool, true, false}
use mathlib.Core.Option.{some}
use mathlib.Core.List.{List, [], ◌∷◌, ◌++◌, append-nil}
use native.Mathlib.Omega.{arith}
use lib.Dec.{eqb}
use lib.ListN.{drop}
use borrow.Author.Tests.{eq-eqb, ne_eqb, eqb-true, eqb-false}
use Rattle.machine.specs.Lists.{pick, put, without, only, first, Mem, Distinct}

-- Whether two numbers are equal, with the test's value.
pub data Same (i j : ℕ) : Type 0 where
  same : i ≡ j → eqb i j ≡ true → Same i j
  other : (i ≡ j → ⊥) → eqb i j ≡ false → Same i j

pub same? : (i j : ℕ) → Same i j
same? i j = go (eqb i j) refl
  where
    go : (b : Bool) → eqb i j ≡ b → Same i j
    go true e = same (eqb-true i j e) e
    go false e = other (eqb-false i j e) e

-- A flag is not both true and false.
pub clash : {b : Bool} → b ≡ true → b ≡ false → ⊥
clash {b} p q = let z : ◌≡◌ {A = ℕ} 0 1 = cc in omega arith

-- put

pub put_same : {A : Type 0} (f : ℕ → A) (i : ℕ) (x : A) → put f i x i ≡ x
unfolding put
put_same f i x = rw (eq-eqb i i refl)

pub put_other : {A : Type 0} (f : ℕ → A) (i k : ℕ) (x : A) → (k ≡ i → ⊥) → put f i x k ≡ f k
unfolding put
put_other f i k x h = rw (ne_eqb k i h)

-- An entry changed twice has the second, and one changed to what it was is as it was.
pub put_again : {A : Type 0} (f : ℕ → A) (i : ℕ) (x y : A) → put (put f i x) i y ≡ put f i y
put_again f i x y = fun_ext (λ k. go k (same? k i))
  where
    go : (k : ℕ) → Same k i → put (put f i x) i y k ≡ put f i y k
    go k (same e _) = rw (e, put_same (put f i x) i y, put_same f i y)
    go k (other n _) = rw (put_other (put f i x) i k y n, put_other f i k y n, put_other f i k x n)

pub put_self : {A : Type 0} (f : ℕ → A) (i : ℕ) (x : A) → x ≡ f i → put f i x ≡ f
put_self f i x h = fun_ext (λ k. go k (same? k i))
  where
    go : (k : ℕ) → Same k i → put f i x k ≡ f k
    go k (same e _) = rw (e, put_same f i x) h
    go k (other n _) = put_other f i k x n

-- A property that holds of the new entry and of the old entries elsewhere holds of the changed table.
pub put_all :
    {A : Type 0} (P : ℕ → A → Type 0) (f : ℕ → A) (i : ℕ) (x : A)
    → P i x → ((k : ℕ) → (k ≡ i → ⊥) → P k (f k)) → (k : ℕ) → P k (put f i x k)
put_all P f i x h g k = go (same? k i)
  where
    go : Same k i → P k (put f i x k)
    go (same e _) = subst (λ (j : ℕ). P j (put f i x j)) (sym e) (rw (put_same f i x) h)
    go (other n _) = rw (put_other f i k x n) (g k n)

-- Mem

pub mem_left : (t : ℕ) (l r : List ℕ) → Mem t l → Mem t (l ++ r)
mem_left t [] r m = absurd m
mem_left t (x ∷ l) r (inl e) = inl e
mem_left t (x ∷ l) r (inr m) = inr (mem_left t l r m)

pub mem_right : (t : ℕ) (l r : List ℕ) → Mem t r → Mem t (l ++ r)
mem_right t [] r m = m
mem_right t (x ∷ l) r m = inr (mem_right t l r m)

pub mem_split : (t : ℕ) (l r : List ℕ) → Mem t (l ++ r) → Mem t l ⊎ Mem t r
mem_split t [] r m = inr m
mem_split t (x ∷ l) r (inl e) = inl (inl e)
mem_split t (x ∷ l) r (inr m) = ⊎_elim (λ h. inl (inr h)) inr (mem_split t l r m)

pub mem? : (t : ℕ) (l : List ℕ) → Mem t l ⊎ (Mem t l → ⊥)
mem? t [] = inr (λ z. z)
mem? t (x ∷ l) = go (same? t x) (mem? t l)
  where
    go : Same t x → Mem t l ⊎ (Mem t l → ⊥) → Mem t (x ∷ l) ⊎ (Mem t (x ∷ l) → ⊥)
    go (same e _) r = inl (inl e)
    go (other n _) (inl m) = inl (inr m)
    go (other n _) (inr k) = inr (⊎_elim n k)

-- Distinct

pub distinct_left : (l r : List ℕ) → Distinct (l ++ r) → Distinct l
distinct_left [] r d = tt
distinct_left (x ∷ l) r d = (λ m. d.0 (mem_left x l r m), distinct_left l r d.1)

pub distinct_right : (l r : List ℕ) → Distinct (l ++ r) → Distinct r
distinct_right [] r d = d
distinct_right (x ∷ l) r d = distinct_right l r d.1

pub distinct_apart : (t : ℕ) (l r : List ℕ) → Distinct (l ++ r) → Mem t l → Mem t r → ⊥
distinct_apart t [] r d m n = m
distinct_apart t (x ∷ l) r d (inl e) n = d.0 (mem_right x l r (subst (λ (y : ℕ). Mem y r) e n))
distinct_apart t (x ∷ l) r d (inr m) n = distinct_apart t l r d.1 m n

pub distinct_append :
    (l r : List ℕ) → Distinct l → Distinct r → ((t : ℕ) → Mem t l → Mem t r → ⊥) → Distinct (l ++ r)
distinct_append [] r dl dr apart = dr
distinct_append (x ∷ l) r dl dr apart = (
  λ m. ⊎_elim dl.0 (apart x (inl refl)) (mem_split x l r m),
  distinct_append l r dl.1 dr (λ t m. apart t (inr m)),
)

-- A list with one more in it

-- l' is l with t at one place more.
pub record Inserted (t : ℕ) (l l' : List ℕ) : Type 0 where
  pub before : List ℕ
  pub behind : List ℕ
  pub old : l ≡ before ++ behind
  pub new : l' ≡ before ++ (t ∷ behind)

abbrev pub at_head : (t : ℕ) (l : List ℕ) → Inserted t l (t ∷ l)
at_head t l = record { before = []; behind = l; old = refl; new = refl }

abbrev pub at_tail : (t : ℕ) (l : List ℕ) → Inserted t l (l ++ (t ∷ []))
at_tail t l = record { before = l; behind = []; old = sym (append-nil l); new = refl }

module _ {t : ℕ} {l l' : List ℕ} (I : Inserted t l l') where
  pub inserted_mem : Mem t l'
  inserted_mem = rw I.new (mem_right t I.before (t ∷ I.behind) (inl refl))

  pub inserted_kept : (u : ℕ) → Mem u l → Mem u l'
  inserted_kept u m =
      rw I.new
      (⊎_elim (mem_left u I.before (t ∷ I.behind)) (λ k. mem_right u I.before (t ∷ I.behind) (inr k))
      (mem_split u I.before I.behind (rw I.old at m)))

  pub inserted_only : (u : ℕ) → Mem u l' → Mem u l ⊎ (u ≡ t)
  inserted_only u m = go (mem_split u I.before (t ∷ I.behind) (rw I.new at m))
    where
      go : Mem u I.before ⊎ Mem u (t ∷ I.behind) → Mem u l ⊎ (u ≡ t)
      go (inl k) = inl (rw I.old (mem_left u I.before I.behind k))
      go (inr (inl e)) = inr e
      go (inr (inr k)) = inl (rw I.old (mem_right u I.before I.behind k))

  pub inserted_once : Distinct l → (Mem t l → ⊥) → Distinct l'
  inserted_once d n =
      let a = I.before in
      let b = I.behind in
      let e : Distinct (a ++ b) = rw I.old at d in
      let out : Mem t (a ++ b) → ⊥ = rw I.old at n in
      rw I.new
      (distinct_append a (t ∷ b) (distinct_left a b e) ((λ m. out (mem_right t a b m)), distinct_right a b e)
      (λ u m. ⊎_elim (λ i. out (mem_left t a b (subst (λ (y : ℕ). Mem y a) i m))) (distinct_apart u a b e m)))

-- without

module _ (t : ℕ) where
  pub without_hit : (x : ℕ) (l : List ℕ) → x ≡ t → without t (x ∷ l) ≡ without t l
  unfolding without
  without_hit x l e = rw (eq-eqb x t e)

  pub without_miss : (x : ℕ) (l : List ℕ) → (x ≡ t → ⊥) → without t (x ∷ l) ≡ x ∷ without t l
  unfolding without
  without_miss x l n = rw (ne_eqb x t n)

  pub without_nil : without t [] ≡ []
  unfolding without
  without_nil = refl

  pub mem_without : (u : ℕ) (l : List ℕ) → Mem u (without t l) → Mem u l × (u ≡ t → ⊥)
  unfolding without
  mem_without u [] m = absurd m
  mem_without u (x ∷ l) m = go (same? x t) (mem_without u l)
    where
      go : Same x t → (Mem u (without t l) → Mem u l × (u ≡ t → ⊥)) → Mem u (x ∷ l) × (u ≡ t → ⊥)
      go (same e _) ih = let h = ih (rw (without_hit x l e) at m) in (inr h.0, h.1)
      go (other n _) ih =
          ⊎_elim (λ e. (inl e, λ f. n (sym e ∙ f))) (λ k. (inr (ih k).0, (ih k).1)) (rw (without_miss x l n) at m)

  pub mem_keep : (u : ℕ) (l : List ℕ) → Mem u l → (u ≡ t → ⊥) → Mem u (without t l)
  mem_keep u [] m n = absurd m
  mem_keep u (x ∷ l) m n = go (same? x t) m (λ k. mem_keep u l k n)
    where
      go : Same x t → Mem u (x ∷ l) → (Mem u l → Mem u (without t l)) → Mem u (without t (x ∷ l))
      go (same e _) (inl f) ih = absurd (n (f ∙ e))
      go (same e _) (inr k) ih = rw (without_hit x l e) (ih k)
      go (other o _) (inl f) ih = rw (without_miss x l o) (inl f)
      go (other o _) (inr k) ih = rw (without_miss x l o) (inr (ih k))

  pub distinct_without : (l : List ℕ) → Distinct l → Distinct (without t l)
  unfolding without
  distinct_without [] d = tt
  distinct_without (x ∷ l) d = go (same? x t) (distinct_without l d.1)
    where
      go : Same x t → Distinct (without t l) → Distinct (without t (x ∷ l))
      go (same e _) ih = rw (without_hit x l e) ih
      go (other n _) ih = rw (without_miss x l n) ((λ m. d.0 (mem_without x l m).0), ih)

  -- A list in which t does not stand is left as it is.
  pub without_none : (l : List ℕ) → (Mem t l → ⊥) → without t l ≡ l
  unfolding without
  without_none [] n = refl
  without_none (x ∷ l) n =
      without_miss x l (λ e. n (inl (sym e))) ∙ ap (λ (k : List ℕ). x ∷ k) (without_none l (λ m. n (inr m)))

  pub without_append : (l r : List ℕ) → without t (l ++ r) ≡ without t l ++ without t r
  unfolding without
  without_append [] r = refl
  without_append (x ∷ l) r = go (same? x t) (without_append l r)
    where
      go : Same x t → without t (l ++ r) ≡ without t l ++ without t r
          → without t (x ∷ (l ++ r)) ≡ without t (x ∷ l) ++ without t r
      go (same e _) ih = rw (without_hit x (l ++ r) e, without_hit x l e) ih
      go (other n _) ih = rw (without_miss x (l ++ r) n, without_miss x l n) (ap (λ (k : List ℕ). x ∷ k) ih)

  -- Of a list with t first and not again, the rest.
  pub without_first : (l : List ℕ) → Distinct (t ∷ l) → without t (t ∷ l) ≡ l
  without_first l d = without_hit t l refl ∙ without_none l d.0

-- only

module _ (f : ℕ → Bool) where
  pub only_nil : only f [] ≡ []
  unfolding only
  only_nil = refl

  pub only_hit : (x : ℕ) (l : List ℕ) → f x ≡ true → only f (x ∷ l) ≡ x ∷ only f l
  unfolding only
  only_hit x l e = rw e

  pub only_miss : (x : ℕ) (l : List ℕ) → f x ≡ false → only f (x ∷ l) ≡ only f l
  unfolding only
  only_miss x l e = rw e

  pub mem_only : (u : ℕ) (l : List ℕ) → Mem u (only f l) → Mem u l × (f u ≡ true)
  unfolding only
  mem_only u [] m = absurd m
  mem_only u (x ∷ l) m = go (f x) refl (mem_only u l)
    where
      go : (b : Bool) → f x ≡ b → (Mem u (only f l) → Mem u l × (f u ≡ true)) → Mem u (x ∷ l) × (f u ≡ true)
      go true e ih =
          ⊎_elim (λ h. (inl h, ap f h ∙ e)) (λ k. (inr (ih k).0, (ih k).1)) (rw (only_hit x l e) at m)
      go false e ih = let h = ih (rw (only_miss x l e) at m) in (inr h.0, h.1)

  pub only_keep : (u : ℕ) (l : List ℕ) → Mem u l → f u ≡ true → Mem u (only f l)
  only_keep u [] m h = absurd m
  only_keep u (x ∷ l) m h = go (f x) refl m (λ k. only_keep u l k h)
    where
      go : (b : Bool) → f x ≡ b → Mem u (x ∷ l) → (Mem u l → Mem u (only f l)) → Mem u (only f (x ∷ l))
      go true e (inl p) ih = rw (only_hit x l e) (inl p)
      go true e (inr k) ih = rw (only_hit x l e) (inr (ih k))
      go false e (inl p) ih = absurd (clash h (ap f p ∙ e))
      go false e (inr k) ih = rw (only_miss x l e) (ih k)

  -- Where all pass the test, all are kept; where none does, none is.
  pub only_all : (l : List ℕ) → ((u : ℕ) → Mem u l → f u ≡ true) → only f l ≡ l
  unfolding only
  only_all [] h = refl
  only_all (x ∷ l) h =
      only_hit x l (h x (inl refl)) ∙ ap (λ (k : List ℕ). x ∷ k) (only_all l (λ u m. h u (inr m)))

  pub only_none : (l : List ℕ) → ((u : ℕ) → Mem u l → f u ≡ false) → only f l ≡ []
  unfolding only
  only_none [] h = refl
  only_none (x ∷ l) h = only_miss x l (h x (inl refl)) ∙ only_none l (λ u m. h u (inr m))

  pub distinct_only : (l : List ℕ) → Distinct l → Distinct (only f l)
  unfolding only
  distinct_only [] d = tt
  distinct_only (x ∷ l) d = go (f x) refl (distinct_only l d.1)
    where
      go : (b : Bool) → f x ≡ b → Distinct (only f l) → Distinct (only f (x ∷ l))
      go true e ih = rw (only_hit x l e) ((λ m. d.0 (mem_only x l m).0), ih)
      go false e ih = rw (only_miss x l e) ih

pub only_append : (f : ℕ → Bool) (k l : List ℕ) → only f (k ++ l) ≡ only f k ++ only f l
unfolding only
only_append f [] l = refl
only_append f (x ∷ k) l = go (f x) (only_append f k l)
  where
    go : (b : Bool) → only f (k ++ l) ≡ only f k ++ only f l
        → pick b (x ∷ only f (k ++ l)) (only f (k ++ l)) ≡ pick b (x ∷ only f k) (only f k) ++ only f l
    go true e = ap (λ (r : List ℕ). x ∷ r) e
    go false e = e

-- first

pub first_mem : (l : List ℕ) {t : ℕ} → first l ≡ some t → Mem t l
first_mem [] h = let z : ◌≡◌ {A = ℕ} 0 1 = cc in absurd (omega arith)
first_mem (x ∷ l) h = inl (cc)

-- Where all pass the test, the first who passes is the first.
pub first_only :
    (f : ℕ → Bool) (l : List ℕ) {t : ℕ} → ((u : ℕ) → Mem u l → f u ≡ true) → first (only f l) ≡ some t
    → first l ≡ some t
first_only f l all h = ap first (sym (only_all f l all)) ∙ h

-- The list without its first, which does not stand there again.
pub first_without : (l : List ℕ) (t : ℕ) → first l ≡ some t → Distinct l → without t l ≡ drop 1 l
first_without [] t h d = absurd (first_mem [] h)
first_without (x ∷ l) t h d =
    let z : t ≡ x = cc in ap (λ (y : ℕ). without y (x ∷ l)) z ∙ without_first x l d
