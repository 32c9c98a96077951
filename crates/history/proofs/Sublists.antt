-- Facts about lists of names: sublists, names of threads by map, is_in, less, and entries of a list that grows.
use Prim.Native.Nat.{ℕ, zero, suc, ◌≤◌, ◌<◌}
use mathlib.Core.Path.{◌≡◌, refl, sym, ◌∙◌, ap, subst}
use mathlib.Core.Logic.{◌⊎◌, inl, inr, ⊎_elim}
use mathlib.Core.Bool.{Bool, true, false, ◌||◌}
use mathlib.Core.Option.{some}
use mathlib.Core.List.{List, [], ◌∷◌, ◌++◌, map}
use native.Mathlib.Omega.{arith}
use lib.Dec.{eqb}
use lib.ListN.{length, get_elem?}
use Rattle.machine.specs.Lists.{pick, without, only, Mem, Distinct, Rising}
use Rattle.history.specs.History.{is_in}
use Rattle.history.specs.Claim.{less}
use Rattle.machine.proofs.Lists.{Same, same, other, same?, clash, without_hit, without_miss, only_hit}
use Rattle.machine.proofs.Lists.{only_miss, at_tail, inserted_only}

-- The first list is what is left of the second when some are struck out.
pub data Sub : List ℕ → List ℕ → Type 0 where
  empty : Sub [] []
  skip : {x : ℕ} {k l : List ℕ} → Sub k l → Sub k (x ∷ l)
  take : {x : ℕ} {k l : List ℕ} → Sub k l → Sub (x ∷ k) (x ∷ l)

pub sub_refl : (l : List ℕ) → Sub l l
sub_refl [] = empty
sub_refl (x ∷ l) = take (sub_refl l)

pub sub_none : (l : List ℕ) → Sub [] l
sub_none [] = empty
sub_none (x ∷ l) = skip (sub_none l)

pub sub_trans : {k l m : List ℕ} → Sub k l → Sub l m → Sub k m
sub_trans p empty = p
sub_trans p (skip q) = skip (sub_trans p q)
sub_trans (skip p) (take q) = skip (sub_trans p q)
sub_trans (take p) (take q) = take (sub_trans p q)

pub sub_mem : {k l : List ℕ} → Sub k l → (t : ℕ) → Mem t k → Mem t l
sub_mem empty t m = m
sub_mem (skip p) t m = inr (sub_mem p t m)
sub_mem (take p) t (inl e) = inl e
sub_mem (take p) t (inr m) = inr (sub_mem p t m)

pub sub_distinct : {k l : List ℕ} → Sub k l → Distinct l → Distinct k
sub_distinct empty d = tt
sub_distinct (skip p) d = sub_distinct p d.1
sub_distinct (take {x = x} p) d = ((λ m. d.0 (sub_mem p x m)), sub_distinct p d.1)

pub sub_length : {k l : List ℕ} → Sub k l → length k ≤ length l
sub_length empty = omega arith
sub_length (skip p) = omega (arith, sub_length p)
sub_length (take p) = omega (arith, sub_length p)

pub sub_map : (f : ℕ → ℕ) {k l : List ℕ} → Sub k l → Sub (map f k) (map f l)
sub_map f empty = empty
sub_map f (skip p) = skip (sub_map f p)
sub_map f (take p) = take (sub_map f p)

pub sub_after : (m : List ℕ) {k l : List ℕ} → Sub k l → Sub (m ++ k) (m ++ l)
sub_after [] p = p
sub_after (x ∷ m) p = take (sub_after m p)

pub sub_left : (k l : List ℕ) → Sub k (k ++ l)
sub_left [] l = sub_none l
sub_left (x ∷ k) l = take (sub_left k l)

pub sub_without : (t : ℕ) (l : List ℕ) → Sub (without t l) l
unfolding without
sub_without t [] = empty
sub_without t (x ∷ l) = go (eqb x t) (sub_without t l)
  where
    go : (b : Bool) → Sub (without t l) l → Sub (pick b (without t l) (x ∷ without t l)) (x ∷ l)
    go true p = skip p
    go false p = take p

pub sub_only : (f : ℕ → Bool) (l : List ℕ) → Sub (only f l) l
unfolding only
sub_only f [] = empty
sub_only f (x ∷ l) = go (f x) (sub_only f l)
  where
    go : (b : Bool) → Sub (only f l) l → Sub (pick b (x ∷ only f l) (only f l)) (x ∷ l)
    go true p = take p
    go false p = skip p

-- Ascending numbers

pub rising_sub : {k l : List ℕ} → Sub k l → Rising l → Rising k
rising_sub empty r = tt
rising_sub (skip p) r = rising_sub p r.1
rising_sub (take p) r = ((λ w m. r.0 w (sub_mem p w m)), rising_sub p r.1)

-- One more at the end, above them all.
pub rising_snoc :
    (l : List ℕ) (n : ℕ) → Rising l → ((w : ℕ) → Mem w l → w < n) → Rising (l ++ (n ∷ []))
rising_snoc [] n r h = ((λ w m. absurd m), tt)
rising_snoc (x ∷ l) n r h =
    (λ w m. go w (inserted_only (at_tail n l) w m), rising_snoc l n r.1 (λ w m. h w (inr m)))
  where
    go : (w : ℕ) → Mem w l ⊎ (w ≡ n) → x < w
    go w (inl m) = r.0 w m
    go w (inr e) = rw e (h x (inl refl))

-- The first is the least.
pub rising_least : (x : ℕ) (l : List ℕ) → Rising (x ∷ l) → (w : ℕ) → Mem w (x ∷ l) → x ≤ w
rising_least x l r w (inl e) = omega (arith, e)
rising_least x l r w (inr m) = omega (arith, r.0 w m)

-- only, again

-- Two tests that agree on a list keep the same of it.
pub only_agree : (f g : ℕ → Bool) (l : List ℕ) → ((u : ℕ) → Mem u l → f u ≡ g u) → only f l ≡ only g l
unfolding only
only_agree f g [] h = refl
only_agree f g (x ∷ l) h = rw (h x (inl refl), only_agree f g l (λ u m. h u (inr m)))

-- is_in

pub is_in_true : (w : ℕ) (l : List ℕ) → is_in w l ≡ true → Mem w l
is_in_true w [] h = absurd (clash h refl)
is_in_true w (x ∷ l) h = go (same? w x) (is_in_true w l)
  where
    go : Same w x → (is_in w l ≡ true → Mem w l) → Mem w (x ∷ l)
    go (same e _) ih = inl e
    go (other _ n) ih = inr (ih (rw n at h))

pub mem_is_in : (w : ℕ) (l : List ℕ) → Mem w l → is_in w l ≡ true
mem_is_in w [] m = absurd m
mem_is_in w (x ∷ l) m = go (same? w x) m (mem_is_in w l)
  where
    go : Same w x → Mem w (x ∷ l) → (Mem w l → is_in w l ≡ true) → is_in w (x ∷ l) ≡ true
    go (same _ h) m ih = rw h
    go (other n h) (inl e) ih = absurd (n e)
    go (other _ h) (inr k) ih = rw h (ih k)

pub not_is_in : (w : ℕ) (l : List ℕ) → (Mem w l → ⊥) → is_in w l ≡ false
not_is_in w l n = go (is_in w l) refl
  where
    go : (b : Bool) → is_in w l ≡ b → b ≡ false
    go true e = absurd (n (is_in_true w l e))
    go false e = refl

-- less

pub less_none : (l : List ℕ) → less [] l ≡ l
unfolding only
less_none [] = refl
less_none (x ∷ l) = ap (λ (r : List ℕ). x ∷ r) (less_none l)

-- One more is gone.
pub less_more : (w : ℕ) (gone l : List ℕ) → less gone (without w l) ≡ less (w ∷ gone) l
unfolding only without
less_more w gone [] = refl
less_more w gone (x ∷ l) = go (eqb x w) refl (is_in x gone) refl (less_more w gone l)
  where
    go : (b : Bool) → eqb x w ≡ b → (c : Bool) → is_in x gone ≡ c → less gone (without w l) ≡ less (w ∷ gone) l
        → less gone (without w (x ∷ l)) ≡ less (w ∷ gone) (x ∷ l)
    go true e c d ih = rw e ih
    go false e true d ih = rw (e, d) ih
    go false e false d ih = rw (e, d) (ap (λ (r : List ℕ). x ∷ r) ih)

pub less_append : (k g l : List ℕ) → less (k ++ g) l ≡ less g (less k l)
unfolding only
less_append k g [] = refl
less_append k g (x ∷ l) = go (is_in x k) refl (is_in x g) refl (less_append k g l)
  where
    both : (k : List ℕ) → is_in x (k ++ g) ≡ is_in x k || is_in x g
    both [] = refl
    both (y ∷ k) = step (eqb x y) (both k)
      where
        step : (b : Bool) → is_in x (k ++ g) ≡ is_in x k || is_in x g
            → (b || is_in x (k ++ g)) ≡ ((b || is_in x k) || is_in x g)
        step true h = refl
        step false h = h

    go : (b : Bool) → is_in x k ≡ b → (c : Bool) → is_in x g ≡ c → less (k ++ g) l ≡ less g (less k l)
        → less (k ++ g) (x ∷ l) ≡ less g (less k (x ∷ l))
    go true p c q ih = rw (both k, p) ih
    go false p true q ih = rw (both k, p, q) ih
    go false p false q ih = rw (both k, p, q) (ap (λ (r : List ℕ). x ∷ r) ih)

-- Names of threads

-- Different threads of the list have different names.
abbrev pub Apart : (ℕ → ℕ) → List ℕ → Type 0
Apart f l = (t u : ℕ) → Mem t l → Mem u l → f t ≡ f u → t ≡ u

pub mem_map : (f : ℕ → ℕ) (t : ℕ) (l : List ℕ) → Mem t l → Mem (f t) (map f l)
mem_map f t [] m = m
mem_map f t (x ∷ l) (inl e) = inl (ap f e)
mem_map f t (x ∷ l) (inr m) = inr (mem_map f t l m)

pub map_mem : (f : ℕ → ℕ) (w : ℕ) (l : List ℕ) → Mem w (map f l) → (t : ℕ) × Mem t l × (w ≡ f t)
map_mem f w [] m = absurd m
map_mem f w (x ∷ l) (inl e) = (x, inl refl, e)
map_mem f w (x ∷ l) (inr m) = let r = map_mem f w l m in (r.0, inr r.1, r.2)

pub map_agree : (f g : ℕ → ℕ) (l : List ℕ) → ((t : ℕ) → Mem t l → f t ≡ g t) → map f l ≡ map g l
map_agree f g [] h = refl
map_agree f g (x ∷ l) h = rw (h x (inl refl), map_agree f g l (λ t m. h t (inr m)))

-- The names of those that pass a test.
pub map_only :
    (f : ℕ → ℕ) (p q : ℕ → Bool) (l : List ℕ) → ((t : ℕ) → Mem t l → p t ≡ q (f t))
    → map f (only p l) ≡ only q (map f l)
unfolding only
map_only f p q [] h = refl
map_only f p q (x ∷ l) h = rw (h x (inl refl)) (go (q (f x)) (map_only f p q l (λ t m. h t (inr m))))
  where
    go : (b : Bool) → map f (only p l) ≡ only q (map f l)
        → map f (pick b (x ∷ only p l) (only p l)) ≡ pick b (f x ∷ only q (map f l)) (only q (map f l))
    go true e = ap (λ (r : List ℕ). f x ∷ r) e
    go false e = e

pub distinct_map : (f : ℕ → ℕ) (l : List ℕ) → Apart f l → Distinct l → Distinct (map f l)
distinct_map f [] a d = tt
distinct_map f (x ∷ l) a d = (
  λ m. let r = map_mem f (f x) l m in
      d.0 (subst (λ (y : ℕ). Mem y l) (sym (a x r.0 (inl refl) (inr r.1) r.2)) r.1),
  distinct_map f l (λ t u m n. a t u (inr m) (inr n)) d.1,
)

-- The names without a thread of the list.
pub map_without :
    (f : ℕ → ℕ) (t : ℕ) (l : List ℕ) → ((u : ℕ) → Mem u l → f u ≡ f t → u ≡ t)
    → map f (without t l) ≡ without (f t) (map f l)
unfolding without
map_without f t [] h = refl
map_without f t (x ∷ l) h = go (same? x t) (map_without f t l (λ u m. h u (inr m)))
  where
    go : Same x t → map f (without t l) ≡ without (f t) (map f l)
        → map f (without t (x ∷ l)) ≡ without (f t) (map f (x ∷ l))
    go (same e b) ih = rw (without_hit t x l e, without_hit (f t) (f x) (map f l) (ap f e)) ih
    go (other n b) ih =
        rw (without_miss t x l n, without_miss (f t) (f x) (map f l) (λ p. n (h x (inl refl) p)))
        (ap (λ (r : List ℕ). f x ∷ r) ih)

-- The senders without one that no longer sends.
pub only_without :
    (f g : ℕ → Bool) (t : ℕ) (l : List ℕ) → ((u : ℕ) → (u ≡ t → ⊥) → g u ≡ f u)
    → only g (without t l) ≡ without t (only f l)
unfolding without only
only_without f g t [] h = refl
only_without f g t (x ∷ l) h = go (same? x t) (f x) refl (only_without f g t l h)
  where
    go : Same x t → (b : Bool) → f x ≡ b → only g (without t l) ≡ without t (only f l)
        → only g (without t (x ∷ l)) ≡ without t (only f (x ∷ l))
    go (same e p) true q ih = rw (without_hit t x l e, only_hit f x l q, without_hit t x (only f l) e) ih
    go (same e p) false q ih = rw (without_hit t x l e, only_miss f x l q) ih
    go (other n p) true q ih =
        rw (
          without_miss t x l n,
          only_hit f x l q,
          without_miss t x (only f l) n,
          only_hit g x (without t l) (h x n ∙ q),
        )
        (ap (λ (r : List ℕ). x ∷ r) ih)
    go (other n p) false q ih =
        rw (without_miss t x l n, only_miss f x l q, only_miss g x (without t l) (h x n ∙ q)) ih

-- Entries of a list that grows

module _ {A : Type 0} where
  pub entry_below : (l : List A) (i : ℕ) (a : A) → get_elem? l i ≡ some a → i < length l
  entry_below [] i a e = let z : ◌≡◌ {A = ℕ} 0 1 = cc in omega arith
  entry_below (x ∷ l) zero a e = omega arith
  entry_below (x ∷ l) (suc i) a e = omega (arith, entry_below l i a e)

  pub entry_keep : (l r : List A) (i : ℕ) → i < length l → get_elem? (l ++ r) i ≡ get_elem? l i
  entry_keep [] r i h = absurd (omega arith)
  entry_keep (x ∷ l) r zero h = refl
  entry_keep (x ∷ l) r (suc i) h = entry_keep l r i (omega arith)

  pub entry_grow : (l : List A) (b : A) (i : ℕ) (a : A) → get_elem? l i ≡ some a → get_elem? (l ++ (b ∷ [])) i ≡ some a
  entry_grow l b i a e = entry_keep l (b ∷ []) i (entry_below l i a e) ∙ e

  pub entry_last : (l : List A) (b : A) → get_elem? (l ++ (b ∷ [])) (length l) ≡ some b
  entry_last [] b = refl
  entry_last (x ∷ l) b = entry_last l b

  -- An entry of the longer list is an old one or the last.
  pub entry_cases :
      (l : List A) (b : A) (i : ℕ) (a : A) → get_elem? (l ++ (b ∷ [])) i ≡ some a
      → (get_elem? l i ≡ some a) ⊎ ((i ≡ length l) × (b ≡ a))
  entry_cases [] b zero a e = inr (refl, (cc))
  entry_cases [] b (suc i) a e = let z : ◌≡◌ {A = ℕ} 0 1 = cc in absurd (omega arith)
  entry_cases (x ∷ l) b zero a e = inl e
  entry_cases (x ∷ l) b (suc i) a e =
      ⊎_elim inl (λ r. inr (ap suc r.0, r.1)) (entry_cases l b i a e)

  pub length_grow : (l : List A) (b : A) → length (l ++ (b ∷ [])) ≡ suc (length l)
  length_grow [] b = refl
  length_grow (x ∷ l) b = ap suc (length_grow l b)
