-- Endpoints, lines and sets, when one thread t changes its entry and joins or leaves a queue or a line.
use Prim.Native.Nat.{ℕ, ◌≤◌, ◌<◌}
use mathlib.Core.Path.{◌≡◌, refl, sym, ◌∙◌, ap, subst}
use mathlib.Core.Logic.{inl, inr, ◌↔◌, ⊎_elim}
use mathlib.Core.Bool.{false}
use mathlib.Core.Option.{Option, none, some}
use mathlib.Core.List.{List, [], ◌∷◌, ◌++◌, append_assoc}
use native.Mathlib.Omega.{arith}
use lib.Dec.{eqb}
use borrow.Author.Tests.{eq-eqb}
use Rattle.machine.specs.Lists.{without, Mem}
use Rattle.machine.specs.State.{Thread, Place, absent, able, sending, receiving, waiting, Abort, missing, live}
use Rattle.machine.specs.State.{Endpoint, Line, quiet, awaited, missing_endpoint}
use Rattle.machine.specs.Endpoints.{under_abort, is_aborting, passing}
use Rattle.machine.proofs.Lists.{Same, same, other, same?, clash, mem_left, mem_without, mem_keep}
use Rattle.machine.proofs.Lists.{at_tail, inserted_mem, inserted_only, inserted_once, distinct_without}
use Rattle.machine.proofs.Lists.{without_append}
use Rattle.machine.proofs.Preserved.Parts.{At, AbortFits, Site, LinesFit, SetsFit}
use Rattle.machine.proofs.Preserved.Ready.{Else}

-- Places of different kinds are different.
abbrev pub kind : Place → ℕ
kind absent = 0
kind able = 1
kind (sending e) = 2
kind (receiving e) = 3
kind (waiting l) = 4

pub differ : {p q r : Place} → p ≡ q → p ≡ r → eqb (kind q) (kind r) ≡ false → ⊥
differ {p} {q} {r} h k n = clash (eq-eqb (kind q) (kind r) (sym (ap kind h) ∙ ap kind k)) n

-- A place that is no queue is no place in a queue.
pub not_at : {p q : Place} {e : ℕ} → p ≡ q → eqb (kind q) 2 ≡ false → eqb (kind q) 3 ≡ false → At p e → ⊥
not_at h m n = ⊎_elim (λ k. differ h k m) (λ k. differ h k n)

pub at_one : {p : Place} {e k : ℕ} → At p e → At p k → k ≡ e
at_one {p} {e} {k} (inl h) (inl g) = cc
at_one (inl h) (inr g) = absurd (differ h g refl)
at_one (inr h) (inl g) = absurd (differ h g refl)
at_one {p} {e} {k} (inr h) (inr g) = cc

-- t leaves, t joins: the endpoint's new entry.
abbrev pub left : ℕ → Endpoint → Endpoint
left t x = record { status = x.status; waiters = without t x.waiters; abort = passing t x.abort }

abbrev pub joined : ℕ → Endpoint → Endpoint
joined t x = record { status = x.status; waiters = x.waiters ++ (t ∷ []); abort = x.abort }

pub left_aborting : (t : ℕ) (x : Endpoint) → is_aborting (left t x).abort ≡ is_aborting x.abort
left_aborting t x = go x.abort
  where
    go : (a : Option Abort) → is_aborting (passing t a) ≡ is_aborting a
    go none = refl
    go (some a) = refl

left_none : (t : ℕ) → left t missing_endpoint ≡ missing_endpoint
unfolding without
left_none t = refl

not_live : {x : Endpoint} → x.status ≡ live → x ≡ missing_endpoint → ⊥
not_live {x} h k =
    let j : x.status ≡ missing = ap (λ (y : Endpoint). y.status) k in
    let z : ◌≡◌ {A = ℕ} 0 1 = cc in
    omega arith

module _ (t : ℕ) (f g : ℕ → Thread) (away : Else t f g) (e : ℕ) where
  -- Another endpoint than that which t left or joined.
  pub site_aside : {x : Endpoint} → Site f e x → (At (f t).place e → ⊥) → (At (g t).place e → ⊥) → Site g e x
  site_aside {x} S out out' =
      record {
        unused = S.unused;
        empty = S.empty;
        no_abort = S.no_abort;
        queued = λ u. queued u (same? u t);
        once = S.once;
        one_kind = λ u v h k. S.one_kind u v (back u (inl h) h) (back v (inr k) k);
        marked = marked x.abort S.marked;
      }
    where
      queued : (u : ℕ) → Same u t → Mem u x.waiters ↔ At (g u).place e
      queued u (same i _) = rw i (λ m. absurd (out ((S.queued t).0 m)), λ h. absurd (out' h))
      queued u (other n _) = rw (away u n) (S.queued u)

      back : {p : Place} (u : ℕ) → At (g u).place e → (g u).place ≡ p → (f u).place ≡ p
      back {p} u a h = go (same? u t)
        where
          go : Same u t → (f u).place ≡ p
          go (same i _) = absurd (out' (rw i at a))
          go (other n _) = rw (away u n) at h

      marked : (a : Option Abort) → AbortFits f e x.waiters a → AbortFits g e x.waiters a
      marked none m = tt
      marked (some a) m =
          record {
            badge = m.badge;
            before = m.before;
            behind = m.behind;
            within = m.within;
            sends = λ u k. sends u k (same? u t);
            none_outside = λ u h b. outside u h b (same? u t);
          }
        where
          sends : (u : ℕ) → Mem u a.pending → Same u t → (g u).place ≡ sending e
          sends u k (same i _) = absurd (out (inl (rw i at (m.sends u k))))
          sends u k (other n _) = rw (away u n) (m.sends u k)

          outside : (u : ℕ) → (g u).place ≡ sending e → (g u).badge ≡ a.badge → Same u t → Mem u a.pending
          outside u h b (same i _) = absurd (out' (inl (rw i at h)))
          outside u h b (other n _) = m.none_outside u (rw (away u n) at h) (rw (away u n) at b)

  -- t leaves the endpoint's queue.
  pub site_leave : {x : Endpoint} → Site f e x → (At (g t).place e → ⊥) → Site g e (left t x)
  unfolding without
  site_leave {x} S out' =
      record {
        unused = λ h. ap (left t) (S.unused h) ∙ left_none t;
        empty = λ h. ap (without t) (S.empty h);
        no_abort = λ h. ap (passing t) (S.no_abort h);
        queued = λ u. queued u (same? u t);
        once = distinct_without t x.waiters S.once;
        one_kind = λ u v h k. S.one_kind u v (back u (inl h) h) (back v (inr k) k);
        marked = marked x.abort S.marked;
      }
    where
      queued : (u : ℕ) → Same u t → Mem u (without t x.waiters) ↔ At (g u).place e
      queued u (same i _) = (
        λ m. absurd ((mem_without t u x.waiters m).1 i),
        λ h. absurd (out' (subst (λ (k : ℕ). At (g k).place e) i h)),
      )
      queued u (other n _) =
          rw (away u n) (
            λ m. (S.queued u).0 (mem_without t u x.waiters m).0,
            λ h. mem_keep t u x.waiters ((S.queued u).1 h) n,
          )

      elsewhere : (u : ℕ) → At (g u).place e → u ≡ t → ⊥
      elsewhere u a i = out' (subst (λ (k : ℕ). At (g k).place e) i a)

      back : {p : Place} (u : ℕ) → At (g u).place e → (g u).place ≡ p → (f u).place ≡ p
      back u a h = rw (away u (elsewhere u a)) at h

      marked : (a : Option Abort) → AbortFits f e x.waiters a → AbortFits g e (without t x.waiters) (passing t a)
      marked none m = tt
      marked (some a) m =
          record {
            badge = m.badge;
            before = without t m.before;
            behind = without t m.behind;
            within =
                ap (without t) m.within ∙ without_append t m.before (a.pending ++ m.behind)
                ∙ ap (λ (l : List ℕ). without t m.before ++ l) (without_append t a.pending m.behind);
            sends = λ u k. let h = mem_without t u a.pending k in rw (away u h.1) (m.sends u h.0);
            none_outside =
                λ u h b. let n = elsewhere u (inl h) in
                mem_keep t u a.pending (m.none_outside u (rw (away u n) at h) (rw (away u n) at b)) n;
          }

  -- t joins the tail of a live endpoint's queue, where those queued are of its kind and its badge is not under abort.
  pub site_join :
      {x : Endpoint} → Site f e x → x.status ≡ live → (At (f t).place e → ⊥) → At (g t).place e
      → ((g t).place ≡ sending e → (u : ℕ) → (f u).place ≡ receiving e → ⊥)
      → ((g t).place ≡ receiving e → (u : ℕ) → (f u).place ≡ sending e → ⊥)
      → ((g t).place ≡ sending e → under_abort (g t).badge x.abort ≡ false) → Site g e (joined t x)
  site_join {x} S up out at no_receiver no_sender clear =
      record {
        unused = λ h. absurd (not_live up (S.unused h));
        empty = λ h. absurd (not_missing h);
        no_abort = S.no_abort;
        queued = λ u. queued u (same? u t);
        once = inserted_once (at_tail t x.waiters) S.once (λ m. out ((S.queued t).0 m));
        one_kind = λ u v h k. one_kind u v h k (same? u t) (same? v t);
        marked = marked x.abort clear S.marked;
      }
    where
      not_missing : x.status ≡ missing → ⊥
      not_missing h = let z : ◌≡◌ {A = ℕ} 0 1 = cc in omega arith

      queued : (u : ℕ) → Same u t → Mem u (x.waiters ++ (t ∷ [])) ↔ At (g u).place e
      queued u (same i _) = rw i (λ m. at, λ h. inserted_mem (at_tail t x.waiters))
      queued u (other n _) =
          rw (away u n) (
            λ m. ⊎_elim (S.queued u).0 (λ i. absurd (n i)) (inserted_only (at_tail t x.waiters) u m),
            λ h. mem_left u x.waiters (t ∷ []) ((S.queued u).1 h),
          )

      one_kind : (u v : ℕ) → (g u).place ≡ sending e → (g v).place ≡ receiving e → Same u t → Same v t → ⊥
      one_kind u v h k (same i _) (same j _) = differ h (rw (j, ← i) at k) refl
      one_kind u v h k (same i _) (other n _) = no_receiver (rw i at h) v (rw (away v n) at k)
      one_kind u v h k (other n _) (same j _) = no_sender (rw j at k) u (rw (away u n) at h)
      one_kind u v h k (other n _) (other o _) = S.one_kind u v (rw (away u n) at h) (rw (away v o) at k)

      marked :
          (a : Option Abort) → ((g t).place ≡ sending e → under_abort (g t).badge a ≡ false)
          → AbortFits f e x.waiters a → AbortFits g e (x.waiters ++ (t ∷ [])) a
      marked none free m = tt
      marked (some a) free m =
          record {
            badge = m.badge;
            before = m.before;
            behind = m.behind ++ (t ∷ []);
            within =
                ap (λ (l : List ℕ). l ++ (t ∷ [])) m.within ∙ simp append_assoc;
            sends = λ u k. sends u k (same? u t);
            none_outside = λ u h b. outside u h b (same? u t);
          }
        where
          sends : (u : ℕ) → Mem u a.pending → Same u t → (g u).place ≡ sending e
          sends u k (same i _) = absurd (out (inl (rw i at (m.sends u k))))
          sends u k (other n _) = rw (away u n) (m.sends u k)

          outside : (u : ℕ) → (g u).place ≡ sending e → (g u).badge ≡ a.badge → Same u t → Mem u a.pending
          outside u h b (same i _) =
              absurd (clash (eq-eqb a.badge (g t).badge (sym (rw i at b))) (free (rw i at h)))
          outside u h b (other n _) = m.none_outside u (rw (away u n) at h) (rw (away u n) at b)

-- Only other fields than place and badge change.
pub site_same :
    (f g : ℕ → Thread) (e : ℕ) {x : Endpoint} → ((u : ℕ) → (g u).place ≡ (f u).place)
    → ((u : ℕ) → (g u).badge ≡ (f u).badge) → Site f e x → Site g e x
site_same f g e {x} place badge S =
    record {
      unused = S.unused;
      empty = S.empty;
      no_abort = S.no_abort;
      queued = λ u. rw (place u) (S.queued u);
      once = S.once;
      one_kind = λ u v h k. S.one_kind u v (sym (place u) ∙ h) (sym (place v) ∙ k);
      marked = marked x.abort S.marked;
    }
  where
    marked : (a : Option Abort) → AbortFits f e x.waiters a → AbortFits g e x.waiters a
    marked none m = tt
    marked (some a) m =
        record {
          badge = m.badge;
          before = m.before;
          behind = m.behind;
          within = m.within;
          sends = λ u k. place u ∙ m.sends u k;
          none_outside = λ u h b. m.none_outside u (sym (place u) ∙ h) (sym (badge u) ∙ b);
        }

-- Lines

pub not_awaited : {x : Line} {u : ℕ} → x ≡ quiet → x ≡ awaited u → ⊥
not_awaited {x} {u} h k = let z : ◌≡◌ {A = ℕ} 0 1 = cc in omega arith

module _ (t : ℕ) (f g : ℕ → Thread) (away : Else t f g) {lines : ℕ → Line} (S : LinesFit f lines) where
  -- t is on no line, before and after.
  pub lines_aside :
      ((l : ℕ) → (f t).place ≡ waiting l → ⊥) → ((l : ℕ) → (g t).place ≡ waiting l → ⊥) → LinesFit g lines
  lines_aside off off' = record { unused = S.unused; on_line = λ u l. on_line u l (same? u t) }
    where
      on_line : (u l : ℕ) → Same u t → (lines l ≡ awaited u) ↔ ((g u).place ≡ waiting l)
      on_line u l (same i _) = rw i (λ h. absurd (off l ((S.on_line t l).0 h)), λ h. absurd (off' l h))
      on_line u l (other n _) = rw (away u n) (S.on_line u l)

  -- t leaves line l, which is then quiet.
  pub lines_leave :
      (now : ℕ → Line) (l : ℕ) → (f t).place ≡ waiting l → ((k : ℕ) → (g t).place ≡ waiting k → ⊥)
      → now l ≡ quiet → Else l lines now → LinesFit g now
  lines_leave now l on off' clear rest =
      record {
        unused = λ k h. unused k h (same? k l);
        on_line = λ u k. (λ h. there u k h (same? u t) (same? k l), λ h. back u k h (same? u t) (same? k l));
      }
    where
      waits : lines l ≡ awaited t
      waits = (S.on_line t l).1 on

      unused : (k : ℕ) → 31 < k → Same k l → now k ≡ quiet
      unused k h (same i _) = rw i clear
      unused k h (other n _) = rest k n ∙ S.unused k h

      there : (u k : ℕ) → now k ≡ awaited u → Same u t → Same k l → (g u).place ≡ waiting k
      there u k h i (same j _) =
          let c : now k ≡ quiet = rw j clear in
          let z : ◌≡◌ {A = ℕ} 0 1 = cc in
          absurd (omega arith)
      there u k h (same i _) (other n _) = absurd (n (let w = (S.on_line u k).0 (sym (rest k n) ∙ h) in cc))
      there u k h (other m _) (other n _) = rw (away u m) ((S.on_line u k).0 (sym (rest k n) ∙ h))

      back : (u k : ℕ) → (g u).place ≡ waiting k → Same u t → Same k l → now k ≡ awaited u
      back u k h (same i _) j = absurd (off' k (rw i at h))
      back u k h (other m _) (same j _) =
          absurd (m (let w = (S.on_line u k).1 (rw (away u m) at h) in cc waits))
      back u k h (other m _) (other n _) = rest k n ∙ (S.on_line u k).1 (rw (away u m) at h)

  -- t comes to line l, which had no waiter.
  pub lines_join :
      (now : ℕ → Line) (l : ℕ) → l ≤ 31 → ((k : ℕ) → (f t).place ≡ waiting k → ⊥) → (g t).place ≡ waiting l
      → ((u : ℕ) → lines l ≡ awaited u → ⊥) → now l ≡ awaited t → Else l lines now → LinesFit g now
  lines_join now l low off on' free taken rest =
      record {
        unused = λ k h. rest k (λ i. let z : 31 < l = rw i at h in omega arith) ∙ S.unused k h;
        on_line = λ u k. (λ h. there u k h (same? u t) (same? k l), λ h. back u k h (same? u t) (same? k l));
      }
    where
      there : (u k : ℕ) → now k ≡ awaited u → Same u t → Same k l → (g u).place ≡ waiting k
      there u k h (same i _) (same j _) = rw (i, j) on'
      there u k h (same i _) (other n _) = absurd (off k (rw i at ((S.on_line u k).0 (sym (rest k n) ∙ h))))
      there u k h (other m _) (same j _) = absurd (m (let w : now k ≡ awaited t = rw j taken in cc))
      there u k h (other m _) (other n _) = rw (away u m) ((S.on_line u k).0 (sym (rest k n) ∙ h))

      back : (u k : ℕ) → (g u).place ≡ waiting k → Same u t → Same k l → now k ≡ awaited u
      back u k h (same i _) (same j _) = rw (i, j) taken
      back u k h (same i _) (other n _) = absurd (n (let w : (g u).place ≡ waiting l = rw i on' in cc))
      back u k h (other m _) (same j _) =
          absurd (free u (rw j at ((S.on_line u k).1 (rw (away u m) at h))))
      back u k h (other m _) (other n _) = rest k n ∙ (S.on_line u k).1 (rw (away u m) at h)

pub lines_same :
    (f g : ℕ → Thread) {lines : ℕ → Line} → ((u : ℕ) → (g u).place ≡ (f u).place) → LinesFit f lines → LinesFit g lines
lines_same f g place S = record { unused = S.unused; on_line = λ u l. rw (place u) (S.on_line u l) }

-- Line l, with no waiter before and after, is in range.
pub lines_set :
    (f : ℕ → Thread) {lines : ℕ → Line} (now : ℕ → Line) (l : ℕ) → LinesFit f lines → l ≤ 31
    → ((u : ℕ) → lines l ≡ awaited u → ⊥) → ((u : ℕ) → now l ≡ awaited u → ⊥) → Else l lines now → LinesFit f now
lines_set f {lines} now l S low free free' rest =
    record {
      unused = λ k h. rest k (λ i. let z : 31 < l = rw i at h in omega arith) ∙ S.unused k h;
      on_line = λ u k. on_line u k (same? k l);
    }
  where
    on_line : (u k : ℕ) → Same k l → (now k ≡ awaited u) ↔ ((f u).place ≡ waiting k)
    on_line u k (same i _) = rw i (λ h. absurd (free' u h), λ h. absurd (free u ((S.on_line u l).1 h)))
    on_line u k (other n _) = rw (rest k n) (S.on_line u k)

-- Sets

pub sets_same :
    (f g : ℕ → Thread) (ends now : ℕ → Endpoint) → ((u : ℕ) → (g u).debt ≡ (f u).debt)
    → ((e : ℕ) → is_aborting (now e).abort ≡ is_aborting (ends e).abort) → SetsFit f ends → SetsFit g now
sets_same f g ends now debt aborting S e t = rw (debt t, aborting e) (S e t)
