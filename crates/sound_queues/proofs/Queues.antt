-- The walk through the queue of a level.
use Prim.Native.Nat.{ℕ, zero, suc, ◌-◌, ◌≤◌, ◌<◌}
use mathlib.Core.Bool.{Bool, true, false, ◌&&◌, false≢true}
use mathlib.Core.List.{List, ◌∷◌}
use mathlib.Core.Path.{◌≡◌, refl, ap, sym, ◌∙◌}
use native.Mathlib.Omega.{arith}
use lib.Dec.{eqb, leb}
use lib.ListN.{length}
use borrow.Author.Tests.{le-leb, lt-leb}
use Rattle.layout.specs.declared.Link.{Link}
use Rattle.layout.specs.Addresses.{word, link_at}
use Rattle.soundness.specs.Checks.{ready_test, level_from, level_test, met_from, met}
use Rattle.sound_queues.specs.Met.{Meets, Follows}
use Rattle.sound_queues.proofs.Walking.{and_right, MetSoFar, passed_none, passed_more, passed_all, met_more}
use Rattle.sound_queues.proofs.Walking.{met_done}

-- What holds at the head of the walk's loop: it is at link y, behind x, with some turns left.
pub record LevelAt (m : List ℕ) (p : ℕ) (before after : List ℕ) (x y left : ℕ) : Type 0 where
  pub few : left ≤ 257
  pub kept : length after ≡ 256
  pub same : level_test m p ≡ level_from left y m p x
  pub passed : MetSoFar before after (met_from 257 (word m (link_at (Link.Head p))) m) (met_from left y m)

-- Thread t is met behind link x as it should be.
abbrev met_well : List ℕ → ℕ → ℕ → ℕ → Bool
met_well m p x t = leb t 255 && eqb (word m (link_at (Link.Prev t))) x && ready_test m p t

module _ (m : List ℕ) (p : ℕ) where
  -- One turn more makes no difference where the walk comes to its end.
  level_short : (n y x : ℕ) → level_from (suc n) y m p x ≡ true → met_from (suc n) y m ≡ met_from n y m
  unfolding level_from met_from
  level_short zero zero x e = refl
  level_short zero (suc t) x e = absurd (false≢true (and_right (met_well m p x t) false e))
  level_short (suc n) zero x e = refl
  level_short (suc n) (suc t) x e =
      let y : ℕ = word m (link_at (Link.Next t)) in
      ap (λ (l : List ℕ). t ∷ l)
      (level_short n y (suc t) (and_right (met_well m p x t) (level_from (suc n) y m p (suc t)) e))

  level_met : level_test m p ≡ true → met_from 257 (word m (link_at (Link.Head p))) m ≡ met m p
  unfolding level_test met
  level_met e = level_short 256 (word m (link_at (Link.Head p))) 0 e

  pub level_holds : (s : List ℕ) {y : ℕ} → length s ≡ 256 → y ≡ word m (link_at (Link.Head p)) → LevelAt m p s s 0 y 257
  unfolding level_test
  level_holds s {y} h e = rw e (record { few = omega arith; kept = h; same = refl; passed = passed_none _ _ })

  level_end :
      (left y x : ℕ) {w : ℕ} → 0 < left → y ≡ 0 → level_test m p ≡ level_from left y m p x
      → w ≡ word m (link_at (Link.Tail p)) → eqb w x ≡ level_test m p
  unfolding level_from
  level_end zero y x h z e f = absurd (omega arith)
  level_end (suc n) zero x h z e f = rw f (sym e)
  level_end (suc n) (suc t) x h z e f = absurd (omega arith)

  level_far :
      (left y x : ℕ) → 0 < left → 256 < y → level_test m p ≡ level_from left y m p x → false ≡ level_test m p
  unfolding level_from
  level_far zero y x h z e = absurd (omega arith)
  level_far (suc n) zero x h z e = absurd (omega arith)
  level_far (suc n) (suc t) x h z e = rw (e, lt-leb t 255 (omega arith))

  -- The thread of link y, behind link x, is as it should be.
  abbrev pub ReadyStands : ℕ → ℕ → Bool → Type 0
  ReadyStands x y r = r ≡ (eqb (word m (link_at (Link.Prev (y - 1)))) x && ready_test m p (y - 1))

  level_not :
      (left y x : ℕ) {r : Bool} → 0 < left → (y ≡ 0 → ⊥) → y ≤ 256 → ReadyStands x y r → r ≡ false
      → level_test m p ≡ level_from left y m p x → false ≡ level_test m p
  unfolding level_from
  level_not zero y x h n z k b e = absurd (omega arith)
  level_not (suc l) zero x h n z k b e = absurd (n refl)
  level_not (suc l) (suc t) x {r} h n z k b e =
      let q : suc t - 1 ≡ t = omega arith in
      let s : (eqb (word m (link_at (Link.Prev t))) x && ready_test m p t) ≡ false = sym (rw q at k) ∙ b in
      rw (e, le-leb t 255 (omega arith), s)

  level_next :
      (left y x : ℕ) {r : Bool} {z : ℕ} → 0 < left → (y ≡ 0 → ⊥) → y ≤ 256 → ReadyStands x y r → r ≡ true
      → z ≡ word m (link_at (Link.Next (y - 1))) → level_test m p ≡ level_from left y m p x
      → level_test m p ≡ level_from (left - 1) z m p y
  unfolding level_from
  level_next zero y x h n z k b w e = absurd (omega arith)
  level_next (suc l) zero x h n z k b w e = absurd (n refl)
  level_next (suc l) (suc t) x {r} h n z k b w e =
      let q : suc t - 1 ≡ t = omega arith in
      let o : suc l - 1 ≡ l = omega arith in
      let s : (eqb (word m (link_at (Link.Prev t))) x && ready_test m p t) ≡ true = sym (rw q at k) ∙ b in
      rw (o, w, q) (rw (le-leb t 255 (omega arith), s) at e)

  module _ {before after : List ℕ} {x y left : ℕ} (c : LevelAt m p before after x y left) where
    pub level_walked :
        {w : ℕ} → 0 < left → y ≡ 0 → w ≡ word m (link_at (Link.Tail p))
        → Follows before after (met m p) (level_test m p) (eqb w x)
    level_walked {w} h z f =
        let i : eqb w x ≡ level_test m p = level_end left y x h z c.same f in
        record {
          is = i;
          meets = λ b.
              passed_all (rw (level_met (sym i ∙ b), met_done m left y z) at c.passed);
        }

    pub level_out : 0 < left → 256 < y → false ≡ level_test m p
    level_out h z = level_far left y x h z c.same

    pub level_bad :
        {r : Bool} → 0 < left → (y ≡ 0 → ⊥) → y ≤ 256 → ReadyStands x y r → r ≡ false → false ≡ level_test m p
    level_bad h n z k b = level_not left y x h n z k b c.same

    pub level_long : left ≤ 0 → false ≡ level_test m p
    unfolding level_from
    level_long h = let z : left ≡ 0 = omega arith in sym (c.same ∙ ap (λ (n : ℕ). level_from n y m p x) z)

    pub level_again :
        {r : Bool} {z : ℕ} {marked : List ℕ} → 0 < left → (y ≡ 0 → ⊥) → y ≤ 256 → ReadyStands x y r → r ≡ true
        → Meets after marked (y - 1) → length marked ≡ length after → z ≡ word m (link_at (Link.Next (y - 1)))
        → LevelAt m p before marked y z (left - 1)
    level_again {z = z} h n l k b d s w =
        record {
          few = let f = c.few in omega arith;
          kept = s ∙ c.kept;
          same = level_next left y x h n l k b w c.same;
          passed = passed_more (y - 1) (rw (met_more m left y {z = z} h n w) at c.passed) d;
        }
