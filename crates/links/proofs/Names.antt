-- The link after x and the link before x of a queue: in range, and which other links they are.
use Prim.Native.Nat.{ℕ, zero, suc, ◌≤◌}
use mathlib.Core.Path.{◌≡◌, refl, sym}
use native.Mathlib.Omega.{arith}
use Rattle.layout.specs.declared.Link.{Link}
use Rattle.layout.specs.Addresses.{ValidLink, after_link, before_link}

pub after_valid : (q x : ℕ) → q ≤ 319 → x ≤ 256 → ValidLink (after_link q x)
after_valid q zero h g = h
after_valid q (suc t) h g = omega arith

pub before_valid : (q x : ℕ) → q ≤ 319 → x ≤ 256 → ValidLink (before_link q x)
before_valid q zero h g = h
before_valid q (suc t) h g = omega arith

-- Links of different kinds differ.

module _ (u v : ℕ) where
  pub next_prev : Link.Next u ≡ Link.Prev v → ⊥
  next_prev e = let z : ◌≡◌ {A = ℕ} 0 1 = cc in omega arith

  pub next_head : Link.Next u ≡ Link.Head v → ⊥
  next_head e = let z : ◌≡◌ {A = ℕ} 0 1 = cc in omega arith

  pub next_tail : Link.Next u ≡ Link.Tail v → ⊥
  next_tail e = let z : ◌≡◌ {A = ℕ} 0 1 = cc in omega arith

  pub prev_head : Link.Prev u ≡ Link.Head v → ⊥
  prev_head e = let z : ◌≡◌ {A = ℕ} 0 1 = cc in omega arith

  pub prev_tail : Link.Prev u ≡ Link.Tail v → ⊥
  prev_tail e = let z : ◌≡◌ {A = ℕ} 0 1 = cc in omega arith

  pub head_tail : Link.Head u ≡ Link.Tail v → ⊥
  head_tail e = let z : ◌≡◌ {A = ℕ} 0 1 = cc in omega arith

-- The link after x is a next or a head, the link before x a prev or a tail.

module _ (u q : ℕ) where
  pub next_after : (x : ℕ) → Link.Next u ≡ after_link q x → suc u ≡ x
  next_after zero e = cc
  next_after (suc t) e = cc

  pub prev_after : (x : ℕ) → Link.Prev u ≡ after_link q x → ⊥
  prev_after zero e = prev_head u q e
  prev_after (suc t) e = next_prev t u (sym e)

  pub head_after : (x : ℕ) → Link.Head u ≡ after_link q x → (u ≡ q) × (x ≡ 0)
  head_after zero e = (cc, refl)
  head_after (suc t) e = (cc, cc)

  pub tail_after : (x : ℕ) → Link.Tail u ≡ after_link q x → ⊥
  tail_after zero e = head_tail q u (sym e)
  tail_after (suc t) e = next_tail t u (sym e)

  pub next_before : (x : ℕ) → Link.Next u ≡ before_link q x → ⊥
  next_before zero e = next_tail u q e
  next_before (suc t) e = next_prev u t e

  pub prev_before : (x : ℕ) → Link.Prev u ≡ before_link q x → suc u ≡ x
  prev_before zero e = cc
  prev_before (suc t) e = cc

  pub head_before : (x : ℕ) → Link.Head u ≡ before_link q x → ⊥
  head_before zero e = head_tail u q e
  head_before (suc t) e = prev_head t u (sym e)

  pub tail_before : (x : ℕ) → Link.Tail u ≡ before_link q x → (u ≡ q) × (x ≡ 0)
  tail_before zero e = (cc, refl)
  tail_before (suc t) e = (cc, cc)

pub after_before : (q x r y : ℕ) → after_link q x ≡ before_link r y → ⊥
after_before q zero r y e = head_before q r y e
after_before q (suc t) r y e = next_before t r y e
