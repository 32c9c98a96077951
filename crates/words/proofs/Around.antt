-- The two words of a link: link 0 is the queue itself, link t + 1 is thread t.
use Prim.Native.Nat.{ℕ, zero, suc, ◌+◌, ◌*◌, ◌-◌, ◌≤◌, ◌<◌}
use mathlib.Core.Path.{◌≡◌, refl, sym, subst}
use native.Mathlib.Omega.{arith}
use Rattle.layout.specs.Addresses.{link_at}
use Rattle.words.specs.Access.{Pair}

pub pair_queue : (q x : ℕ) → q ≤ 319 → x ≡ 0 → Pair (1280 + q) q x
unfolding link_at
pair_queue q x h e =
    let i : 2 * (1280 + q) ≡ 2560 + 2 * q = omega arith in
    let j : 2 * (1280 + q) + 1 ≡ 2561 + 2 * q = omega arith in
    let k : 2 * (1280 + q) + 1 < 4096 = omega arith in
    subst (λ (y : ℕ). Pair (1280 + q) q y) (sym e) (record { after = i; before = j; small = k })

pub pair_thread : (q x : ℕ) → x ≤ 256 → (x ≡ 0 → ⊥) → Pair (5 * (x - 1) + 3) q x
unfolding link_at
pair_thread q zero h n = absurd (n refl)
pair_thread q (suc t) h n =
    let i : 2 * (5 * (suc t - 1) + 3) ≡ 10 * t + 6 = omega arith in
    let j : 2 * (5 * (suc t - 1) + 3) + 1 ≡ 10 * t + 7 = omega arith in
    let k : 2 * (5 * (suc t - 1) + 3) + 1 < 4096 = omega arith in
    record { after = i; before = j; small = k }
