-- What a call in range says of its numbers.
use Prim.Native.Nat.{ℕ, ◌^◌, ◌≤◌, ◌<◌}
use mathlib.Core.Path.{◌≡◌}
use mathlib.Core.Bool.{true, ◌&&◌, and-eq-true_iff}
use lib.Dec.{leb, ltb}
use borrow.Author.Tests.{leb-true, ltb-true}
use Rattle.calls.specs.declared.Call.{Call}
use Rattle.calls.specs.declared.Call.TheVariants.{CreateThread, DestroyThread, SetPriority, CreateEndpoint}
use Rattle.calls.specs.declared.Call.TheVariants.{Interrupt, Tick, Send, Receive, Yield, Wait, Delete, Abort}
use Rattle.calls.specs.declared.Call.TheVariants.{Grant}
use Rattle.calls.specs.Calls.{is_allowance, in_range}

abbrev pub Bounds : Call → Type 0
Bounds (CreateThread t p) = (t ≤ 255) × (p ≤ 255)
Bounds (DestroyThread t) = t ≤ 255
Bounds (SetPriority t p) = (t ≤ 255) × (p ≤ 255)
Bounds (CreateEndpoint e) = e ≤ 63
Bounds (Interrupt l) = l ≤ 31
Bounds Tick = Unit {0}
Bounds (Send e b m) = (e ≤ 63) × (b < 2 ^ 28) × (m < 2 ^ 28)
Bounds (Receive e) = e ≤ 63
Bounds Yield = Unit {0}
Bounds (Wait l) = l ≤ 31
Bounds (Delete e a) = (e ≤ 63) × ((1 ≤ a) × (a ≤ 65535))
Bounds (Abort e a b) = (e ≤ 63) × ((1 ≤ a) × (a ≤ 65535)) × (b < 2 ^ 28)
Bounds (Grant t e r b) = (t ≤ 255) × (e ≤ 63) × (r ≤ 15) × (b < 2 ^ 28)

both_upto : (m n x y : ℕ) → (leb m x && leb n y) ≡ true → (m ≤ x) × (n ≤ y)
both_upto m n x y h = let k = (and-eq-true_iff (leb m x) (leb n y)).0 h in (leb-true m x k.0, leb-true n y k.1)

pub bounds : (c : Call) → in_range c ≡ true → Bounds c
bounds (CreateThread t p) h = both_upto t p 255 255 h
bounds (DestroyThread t) h = leb-true t 255 h
bounds (SetPriority t p) h = both_upto t p 255 255 h
bounds (CreateEndpoint e) h = leb-true e 63 h
bounds (Interrupt l) h = leb-true l 31 h
bounds Tick h = tt
bounds (Send e b m) h =
    let k = (and-eq-true_iff (leb e 63 && ltb b (2 ^ 28)) (ltb m (2 ^ 28))).0 h in
    let j = (and-eq-true_iff (leb e 63) (ltb b (2 ^ 28))).0 k.0 in
    (leb-true e 63 j.0, ltb-true b (2 ^ 28) j.1, ltb-true m (2 ^ 28) k.1)
bounds (Receive e) h = leb-true e 63 h
bounds Yield h = tt
bounds (Wait l) h = leb-true l 31 h
bounds (Delete e a) h =
    let k = (and-eq-true_iff (leb e 63) (is_allowance a)).0 h in (leb-true e 63 k.0, both_upto 1 a a 65535 k.1)
bounds (Abort e a b) h =
    let k = (and-eq-true_iff (leb e 63 && is_allowance a) (ltb b (2 ^ 28))).0 h in
    let j = (and-eq-true_iff (leb e 63) (is_allowance a)).0 k.0 in
    (leb-true e 63 j.0, both_upto 1 a a 65535 j.1, ltb-true b (2 ^ 28) k.1)
bounds (Grant t e r b) h =
    let k = (and-eq-true_iff ((leb t 255 && leb e 63) && leb r 15) (ltb b (2 ^ 28))).0 h in
    let j = (and-eq-true_iff (leb t 255 && leb e 63) (leb r 15)).0 k.0 in
    let i = both_upto t e 255 63 j.0 in (i.0, i.1, leb-true r 15 j.1, ltb-true b (2 ^ 28) k.1)
