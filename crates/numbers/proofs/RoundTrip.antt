-- The six numbers of a call name that call: what the reader gives, a call takes, and the writer too. And six numbers
-- that name a call are that call's own.
use Prim.Native.Nat.{ℕ, zero, suc, ◌<◌}
use mathlib.Core.Path.{◌≡◌, refl, sym, ap}
use mathlib.Core.Option.{Option, none, some, some-injective}
use mathlib.Core.List.{List, [], ◌∷◌}
use native.Mathlib.Omega.{arith}
use borrow.Author.Tests.{ne_eqb}
use Rattle.calls.specs.declared.Call.{Call}
use Rattle.calls.specs.declared.Call.TheVariants.{CreateThread, DestroyThread, SetPriority, CreateEndpoint}
use Rattle.calls.specs.declared.Call.TheVariants.{Interrupt, Tick, Send, Receive, Yield, Wait, Delete, Abort}
use Rattle.calls.specs.declared.Call.TheVariants.{Grant}
use Rattle.journal.specs.Words.{unused, call_of}
use Rattle.journal.proofs.Numbers.{by_number}
use Rattle.numbers.specs.Numbers.{short, without_rights, call_in, numbers_of}

pub numbers_name : (c : Call) → call_in (numbers_of c) ≡ some c
unfolding call_in numbers_of call_of
numbers_name (CreateThread t p) = refl
numbers_name (DestroyThread t) = refl
numbers_name (SetPriority t p) = refl
numbers_name (CreateEndpoint e) = refl
numbers_name (Interrupt l) = refl
numbers_name Tick = refl
numbers_name (Send e b m) = refl
numbers_name (Receive e) = refl
numbers_name Yield = refl
numbers_name (Wait l) = refl
numbers_name (Delete e a) = refl
numbers_name (Abort e a b) = refl
numbers_name (Grant t e r b) = refl

-- Whatever call is named has these numbers.
abbrev Own : List ℕ → Option Call → Type 0
Own ns o = (c : Call) → o ≡ some c → numbers_of c ≡ ns

own : (d : Call) → Own (numbers_of d) (some d)
own d c e = ap numbers_of (sym (some-injective d c e))

none_own : (ns : List ℕ) → Own ns none
none_own ns c e = let z : ◌≡◌ {A = ℕ} 0 1 = cc in absurd (omega arith)

-- A number that the call has not is 0.
unused_own : (p : ℕ) (o : Option Call) (ns : ℕ → List ℕ) → Own (ns 0) o → Own (ns p) (unused p o)
unused_own zero o ns h = h
unused_own (suc p) o ns h = none_own (ns (suc p))

module _ (n s a b m r : ℕ) where
  -- A call without badge, message and rights, or none.
  plainly :
      (o : Option Call) → Own (n ∷ s ∷ a ∷ 0 ∷ 0 ∷ 0 ∷ []) o
      → Own (n ∷ s ∷ a ∷ b ∷ m ∷ r ∷ []) (unused r (unused b (unused m o)))
  plainly o h =
      unused_own r (unused b (unused m o)) (λ x. n ∷ s ∷ a ∷ b ∷ m ∷ x ∷ [])
      (unused_own b (unused m o) (λ x. n ∷ s ∷ a ∷ x ∷ m ∷ 0 ∷ [])
      (unused_own m o (λ x. n ∷ s ∷ a ∷ 0 ∷ x ∷ 0 ∷ []) h))

  -- So too without argument, and without subject.
  no_argument :
      (o : Option Call) → Own (n ∷ s ∷ 0 ∷ 0 ∷ 0 ∷ 0 ∷ []) o
      → Own (n ∷ s ∷ a ∷ b ∷ m ∷ r ∷ []) (unused r (unused b (unused m (unused a o))))
  no_argument o h = plainly (unused a o) (unused_own a o (λ x. n ∷ s ∷ x ∷ 0 ∷ 0 ∷ 0 ∷ []) h)

  no_subject :
      (o : Option Call) → Own (n ∷ 0 ∷ 0 ∷ 0 ∷ 0 ∷ 0 ∷ []) o
      → Own (n ∷ s ∷ a ∷ b ∷ m ∷ r ∷ []) (unused r (unused b (unused m (unused s (unused a o)))))
  no_subject o h =
      plainly (unused s (unused a o))
      (unused_own s (unused a o) (λ x. n ∷ x ∷ a ∷ 0 ∷ 0 ∷ 0 ∷ [])
      (unused_own a o (λ x. n ∷ 0 ∷ x ∷ 0 ∷ 0 ∷ 0 ∷ []) h))

module _ (s a b m r : ℕ) where
  abbrev six : ℕ → List ℕ
  six n = n ∷ s ∷ a ∷ b ∷ m ∷ r ∷ []

  -- No call has a number above 13.
  more : (n : ℕ) → 13 < n → call_of n s a [] ≡ none → Own (six n) (call_in (six n))
  unfolding call_in
  more n l h =
      rw (ne_eqb n 13 (λ e. omega arith), ne_eqb n 7 (λ e. omega arith), ne_eqb n 12 (λ e. omega arith), h)
      (plainly n s a b m r none (none_own _))

  own_named : (n : ℕ) → Own (six n) (call_in (six n))
  unfolding call_in numbers_of call_of
  own_named =
      by_number (λ n. Own (six n) (call_in (six n)))
      (plainly 0 s a b m r none (none_own _))
      (plainly 1 s a b m r (some (CreateThread s a)) (own (CreateThread s a)))
      (no_argument 2 s a b m r (some (DestroyThread s)) (own (DestroyThread s)))
      (plainly 3 s a b m r (some (SetPriority s a)) (own (SetPriority s a)))
      (no_argument 4 s a b m r (some (CreateEndpoint s)) (own (CreateEndpoint s)))
      (no_argument 5 s a b m r (some (Interrupt s)) (own (Interrupt s)))
      (no_subject 6 s a b m r (some Tick) (own Tick))
      (unused_own r (unused a (some (Send s b m))) (λ x. 7 ∷ s ∷ a ∷ b ∷ m ∷ x ∷ [])
      (unused_own a (some (Send s b m)) (λ x. 7 ∷ s ∷ x ∷ b ∷ m ∷ 0 ∷ []) (own (Send s b m))))
      (no_argument 8 s a b m r (some (Receive s)) (own (Receive s)))
      (no_subject 9 s a b m r (some Yield) (own Yield))
      (no_argument 10 s a b m r (some (Wait s)) (own (Wait s)))
      (plainly 11 s a b m r (some (Delete s a)) (own (Delete s a)))
      (unused_own r (unused m (some (Abort s a b))) (λ x. 12 ∷ s ∷ a ∷ b ∷ m ∷ x ∷ [])
      (unused_own m (some (Abort s a b)) (λ x. 12 ∷ s ∷ a ∷ b ∷ x ∷ 0 ∷ []) (own (Abort s a b))))
      (unused_own m (some (Grant s a r b)) (λ x. 13 ∷ s ∷ a ∷ b ∷ x ∷ r ∷ []) (own (Grant s a r b)))
      (λ k.
      more (suc (suc (suc (suc (suc (suc (suc (suc (suc (suc (suc (suc (suc (suc k)))))))))))))) (omega arith) refl)

-- Six numbers that name a call are that call's own; so no two lists of six name the same call.
pub named_numbers :
    (n s a b m r : ℕ) (c : Call) → call_in (n ∷ s ∷ a ∷ b ∷ m ∷ r ∷ []) ≡ some c
    → numbers_of c ≡ n ∷ s ∷ a ∷ b ∷ m ∷ r ∷ []
named_numbers n s a b m r c e = own_named s a b m r n c e
