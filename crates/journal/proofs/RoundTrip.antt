-- Reading what was written, and writing what was read.
use mathlib.Core.Path.{◌≡◌, refl, sym, ap, ◌∙◌, subst}
use mathlib.Core.Bool.{Bool, true, false}
use mathlib.Core.List.{List, ◌++◌}
use Prim.Native.Nat.{ℕ, ◌+◌, ◌-◌}
use native.Mathlib.Omega.{arith}
use lib.ListN.{length, take, drop, replicate}
use lib.Seq.{take-append_seam, drop-append_seam}
use Rattle.calls.specs.declared.Call.{Call}
use Rattle.calls.specs.declared.Call.TheVariants.{CreateThread, DestroyThread, SetPriority, CreateEndpoint}
use Rattle.calls.specs.declared.Call.TheVariants.{Interrupt, Tick, Send, Receive, Yield, Wait, Delete, Abort}
use Rattle.calls.specs.declared.Call.TheVariants.{Grant}
use Rattle.calls.specs.Calls.{in_range}
use Rattle.journal.specs.declared.types.Read.{Read}
use Rattle.journal.specs.declared.types.Read.TheVariants.{Found}
use Rattle.machine.specs.Lists.{pick}
use Rattle.journal.specs.Words.{top_byte, words_taken, read_at, words_of, as_written, not_written, written}
use Rattle.journal.proofs.Naming.{in_range_fits, call_read, spelled}
use Rattle.journal.proofs.Outcomes.{Outcome, outcome}
use Rattle.journal.proofs.Outcomes.Outcome.{past_end, no_call, out_of_range, a_call}

-- Reading what was written gives the call and its length, for every call in range, any words before and any after.
pub reads_what_was_written :
    (c : Call) → in_range c ≡ true → (before after : List ℕ) →
    read_at (before ++ (words_of c ++ after)) (length before) ≡ Found c (length before + length (words_of c))
unfolding read_at
reads_what_was_written c h before after =
    rw (drop-append_seam before (words_of c ++ after), call_read (length before) c (in_range_fits c h) after, h)

-- what was read at a place: a call in range, the number of the first word not yet read, and the call's words between
pub record WasRead (journal : List ℕ) (at : ℕ) (c : Call) (next : ℕ) : Type 0 where
  pub in_range_lem : in_range c ≡ true
  pub up_to : next ≡ at + length (words_of c)
  pub words : take (length (words_of c)) (drop at journal) ≡ words_of c

-- Writing what was read gives back exactly the words read.
pub writes_what_was_read :
    (journal : List ℕ) (at : ℕ) (c : Call) (next : ℕ) → read_at journal at ≡ Found c next → WasRead journal at c next
writes_what_was_read journal at c next e = go (read_at journal at) (outcome journal at) e
  where
    go : (r : Read) → Outcome journal at r → r ≡ Found c next → WasRead journal at c next
    go r (past_end h) e = let z : ◌≡◌ {A = ℕ} 0 1 = cc in absurd (omega arith)
    go r (no_call w rest l n) e = let z : ◌≡◌ {A = ℕ} 0 1 = cc in absurd (omega arith)
    go r (out_of_range w rest l k n b) e = let z : ◌≡◌ {A = ℕ} 0 1 = cc in absurd (omega arith)
    go r (a_call w rest l k n b) e =
        let s = spelled w rest k n in
        let is : k ≡ c = cc in
        let next_is : at + words_taken (top_byte w) ≡ next = cc in
        subst (λ (x : Call). WasRead journal at x next) is
        (record {
          in_range_lem = b;
          up_to = sym next_is ∙ ap (λ (x : ℕ). at + x) s.taken;
          words = rw l s.words;
        })

-- the words, with zeros up to three
abbrev pub with_spare : List ℕ → List ℕ
with_spare ws = ws ++ replicate (3 - length ws) 0

spare : (c : Call) → (as_written (words_of c)).words ≡ with_spare (words_of c)
unfolding words_of
spare (CreateThread t p) = refl
spare (DestroyThread t) = refl
spare (SetPriority t p) = refl
spare (CreateEndpoint x) = refl
spare (Interrupt l) = refl
spare Tick = refl
spare (Send x b m) = refl
spare (Receive x) = refl
spare Yield = refl
spare (Wait l) = refl
spare (Delete x a) = refl
spare (Abort x a b) = refl
spare (Grant t x r b) = refl

-- A call in range is written as its words, with how many they are, and spare words 0.
pub writes_the_words :
    (c : Call) → in_range c ≡ true →
    written c ≡ record { code = 0; count = length (words_of c); words = with_spare (words_of c) }
unfolding written
writes_the_words c h =
    rw h (λ i. record { code = 0; count = length (words_of c); words = spare c i })

-- A call out of range gives 19 and zeros.
pub writes_nothing : (c : Call) → in_range c ≡ false → written c
    ≡ record { code = 19; count = 0; words = replicate 3 0 }
unfolding written
writes_nothing c h = rw h

-- What a call was written as, read anywhere, gives the call and its length.
pub reads_back :
    (c : Call) → (written c).code ≡ 0 → (before after : List ℕ) →
    read_at (before ++ (take (written c).count (written c).words ++ after)) (length before)
    ≡ Found c (length before + (written c).count)
unfolding written
reads_back c e before after = go (in_range c) refl e
  where
    go :
        (b : Bool) → in_range c ≡ b → (pick b (as_written (words_of c)) not_written).code ≡ 0 →
        read_at (before ++ (take (written c).count (written c).words ++ after)) (length before)
        ≡ Found c (length before + (written c).count)
    go true b f =
        rw (writes_the_words c b, take-append_seam (words_of c) (replicate (3 - length (words_of c)) 0))
        (reads_what_was_written c b before after)
    go false b f = absurd (omega arith)

-- A call that was read is written as the words that it was read from.
pub writes_back :
    (journal : List ℕ) (at : ℕ) (c : Call) (next : ℕ) → read_at journal at ≡ Found c next →
    written c ≡ record { code = 0; count = next - at; words = with_spare (take (next - at) (drop at journal)) }
writes_back journal at c next e =
    let r = writes_what_was_read journal at c next e in
    let n : next - at ≡ length (words_of c) = omega (arith, r.up_to) in
    rw (n, r.words) (writes_the_words c r.in_range_lem)
