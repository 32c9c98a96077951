-- What is printed, by the order of the refusals; and that counts that were not refused are few.
use Prim.Native.Nat.{ℕ, zero, suc, ◌%◌, ◌≤◌, ◌<◌}
use mathlib.Core.Path.{◌≡◌, refl, sym, ap, subst, ◌∙◌}
use mathlib.Core.Bool.{Bool, true, false, ◌&&◌}
use mathlib.Core.List.{List}
use native.Mathlib.Omega.{arith}
use borrow.Author.Tests.{le-leb, lt-leb, leb-true}
use lib.Dec.{leb, eqb}
use lib.ListN.{length, drop, get_or, replicate}
use Rattle.machine.specs.Lists.{pick}
use Rattle.layout.specs.Words.{tabulate}
use Rattle.layout.proofs.Image.{length_tabulate}
use Rattle.journal.specs.Course.{course_of, stop_code}
use Rattle.input.specs.Words.{little_endian, words_in}
use Rattle.billing.specs.Ticks.{ticks_of, count_words, counts_of, most_words, most_rate, Counted, unless_refused}
use Rattle.billing.specs.Ticks.{count_for}
use Rattle.billing.specs.Bills.{bill_of, alone, unless_odd, bill_unless, printed}
use Rattle.billing.proofs.Few.{ticks_few}
use Rattle.bills.specs.Lines.{Few}
use Rattle.calls.specs.declared.Refusal.{Refusal}
use Rattle.calls.specs.declared.Refusal.TheVariants.{Length, Unsound, NoCall, Range, NobodyRuns, ThreadAbsent}
use Rattle.calls.specs.declared.Refusal.TheVariants.{ThreadPresent, EndpointAbsent, EndpointPresent}
use Rattle.calls.specs.declared.Refusal.TheVariants.{EndpointClosing, BadgeAborted, LineTaken, Short, NoRight, Limits}
use Rattle.calls.specs.Answers.{code_of}

abbrev pub counted : ℕ → List ℕ → Counted
counted code counts = record { code = code; counts = counts }

-- Counting begins with counts of 0.
pub begun_with :
    (journal : List ℕ) (rate : ℕ) {own : List ℕ} → own ≡ replicate count_words 0 → (code : ℕ) (counts : List ℕ)
    → counted code counts ≡ count_for journal rate own
    → counted code counts ≡ count_for journal rate (replicate count_words 0)
begun_with journal rate z code counts e = e ∙ ap (λ (l : List ℕ). count_for journal rate l) z

-- A refusal's number is not 0.
some_code : (why : Refusal) → 1 ≤ code_of why
some_code Length = omega arith
some_code Unsound = omega arith
some_code NoCall = omega arith
some_code Range = omega arith
some_code NobodyRuns = omega arith
some_code ThreadAbsent = omega arith
some_code ThreadPresent = omega arith
some_code EndpointAbsent = omega arith
some_code EndpointPresent = omega arith
some_code EndpointClosing = omega arith
some_code BadgeAborted = omega arith
some_code LineTaken = omega arith
some_code Short = omega arith
some_code NoRight = omega arith
some_code Limits = omega arith

-- By the number that counting answers

pub short_printed : (input : List ℕ) → length input < 4 → printed input ≡ alone 18
unfolding printed
short_printed input h = rw (lt-leb 4 (length input) h)

module _
    (input : List ℕ)
    (enough : 4 ≤ length input)
    (rate : ℕ)
    (counts : List ℕ)
    (is : rate ≡ little_endian input 0)
  where
    abbrev Answers : ℕ → Type 0
    Answers code = counted code counts ≡ count_for (words_in (drop 4 input)) rate (replicate count_words 0)

    by_counting : (code : ℕ) → Answers code → printed input ≡ bill_unless code counts rate (length input % 4)
    unfolding printed
    by_counting code e = rw (le-leb 4 (length input) enough, ← is, ← e)

    pub refused_printed : (why : Refusal) → Answers (code_of why) → printed input ≡ alone (code_of why)
    refused_printed why e = by_counting (code_of why) e ∙ go (code_of why) (some_code why)
      where
        go : (n : ℕ) → 1 ≤ n → bill_unless n counts rate (length input % 4) ≡ alone n
        go zero g = absurd (omega (arith, g))
        go (suc n) g = refl

    accepted_printed : Answers 0 → printed input ≡ unless_odd (length input % 4) (bill_of rate counts)
    accepted_printed e = by_counting 0 e

    pub odd_printed : Answers 0 → 1 ≤ length input % 4 → printed input ≡ alone 18
    odd_printed e h = accepted_printed e ∙ go (length input % 4) h
      where
        go : (n : ℕ) → 1 ≤ n → unless_odd n (bill_of rate counts) ≡ alone 18
        go zero g = absurd (omega (arith, g))
        go (suc n) g = refl

    pub bill_printed : Answers 0 → length input % 4 ≡ 0 → printed input ≡ bill_of rate counts
    bill_printed e h = accepted_printed e ∙ ap (λ (n : ℕ). unless_odd n (bill_of rate counts)) h

-- Counts that were not refused

tabulate_below :
    (n m : ℕ) (f : ℕ → ℕ) → ((i : ℕ) → f i ≤ m) → (i : ℕ) → get_or (tabulate n f) i 0 ≤ m
unfolding tabulate
tabulate_below zero m f below i = omega arith
tabulate_below (suc n) m f below zero = below 0
tabulate_below (suc n) m f below (suc i) =
    tabulate_below n m (λ (k : ℕ). f (suc k)) (λ (k : ℕ). below (suc k)) i

few_ticks : (journal : List ℕ) → length journal ≤ most_words → Few (counts_of journal)
unfolding counts_of
few_ticks journal h = record {
  all = length_tabulate count_words (λ (i : ℕ). ticks_of i (course_of journal).made);
  each =
      tabulate_below count_words most_words (λ (i : ℕ). ticks_of i (course_of journal).made)
      (λ (i : ℕ). omega (arith, h, ticks_few i journal));
}

-- What was counted was within the limits.
pub record Within (rate : ℕ) (counts : List ℕ) : Type 0 where
  pub low : rate ≤ most_rate
  pub few : Few counts

module _ (journal own counts : List ℕ) (rate code : ℕ) (z : code ≡ 0) where
  counted_within :
      (n : ℕ) → counted code counts ≡ unless_refused n (counts_of journal) own → length journal ≤ most_words
      → rate ≤ most_rate → Within rate counts
  counted_within zero f h r = record {
    low = r;
    few = subst (λ (l : List ℕ). Few l) (sym (ap (λ (x : Counted). x.counts) f)) (few_ticks journal h);
  }
  counted_within (suc n) f h r = absurd (omega (arith, z, ap (λ (x : Counted). x.code) f))

  beyond : counted code counts ≡ unless_refused 30 (counts_of journal) own → Within rate counts
  beyond f = absurd (omega (arith, z, ap (λ (x : Counted). x.code) f))

  by_limits :
      (a b c : Bool) → leb (length journal) most_words ≡ a → leb rate most_rate ≡ b
      → counted code counts
      ≡ pick (a && b && c) (unless_refused (stop_code (course_of journal).stop) (counts_of journal) own)
      (unless_refused 30 (counts_of journal) own)
      → Within rate counts
  by_limits true true true p q f =
      counted_within (stop_code (course_of journal).stop) f (leb-true (length journal) most_words p)
      (leb-true rate most_rate q)
  by_limits true true false p q f = beyond f
  by_limits true false c p q f = beyond f
  by_limits false b c p q f = beyond f

  pub within : counted code counts ≡ count_for journal rate own → Within rate counts
  unfolding count_for
  within e =
      by_limits (leb (length journal) most_words) (leb rate most_rate) (eqb (length own) count_words) refl refl e
