-- One call more is counted, or none is left.
use Prim.Native.Nat.{ℕ, suc, ◌+◌, ◌-◌, ◌≤◌, ◌<◌}
use mathlib.Core.Path.{◌≡◌, refl, sym, ap, subst, ◌∙◌}
use mathlib.Core.Bool.{Bool, true, false, true≢false}
use mathlib.Core.Logic.{◌⊎◌, inl, inr}
use mathlib.Core.Option.{Option, none}
use Rattle.std.specs.Prelude.{Result, Ok, Err, None, Some}
use Rattle.std.specs.Prelude as source
use mathlib.Core.List.{List}
use native.Mathlib.Omega.{arith}
use borrow.Author.Tests.{eq-eqb, eqb-true, eqb-false}
use lib.Dec.{eqb}
use lib.ListN.{length, get_or, set, replicate, length-set, length-replicate, get_or-replicate}
use lib.Seq.{get_or-set_same, get_or-set_other, ext_get_or}
use Rattle.calls.specs.declared.Answer.{Answer}
use Rattle.calls.specs.declared.Call.{Call}
use Rattle.calls.specs.declared.Refusal.{Refusal}
use Rattle.calls.specs.Answers.{thread_of, seat}
use Rattle.machine.specs.Lists.{pick}
use Rattle.journal.specs.Course.{Made, Course, course_of, stop_code}
use Rattle.layout.specs.Words.{tabulate}
use Rattle.layout.proofs.Image.{length_tabulate, get_d_tabulate}
use Rattle.journal.specs.declared.types.Read.{Read}
use Rattle.journal.specs.declared.types.Read.TheVariants.{Found, Refused, Ended}
use Rattle.journal.specs.Words.{read_at}
use Rattle.journal.proofs.Refusals.{refused_at}
use Rattle.lent_tables.specs.Entries.{Lent}
use Rattle.rows.specs.declared.Turn.{Turn}
use Rattle.rows.specs.Taking.{Turned, turned, code_of}
use Rattle.rows.specs.Run.{Ran}
use Rattle.rows.proofs.Run.{made_by, Next, Last, seat_small}
use Rattle.billing.specs.Ticks.{ticked, ticks_of, count_words, counts_of}
use Rattle.billing.proofs.Few.{ticks_few}
use Rattle.ticks.specs.declared.Place.{Place}
use Rattle.ticks.specs.Counting.{call_alone, Counting, CountedAll, After, OverBy}

abbrev pub place : ℕ → ℕ → Place
place at who = record { at = at; who = who }

-- A call is a tick by itself and its answer alone.
same_tick :
    (i : ℕ) (who : Option ℕ) (c : Call) (a : Answer) (w : source.Option ℕ)
    → ticked (call_alone c a) ≡ ticked (made_by i who c a w)
unfolding ticked
same_tick i who c a w = refl

module _ {journal : List ℕ} {m : Lent} where
  -- Nothing is counted yet.
  pub begun :
      {counts : List ℕ} → counts ≡ replicate count_words 0 → Ran journal 0 0 none m (course_of journal)
      → Counting journal (place 0 256) m counts
  begun {counts} e r =
      record {
        index = 0;
        who = none;
        rest = course_of journal;
        within = omega arith;
        seated = refl;
        small = omega arith;
        long = ap length e ∙ length-replicate {A = ℕ} count_words 0;
        each =
            λ k h.
            let z : get_or counts k 0 ≡ 0 =
            ap (λ (l : List ℕ). get_or l k 0) e ∙ get_or-replicate {A = ℕ} count_words k 0 0 h in
            omega (arith, z);
        stops = refl;
        ran = r;
      }

  module _ {p : Place} {counts : List ℕ} (z : Counting journal p m counts) where
    -- A call was taken.
    module _ {c : Call} {a : Answer} {w : source.Option ℕ} {next : ℕ} {m' : Lent}
        (n : Next journal p.at z.index z.who c a w next m' z.rest) where
      abbrev now_made : Made
      now_made = made_by z.index z.who c a w

      -- The ticks to come of a number are that of the call and those of the others.
      split : (k : ℕ)
          → ticks_of k z.rest.made
          ≡ pick (eqb p.who k) (ticked now_made) 0 + ticks_of k n.others.made
      unfolding ticks_of
      split k =
          ap (λ (l : Course). ticks_of k l.made) n.first
          ∙ ap (λ (j : ℕ). pick (eqb j k) (ticked now_made) 0 + ticks_of k n.others.made) (sym z.seated)

      -- The count of who ran before has room for it.
      pub fits : (t : ℕ) → t ≡ ticked (call_alone c a) → get_or counts p.who 0 + t ≤ length journal
      fits t is =
          let one : t ≡ ticked now_made = is ∙ same_tick z.index z.who c a w in
          let e = z.each p.who (omega (arith, z.small)) in
          let same : pick (eqb p.who p.who) (ticked now_made) 0 ≡ ticked now_made =
          ap (λ (b : Bool). pick b (ticked now_made) 0) (eq-eqb p.who p.who refl) in
          omega (arith, e, split p.who, same, one, ticks_few p.who journal)

      added : (t : ℕ) → t ≡ ticked now_made → (k : ℕ) → k < count_words
          → get_or (set counts p.who (get_or counts p.who 0 + t)) k 0 + ticks_of k n.others.made
          ≡ ticks_of k (course_of journal).made
      added t is k h = by (eqb p.who k) refl
        where
          by : (b : Bool) → eqb p.who k ≡ b
              → get_or (set counts p.who (get_or counts p.who 0 + t)) k 0 + ticks_of k n.others.made
              ≡ ticks_of k (course_of journal).made
          by true e =
              let same = eqb-true p.who k e in
              let new : get_or (set counts p.who (get_or counts p.who 0 + t)) k 0 ≡ get_or counts k 0 + t =
              ap (λ (j : ℕ). get_or (set counts j (get_or counts j 0 + t)) k 0) same
              ∙ get_or-set_same counts k (get_or counts k 0 + t) 0 (omega (arith, z.long, h)) in
              let now : pick (eqb p.who k) (ticked now_made) 0 ≡ ticked now_made =
              ap (λ (b : Bool). pick b (ticked now_made) 0) e in
              omega (arith, new, now, is, split k, z.each k h)
          by false e =
              let new : get_or (set counts p.who (get_or counts p.who 0 + t)) k 0 ≡ get_or counts k 0 =
              get_or-set_other counts p.who k (get_or counts p.who 0 + t) 0 (λ q. eqb-false p.who k e (sym q)) in
              let now : pick (eqb p.who k) (ticked now_made) 0 ≡ 0 =
              ap (λ (b : Bool). pick b (ticked now_made) 0) e in
              omega (arith, new, now, split k, z.each k h)

      pub one_more :
          {p' : Place} {counts' : List ℕ} {t who : ℕ}
          → counts' ≡ set counts p.who (get_or counts p.who 0 + t) → t ≡ ticked (call_alone c a)
          → who ≡ seat (thread_of w) → p' ≡ place next who → Counting journal p' m' counts'
      one_more {counts' = counts'} {t} {who} e is s f =
          subst (λ (q : Place). Counting journal q m' counts') (sym f)
          (subst (λ (l : List ℕ). Counting journal (place next who) m' l) (sym e)
          (record {
            index = suc z.index;
            who = thread_of w;
            rest = n.others;
            within = n.further.within;
            seated = s;
            small = omega (arith, s, seat_small n.ran);
            long = length-set counts p.who (get_or counts p.who 0 + t) ∙ z.long;
            each = added t (is ∙ same_tick z.index z.who c a w);
            stops = sym (ap (λ (l : Course). stop_code l.stop) n.first) ∙ z.stops;
            ran = n.ran;
          }))

    -- No call was taken, so all is counted.
    pub counted :
        {code code' : ℕ} → Last z.index z.who z.rest code → code' ≡ code → CountedAll journal code' counts
    unfolding counts_of ticks_of
    counted l e =
        let f : ℕ → ℕ = λ i. ticks_of i (course_of journal).made in (
          e ∙ sym l.number ∙ z.stops,
          ext_get_or 0 counts (tabulate count_words f) (z.long ∙ sym (length_tabulate count_words f))
              (λ i h.
              let k : i < count_words = omega (arith, h, z.long) in
              let none_left = ap (λ (l : List Made). ticks_of i l) l.none_left in
              let is = get_d_tabulate count_words f i k in
              omega (arith, z.each i k, none_left) ∙ sym is),
        )

    pub counted_after :
        {code code' : ℕ} → Last z.index z.who z.rest code → code' ≡ code
        → (r : Result (source.Option Place) Refusal) → OverBy code' r → (m' : Lent) → After journal p r m' counts
    counted_after l e (Ok (Some q)) o m' = absurd o
    counted_after l e (Ok None) o m' = counted l (sym o ∙ e)
    counted_after l e (Err why) o m' = counted l (sym o ∙ e)

-- The number of a turn that took no call is the reader's: 18 or 19, or 0.
abbrev Numbered : ℕ → Type 0
Numbered n = ((n ≡ 0) ⊎ (n ≡ 18)) ⊎ (n ≡ 19)

module _ (journal : List ℕ) (at : ℕ) (m : Lent) where
  by_read : (r : Read) → read_at journal at ≡ r → Numbered (code_of (turned r m).turn)
  by_read (Found c next) e = inl (inl refl)
  by_read (Refused code p) e =
      elim (refused_at journal at code p e).number [ inl h ↦ inl (inr h) | inr h ↦ inr h ]
  by_read Ended e = inl (inl refl)

  pub numbered :
      (t : Turn) (left : Lent) → ◌≡◌ {A = Turned} (record { turn = t; left = left }) (turned (read_at journal at) m)
      → (n : ℕ) → n ≡ code_of t → ((n ≡ 0) ⊎ (n ≡ 18)) ⊎ (n ≡ 19)
  numbered t left e n is =
      subst Numbered (sym (is ∙ ap (λ (k : Turned). code_of k.turn) e)) (by_read (read_at journal at) refl)
