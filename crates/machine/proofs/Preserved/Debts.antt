-- Sets and notes: dropping a thread's debt and ending an abort keep Mid, and what these steps leave as it was.
use Prim.Native.Nat.{ℕ, ◌≤◌, ◌<◌, ◌^◌}
use mathlib.Core.Path.{◌≡◌, refl, ◌∙◌, ap, subst}
use mathlib.Core.Option.{Option, none, some}
use mathlib.Core.Bool.{Bool, true, false}
use native.Mathlib.Omega.{arith}
use lib.Dec.{eqb, leb}
use borrow.Author.Tests.{eq-eqb, eqb-true, leb-true, leb-false}
use Rattle.machine.specs.Lists.{pick, Mem}
use Rattle.machine.specs.State.{State, sending, Debt, nothing, works, noted, Abort, Status, missing, live}
use Rattle.machine.specs.State.{closing, Endpoint, set_endpoint}
use Rattle.machine.specs.Endpoints.{is_aborting, works_at, drop_debt, informed, note_all, note, end_abort}
use Rattle.machine.specs.Sound.{DebtInRange, Stretch}
use Rattle.machine.proofs.Preserved.Ready.{none_some, some_one}
use Rattle.machine.proofs.Lists.{Same, same, other, same?, clash, put_same}
use Rattle.machine.specs.Mid.{Mid}
use Rattle.machine.proofs.Preserved.Statuses.{Keeps, keeps_self, EntryFits, may_stay, fits_stay, bearing}
use Rattle.machine.proofs.Preserved.Statuses.{owing_same, owing_other, keeps_debt, mid_keeps, mid_debt}
use Rattle.machine.proofs.Preserved.Statuses.{mid_entry}

-- Constructors told apart.

pub nothing_works : {d : Debt} {e : ℕ} → d ≡ nothing → d ≡ works e → ⊥
nothing_works {d} {e} p q = let z : ◌≡◌ {A = ℕ} 0 1 = cc in omega arith

noted_works : {d : Debt} {f b e : ℕ} → d ≡ noted f b → d ≡ works e → ⊥
noted_works {d} {f} {b} {e} p q = let z : ◌≡◌ {A = ℕ} 0 1 = cc in omega arith

pub works_one : {d : Debt} {e f : ℕ} → d ≡ works e → d ≡ works f → e ≡ f
works_one {d} {e} {f} p q = cc

pub works_at_lem : (e : ℕ) (d : Debt) → works_at e d ≡ true → d ≡ works e
works_at_lem e nothing h = absurd (clash h refl)
works_at_lem e (works f) h = ap works (eqb-true f e h)
works_at_lem e (noted f b) h = absurd (clash h refl)

-- Where no abort stands nobody works.
pub nobody_works :
    {s : State} → Mid s → (e : ℕ) → is_aborting (s.endpoints e).abort ≡ false
    → (u : ℕ) → works_at e (s.threads u).debt ≡ false
nobody_works {s} M e h u = go (works_at e (s.threads u).debt) refl
  where
    go : (b : Bool) → works_at e (s.threads u).debt ≡ b → b ≡ false
    go true w = absurd (clash (M.members.stands e u (works_at_lem e (s.threads u).debt w)) h)
    go false w = refl

-- Entries of endpoints.

pub live_present : {x : Status} → x ≡ live → x ≡ missing → ⊥
live_present {x} p q = let z : ◌≡◌ {A = ℕ} 0 1 = cc in omega arith

pub closing_present : {x : Status} → x ≡ closing → x ≡ missing → ⊥
closing_present {x} p q = let z : ◌≡◌ {A = ℕ} 0 1 = cc in omega arith

pub closing_live : {x : Status} → x ≡ closing → x ≡ live → ⊥
closing_live {x} p q = let z : ◌≡◌ {A = ℕ} 0 1 = cc in omega arith

module _ {s : State} (M : Mid s) (e : ℕ) where
  -- An abort stands only at a live endpoint.
  pub abort_live : (a : Abort) → (s.endpoints e).abort ≡ some a → (s.endpoints e).status ≡ live
  abort_live a h = go (s.endpoints e).status refl
    where
      go : (x : Status) → (s.endpoints e).status ≡ x → (s.endpoints e).status ≡ live
      go missing p = absurd (none_some (M.statuses.no_abort e (λ l. live_present l p)) h)
      go live p = p
      go closing p = absurd (none_some (M.statuses.no_abort e (λ l. closing_live p l)) h)

  present_low : ((s.endpoints e).status ≡ missing → ⊥) → 63 < e → ⊥
  present_low n h = n (ap (λ (x : Endpoint). x.status) (M.ranges.unused_endpoint e h))

  low : ((s.endpoints e).status ≡ missing → ⊥) → e ≤ 63
  low n = go (leb e 63) refl
    where
      go : (b : Bool) → leb e 63 ≡ b → e ≤ 63
      go true h = leb-true e 63 h
      go false h = absurd (present_low n (leb-false e 63 h))

  -- No abort may stand at a present endpoint.
  pub fits_none :
      (status : Status) → (status ≡ missing → ⊥) → ((s.endpoints e).status ≡ missing → ⊥)
      → EntryFits s e (record { status = status; waiters = (s.endpoints e).waiters; abort = none })
  fits_none status now was =
      record {
        unused = λ h. absurd (present_low was h);
        empty = λ h. absurd (now h);
        no_abort = λ h. refl;
        badge = λ a h. absurd (none_some refl h);
        part = λ a h. absurd (none_some refl h);
        none_outside = λ t a h. absurd (none_some refl h);
      }

  -- The abort a may stand at a live endpoint.
  pub fits_some :
      (a : Abort) → (s.endpoints e).status ≡ live → a.badge < 2 ^ 28 → Stretch s e a.pending
      → ((t : ℕ) → (s.threads t).place ≡ sending e → (s.threads t).badge ≡ a.badge → Mem t a.pending)
      → EntryFits s e (bearing (some a) (s.endpoints e))
  fits_some a l b p o =
      record {
        unused = λ h. absurd (present_low (live_present l) h);
        empty = λ h. absurd (live_present l h);
        no_abort = λ h. absurd (h l);
        badge = λ c h. subst (λ (k : Abort). k.badge < 2 ^ 28) (some_one refl h) b;
        part = λ c h. subst (λ (k : Abort). Stretch s e k.pending) (some_one refl h) p;
        none_outside =
            λ t c h g i.
            subst (λ (k : Abort). (s.threads t).badge ≡ k.badge → Mem t k.pending) (some_one refl h) (o t g) i;
      }

-- Leaving a set or losing a note.

-- What dropping t's debt leaves.
pub record Drops (t : ℕ) (s s' : State) : Type 0 where
  pub keeps : Keeps s s'
  pub debt : (s'.threads t).debt ≡ nothing
  pub other_debt : (u : ℕ) → (u ≡ t → ⊥) → (s'.threads u).debt ≡ (s.threads u).debt
  pub status : (e : ℕ) → (s'.endpoints e).status ≡ (s.endpoints e).status
  pub abort : (e : ℕ) → (s'.endpoints e).abort ≡ (s.endpoints e).abort

module _ (s : State) (t : ℕ) where
  pub drop_debt_drops : Drops t s (drop_debt t s)
  unfolding drop_debt
  drop_debt_drops =
      record {
        keeps = keeps_debt s t nothing;
        debt = owing_same s t nothing;
        other_debt = owing_other s t nothing;
        status = λ e. refl;
        abort = λ e. refl;
      }

  pub mid_drop_debt : Mid s → Mid (drop_debt t s)
  unfolding drop_debt
  mid_drop_debt M =
      mid_debt s t nothing M (record { in_range_lem = λ h. tt; unused = λ h. refl })
      (λ e h. absurd (nothing_works refl h))

-- Members get their notes.

module _ (e b : ℕ) where
  informed_nothing : {d : Debt} → d ≡ nothing → informed e b d ≡ nothing
  informed_nothing h = ap (informed e b) h

  -- Who is in no set at e keeps what it has.
  pub informed_other : (d : Debt) → works_at e d ≡ false → informed e b d ≡ d
  informed_other nothing h = refl
  informed_other (works f) h = rw h refl
  informed_other (noted f c) h = refl

  -- A member has its note.
  pub informed_member : (d : Debt) → d ≡ works e → informed e b d ≡ noted e b
  informed_member d h = ap (informed e b) h ∙ rw (eq-eqb e e refl) refl

  -- Nobody works at e then, and who works elsewhere did.
  informed_works : (d : Debt) (f : ℕ) → informed e b d ≡ works f → (d ≡ works f) × (f ≡ e → ⊥)
  informed_works nothing f h = absurd (nothing_works refl h)
  informed_works (works k) f h = go (same? k e)
    where
      go : Same k e → (works k ≡ works f) × (f ≡ e → ⊥)
      go (same i q) = absurd (noted_works {f = e} {b = b} refl (rw q at h))
      go (other n q) = let g : works k ≡ works f = rw q at h in (g, λ i. n (works_one refl g ∙ i))
  informed_works (noted k c) f h = absurd (noted_works refl h)

  informed_range : (d : Debt) → (e ≤ 63) × (b < 2 ^ 28) → DebtInRange d → DebtInRange (informed e b d)
  informed_range nothing r h = tt
  informed_range (works k) r h = go (eqb k e)
    where
      go : (q : Bool) → DebtInRange (pick q (noted e b) (works k))
      go true = r
      go false = tt
  informed_range (noted k c) r h = h

module _ (s : State) (e b : ℕ) where
  pub keeps_note_all : Keeps s (note_all e b s)
  unfolding note_all
  keeps_note_all =
      record { runs = refl; level = λ p. refl; line = λ l. refl; thread = λ t. refl; waiters = λ f. refl }

  mid_note_all : Mid s → (e ≤ 63) × (b < 2 ^ 28) → Mid (note_all e b s)
  unfolding note_all
  mid_note_all M r =
      mid_keeps keeps_note_all M
      (λ t.
      record {
        in_range_lem = λ h. informed_range e b (s.threads t).debt r ((may_stay M t).in_range_lem h);
        unused = λ h. informed_nothing e b ((may_stay M t).unused h);
      })
      (fits_stay M)
      (record { stands = λ f t h. M.members.stands f t (informed_works e b (s.threads t).debt f h).0 })

-- Ending an abort.

module _ {s : State} (M : Mid s) (e : ℕ) (status : Status) where
  -- The entry of e after it.
  abbrev cleared : Endpoint
  cleared = record { status = status; waiters = (s.endpoints e).waiters; abort = none }

  module _ (now : status ≡ missing → ⊥) (was : (s.endpoints e).status ≡ missing → ⊥) where
    mid_note : (k : Option Abort) → (s.endpoints e).abort ≡ k → Mid (set_endpoint e cleared (note k e s))
    unfolding note note_all
    mid_note none h =
        mid_entry s e cleared refl M (fits_none M e status now was)
        (λ u w. absurd (clash (M.members.stands e u w) (ap is_aborting h)))
    mid_note (some a) h =
        let N = mid_note_all s e a.badge M (low M e was, M.ranges.abort_badge e a h) in
        mid_entry (note_all e a.badge s) e cleared refl N (fits_none N e status now was)
        (λ u w. absurd ((informed_works e a.badge (s.threads u).debt e w).1 refl))

-- What ending the abort leaves: whoever did not work on it has the debt it had.
module _ (s : State) (e : ℕ) where
  note_keeps : (k : Option Abort) → Keeps s (note k e s)
  unfolding note
  note_keeps none = keeps_self s
  note_keeps (some a) = keeps_note_all s e a.badge

  note_debt :
      (k : Option Abort) (t : ℕ) → works_at e (s.threads t).debt ≡ false
      → ((note k e s).threads t).debt ≡ (s.threads t).debt
  unfolding note note_all
  note_debt none t n = refl
  note_debt (some a) t n = informed_other e a.badge (s.threads t).debt n

  pub end_abort_entry :
      (status : Status)
      → (end_abort status e s).endpoints e
      ≡ record { status = status; waiters = (s.endpoints e).waiters; abort = none }
  unfolding end_abort
  end_abort_entry status =
      put_same (note (s.endpoints e).abort e s).endpoints e
      (record { status = status; waiters = (s.endpoints e).waiters; abort = none })

  pub end_abort_runs : (status : Status) → (end_abort status e s).runs ≡ s.runs
  unfolding end_abort
  end_abort_runs status = (note_keeps (s.endpoints e).abort).runs

  pub end_abort_debt :
      (status : Status) (t : ℕ) → works_at e (s.threads t).debt ≡ false
      → ((end_abort status e s).threads t).debt ≡ (s.threads t).debt
  unfolding end_abort
  end_abort_debt status t n = note_debt (s.endpoints e).abort t n

-- "When the abort ends, each member but the caller has a note": the endpoint is present before and after.

pub mid_end_abort :
    (status : Status) (e : ℕ) (s : State) → (status ≡ missing → ⊥) → ((s.endpoints e).status ≡ missing → ⊥)
    → Mid s → Mid (end_abort status e s)
unfolding end_abort
mid_end_abort status e s now was M = mid_note M e status now was (s.endpoints e).abort refl
