-- Steps that change only debts, aborts and statuses, while every queue stands: they keep Mid where what is new fits.
use Prim.Native.Nat.{ℕ, ◌<◌, ◌^◌}
use mathlib.Core.Path.{◌≡◌, refl, sym, ◌∙◌, ap}
use mathlib.Core.Bool.{true}
use mathlib.Core.Option.{Option, none, some}
use mathlib.Core.List.{List, []}
use Rattle.machine.specs.Lists.{put, Mem}
use Rattle.machine.specs.State.{State, Thread, absent, sending, Debt, nothing, works, Abort, missing, live}
use Rattle.machine.specs.State.{Endpoint, missing_endpoint, set_thread, set_endpoint, with_debt}
use Rattle.machine.specs.Endpoints.{is_aborting}
use Rattle.machine.specs.Sound.{Present, DebtInRange, Numbers, Stretch, Ranges, Queues, Members, Outcomes}
use Rattle.machine.proofs.Lists.{put_all, put_same, put_other}
use Rattle.machine.specs.Mid.{Mid}

-- Every thread keeps all but its debt, every endpoint its queue; runs, levels and lines are as they were.
pub record Keeps (s s' : State) : Type 0 where
  pub runs : s'.runs ≡ s.runs
  pub level : (p : ℕ) → s'.levels p ≡ s.levels p
  pub line : (l : ℕ) → s'.lines l ≡ s.lines l
  pub thread : (t : ℕ) → s'.threads t ≡ with_debt (s'.threads t).debt (s.threads t)
  pub waiters : (e : ℕ) → (s'.endpoints e).waiters ≡ (s.endpoints e).waiters

pub keeps_self : (s : State) → Keeps s s
keeps_self s =
    record { runs = refl; level = λ p. refl; line = λ l. refl; thread = λ t. refl; waiters = λ e. refl }

pub keeps_then : {s s' s'' : State} → Keeps s s' → Keeps s' s'' → Keeps s s''
keeps_then {s} {s'} {s''} K L =
    record {
      runs = L.runs ∙ K.runs;
      level = λ p. L.level p ∙ K.level p;
      line = λ l. L.line l ∙ K.line l;
      thread = λ t. L.thread t ∙ ap (with_debt (s''.threads t).debt) (K.thread t);
      waiters = λ e. L.waiters e ∙ K.waiters e;
    }

-- The debt d is one that thread t may have.
pub record May (s : State) (t : ℕ) (d : Debt) : Type 0 where
  pub in_range_lem : Present s t → DebtInRange d
  pub unused : (s.threads t).place ≡ absent → d ≡ nothing

-- The entry x may stand at e, where the queues are those of s.
pub record EntryFits (s : State) (e : ℕ) (x : Endpoint) : Type 0 where
  pub unused : 63 < e → x ≡ missing_endpoint
  pub empty : x.status ≡ missing → x.waiters ≡ []
  pub no_abort : (x.status ≡ live → ⊥) → x.abort ≡ none
  pub badge : (a : Abort) → x.abort ≡ some a → a.badge < 2 ^ 28
  pub part : (a : Abort) → x.abort ≡ some a → Stretch s e a.pending
  pub none_outside :
      (t : ℕ) (a : Abort) → x.abort ≡ some a → (s.threads t).place ≡ sending e
      → (s.threads t).badge ≡ a.badge → Mem t a.pending

-- The entry x with the abort k.
abbrev pub bearing : Option Abort → Endpoint → Endpoint
bearing k x = record { status = x.status; waiters = x.waiters; abort = k }

-- What stood may stand.
module _ {s : State} (M : Mid s) where
  pub may_stay : (t : ℕ) → May s t (s.threads t).debt
  may_stay t =
      record {
        in_range_lem = λ h. (M.ranges.numbers t h).debt;
        unused = λ h. ap (λ (x : Thread). x.debt) (M.ranges.unused_thread t h);
      }

  pub fits_stay : (e : ℕ) → EntryFits s e (s.endpoints e)
  fits_stay e =
      record {
        unused = M.ranges.unused_endpoint e;
        empty = M.statuses.empty e;
        no_abort = M.statuses.no_abort e;
        badge = M.ranges.abort_badge e;
        part = M.marks.part e;
        none_outside = M.marks.none_outside e;
      }

-- Mid, part by part.
module _ {s s' : State} (K : Keeps s s') where
  pub keeps_place : (t : ℕ) → (s'.threads t).place ≡ (s.threads t).place
  keeps_place t = ap (λ (x : Thread). x.place) (K.thread t)

  pub keeps_priority : (t : ℕ) → (s'.threads t).priority ≡ (s.threads t).priority
  keeps_priority t = ap (λ (x : Thread). x.priority) (K.thread t)

  pub keeps_badge : (t : ℕ) → (s'.threads t).badge ≡ (s.threads t).badge
  keeps_badge t = ap (λ (x : Thread). x.badge) (K.thread t)

  keeps_numbers :
      (t : ℕ) → Numbers t (s.threads t) → DebtInRange (s'.threads t).debt → Numbers t (s'.threads t)
  keeps_numbers t n d =
      rw (K.thread t)
      (record {
        thread = n.thread;
        priority = n.priority;
        ticks_least = n.ticks_least;
        ticks_most = n.ticks_most;
        outcome = n.outcome;
        badge = n.badge;
        message = n.message;
        debt = d;
      })

  keeps_queues : Queues s → Queues s'
  keeps_queues Q =
      record {
        running = λ t r. keeps_place t ∙ Q.running t (sym K.runs ∙ r);
        ready = λ t p. rw (K.level p, keeps_place t, keeps_priority t, K.runs) (Q.ready t p);
        ready_once = λ p. rw (K.level p) (Q.ready_once p);
        queued = λ t e. rw (K.waiters e, keeps_place t) (Q.queued t e);
        queued_once = λ e. rw (K.waiters e) (Q.queued_once e);
        one_kind = λ e t u h g. Q.one_kind e t u (sym (keeps_place t) ∙ h) (sym (keeps_place u) ∙ g);
        on_line = λ t l. rw (K.line l, keeps_place t) (Q.on_line t l);
      }

  keeps_part : (e : ℕ) (pending : List ℕ) → Stretch s e pending → Stretch s' e pending
  keeps_part e pending P =
      record {
        before = P.before;
        behind = P.behind;
        within = K.waiters e ∙ P.within;
        sends = λ t m. keeps_place t ∙ P.sends t m;
      }

  keeps_outcomes : Outcomes s → Outcomes s'
  keeps_outcomes O =
      record {
        blocked = λ t. rw (K.thread t) (O.blocked t);
        stored = λ t. rw (K.thread t) (O.stored t);
      }

  module _ (M : Mid s) (may : (t : ℕ) → May s t (s'.threads t).debt)
      (fits : (e : ℕ) → EntryFits s e (s'.endpoints e)) where
    keeps_ranges : Ranges s'
    keeps_ranges =
        record {
          numbers =
              λ t h.
              let present : Present s t = λ a. h (keeps_place t ∙ a) in
              keeps_numbers t (M.ranges.numbers t present) ((may t).in_range_lem present);
          unused_thread =
              λ t h.
              let gone : (s.threads t).place ≡ absent = sym (keeps_place t) ∙ h in
              K.thread t ∙ ap (λ (d : Debt). with_debt d (s.threads t)) ((may t).unused gone)
              ∙ ap (with_debt nothing) (M.ranges.unused_thread t gone);
          unused_endpoint = λ e. (fits e).unused;
          unused_line = λ l h. K.line l ∙ M.ranges.unused_line l h;
          abort_badge = λ e. (fits e).badge;
        }

    -- Mid is kept where the new debts and entries fit, and an abort stands wherever a thread works.
    pub mid_keeps : Members s' → Mid s'
    mid_keeps O =
        record {
          ranges = keeps_ranges;
          queues = keeps_queues M.queues;
          statuses = record { empty = λ e. (fits e).empty; no_abort = λ e. (fits e).no_abort };
          marks =
              record {
                part = λ e a h. keeps_part e a.pending ((fits e).part a h);
                none_outside =
                    λ e t a h g b. (fits e).none_outside t a h (sym (keeps_place t) ∙ g) (sym (keeps_badge t) ∙ b);
              };
          members = O;
          outcomes = keeps_outcomes M.outcomes;
        }

-- A debt of t becomes d, and an entry at e becomes x.
module _ (s : State) (t : ℕ) (d : Debt) where
  -- The threads after it.
  abbrev pub owing : ℕ → Thread
  owing = put s.threads t (with_debt d (s.threads t))

  pub owing_same : (owing t).debt ≡ d
  owing_same = ap (λ (x : Thread). x.debt) (put_same s.threads t (with_debt d (s.threads t)))

  pub owing_other : (u : ℕ) → (u ≡ t → ⊥) → (owing u).debt ≡ (s.threads u).debt
  owing_other u n = ap (λ (x : Thread). x.debt) (put_other s.threads t u (with_debt d (s.threads t)) n)

  keeps_thread : (u : ℕ) → owing u ≡ with_debt (owing u).debt (s.threads u)
  keeps_thread =
      put_all (λ u y. y ≡ with_debt y.debt (s.threads u)) s.threads t (with_debt d (s.threads t)) refl
      (λ u n. refl)

  may_owe : Mid s → May s t d → (u : ℕ) → May s u (owing u).debt
  may_owe M m =
      put_all (λ u y. May s u y.debt) s.threads t (with_debt d (s.threads t)) m (λ u n. may_stay M u)

  pub keeps_debt : Keeps s (set_thread t (with_debt d (s.threads t)) s)
  keeps_debt =
      record {
        runs = refl;
        level = λ p. refl;
        line = λ l. refl;
        thread = keeps_thread;
        waiters = λ f. refl;
      }

  -- The debt alone changes.
  pub mid_debt :
      Mid s → May s t d → ((e : ℕ) → d ≡ works e → is_aborting (s.endpoints e).abort ≡ true)
      → Mid (set_thread t (with_debt d (s.threads t)) s)
  mid_debt M m h =
      mid_keeps keeps_debt M (may_owe M m) (fits_stay M)
      (record {
        stands =
            λ e.
            put_all (λ u y. y.debt ≡ works e → is_aborting (s.endpoints e).abort ≡ true) s.threads t
            (with_debt d (s.threads t)) (h e) (λ u n. M.members.stands e u);
      })

module _ (s : State) (e : ℕ) (x : Endpoint) (w : x.waiters ≡ (s.endpoints e).waiters) where
  keeps_waiters : (f : ℕ) → (put s.endpoints e x f).waiters ≡ (s.endpoints f).waiters
  keeps_waiters = put_all (λ f y. y.waiters ≡ (s.endpoints f).waiters) s.endpoints e x w (λ f n. refl)

  fits_all : Mid s → EntryFits s e x → (f : ℕ) → EntryFits s f (put s.endpoints e x f)
  fits_all M h = put_all (λ f y. EntryFits s f y) s.endpoints e x h (λ f n. fits_stay M f)

  pub keeps_entry : Keeps s (set_endpoint e x s)
  keeps_entry =
      record {
        runs = refl;
        level = λ p. refl;
        line = λ l. refl;
        thread = λ u. refl;
        waiters = keeps_waiters;
      }

  -- The entry alone changes, and an abort stands in it if a thread works there.
  pub mid_entry :
      Mid s → EntryFits s e x → ((u : ℕ) → (s.threads u).debt ≡ works e → is_aborting x.abort ≡ true)
      → Mid (set_endpoint e x s)
  mid_entry M h o =
      mid_keeps keeps_entry M (may_stay M) (fits_all M h)
      (record {
        stands =
            put_all (λ f y. (u : ℕ) → (s.threads u).debt ≡ works f → is_aborting y.abort ≡ true) s.endpoints e x o
            (λ f n. M.members.stands f);
      })
