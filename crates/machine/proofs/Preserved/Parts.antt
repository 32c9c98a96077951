-- Mid taken apart: what it says of each thread, of each endpoint, of the ready queues, of the lines and of the sets.
use Prim.Native.Nat.{ℕ, ◌<◌, ◌^◌}
use mathlib.Core.Path.{◌≡◌, refl, subst}
use mathlib.Core.Logic.{◌⊎◌, ◌↔◌}
use mathlib.Core.Bool.{true}
use mathlib.Core.Option.{Option, none, some}
use mathlib.Core.List.{List, [], ◌++◌}
use Rattle.machine.specs.Lists.{Mem, Distinct}
use Rattle.machine.specs.State.{State, Thread, Place, absent, able, sending, receiving, waiting, works, Abort}
use Rattle.machine.specs.State.{Endpoint, missing, live, Line, quiet, awaited, absent_thread, missing_endpoint}
use Rattle.machine.specs.Endpoints.{is_aborting}
use Rattle.machine.specs.Sound.{Stores, Numbers}
use Rattle.machine.specs.Mid.{Mid}

-- Of thread t with the entry x.
pub record Entry (t : ℕ) (x : Thread) : Type 0 where
  pub numbers : (x.place ≡ absent → ⊥) → Numbers t x
  pub unused : x.place ≡ absent → x ≡ absent_thread
  pub blocked : (x.place ≡ able → ⊥) → x.outcome ≡ 0
  pub stored : (Stores x.place x.outcome → ⊥) → (x.badge ≡ 0) × (x.message ≡ 0)

-- Queued at endpoint e.
abbrev pub At : Place → ℕ → Type 0
At p e = (p ≡ sending e) ⊎ (p ≡ receiving e)

-- Of the abort a that stands at endpoint e, whose queue is given.
pub record AbortStands (f : ℕ → Thread) (e : ℕ) (waiters : List ℕ) (a : Abort) : Type 0 where
  pub badge : a.badge < 2 ^ 28
  pub before : List ℕ
  pub behind : List ℕ
  pub within : waiters ≡ before ++ (a.pending ++ behind)
  pub sends : (t : ℕ) → Mem t a.pending → (f t).place ≡ sending e
  pub none_outside : (t : ℕ) → (f t).place ≡ sending e → (f t).badge ≡ a.badge → Mem t a.pending

abbrev pub AbortFits : (ℕ → Thread) → ℕ → List ℕ → Option Abort → Type 0
AbortFits f e waiters none = Unit {0}
AbortFits f e waiters (some a) = AbortStands f e waiters a

-- Of endpoint e with the entry x.
pub record Site (f : ℕ → Thread) (e : ℕ) (x : Endpoint) : Type 0 where
  pub unused : 63 < e → x ≡ missing_endpoint
  pub empty : x.status ≡ missing → x.waiters ≡ []
  pub no_abort : (x.status ≡ live → ⊥) → x.abort ≡ none
  pub queued : (t : ℕ) → Mem t x.waiters ↔ At (f t).place e
  pub once : Distinct x.waiters
  pub one_kind : (t u : ℕ) → (f t).place ≡ sending e → (f u).place ≡ receiving e → ⊥
  pub marked : AbortFits f e x.waiters x.abort

-- Able, and not the one that runs.
abbrev pub Idle : (ℕ → Thread) → Option ℕ → ℕ → Type 0
Idle f runs t = ((f t).place ≡ able) × (runs ≡ some t → ⊥)

-- Of who runs and the ready queues.
pub record Levels (f : ℕ → Thread) (runs : Option ℕ) (levels : ℕ → List ℕ) : Type 0 where
  pub running : (t : ℕ) → runs ≡ some t → (f t).place ≡ able
  pub ready : (t p : ℕ) → Mem t (levels p) ↔ (Idle f runs t × ((f t).priority ≡ p))
  pub once : (p : ℕ) → Distinct (levels p)

-- Of the lines.
pub record LinesFit (f : ℕ → Thread) (lines : ℕ → Line) : Type 0 where
  pub unused : (l : ℕ) → 31 < l → lines l ≡ quiet
  pub on_line : (t l : ℕ) → (lines l ≡ awaited t) ↔ ((f t).place ≡ waiting l)

-- Of the sets.
abbrev pub SetsFit : (ℕ → Thread) → (ℕ → Endpoint) → Type 0
SetsFit f ends = (e t : ℕ) → (f t).debt ≡ works e → is_aborting (ends e).abort ≡ true

pub record Parts (s : State) : Type 0 where
  pub entry : (t : ℕ) → Entry t (s.threads t)
  pub site : (e : ℕ) → Site s.threads e (s.endpoints e)
  pub levels : Levels s.threads s.runs s.levels
  pub lines : LinesFit s.threads s.lines
  pub sets : SetsFit s.threads s.endpoints

marked_of : (s : State) (e : ℕ) → Mid s → AbortFits s.threads e (s.endpoints e).waiters (s.endpoints e).abort
marked_of s e M = go (s.endpoints e).abort refl
  where
    go : (o : Option Abort) → (s.endpoints e).abort ≡ o → AbortFits s.threads e (s.endpoints e).waiters o
    go none h = tt
    go (some a) h =
        let p = M.marks.part e a h in
        record {
          badge = M.ranges.abort_badge e a h;
          before = p.before;
          behind = p.behind;
          within = p.within;
          sends = p.sends;
          none_outside = λ t. M.marks.none_outside e t a h;
        }

standing_of :
    (s : State) (e : ℕ) (a : Abort) → Parts s → (s.endpoints e).abort ≡ some a
    → AbortStands s.threads e (s.endpoints e).waiters a
standing_of s e a P h =
    subst (λ (o : Option Abort). AbortFits s.threads e (s.endpoints e).waiters o) h (P.site e).marked

pub parts : {s : State} → Mid s → Parts s
parts {s} M =
    record {
      entry =
          λ t. record {
            numbers = M.ranges.numbers t;
            unused = M.ranges.unused_thread t;
            blocked = M.outcomes.blocked t;
            stored = M.outcomes.stored t;
          };
      site =
          λ e. record {
            unused = M.ranges.unused_endpoint e;
            empty = M.statuses.empty e;
            no_abort = M.statuses.no_abort e;
            queued = λ t. M.queues.queued t e;
            once = M.queues.queued_once e;
            one_kind = M.queues.one_kind e;
            marked = marked_of s e M;
          };
      levels =
          record {
            running = M.queues.running;
            ready = M.queues.ready;
            once = M.queues.ready_once;
          };
      lines = record { unused = M.ranges.unused_line; on_line = M.queues.on_line };
      sets = M.members.stands;
    }

pub whole : {s : State} → Parts s → Mid s
whole {s} P =
    record {
      ranges =
          record {
            numbers = λ t. (P.entry t).numbers;
            unused_thread = λ t. (P.entry t).unused;
            unused_endpoint = λ e. (P.site e).unused;
            unused_line = P.lines.unused;
            abort_badge = λ e a h. (standing_of s e a P h).badge;
          };
      queues =
          record {
            running = P.levels.running;
            ready = P.levels.ready;
            ready_once = P.levels.once;
            queued = λ t e. (P.site e).queued t;
            queued_once = λ e. (P.site e).once;
            one_kind = λ e. (P.site e).one_kind;
            on_line = P.lines.on_line;
          };
      statuses = record { empty = λ e. (P.site e).empty; no_abort = λ e. (P.site e).no_abort };
      marks =
          record {
            part = λ e a h. let p = standing_of s e a P h in
                record { before = p.before; behind = p.behind; within = p.within; sends = p.sends };
            none_outside = λ e t a h. (standing_of s e a P h).none_outside t;
          };
      members = record { stands = P.sets };
      outcomes = record { blocked = λ t. (P.entry t).blocked; stored = λ t. (P.entry t).stored };
    }
