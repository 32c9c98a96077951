-- What the steps on sets, notes and aborts ask of the state, and what they tell of it.
use Rattle.std.specs.Prelude.{ℕ, ◌≤◌, ◌≡◌, Bool, ◌⊎◌, List}
use Rattle.machine.specs.Lists.{Mem}
use Rattle.machine.specs.State.{State, Thread, Place, sending, receiving, works, Status, set_thread, with_debt}
use Rattle.machine.specs.Endpoints.{senders, receivers, under_abort, informed, note, end_abort}
use Rattle.machine.specs.Aborts.{has_note}
use Rattle.layout.specs.Words.{place_code, status_code, first_of, last_of}
use Rattle.layout.specs.Shows.{Shows}
use Rattle.store.specs.Steps.{Does, Tells}
use Rattle.store.specs.Store.{IsEndpoint}

-- r is what f says of each state that the memory shows and of which P holds.
pub record Says (m : List ℕ) (P : State → Type 0) (r : Bool) (f : State → Bool) : Type 0 where
  pub says : (s : State) → Shows m s → P s → r ≡ f s

-- Thread t and endpoint e are in range.
pub record PairInRange (t e : ℕ) (s : State) : Type 0 where
  pub thread : t ≤ 255
  pub endpoint : e ≤ 63

-- And so is the endpoint of the set that t is in.
pub record InCall (t e : ℕ) (s : State) : Type 0 where
  pub range : PairInRange t e s
  pub set : (f : ℕ) → (s.threads t).debt ≡ works f → f ≤ 63

-- The badge is under abort at e; t has the note of this endpoint and badge.
abbrev pub under_in : ℕ → ℕ → State → Bool
under_in e b s = under_abort b (s.endpoints e).abort

abbrev pub noted_in : ℕ → ℕ → ℕ → State → Bool
noted_in t e b s = has_note e b (s.threads t).debt

-- The thread with a note of badge b if it is in the set at e.
abbrev pub informed_thread : ℕ → ℕ → Thread → Thread
informed_thread e b x = with_debt (informed e b x.debt) x

-- t gets its note if it is in the set at e.
abbrev pub note_one : ℕ → ℕ → ℕ → State → State
note_one t e b s = set_thread t (informed_thread e b (s.threads t)) s

-- Each member of the set of the abort at e gets its note.
abbrev pub noting : ℕ → State → State
noting e s = note (s.endpoints e).abort e s

-- The abort at e ends, and the endpoint has whatever status has this number.
pub record EndsAbort (m : List ℕ) (e code : ℕ) (m' : List ℕ) : Type 0 where
  pub does : (x : Status) → status_code x ≡ code → Does m m' (IsEndpoint e) (end_abort x e)

-- The waiters at e all have this place.
abbrev pub AllAt : Place → ℕ → State → Type 0
AllAt p e s = (u : ℕ) → Mem u (s.endpoints e).waiters → (s.threads u).place ≡ p

-- The waiters at e all send, or all receive.
pub record Alike (e : ℕ) (s : State) : Type 0 where
  pub endpoint : e ≤ 63
  pub alike : AllAt (sending e) e s ⊎ AllAt (receiving e) e s

-- t begins an abort at e.
pub record BeginsAbort (t e : ℕ) (s : State) : Type 0 where
  pub thread : t ≤ 255
  pub waiters : Alike e s

-- The links to the first and the last sender at e.
abbrev pub first_sender : ℕ → State → ℕ
first_sender e s = first_of (senders s.threads (s.endpoints e).waiters)

abbrev pub last_sender : ℕ → State → ℕ
last_sender e s = last_of 0 (senders s.threads (s.endpoints e).waiters)

-- The link to the first receiver at e.
abbrev pub first_receiver : ℕ → State → ℕ
first_receiver e s = first_of (receivers s.threads (s.endpoints e).waiters)

-- A place enters the code as its number; r is the link to the first waiter at whatever place it is the number of.
pub record FirstAt (m : List ℕ) (e code r : ℕ) : Type 0 where
  pub sends : code ≡ place_code (sending e) → Tells m (Alike e) r (first_sender e)
  pub receives : code ≡ place_code (receiving e) → Tells m (Alike e) r (first_receiver e)
