-- Demand 3: one claim about a whole list of calls and its history. The endpoint and badge of a queued message are
-- read off the given list, at the message's place.
use Rattle.std.specs.Prelude.{ℕ, ◌≤◌, ◌<◌, ◌≡◌, ◌⊎◌, Bool, false, ◌&&◌, not, List, [], ◌∷◌, eqb, ltb, length}
use Rattle.std.proofs.Math.Option.{Option, none, some}
use Rattle.std.proofs.Math.ListN.{get_elem?}
use Rattle.calls.specs.Calls.{number_of}
use Rattle.calls.specs.declared.Answer.{Answer}
use Rattle.calls.specs.declared.Call.{Call}
use Rattle.calls.specs.declared.Call.TheVariants.{CreateThread, DestroyThread, SetPriority, CreateEndpoint}
use Rattle.calls.specs.declared.Call.TheVariants.{Interrupt, Tick, Send, Receive, Yield, Wait, Delete, Abort}
use Rattle.calls.specs.declared.Call.TheVariants.{Grant}
use Rattle.machine.specs.Lists.{pick, only, Mem, Distinct, Rising}
use Rattle.calls.specs.Answers.{plain}
use Rattle.history.specs.History.{History, Aborting, Ended, Delivery, AbortCall, NamedLook, Reported, Step, is_in}
use Rattle.history.specs.History.{is_send}
use Rattle.history.specs.Queues.{Message, Gives}
use Rattle.history.specs.Walk.{report_of}

-- x stands in the list.
abbrev pub In : {A : Type 0} → A → List A → Type 0
In x [] = ⊥
In x (y ∷ l) = (x ≡ y) ⊎ In x l

-- The call is a call 7 of this endpoint and badge.
abbrev pub is_send_of : ℕ → ℕ → Option Call → Bool
is_send_of e b none = false
is_send_of e b (some (CreateThread t p)) = false
is_send_of e b (some (DestroyThread t)) = false
is_send_of e b (some (SetPriority t p)) = false
is_send_of e b (some (CreateEndpoint f)) = false
is_send_of e b (some (Interrupt l)) = false
is_send_of e b (some Tick) = false
is_send_of e b (some (Send f c m)) = eqb f e && eqb c b
is_send_of e b (some (Receive f)) = false
is_send_of e b (some Yield) = false
is_send_of e b (some (Wait l)) = false
is_send_of e b (some (Delete f a)) = false
is_send_of e b (some (Abort f a c)) = false
is_send_of e b (some (Grant t f r c)) = false

-- The waiter w was queued at the abort's endpoint under its badge before the abort began.
abbrev pub is_old : List Call → Aborting → ℕ → Bool
is_old calls x w = ltb w x.began && is_send_of x.endpoint x.badge (get_elem? calls w)

-- x is an abort of the history: it stands, or has ended.
abbrev pub IsAbort : History → Aborting → Type 0
IsAbort h x =
    ((e : ℕ) × (h.aborts.standing e ≡ some x)) ⊎ ((z : Ended) × In z h.aborts.ended × (z.abort ≡ x))

-- The abort reported has ended, in the call at this place or earlier.
pub record EndedBy (h : History) (r : Reported) (place : ℕ) : Type 0 where
  pub ended : Ended
  pub found : In ended h.aborts.ended
  pub same : report_of ended.abort ≡ r
  pub by : ended.by ≤ place

-- The names of the waiters that a call 12 removed.
abbrev pub removed_by : List NamedLook → List ℕ
removed_by [] = []
removed_by (v ∷ l) = pick v.removed (v.waiter ∷ removed_by l) (removed_by l)

-- The queue less those, the others in their order.
abbrev pub less : List ℕ → List ℕ → List ℕ
less gone l = only (λ w. not (is_in w gone)) l

-- A call 12 answered 0 reports an abort that ended in it or earlier.
pub record Reports (h : History) (y : AbortCall) : Type 0 where
  pub reported : Reported
  pub is : y.reports ≡ some reported
  pub of_endpoint : reported.endpoint ≡ y.endpoint
  pub of_badge : reported.badge ≡ y.badge
  pub ended : EndedBy h reported y.place

-- A call 8 answered 0 hands over the message queued longest at its endpoint, and answers that badge and message,
-- which are those of the call 7 that queued it.
pub record Hands (calls : List Call) (h : History) (d : Delivery) : Type 0 where
  pub message : ℕ
  pub handed : d.handed ≡ message ∷ []
  pub longest : (w : ℕ) → Mem w d.queue → message ≤ w
  pub queued_by : get_elem? calls message ≡ some (Send d.endpoint d.badge d.message)
  pub blocked : get_elem? h.answers message ≡ some (plain 1)
  pub earlier : message < d.place

-- The waiter's name is the place of its own call, answered 1.
pub record Named (calls : List Call) (h : History) (w : ℕ) (P : Call → Type 0) : Type 0 where
  pub call : Call
  pub made : get_elem? calls w ≡ some call
  pub answered : get_elem? h.answers w ≡ some (plain 1)
  pub right : P call

-- The call queues its caller at the endpoint, or on the line.
abbrev pub QueuesAt : ℕ → Call → Type 0
QueuesAt e c = ((b : ℕ) × (m : ℕ) × (c ≡ Send e b m)) ⊎ (c ≡ Receive e)

abbrev pub WaitsOn : ℕ → Call → Type 0
WaitsOn l c = c ≡ Wait l

-- A handing by the call of this step: the call, its answer, what it gives, and that no message was queued there, so
-- that who waited longest waited to receive.
pub record Handing (calls : List Call) (h : History) (x : Step) (t : ℕ) (n : Message) : Type 0 where
  pub call : Call
  pub made : get_elem? calls x.place ≡ some call
  pub answer : Answer
  pub answered : get_elem? h.answers x.place ≡ some answer
  pub gives : Gives call answer x.before t n
  pub receives : x.was.messages gives.endpoint ≡ []

pub record Claim (calls : List Call) (h : History) : Type 0 where
  -- No call made after an abort had ended has handed a receiver a message queued at that endpoint under that badge
  -- before the abort began.
  pub no_old_message :
      (z : Ended) → In z h.aborts.ended → (d : Delivery) → In d h.deliveries → z.by < d.place
      → (w : ℕ) → Mem w d.handed → is_old calls z.abort w ≡ false
  -- So too where a thread is handed the message in its block: it is the message of the call itself (handed_own).
  pub no_old_handing :
      (z : Ended) → In z h.aborts.ended → (x : Step) → In x h.books.steps → z.by < x.place
      → (t : ℕ) (n : Message) → x.handed t ≡ some n → is_old calls z.abort x.place ≡ false
  -- No call 12 was answered 0 unless the abort it reports ended in it or earlier.
  pub reported_ended : (y : AbortCall) → In y h.abort_calls → y.code ≡ 0 → Reports h y
  -- Every abort has removed exactly those of the waiters it looked at that were queued there under its badge before
  -- it began.
  pub removed_exactly : (x : Aborting) → IsAbort h x → x.removed ≡ only (is_old calls x) x.looked
  -- No call 12 has removed any other waiter or changed the order of those who stay.
  pub others_stay :
      (y : AbortCall) → In y h.abort_calls → (e : ℕ) → (e ≡ y.endpoint → ⊥)
      → y.behind.queues e ≡ y.before.queues e
  pub removed_only :
      (y : AbortCall) → In y h.abort_calls
      → y.behind.queues y.endpoint ≡ less (removed_by y.looks) (y.before.queues y.endpoint)
  pub lines_stay : (y : AbortCall) → In y h.abort_calls → (l : ℕ) → y.behind.lines l ≡ y.before.lines l
  pub every_look_of_an_abort : h.aborts.stray ≡ []
  -- A look is at somebody who waits at the call's endpoint.
  pub looks_at_waiters :
      (y : AbortCall) → In y h.abort_calls → (v : NamedLook) → In v y.looks
      → Mem v.waiter (y.before.queues y.endpoint)
  -- No abort has looked at a waiter twice,
  pub not_twice : (x : Aborting) → IsAbort h x → Distinct x.looked
  -- or at more waiters than stood in the queue when it began,
  pub not_more : (x : Aborting) → IsAbort h x → length x.looked ≤ length x.onto
  -- and at none but the senders queued when it began,
  pub only_those : (x : Aborting) → IsAbort h x → (w : ℕ) → Mem w x.looked → Mem w x.onto
  -- each look counted in the answer of the call that made it.
  pub counted : (y : AbortCall) → In y h.abort_calls → y.count ≡ length y.looks
  -- A call 8 answered 0 hands over the message queued longest at its endpoint, and answers that badge and message.
  pub hands_over : (d : Delivery) → In d h.deliveries → Hands calls h d
  -- A waiter is known by the place of its own call, and no two by the same.
  pub queued_named : (e w : ℕ) → Mem w (h.waiting.queues e) → Named calls h w (QueuesAt e)
  pub queued_distinct : (e : ℕ) → Distinct (h.waiting.queues e)
  -- A message is queued by a call 7: of those queued they send who came by one.
  pub messages_sent : (e : ℕ) → h.waiting.messages e ≡ only (λ w. is_send (get_elem? calls w)) (h.waiting.queues e)
  -- Waiters are "in order of coming" (the section on endpoint queues).
  pub in_order : (e : ℕ) → Rising (h.waiting.queues e)
  pub line_named : (l w : ℕ) → h.waiting.lines l ≡ some w → Named calls h w (WaitsOn l)
  -- Every call has its answer, and every call 12 and every call 8 answered 0 its record.
  pub all_answered : length h.answers ≡ length calls
  pub every_abort_call :
      (i e a b : ℕ) → get_elem? calls i ≡ some (Abort e a b)
      → (y : AbortCall) × In y h.abort_calls × (y.place ≡ i) × (y.endpoint ≡ e) × (y.allowance ≡ a)
      × (y.badge ≡ b)
  pub abort_call_answer :
      (y : AbortCall) → In y h.abort_calls
      → get_elem? h.answers y.place ≡ some (record { code = y.code; count = y.count; badge = 0; message = 0 })
  pub every_delivery :
      (i e : ℕ) (a : Answer) → get_elem? calls i ≡ some (Receive e) → get_elem? h.answers i ≡ some a → a.code ≡ 0
      → (d : Delivery) × In d h.deliveries × (d.place ≡ i) × (d.endpoint ≡ e) × (d.badge ≡ a.badge)
      × (d.message ≡ a.message)
  -- "Queued by a call 7 answered 1 … until a receive takes it, an abort or delete removes its waiter or its thread is
  -- destroyed": after every call the machine's queues and lines are those that the history keeps.
  pub queues_are : (x : Step) → In x h.books.steps → x.found ≡ x.kept
  -- "Waiters are all senders or all receivers": no message stays queued where a receiver waits.
  pub one_kind :
      (x : Step) → In x h.books.steps → (e : ℕ)
      → (x.kept.messages e ≡ []) ⊎ (x.kept.messages e ≡ x.kept.queues e)
  -- After a call 11 answered 0 nobody is queued there.
  pub emptied :
      (x : Step) → In x h.books.steps → (e n : ℕ) (a : Answer) → get_elem? calls x.place ≡ some (Delete e n)
      → get_elem? h.answers x.place ≡ some a → a.code ≡ 0 → x.kept.queues e ≡ []
  -- Every thread has been told what its calls and those of others came to, and nothing else: outcome, badge and message
  -- of each block are those that the history keeps.
  pub blocks_are : (x : Step) → In x h.books.steps → x.found_blocks ≡ x.kept_blocks
  -- "Badge and message are 0 except for a receive that is done": no other answer hands anything.
  pub words_zero :
      (i : ℕ) (c : Call) (a : Answer) → get_elem? calls i ≡ some c → get_elem? h.answers i ≡ some a
      → ((number_of c ≡ 8) × (a.code ≡ 0) → ⊥) → (a.badge ≡ 0) × (a.message ≡ 0)
  -- A thread is handed a message where it waits by a call 7 answered 0 alone: that call's own, to who waited longest;
  pub handed_own :
      (x : Step) → In x h.books.steps → (t : ℕ) (n : Message) → x.handed t ≡ some n → Handing calls h x t n
  -- and every call 7 answered 0 hands its own to somebody.
  pub every_handing :
      (i e b m : ℕ) (a : Answer) → get_elem? calls i ≡ some (Send e b m) → get_elem? h.answers i ≡ some a
      → a.code ≡ 0
      → (x : Step) × (t : ℕ) × In x h.books.steps × (x.place ≡ i)
      × (x.handed t ≡ some (record { badge = b; message = m }))
