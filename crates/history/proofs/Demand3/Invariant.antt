-- What holds of a list, its state and its history after every call, and that the claim follows from it.
use Prim.Native.Nat.{ℕ, ◌≤◌, ◌<◌}
use mathlib.Core.Path.{◌≡◌, refl, sym, ◌∙◌, ap, subst}
use mathlib.Core.Logic.{◌⊎◌, inl, inr, ⊎_elim}
use mathlib.Core.Bool.{false}
use mathlib.Core.Option.{Option, none, some}
use mathlib.Core.List.{List, [], ◌∷◌, ◌++◌, map}
use native.Mathlib.Omega.{arith}
use lib.ListN.{length, get_elem?}
use Rattle.calls.specs.Calls.{number_of}
use Rattle.calls.specs.declared.Answer.{Answer}
use Rattle.calls.specs.declared.Call.{Call}
use Rattle.calls.specs.declared.Call.TheVariants.{Send, Receive, Wait, Delete, Abort}
use Rattle.machine.specs.Lists.{only, Mem, Distinct, Rising}
use Rattle.machine.specs.State.{State, Place, Abort as Standing, Line, quiet, pending, awaited}
use Rattle.machine.specs.Endpoints.{is_sending}
use Rattle.calls.specs.Answers.{plain}
use Rattle.machine.specs.Sound.{Sound, Queued}
use Rattle.history.specs.History.{Aborting, Ended, Delivery, NamedLook, AbortCall, Waiting, History, line_name}
use Rattle.history.specs.History.{Step, waiting_in, is_send}
use Rattle.history.specs.Queues.{Message, queues_in}
use Rattle.history.specs.Blocks.{blocks_in}
use Rattle.history.specs.Claim.{In, IsAbort, is_old, removed_by, less, Reports, Hands, Named, QueuesAt}
use Rattle.history.specs.Claim.{WaitsOn, Handing, Claim}
use Rattle.history.specs.Tied.{Tied}
use Rattle.history.proofs.Sublists.{Apart, map_mem, map_only, distinct_map, entry_grow}
use Rattle.machine.proofs.Preserved.Ready.{none_some}
use Rattle.history.proofs.Demand3.Standing.{Stage, waiter_call, call_made, sends_call, LooksExact, Both, Core}
use Rattle.history.proofs.Demand3.Standing.{stood_exact}
use Rattle.history.proofs.Demand3.Standing.{is_old_grow, not_old}
use Rattle.history.proofs.Demand3.EachLook.{queued_call}

-- A delivery: what the claim says of it, made before now.
pub record Given (past : List Call) (h : History) (d : Delivery) : Type 0 where
  pub hands : Hands past h d
  pub place : d.place < h.now
  pub fresh :
      (z : Ended) → In z h.aborts.ended → z.by < d.place → (w : ℕ) → Mem w d.handed
      → is_old past z.abort w ≡ false

-- A call 12: what the claim says of it.
pub record CallClaims (h : History) (y : AbortCall) : Type 0 where
  pub reports : y.code ≡ 0 → Reports h y
  pub others : (e : ℕ) → (e ≡ y.endpoint → ⊥) → y.behind.queues e ≡ y.before.queues e
  pub own : y.behind.queues y.endpoint ≡ less (removed_by y.looks) (y.before.queues y.endpoint)
  pub lines : (l : ℕ) → y.behind.lines l ≡ y.before.lines l
  pub met : (v : NamedLook) → In v y.looks → Mem v.waiter (y.before.queues y.endpoint)
  pub counts : y.count ≡ length y.looks
  pub answer :
      get_elem? h.answers y.place ≡ some (record { code = y.code; count = y.count; badge = 0; message = 0 })

-- The call at place i has its record.
abbrev pub Recorded12 : History → ℕ → ℕ → ℕ → ℕ → Type 0
Recorded12 h i e a b =
    (y : AbortCall) × In y h.abort_calls × (y.place ≡ i) × (y.endpoint ≡ e) × (y.allowance ≡ a) × (y.badge ≡ b)

abbrev pub Recorded8 : History → ℕ → ℕ → Answer → Type 0
Recorded8 h i e a =
    (d : Delivery) × In d h.deliveries × (d.place ≡ i) × (d.endpoint ≡ e) × (d.badge ≡ a.badge)
    × (d.message ≡ a.message)

-- The stage that a history has come to.
abbrev pub stage_of : List Call → History → Stage
stage_of past h = record { past = past; answers = h.answers; until = h.now; since = h.since }

pub record Inv (past : List Call) (s : State) (h : History) : Type 0 where
  pub sound : Sound s
  pub now : h.now ≡ length past
  pub answered : length h.answers ≡ length past
  pub waiting : h.waiting ≡ waiting_in h.since s
  pub core : Core (stage_of past h) s.threads s.endpoints h.aborts.standing h.aborts.ended
  pub tied : Tied s.threads h.aborts.debts h.aborts.ended
  pub rising : (e : ℕ) → Rising (map h.since (s.endpoints e).waiters)
  pub stray : h.aborts.stray ≡ []
  pub given : (d : Delivery) → In d h.deliveries → Given past h d
  pub called : (y : AbortCall) → In y h.abort_calls → CallClaims h y
  pub recorded12 : (i e a b : ℕ) → get_elem? past i ≡ some (Abort e a b) → Recorded12 h i e a b
  pub recorded8 :
      (i e : ℕ) (a : Answer) → get_elem? past i ≡ some (Receive e) → get_elem? h.answers i ≡ some a → a.code ≡ 0
      → Recorded8 h i e a

-- The records grow

module _ (past : List Call) (c : Call) (a : Answer) (h k : History) (longer : k.answers ≡ h.answers ++ (a ∷ [])) where
  answer_grow : (i : ℕ) (b : Answer) → get_elem? h.answers i ≡ some b → get_elem? k.answers i ≡ some b
  answer_grow i b p = rw longer (entry_grow h.answers a i b p)

  hands_grow : (d : Delivery) → Hands past h d → Hands (past ++ (c ∷ [])) k d
  hands_grow d H =
      record {
        message = H.message;
        handed = H.handed;
        longest = H.longest;
        queued_by = entry_grow past c H.message _ H.queued_by;
        blocked = answer_grow H.message (plain 1) H.blocked;
        earlier = H.earlier;
      }

  -- Aborts that end from now on ended after every delivery so far.
  pub given_grow :
      (d : Delivery) → h.now ≤ k.now
      → ((z : Ended) → In z k.aborts.ended
      → (In z h.aborts.ended × (z.abort.began ≤ length past)) ⊎ (h.now ≤ z.by))
      → Given past h d → Given (past ++ (c ∷ [])) k d
  given_grow d later old G =
      let p = G.place in
      record {
        hands = hands_grow d G.hands;
        place = omega arith;
        fresh =
            λ z i q w m.
            ⊎_elim (λ j. is_old_grow past c z.abort w j.1 ∙ G.fresh z j.0 q w m)
            (λ j. absurd (omega arith)) (old z i);
      }

  reports_grow :
      (y : AbortCall) → ((z : Ended) → In z h.aborts.ended → In z k.aborts.ended) → Reports h y → Reports k y
  reports_grow y more R =
      let E = R.ended in
      record {
        reported = R.reported;
        is = R.is;
        of_endpoint = R.of_endpoint;
        of_badge = R.of_badge;
        ended = record { ended = E.ended; found = more E.ended E.found; same = E.same; by = E.by };
      }

  pub called_grow :
      (y : AbortCall) → ((z : Ended) → In z h.aborts.ended → In z k.aborts.ended) → CallClaims h y
      → CallClaims k y
  called_grow y more C =
      record {
        reports = λ i. reports_grow y more (C.reports i);
        others = C.others;
        own = C.own;
        lines = C.lines;
        met = C.met;
        counts = C.counts;
        answer = answer_grow y.place _ C.answer;
      }

-- The claim

-- What holds of the books.

-- A step: what the claim says of it, made before now.
pub record StepClaims (past : List Call) (h : History) (x : Step) : Type 0 where
  pub place : x.place < length past
  pub same : x.found ≡ x.kept
  pub kind : (e : ℕ) → (x.kept.messages e ≡ []) ⊎ (x.kept.messages e ≡ x.kept.queues e)
  pub emptied :
      (e n : ℕ) (a : Answer) → get_elem? past x.place ≡ some (Delete e n)
      → get_elem? h.answers x.place ≡ some a → a.code ≡ 0 → x.kept.queues e ≡ []
  pub blocks : x.found_blocks ≡ x.kept_blocks
  pub hands : (t : ℕ) (n : Message) → x.handed t ≡ some n → Handing past h x t n

abbrev pub Recorded7 : History → ℕ → ℕ → ℕ → Type 0
Recorded7 h i b m =
    (x : Step) × (t : ℕ) × In x h.books.steps × (x.place ≡ i)
    × (x.handed t ≡ some (record { badge = b; message = m }))

pub record Kept (past : List Call) (s : State) (h : History) : Type 0 where
  pub calls : h.books.calls ≡ past
  pub queued : h.books.queued ≡ queues_in s
  pub blocks : h.books.blocks ≡ blocks_in s
  pub steps : (x : Step) → In x h.books.steps → StepClaims past h x
  pub recorded7 :
      (i e b m : ℕ) (a : Answer) → get_elem? past i ≡ some (Send e b m) → get_elem? h.answers i ≡ some a
      → a.code ≡ 0 → Recorded7 h i b m
  pub words :
      (i : ℕ) (c : Call) (a : Answer) → get_elem? past i ≡ some c → get_elem? h.answers i ≡ some a
      → ((number_of c ≡ 8) × (a.code ≡ 0) → ⊥) → (a.badge ≡ 0) × (a.message ≡ 0)

module _ (past : List Call) (s : State) (h : History) (I : Inv past s h) where
  exact : (x : Aborting) → IsAbort h x → LooksExact past h.now x
  exact x (inl (e, p)) = go (s.endpoints e).abort (rw p at (I.core.stands e))
    where
      go : (k : Option Standing) → Both (stage_of past h) s.threads e k (some x) → LooksExact past h.now x
      go none B = absurd B
      go (some a) B = stood_exact (stage_of past h) s.threads e a x B
  exact x (inr (z, i, p)) = subst (λ (y : Aborting). LooksExact past h.now y) p (I.core.over z i).exact

  pub queue : (e : ℕ) → h.waiting.queues e ≡ map h.since (s.endpoints e).waiters
  queue e = ap (λ (w : Waiting). w.queues e) I.waiting

  -- Whoever waits is named by its call.
  named : (t w : ℕ) (c : Call) (P : Call → Type 0) → call_made (s.threads t) ≡ some c → w ≡ h.since t → P c
      → Named past h w P
  named t w c P p i r =
      let M = I.core.made t c p in
      record { call = c; made = rw i M.call; answered = rw i M.answer; right = r }

  queued_named : (e w : ℕ) → Mem w (h.waiting.queues e) → Named past h w (QueuesAt e)
  queued_named e w m =
      let r = map_mem h.since w (s.endpoints e).waiters (rw (queue e) at m) in
      go r.0 r.2 ((I.sound.queues.queued r.0 e).0 r.1)
    where
      go : (t : ℕ) → w ≡ h.since t → Queued s t e → Named past h w (QueuesAt e)
      go t i (inl p) =
          named t w _ (QueuesAt e) (sends_call (s.threads t) e p) i
          (inl ((s.threads t).badge, (s.threads t).message, refl))
      go t i (inr p) =
          named t w (Receive e) (QueuesAt e)
          (ap (λ (q : Place). waiter_call q (s.threads t).badge (s.threads t).message) p) i (inr refl)

  pub messages_sent :
      (e : ℕ) → h.waiting.messages e ≡ only (λ w. is_send (get_elem? past w)) (h.waiting.queues e)
  messages_sent e =
      ap (λ (w : Waiting). w.messages e) I.waiting
      ∙ map_only h.since (λ t. is_sending (s.threads t).place) (λ w. is_send (get_elem? past w))
      (s.endpoints e).waiters (λ t m. go t ((I.sound.queues.queued t e).0 m))
      ∙ ap (only (λ w. is_send (get_elem? past w))) (sym (queue e))
    where
      go : (t : ℕ) → Queued s t e → is_sending (s.threads t).place ≡ is_send (get_elem? past (h.since t))
      go t (inl p) =
          rw (p, (I.core.made t _ (sends_call (s.threads t) e p)).call)
      go t (inr p) =
          rw (
            p,
            (I.core.made t (Receive e)
                (ap (λ (q : Place). waiter_call q (s.threads t).badge (s.threads t).message) p)).call,
          )

  pub queued_apart : (e : ℕ) → Apart h.since (s.endpoints e).waiters
  queued_apart e t u i j =
      let p = queued_call s e t ((I.sound.queues.queued t e).0 i) in
      let q = queued_call s e u ((I.sound.queues.queued u e).0 j) in
      I.core.apart t u p.0 q.0 p.1 q.1

  queued_distinct : (e : ℕ) → Distinct (h.waiting.queues e)
  queued_distinct e =
      rw (queue e) (distinct_map h.since (s.endpoints e).waiters (queued_apart e)
      (I.sound.queues.queued_once e))

  line_named : (l w : ℕ) → h.waiting.lines l ≡ some w → Named past h w (WaitsOn l)
  line_named l w p = go (s.lines l) refl (ap (λ (k : Waiting). k.lines l) (sym I.waiting) ∙ p)
    where
      go : (x : Line) → s.lines l ≡ x → line_name h.since x ≡ some w → Named past h w (WaitsOn l)
      go quiet q k = absurd (none_some refl k)
      go pending q k = absurd (none_some refl k)
      go (awaited t) q k =
          let i : w ≡ h.since t = cc in
          named t w (Wait l) (WaitsOn l)
          (ap (λ (r : Place). waiter_call r (s.threads t).badge (s.threads t).message)
          ((I.sound.queues.on_line t l).0 q))
          i refl

  pub claim : Kept past s h → Claim past h
  claim K =
      record {
        no_old_message = λ z i d j q w m. (I.given d j).fresh z i q w m;
        reported_ended = λ y i. (I.called y i).reports;
        removed_exactly = λ x i. (exact x i).removed;
        others_stay = λ y i. (I.called y i).others;
        removed_only = λ y i. (I.called y i).own;
        lines_stay = λ y i. (I.called y i).lines;
        every_look_of_an_abort = I.stray;
        looks_at_waiters = λ y i. (I.called y i).met;
        not_twice = λ x i. (exact x i).once;
        only_those = λ x i. (exact x i).among;
        not_more = λ x i. (exact x i).most;
        counted = λ y i. (I.called y i).counts;
        hands_over = λ d i. (I.given d i).hands;
        queued_named = queued_named;
        queued_distinct = queued_distinct;
        messages_sent = messages_sent;
        in_order = λ e. rw (queue e) (I.rising e);
        line_named = line_named;
        all_answered = I.answered;
        every_abort_call = I.recorded12;
        abort_call_answer = λ y i. (I.called y i).answer;
        every_delivery = I.recorded8;
        no_old_handing =
            λ z i x j q t n p. not_old past z.abort x.place (omega (arith, (I.core.over z i).order, q));
        queues_are = λ x i. (K.steps x i).same;
        one_kind = λ x i. (K.steps x i).kind;
        emptied = λ x i. (K.steps x i).emptied;
        blocks_are = λ x i. (K.steps x i).blocks;
        words_zero = K.words;
        handed_own = λ x i. (K.steps x i).hands;
        every_handing = K.recorded7;
      }
