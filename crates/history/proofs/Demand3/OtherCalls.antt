-- Calls 1 to 10 and 13 carry what holds of the history from the list so far to the list with one more call.
use Prim.Native.Nat.{ℕ, suc, ◌≤◌, ◌<◌}
use mathlib.Core.Path.{◌≡◌, refl, sym, ◌∙◌, ap, subst}
use mathlib.Core.Logic.{inl, inr, ⊎_elim}
use mathlib.Core.Bool.{Bool, true, false, not}
use mathlib.Core.Option.{Option, some}
use mathlib.Core.List.{List, [], ◌∷◌, ◌++◌, map, map-append}
use native.Mathlib.Omega.{arith}
use lib.ListN.{length}
use Rattle.calls.specs.declared.Answer.{Answer}
use Rattle.calls.specs.declared.Call.{Call}
use Rattle.calls.specs.declared.Call.TheVariants.{CreateThread, DestroyThread, SetPriority, CreateEndpoint}
use Rattle.calls.specs.declared.Call.TheVariants.{Interrupt, Tick, Send, Receive, Yield, Wait, Delete, Abort}
use Rattle.calls.specs.declared.Call.TheVariants.{Grant}
use Rattle.calls.specs.Calls.{number_of}
use Rattle.machine.specs.Lists.{put, without, only, Mem, Distinct, Rising}
use Rattle.machine.specs.State.{State}
use Rattle.machine.specs.Results.{Look, Result}
use Rattle.calls.specs.Answers.{plain, is_accepted}
use Rattle.machine.specs.Grants.{Grants}
use Rattle.machine.specs.Machine.{step}
use Rattle.machine.specs.Sound.{Sound}
use Rattle.history.specs.Sorts.{Sort, other, destroys, waits, receives, yields, removes, looks, sort_of}
use Rattle.history.specs.History.{Books, Waiting, History, is_in, queues?, named, waiting_in}
use Rattle.history.specs.Outcomes.{Outcome, let_go_by, drops, outcome_of, outcome_if}
use Rattle.history.specs.Recorded.{recorded, told}
use Rattle.history.specs.Tied.{Tied}
use Rattle.machine.proofs.Lists.{put_same, put_other}
use Rattle.machine.proofs.Preserved.Sites.{differ}
use Rattle.machine.proofs.Calls.Answers.{no_looks}
use Rattle.history.proofs.Sublists.{Sub, sub_mem, sub_map, rising_sub, rising_snoc, rising_least, Apart, map_mem}
use Rattle.history.proofs.Sublists.{map_agree, entry_below, entry_grow}
use Rattle.history.proofs.Demand3.Standing.{within, grown, sends_call, Made, Core, is_old_grow, core_grow}
use Rattle.history.proofs.Demand3.Leaving.{NobodyComes, core_leaves}
use Rattle.history.proofs.Demand3.Owing.{tied_still, tied_drop}
use Rattle.history.proofs.Demand3.EachLook.{queued_call}
use Rattle.history.proofs.Demand3.Blocking.{JoinsTail, CallerBlocks, core_blocks}
use Rattle.history.proofs.Demand3.HostCalls.{drops_if, Sheds, keeps, sheds, Arrival, idle, blocks}
use Rattle.history.proofs.Demand3.Arrivals.{Simple, turn}
use Rattle.history.proofs.Demand3.Handing.{TakesFirst, handed_first, takes}
use Rattle.machine.proofs.Preserved.Steps.{step_sound}
use Rattle.history.proofs.Demand3.Invariant.{stage_of, Given, Inv, queued_apart}
use Rattle.history.proofs.Demand3.Recording.{recorded_seen, told_seen, delivery_of, Duty8, Duty12, Goes, goes}

-- Calls other than 11 and 12 begin and end no abort; they drop the debts of whom they should.
outcome_simple : (x : Sort) → Simple x → (b : Bool) (o : Option ℕ) (r : Result) (h : History)
    → outcome_if b x o r h ≡ drops (drops_if b x o) r h
unfolding outcome_if outcome_of
outcome_simple x n false o r h = refl
outcome_simple other n true o r h = refl
outcome_simple (destroys t) n true o r h = refl
outcome_simple waits n true o r h = refl
outcome_simple (receives e) n true o r h = refl
outcome_simple yields n true o r h = refl
outcome_simple (removes e) n true o r h = absurd n
outcome_simple (looks e a b) n true o r h = absurd n

simple_number : (c : Call) → Simple (sort_of c) → number_of c ≡ 12 → ⊥
simple_number (CreateThread t p) n h = omega arith
simple_number (DestroyThread t) n h = omega arith
simple_number (SetPriority t p) n h = omega arith
simple_number (CreateEndpoint e) n h = omega arith
simple_number (Interrupt l) n h = omega arith
simple_number Tick n h = omega arith
simple_number (Send e b m) n h = omega arith
simple_number (Receive e) n h = omega arith
simple_number Yield n h = omega arith
simple_number (Wait l) n h = omega arith
simple_number (Delete e a) n h = n
simple_number (Abort e a b) n h = n
simple_number (Grant t e r b) n h = omega arith

module _ (bk : Books) (past : List Call) (s : State) (h : History) (I : Inv past s h) where
  pub fits : suc h.now ≤ suc (length past)
  fits = omega (arith, I.now)

  -- Nobody comes to wait, and no abort changes: Core.
  pub idle_core :
      (c : Call) (r : Result) → NobodyComes s r.state
      → Core (grown c r.answer (within (stage_of past h))) r.state.threads r.state.endpoints
      h.aborts.standing h.aborts.ended
  idle_core c r L =
      core_grow (within (stage_of past h)) c r.answer fits
      (core_leaves (stage_of past h) (suc h.now) (omega arith) L I.core)

  -- Nobody comes to wait: the queues ascend still.
  pub idle_rising :
      (r : State) → ((e : ℕ) → Sub (r.endpoints e).waiters (s.endpoints e).waiters) → (e : ℕ)
      → Rising (map h.since (r.endpoints e).waiters)
  idle_rising r H e = rising_sub (sub_map h.since (H e)) (I.rising e)

  -- A receive that is done.
  hands :
      (e : ℕ) (r : Result) (o : Option ℕ) → TakesFirst s e r
      → Given (past ++ (Receive e ∷ [])) (recorded_seen bk h.since (drops o r h) (receives e) r h)
      (delivery_of e r (waiting_in h.since r.state) h)
  unfolding recorded
  hands e r o T =
      record {
        hands =
            record {
              message = h.since u;
              handed = handed;
              longest = λ w m. rising_least (h.since u) (map h.since T.rest) ascends w (rw queue at m);
              queued_by =
                  entry_grow past (Receive e) (h.since u) _ made.call
                  ∙ ap (λ (b : ℕ). some (Send e b (s.threads u).message)) (sym T.badge)
                  ∙ ap (λ (m : ℕ). some (Send e r.answer.badge m)) (sym T.message);
              blocked = entry_grow h.answers r.answer (h.since u) (plain 1) made.answer;
              earlier = omega (arith, below, I.now);
            };
        place = omega arith;
        fresh =
            λ z i q w m.
            let O = I.core.over z i in
            rw (only_this w m)
            (is_old_grow past (Receive e) z.abort (h.since u) (omega (arith, O.exact.began, I.now))
            ∙ O.clean u e T.sends T.live);
      }
    where
      u : ℕ
      u = T.sender

      made : Made past h.answers (h.since T.sender)
          (Send e (s.threads T.sender).badge (s.threads T.sender).message)
      made = I.core.made T.sender _ (sends_call (s.threads T.sender) e T.sends)

      below : h.since T.sender < length past
      below = entry_below past (h.since T.sender) _ made.call

      queue : h.waiting.queues e ≡ h.since T.sender ∷ map h.since T.rest
      queue = ap (λ (w : Waiting). w.queues e) I.waiting ∙ ap (map h.since) T.longest

      ascends : Rising (h.since T.sender ∷ map h.since T.rest)
      ascends = subst (λ (l : List ℕ). Rising (map h.since l)) T.longest (I.rising e)

      handed :
          only (λ x. not (is_in x (map h.since (r.state.endpoints e).waiters))) (h.waiting.queues e)
          ≡ h.since T.sender ∷ []
      handed =
          ap (λ (l : List ℕ). only (λ x. not (is_in x (map h.since l))) (h.waiting.queues e))
          (T.left ∙ ap (without T.sender) T.longest)
          ∙ ap (only (λ x. not (is_in x (map h.since (without T.sender (T.sender ∷ T.rest)))))) queue
          ∙ handed_first h.since T.sender T.rest
          (subst Distinct T.longest (I.sound.queues.queued_once e))
          (subst (Apart h.since) T.longest (queued_apart past s h I e))

      only_this :
          (w : ℕ)
          → Mem w (only (λ x. not (is_in x (map h.since (r.state.endpoints e).waiters))) (h.waiting.queues e))
          → w ≡ h.since T.sender
      only_this w m = ⊎_elim (λ j. j) (λ j. absurd j) (rw handed at m)

  -- Only a call 8 answered 0 has a delivery to show.
  simple_duty8 :
      (c : Call) (r : Result) (since : ℕ → ℕ) (o : Outcome) (x : Call)
      → ((e : ℕ) → x ≡ Receive e → r.answer.code ≡ 0
      → Given (past ++ (c ∷ [])) (recorded_seen bk since o (sort_of c) r h)
      (delivery_of e r (waiting_in since r.state) h))
      → Duty8 bk past s h I c r since o (sort_of x)
  simple_duty8 c r since o (CreateThread t p) d = tt
  simple_duty8 c r since o (DestroyThread t) d = tt
  simple_duty8 c r since o (SetPriority t p) d = tt
  simple_duty8 c r since o (CreateEndpoint e) d = tt
  simple_duty8 c r since o (Interrupt l) d = tt
  simple_duty8 c r since o Tick d = tt
  simple_duty8 c r since o (Send e b m) d = tt
  simple_duty8 c r since o (Receive e) d = d e refl
  simple_duty8 c r since o Yield d = tt
  simple_duty8 c r since o (Wait l) d = tt
  simple_duty8 c r since o (Delete e a) d = tt
  simple_duty8 c r since o (Abort e a b) d = tt
  simple_duty8 c r since o (Grant t e k b) d = tt

  simple_duty12 :
      (c : Call) (r : Result) (since : ℕ → ℕ) (o : Outcome) (x : Sort) → Simple x → Duty12 bk past s h I c r since o x
  simple_duty12 c r since o other n = tt
  simple_duty12 c r since o (destroys t) n = tt
  simple_duty12 c r since o waits n = tt
  simple_duty12 c r since o (receives e) n = tt
  simple_duty12 c r since o yields n = tt
  simple_duty12 c r since o (removes e) n = tt
  simple_duty12 c r since o (looks e a b) n = absurd n

  module _ (c : Call) (n : Simple (sort_of c)) (r : Result) (S : Sound r.state) (unlooked : r.looks ≡ [])
      (T : (e : ℕ) → c ≡ Receive e → r.answer.code ≡ 0 → TakesFirst s e r) where
    -- Whose debts it drops.
    abbrev who : Option ℕ
    who = drops_if (is_accepted r.answer) (sort_of c) s.runs

    told_as :
        (since : ℕ → ℕ) → named (queues? (sort_of c) r.answer.code) s.runs h.now h.since ≡ since
        → told_seen bk c s r h ≡ recorded_seen bk since (drops who r h) (sort_of c) r h
    unfolding told
    told_as since p = rw (p, outcome_simple (sort_of c) n (is_accepted r.answer) s.runs r h)

    sheds_tied : Sheds s c r
        → Tied r.state.threads (let_go_by who h.aborts.debts) h.aborts.ended
    sheds_tied (keeps p H) =
        subst
        (λ (o : Option ℕ).
        Tied r.state.threads (let_go_by o h.aborts.debts) h.aborts.ended)
        (sym p) (tied_still H (λ z i. i) I.tied)
    sheds_tied (sheds t p H) =
        subst
        (λ (o : Option ℕ).
        Tied r.state.threads (let_go_by o h.aborts.debts) h.aborts.ended)
        (sym p) (tied_still H (λ z i. i) (tied_drop s I.tied t))

    no_stray : map (λ (v : Look). h.since v.waiter) r.looks ++ h.aborts.stray ≡ []
    no_stray =
        ap (λ (l : List Look). map (λ (v : Look). h.since v.waiter) l ++ h.aborts.stray) unlooked ∙ I.stray

    idle_goes : NobodyComes s r.state → Sheds s c r → Goes bk past s h I c r h.since (drops who r h)
    idle_goes L D =
        record {
          sound = S;
          core = idle_core c r L;
          tied = sheds_tied D;
          rising = idle_rising r.state L.queues;
          stray = no_stray;
          new = λ z i. inl i;
          kept = λ z i. i;
          duty8 =
              simple_duty8 c r h.since (drops who r h) c
              (λ e p q.
              subst
              (λ (x : Call).
              Given (past ++ (x ∷ [])) (recorded_seen bk h.since (drops who r h) (sort_of x) r h)
              (delivery_of e r (waiting_in h.since r.state) h))
              (sym p) (hands e r who (T e p q)));
          duty12 = simple_duty12 c r h.since (drops who r h) (sort_of c) n;
        }

    -- The caller comes to wait, with a name above all others.
    module _ (B : CallerBlocks s c r) where
      abbrev since' : ℕ → ℕ
      since' = put h.since B.caller h.now

      not_queued : (e : ℕ) → Mem B.caller (B.between.endpoints e).waiters → ⊥
      not_queued e m =
          let able = I.sound.queues.running B.caller B.runs in
          ⊎_elim (λ p. differ p able refl) (λ p. differ p able refl)
          ((I.sound.queues.queued B.caller e).0 (sub_mem (B.leaves.queues e) B.caller m))

      same_names :
          (e : ℕ) → map since' (B.between.endpoints e).waiters ≡ map h.since (B.between.endpoints e).waiters
      same_names e =
          map_agree since' h.since (B.between.endpoints e).waiters
          (λ u m. put_other h.since B.caller u h.now
          (λ i. not_queued e (subst (λ (v : ℕ). Mem v (B.between.endpoints e).waiters) i m)))

      -- Whoever waited was named before.
      named_before : (e w : ℕ) → Mem w (map h.since (s.endpoints e).waiters) → w < h.now
      named_before e w m =
          let t = map_mem h.since w (s.endpoints e).waiters m in
          let q = queued_call s e t.0 ((I.sound.queues.queued t.0 e).0 t.1) in
          let k = entry_below past (h.since t.0) q.0 (I.core.made t.0 q.0 q.1).call in
          omega (arith, t.2, I.now)

      block_rising : (e : ℕ) → Rising (map since' (r.state.endpoints e).waiters)
      block_rising e = go (B.joins e)
        where
          was : Rising (map since' (B.between.endpoints e).waiters)
          was = rw (same_names e) (idle_rising B.between B.leaves.queues e)

          below : (w : ℕ) → Mem w (map since' (B.between.endpoints e).waiters) → w < h.now
          below w m =
              named_before e w
              (sub_mem (sub_map h.since (B.leaves.queues e)) w (rw (same_names e) at m))

          go : JoinsTail B.caller (B.between.endpoints e).waiters (r.state.endpoints e).waiters
              → Rising (map since' (r.state.endpoints e).waiters)
          go (inl p) = rw p was
          go (inr p) =
              rw (p, map-append, put_same h.since B.caller h.now)
              (rising_snoc (map since' (B.between.endpoints e).waiters) h.now was below)

      block_goes : Sheds s c r → Goes bk past s h I c r since' (drops who r h)
      block_goes D =
          record {
            sound = S;
            core =
                core_blocks (within (stage_of past h)) fits B.between.threads B.caller B.entry c B.able
                B.calls I.answered h.now I.now r.state.threads B.threads r.answer B.answer
                B.abort B.status B.aside
                (core_leaves (stage_of past h) (suc h.now) (omega arith) B.leaves I.core);
            tied = sheds_tied D;
            rising = block_rising;
            stray = no_stray;
            new = λ z i. inl i;
            kept = λ z i. i;
            duty8 =
                simple_duty8 c r since' (drops who r h) c
                (λ e p q. absurd (no_zero (ap (λ (x : Answer). x.code) (sym B.answer) ∙ q)));
            duty12 = simple_duty12 c r since' (drops who r h) (sort_of c) n;
          }
        where
          no_zero : ◌≡◌ {A = ℕ} 1 0 → ⊥
          no_zero q = omega arith

    pub advance_simple : Arrival s c r → Inv (past ++ (c ∷ [])) r.state (told_seen bk c s r h)
    unfolding named
    advance_simple (idle L q D) =
        subst (Inv (past ++ (c ∷ [])) r.state)
        (sym (told_as h.since (ap (λ (b : Bool). named b s.runs h.now h.since) q)))
        (goes bk past s h I c r h.since (drops who r h) (idle_goes L D))
    advance_simple (blocks B D) =
        subst (Inv (past ++ (c ∷ [])) r.state) (sym (told_as (put h.since B.caller h.now) new_name))
        (goes bk past s h I c r (put h.since B.caller h.now) (drops who r h) (block_goes B D))
      where
        new_name :
            named (queues? (sort_of c) r.answer.code) s.runs h.now h.since
            ≡ put h.since B.caller h.now
        new_name =
            ap (λ (a : Answer). named (queues? (sort_of c) a.code) s.runs h.now h.since) B.answer
            ∙ ap (λ (b : Bool). named b s.runs h.now h.since) B.queues
            ∙ ap (λ (k : Option ℕ). named true k h.now h.since) B.runs

  -- Calls 1 to 10, and 13.
  pub advance :
      (g : Grants) (c : Call) → Simple (sort_of c)
      → Inv (past ++ (c ∷ [])) (step g s c).state (told_seen bk c s (step g s c) h)
  advance g c n =
      advance_simple c n (step g s c) (step_sound g s c I.sound) (no_looks g s c (simple_number c n))
      (λ e p q. subst (λ (x : Call). TakesFirst s e (step g s x)) (sym p)
      (takes s I.sound e g (ap (λ (x : Call). (step g s x).answer.code) (sym p) ∙ q)))
      (turn g s I.sound c n)
