-- The queues that the history keeps are the machine's, call by call.
use Prim.Native.Nat.{ℕ, ◌<◌}
use mathlib.Core.Path.{◌≡◌, refl, sym, ◌∙◌, ap, subst, fun_ext}
use mathlib.Core.Logic.{◌⊎◌, inl, inr}
use mathlib.Core.Bool.{Bool, true, false}
use mathlib.Core.Option.{Option, none, some, some-injective}
use mathlib.Core.List.{List, [], ◌∷◌, ◌++◌, map}
use native.Mathlib.Omega.{arith}
use lib.ListN.{length, get_elem?}
use Rattle.calls.specs.declared.Answer.{Answer}
use Rattle.calls.specs.declared.Call.{Call}
use Rattle.calls.specs.declared.Call.TheVariants.{Send, Delete}
use Rattle.calls.specs.Calls.{number_of}
use Rattle.machine.specs.Lists.{only, first, Mem}
use Rattle.machine.specs.State.{State, Endpoint, sending, receiving, Status, missing, live, closing, Line, quiet}
use Rattle.machine.specs.State.{pending, awaited, set_endpoint, missing_endpoint}
use Rattle.machine.specs.Endpoints.{is_sending}
use Rattle.machine.specs.Aborts.{Removal, deleted, delete_from, delete_at, delete}
use Rattle.machine.specs.Sound.{Sound, Queued}
use Rattle.machine.specs.Results.{Result}
use Rattle.calls.specs.Answers.{is_accepted}
use Rattle.machine.specs.Grants.{Grants}
use Rattle.machine.specs.Machine.{by_caller, perform, perform_unless, perform_if, step}
use Rattle.history.specs.Sorts.{sort_of}
use Rattle.history.specs.Queues.{Queues, Message, Gives, queues_after, waiter_on, queues_in, handed_to}
use Rattle.history.specs.Blocks.{blocks_after, blocks_in}
use Rattle.history.specs.History.{Step, Books, Waiting, History, is_send, name_of, line_name, waiting_by, waiting_in}
use Rattle.history.specs.Outcomes.{outcome_if}
use Rattle.history.specs.Recorded.{recorded, names_after, waiting_after, step_of, books_after, told}
use Rattle.history.specs.Claim.{In, Handing}
use Rattle.machine.proofs.Lists.{put_same, only_nil, only_all, only_none}
use Rattle.machine.proofs.Running.{choose_keeps}
use Rattle.machine.proofs.Calls.Answers.{words_zero}
use Rattle.history.proofs.Sublists.{entry_below, entry_keep, entry_last, entry_cases, entry_grow}
use Rattle.history.proofs.Sublists.{length_grow}
use Rattle.history.proofs.Demand3.Queued.{queues_step, first_receives}
use Rattle.history.proofs.Demand3.Telling.{blocks_step}
use Rattle.history.proofs.Demand3.Handings.{hands_step, given_step}
use Rattle.history.proofs.Demand3.Invariant.{Inv, StepClaims, Recorded7, Kept, messages_sent}
use Rattle.history.proofs.Demand3.Recording.{told_seen}

line_named : (since : ℕ → ℕ) (x : Line) → line_name since x ≡ name_of since (waiter_on x)
line_named since quiet = refl
line_named since pending = refl
line_named since (awaited t) = refl

-- Of those queued at e all send or none does.
module _ (s : State) (S : Sound s) (since : ℕ → ℕ) (e : ℕ) where
  abbrev sends : ℕ → Bool
  sends t = is_sending (s.threads t).place

  -- Where one receives none sends.
  pub none_sends : (u : ℕ) → (s.threads u).place ≡ receiving e → (waiting_in since s).messages e ≡ []
  none_sends u h =
      ap (map since)
      (only_none sends (s.endpoints e).waiters (λ t m. go t ((S.queues.queued t e).0 m)))
    where
      go : (t : ℕ) → Queued s t e → sends t ≡ false
      go t (inl p) = absurd (S.queues.one_kind e t u p h)
      go t (inr p) = ap is_sending p

  all_send : (u : ℕ) → (s.threads u).place ≡ sending e → (waiting_in since s).messages e ≡ (waiting_in since s).queues e
  all_send u h =
      ap (map since)
      (only_all sends (s.endpoints e).waiters (λ t m. go t ((S.queues.queued t e).0 m)))
    where
      go : (t : ℕ) → Queued s t e → sends t ≡ true
      go t (inl p) = ap is_sending p
      go t (inr p) = absurd (S.queues.one_kind e u t h p)

  pub kinds :
      ((waiting_in since s).messages e ≡ []) ⊎ ((waiting_in since s).messages e ≡ (waiting_in since s).queues e)
  kinds = go (s.endpoints e).waiters refl
    where
      of : (u : ℕ) → Queued s u e
          → ((waiting_in since s).messages e ≡ []) ⊎ ((waiting_in since s).messages e ≡ (waiting_in since s).queues e)
      of u (inl p) = inr (all_send u p)
      of u (inr p) = inl (none_sends u p)

      go : (l : List ℕ) → (s.endpoints e).waiters ≡ l
          → ((waiting_in since s).messages e ≡ []) ⊎ ((waiting_in since s).messages e ≡ (waiting_in since s).queues e)
      go [] h = inl (ap (λ (l : List ℕ). map since (only sends l)) h ∙ ap (map since) (only_nil sends))
      go (u ∷ l) h = of u ((S.queues.queued u e).0 (subst (λ (k : List ℕ). Mem u k) (sym h) (inl refl)))

-- A call 11 answered 0 leaves nobody queued there.

empty_deleted :
    (l : List ℕ) (e : ℕ) (k : Removal) → (deleted l e k).answer.code ≡ 0
    → ((deleted l e k).state.endpoints e).waiters ≡ []
unfolding deleted
empty_deleted [] e k h =
    ap (λ (f : ℕ → Endpoint). (f e).waiters) (choose_keeps (set_endpoint e missing_endpoint k.state)).endpoints
    ∙ ap (λ (x : Endpoint). x.waiters) (put_same k.state.endpoints e missing_endpoint)
empty_deleted (w ∷ l) e k h = absurd (omega (arith, h))

empty_at :
    (x : Status) (t e a : ℕ) (s : State) → (delete_at x t e a s).answer.code ≡ 0
    → ((delete_at x t e a s).state.endpoints e).waiters ≡ []
unfolding delete_at delete_from
empty_at missing t e a s h = absurd (omega (arith, h))
empty_at live t e a s h = empty_deleted _ e _ h
empty_at closing t e a s h = empty_deleted _ e _ h

empty_by :
    (o : Option ℕ) (e a : ℕ) (s : State) → (by_caller o (λ t. delete t e a) s).answer.code ≡ 0
    → ((by_caller o (λ t. delete t e a) s).state.endpoints e).waiters ≡ []
unfolding delete
empty_by none e a s h = absurd (omega (arith, h))
empty_by (some t) e a s h = empty_at _ t e a s h

empty_unless :
    (x : Bool) (e a : ℕ) (s : State) → (perform_unless x (Delete e a) s).answer.code ≡ 0
    → ((perform_unless x (Delete e a) s).state.endpoints e).waiters ≡ []
unfolding perform_unless perform
empty_unless true e a s h = absurd (omega (arith, h))
empty_unless false e a s h = empty_by s.runs e a s h

empty_if :
    (x : Bool) (g : Grants) (e a : ℕ) (s : State) → (perform_if x g (Delete e a) s).answer.code ≡ 0
    → ((perform_if x g (Delete e a) s).state.endpoints e).waiters ≡ []
unfolding perform_if
empty_if true g e a s h = empty_unless _ e a s h
empty_if false g e a s h = absurd (omega (arith, h))

pub empties :
    (g : Grants) (s : State) (e a : ℕ) → (step g s (Delete e a)).answer.code ≡ 0
    → ((step g s (Delete e a)).state.endpoints e).waiters ≡ []
unfolding step
empties g s e a h = empty_if _ g e a s h

module _ (past : List Call) (g : Grants) (s : State) (h : History) (c : Call) (I : Inv past s h)
    (K : Kept past s h) where
  abbrev r : Result
  r = step g s c

  abbrev names : ℕ → ℕ
  names = names_after c s r h

  abbrev bk : Books
  bk = books_after c s r h

  queues : queues_in r.state ≡ bk.queued
  queues =
      queues_step g s c I.sound
      ∙ ap (λ (k : Queues). queues_after c s.runs r.answer r.looks k) (sym K.queued)

  blocks : blocks_in r.state ≡ bk.blocks
  blocks =
      blocks_step g s c I.sound
      ∙ ap (λ (k : Queues). blocks_after c s.runs r.answer r.looks k (blocks_in s)) (sym K.queued)
      ∙ ap (blocks_after c s.runs r.answer r.looks h.books.queued) (sym K.blocks)

  calls : past ++ (c ∷ []) ≡ bk.calls
  calls = ap (λ (l : List Call). l ++ (c ∷ [])) (sym K.calls)

  module _ (J : Inv (past ++ (c ∷ [])) r.state (told_seen bk c s r h)) where
    messages :
        (e : ℕ)
        → (waiting_in names r.state).messages e
        ≡ only (λ w. is_send (get_elem? (past ++ (c ∷ [])) w)) ((waiting_in names r.state).queues e)
    unfolding recorded
    messages e = messages_sent (past ++ (c ∷ [])) r.state (told_seen bk c s r h) J e

    same : waiting_in names r.state ≡ waiting_after c s r h
    same =
        ap
        (λ (f : ℕ → List ℕ).
        record {
          queues = (waiting_in names r.state).queues;
          messages = f;
          lines = (waiting_in names r.state).lines;
        })
        (fun_ext messages)
        ∙ ap
        (λ (f : ℕ → Option ℕ).
        record {
          queues = (waiting_in names r.state).queues;
          messages =
              λ e. only (λ w. is_send (get_elem? (past ++ (c ∷ [])) w)) (map names (r.state.endpoints e).waiters);
          lines = f;
        })
        (fun_ext (λ l. line_named names (r.state.lines l)))
        ∙ ap (λ (l : List Call). waiting_by names l (queues_in r.state)) calls
        ∙ ap (waiting_by names bk.calls) queues

    pub told_inv : Inv (past ++ (c ∷ [])) r.state (told c s r h)
    unfolding told
    told_inv =
        subst
        (λ (w : Waiting).
        Inv (past ++ (c ∷ [])) r.state
        (recorded names w bk (outcome_if (is_accepted r.answer) (sort_of c) s.runs r h) (sort_of c) r h))
        same J

    pub told_kept : Kept (past ++ (c ∷ [])) r.state (told c s r h)
    unfolding told recorded
    told_kept =
        record {
          calls = sym calls;
          queued = sym queues;
          blocks = sym blocks;
          steps = steps;
          recorded7 = has7;
          words = has_words;
        }
      where
        last : (i : ℕ) → i ≡ h.now → get_elem? (h.answers ++ (r.answer ∷ [])) i ≡ some r.answer
        last i p =
            ap (get_elem? (h.answers ++ (r.answer ∷ []))) (p ∙ I.now ∙ sym I.answered)
            ∙ entry_last h.answers r.answer

        -- The call of the new step.
        last_call : (d : Call) → get_elem? (past ++ (c ∷ [])) h.now ≡ some d → c ≡ d
        last_call d p =
            some-injective c d
            (sym (ap (get_elem? (past ++ (c ∷ []))) I.now ∙ entry_last past c) ∙ p)

        last_answer : (a : Answer) → get_elem? (h.answers ++ (r.answer ∷ [])) h.now ≡ some a → r.answer ≡ a
        last_answer a p = some-injective r.answer a (sym (last h.now refl) ∙ p)

        deleted_empty : (e n : ℕ) → c ≡ Delete e n → r.answer.code ≡ 0 → (r.state.endpoints e).waiters ≡ []
        deleted_empty e n p z =
            ap (λ (d : Call). ((step g s d).state.endpoints e).waiters) p
            ∙ empties g s e n (ap (λ (d : Call). (step g s d).answer.code) (sym p) ∙ z)

        none_sent :
            (t : ℕ) (n : Message) (G : Gives c r.answer (queues_in s) t n)
            → h.waiting.messages G.endpoint ≡ []
        none_sent t n G =
            let d : (step g s (Send G.endpoint n.badge n.message)).answer.code ≡ 0 =
            ap (λ (x : Call). (step g s x).answer.code) (sym G.own) ∙ ap (λ (x : Answer). x.code) G.done in
            let F = given_step g s G.endpoint n.badge n.message I.sound d in
            ap (λ (w : Waiting). w.messages G.endpoint) I.waiting
            ∙ none_sends s I.sound h.since G.endpoint F.to
            (first_receives s I.sound G.endpoint F.to F.receiver)

        hands : (t : ℕ) (n : Message) → Gives c r.answer (queues_in s) t n
            → Handing (past ++ (c ∷ [])) (told c s r h) (step_of c s r h) t n
        hands t n G =
            record {
              call = c;
              made = ap (get_elem? (past ++ (c ∷ []))) I.now ∙ entry_last past c;
              answer = r.answer;
              answered = last h.now refl;
              gives =
                  record {
                    endpoint = G.endpoint;
                    own = G.own;
                    done = G.done;
                    longest = ap (λ (k : Queues). first (k.queues G.endpoint)) K.queued ∙ G.longest;
                  };
              receives = none_sent t n G;
            }

        new : StepClaims (past ++ (c ∷ [])) (told c s r h) (step_of c s r h)
        new =
            record {
              place = rw (length_grow past c) (omega (arith, I.now));
              same = same;
              kind =
                  λ e.
                  subst (λ (w : Waiting). (w.messages e ≡ []) ⊎ (w.messages e ≡ w.queues e)) same
                  (kinds r.state J.sound names e);
              emptied =
                  λ e n a p q z.
                  ap (λ (w : Waiting). w.queues e) (sym same)
                  ∙ ap (map names)
                  (deleted_empty e n (last_call (Delete e n) p) (ap (λ (x : Answer). x.code) (last_answer a q) ∙ z));
              blocks = blocks;
              hands = λ t n p. hands t n (hands_step g s c I.sound t n p);
            }

        old : (x : Step) → StepClaims past h x → StepClaims (past ++ (c ∷ [])) (told c s r h) x
        old x C =
            let i : x.place < length h.answers = omega (arith, C.place, I.answered) in
            record {
              place = rw (length_grow past c) (omega (arith, C.place));
              same = C.same;
              kind = C.kind;
              emptied =
                  λ e n a p q z.
                  C.emptied e n a (sym (entry_keep past (c ∷ []) x.place C.place) ∙ p)
                  (sym (entry_keep h.answers (r.answer ∷ []) x.place i) ∙ q) z;
              blocks = C.blocks;
              hands =
                  λ t n p.
                  let H = C.hands t n p in
                  record {
                    call = H.call;
                    made = entry_grow past c x.place H.call H.made;
                    answer = H.answer;
                    answered = entry_grow h.answers r.answer x.place H.answer H.answered;
                    gives = H.gives;
                    receives = H.receives;
                  };
            }

        steps : (x : Step) → In x bk.steps → StepClaims (past ++ (c ∷ [])) (told c s r h) x
        steps x (inl p) = subst (StepClaims (past ++ (c ∷ [])) (told c s r h)) (sym p) new
        steps x (inr i) = old x (K.steps x i)

        has_words :
            (i : ℕ) (d : Call) (a : Answer) → get_elem? (past ++ (c ∷ [])) i ≡ some d
            → get_elem? (h.answers ++ (r.answer ∷ [])) i ≡ some a → ((number_of d ≡ 8) × (a.code ≡ 0) → ⊥)
            → (a.badge ≡ 0) × (a.message ≡ 0)
        has_words i d a p q n = go (entry_cases past c i d p)
          where
            go : (get_elem? past i ≡ some d) ⊎ ((i ≡ length past) × (c ≡ d)) → (a.badge ≡ 0) × (a.message ≡ 0)
            go (inl j) =
                let l = entry_below past i d j in
                let m : i < length h.answers = omega (arith, I.answered) in
                K.words i d a j (sym (entry_keep h.answers (r.answer ∷ []) i m) ∙ q) n
            go (inr j) =
                let k : r.answer ≡ a = some-injective r.answer a (sym (last i (j.0 ∙ sym I.now)) ∙ q) in
                subst (λ (z : Answer). (z.badge ≡ 0) × (z.message ≡ 0)) k
                (words_zero g s c
                (λ m. n (ap number_of (sym j.1) ∙ m.0, ap (λ (z : Answer). z.code) (sym k) ∙ m.1)))

        has7 :
            (i e b m : ℕ) (a : Answer) → get_elem? (past ++ (c ∷ [])) i ≡ some (Send e b m)
            → get_elem? (h.answers ++ (r.answer ∷ [])) i ≡ some a → a.code ≡ 0 → Recorded7 (told c s r h) i b m
        has7 i e b m a p q z = go (entry_cases past c i (Send e b m) p)
          where
            go : (get_elem? past i ≡ some (Send e b m)) ⊎ ((i ≡ length past) × (c ≡ Send e b m))
                → Recorded7 (told c s r h) i b m
            go (inl j) =
                let l = entry_below past i (Send e b m) j in
                let n : i < length h.answers = omega (arith, I.answered) in
                let x = K.recorded7 i e b m a j (sym (entry_keep h.answers (r.answer ∷ []) i n) ∙ q) z in
                (x.0, x.1, inr x.2, x.3, x.4)
            go (inr j) =
                let k : some r.answer ≡ some a = sym (last i (j.0 ∙ sym I.now)) ∙ q in
                let same_answer : r.answer ≡ a = cc in
                let d : (step g s (Send e b m)).answer.code ≡ 0 =
                ap (λ (x : Call). (step g s x).answer.code) (sym j.1)
                ∙ ap (λ (x : Answer). x.code) same_answer ∙ z in
                let G = given_step g s e b m I.sound d in (
                  step_of c s r h,
                  G.to,
                  inl refl,
                  I.now ∙ sym j.0,
                  ap (λ (x : Call). handed_to (s.threads G.to) ((step g s x).state.threads G.to)) j.1
                      ∙ G.handed,
                )
