-- Machines that withhold a message, leave one behind, or tell a thread what is not so, and what the claim says to each.
use Prim.Native.Nat.{ℕ}
use mathlib.Core.Path.{◌≡◌, refl, ap, ◌∙◌}
use mathlib.Core.Logic.{◌⊎◌, inl, inr}
use mathlib.Core.Bool.{◌&&◌}
use mathlib.Core.List.{List, [], ◌∷◌, ◌++◌}
use native.Mathlib.Omega.{arith}
use lib.ListN.{length}
use lib.Dec.{eqb}
use Rattle.calls.specs.declared.Answer.{Answer}
use Rattle.calls.specs.declared.Call.{Call}
use Rattle.calls.specs.declared.Call.TheVariants.{Tick, Send, Receive, Delete, Abort, Grant}
use Rattle.calls.specs.Calls.{number_of}
use Rattle.calls.specs.Answers.{plain}
use Rattle.machine.specs.Lists.{pick}
use Rattle.machine.specs.State.{State, able, receiving, set_thread, with_place}
use Rattle.machine.specs.Scheduling.{block, choose}
use Rattle.machine.specs.Endpoints.{is_sending, join_endpoint, wake_from}
use Rattle.machine.specs.Results.{Result}
use Rattle.machine.specs.Grants.{Grants}
use Rattle.machine.specs.Machine.{step}
use Rattle.history.specs.History.{Step}
use Rattle.history.specs.Blocks.{Block}
use Rattle.history.specs.Recorded.{history_by}
use Rattle.history.specs.Claim.{Claim}
use Rattle.history.proofs.Computed.{computed}
use Rattle.examples.proofs.Losing.{two, to_waiting, meddles, endpoint_in7, endpoint_of, latest_of}

-- A call of this number is answered otherwise, and leaves the state that it should.
unfoldable pub answers_as : ℕ → (Answer → Answer) → Grants → State → Call → Result
answers_as n f g s c =
    pick (eqb (number_of c) n)
    (record { state = (step g s c).state; answer = f (step g s c).answer; looks = (step g s c).looks })
    (step g s c)

-- A delete that is broken off is answered 0, with its true count: somebody stays queued. emptied.
abbrev pub done11 : Answer → Answer
done11 a = record { code = 0; count = a.count; badge = 0; message = 0 }

pub quitter_fails : Claim (two (Delete 0 1 ∷ [])) (history_by (answers_as 11 done11) (two (Delete 0 1 ∷ []))) → ⊥
unfolding computed answers_as
quitter_fails C = omega (arith, ap length (C.emptied _ (inl refl) 0 1 _ refl refl refl))

-- With two senders queued a third is answered 0: its message goes to the first of them, whose own is lost. handed_own:
-- a message was queued there.
unfoldable pub overtaker : Grants → State → Call → Result
overtaker g s c =
    pick (eqb (number_of c) 7 && is_sending (s.threads 1).place && is_sending (s.threads 2).place)
    (record { state = choose (wake_from 0 1 2 9 500 s); answer = plain 0; looks = [] }) (step g s c)

abbrev third : List Call
third = two (Grant 3 0 1 9 ∷ Send 0 9 500 ∷ [])

abbrev overtaken : Step
overtaken = latest_of (history_by overtaker third).books.steps

pub overtaker_fails : Claim third (history_by overtaker third) → ⊥
unfolding computed overtaker endpoint_in7
overtaker_fails C =
    let H = C.handed_own overtaken (inl refl) 1 _ refl in
    let e : 0 ≡ H.gives.endpoint = ap endpoint_of H.made ∙ ap endpoint_in7 H.gives.own in
    omega (arith, ap (λ (k : ℕ). length (overtaken.was.messages k)) e ∙ ap length H.receives)

-- A receive is answered 1 and its caller queued behind the messages. one_kind.
unfoldable pub holder : Grants → State → Call → Result
holder g s c =
    pick (eqb (number_of c) 8 && is_sending (s.threads 1).place)
    (record { state = choose (block 3 (receiving 0) 0 0 (join_endpoint 3 0 s)); answer = plain 1; looks = [] })
    (step g s c)

pub holder_fails : Claim (two (Receive 0 ∷ [])) (history_by holder (two (Receive 0 ∷ []))) → ⊥
unfolding computed holder
holder_fails C =
    go (C.one_kind (latest_of (history_by holder (two (Receive 0 ∷ []))).books.steps) (inl refl) 0) refl refl
  where
    go : {l k : List ℕ} → (l ≡ []) ⊎ (l ≡ k) → length l ≡ 2 → length k ≡ 3 → ⊥
    go (inl h) p q = omega (arith, ap length h)
    go (inr h) p q = omega (arith, ap length h)

-- A tick answers an old badge and message. words_zero.
abbrev pub spoken : Answer → Answer
spoken a = record { code = a.code; count = a.count; badge = 7; message = 100 }

pub teller_fails : Claim (two (Tick ∷ [])) (history_by (answers_as 6 spoken) (two (Tick ∷ []))) → ⊥
unfolding computed answers_as
teller_fails C = omega (arith, (C.words_zero 9 Tick _ refl refl (λ m. omega (arith, m.0))).0)

-- A tick wipes the block of who has been handed a message; an abort tells a sender whom it removes that its message was
-- taken; it leaves badge and message in that block. blocks_are.
abbrev told_tick : List Call
told_tick = to_waiting ++ (Tick ∷ [])

pub eraser_fails :
    Claim told_tick (history_by (meddles 6 (λ s. set_thread 1 (with_place able 0 0 0 (s.threads 1)) s)) told_tick) → ⊥
unfolding computed meddles
eraser_fails C = omega (arith, ap (λ (k : ℕ → Block). (k 1).outcome) (C.blocks_are _ (inl refl)))

abbrev removed_two : List Call
removed_two = two (Abort 0 5 7 ∷ [])

pub liar_fails :
    Claim removed_two (history_by (meddles 12 (λ s. set_thread 1 (with_place able 1 0 0 (s.threads 1)) s)) removed_two)
    → ⊥
unfolding computed meddles
liar_fails C = omega (arith, ap (λ (k : ℕ → Block). (k 1).outcome) (C.blocks_are _ (inl refl)))

pub leftover_fails :
    Claim removed_two (history_by (meddles 12 (λ s. set_thread 1 (with_place able 3 7 100 (s.threads 1)) s))
    removed_two)
    → ⊥
unfolding computed meddles
leftover_fails C = omega (arith, ap (λ (k : ℕ → Block). (k 1).badge) (C.blocks_are _ (inl refl)))
