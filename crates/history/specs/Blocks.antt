-- What the threads' blocks tell, kept from calls, answers, callers, looks and who waits: "both parties that were
-- blocked are woken with an outcome … Blocking resets the outcome to 0. Only a blocked sender and a thread with outcome
-- 2 store a badge and message".
use Rattle.std.specs.Prelude.{ℕ, zero, suc, Bool, true, false, List, [], ◌∷◌, take}
use Rattle.std.proofs.Math.Option.{Option, none, some}
use Rattle.calls.specs.declared.Answer.{Answer}
use Rattle.calls.specs.declared.Call.{Call}
use Rattle.calls.specs.declared.Call.TheVariants.{CreateThread, DestroyThread, SetPriority, CreateEndpoint}
use Rattle.calls.specs.declared.Call.TheVariants.{Interrupt, Tick, Send, Receive, Yield, Wait, Delete, Abort}
use Rattle.calls.specs.declared.Call.TheVariants.{Grant}
use Rattle.calls.specs.Answers.{is_accepted}
use Rattle.machine.specs.Lists.{put, first}
use Rattle.machine.specs.State.{State, Thread, no_outcome, message_taken, message_received, message_aborted}
use Rattle.machine.specs.State.{endpoint_gone}
use Rattle.machine.specs.State.{line_fired}
use Rattle.machine.specs.Results.{Look, removals}
use Rattle.history.specs.Queues.{Queues}

pub record Block : Type 0 where
  pub outcome : ℕ
  pub badge : ℕ
  pub message : ℕ

-- An outcome without badge and message, and one with them.
abbrev pub bare : ℕ → Block
bare o = record { outcome = o; badge = 0; message = 0 }

abbrev pub worded : ℕ → ℕ → ℕ → Block
worded o b m = record { outcome = o; badge = b; message = m }

-- This thread, if there is one, is told so; all of these are.
abbrev pub tell_if : Option ℕ → Block → (ℕ → Block) → ℕ → Block
tell_if none x k = k
tell_if (some t) x k = put k t x

abbrev pub tell_all : List ℕ → Block → (ℕ → Block) → ℕ → Block
tell_all [] x k = k
tell_all (t ∷ l) x k = tell_all l x (put k t x)

-- A call 7 or 8 answered 0 tells the first, answered 1 its caller, which blocks.
abbrev pub met_blocks : ℕ → Option ℕ → Block → Option ℕ → Block → (ℕ → Block) → ℕ → Block
met_blocks zero u x o y k = tell_if u x k
met_blocks (suc zero) u x o y k = tell_if o y k
met_blocks (suc (suc n)) u x o y k = k

-- An accepted call by this caller, with its answer and looks, where these wait.
unfoldable pub blocks_by : Call → Option ℕ → Answer → List Look → Queues → (ℕ → Block) → ℕ → Block
blocks_by (CreateThread t p) o a looks q k = put k t (bare no_outcome)
blocks_by (DestroyThread t) o a looks q k = put k t (bare no_outcome)
blocks_by (SetPriority t p) o a looks q k = k
blocks_by (CreateEndpoint e) o a looks q k = k
blocks_by (Interrupt l) o a looks q k = tell_if (q.lines l) (bare line_fired) k
blocks_by Tick o a looks q k = k
blocks_by (Send e b m) o a looks q k =
    met_blocks a.code (first (q.queues e)) (worded message_received b m) o (worded no_outcome b m) k
blocks_by (Receive e) o a looks q k =
    met_blocks a.code (first (q.queues e)) (bare message_taken) o (bare no_outcome) k
blocks_by Yield o a looks q k = k
blocks_by (Wait l) o a looks q k = met_blocks a.code none (bare no_outcome) o (bare no_outcome) k
blocks_by (Delete e n) o a looks q k = tell_all (take a.count (q.queues e)) (bare endpoint_gone) k
blocks_by (Abort e n b) o a looks q k = tell_all (removals looks) (bare message_aborted) k
blocks_by (Grant t e r b) o a looks q k = k

-- A refused call changes nothing.
unfoldable pub blocks_if : Bool → Call → Option ℕ → Answer → List Look → Queues → (ℕ → Block) → ℕ → Block
blocks_if true c o a looks q k = blocks_by c o a looks q k
blocks_if false c o a looks q k = k

abbrev pub blocks_after : Call → Option ℕ → Answer → List Look → Queues → (ℕ → Block) → ℕ → Block
blocks_after c o a looks q k = blocks_if (is_accepted a) c o a looks q k

abbrev pub no_blocks : ℕ → Block
no_blocks t = bare no_outcome

-- The machine's own.
abbrev pub block_of : Thread → Block
block_of x = record { outcome = x.outcome; badge = x.badge; message = x.message }

abbrev pub blocks_in : State → ℕ → Block
blocks_in s t = block_of (s.threads t)
