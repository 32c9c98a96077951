-- A call and its answer as one English line, as docs/SENTENCES.md words it: what was asked, what came of it, and of
-- count, badge and message those that are told.
use Rattle.std.specs.Prelude.{ℕ, zero, suc, Bool, ◌&&◌, ◌||◌, not, List, [], ◌∷◌, ◌++◌, eqb, get_or, replicate}
use Rattle.calls.specs.declared.Answer.{Answer}
use Rattle.calls.specs.declared.Call.{Call}
use Rattle.calls.specs.declared.Call.TheVariants.{CreateThread, DestroyThread, SetPriority, CreateEndpoint}
use Rattle.calls.specs.declared.Call.TheVariants.{Interrupt, Tick, Send, Receive, Yield, Wait, Delete, Abort}
use Rattle.calls.specs.declared.Call.TheVariants.{Grant}
use Rattle.calls.specs.Calls.{number_of}
use Rattle.machine.specs.Lists.{pick}
use Rattle.texts.specs.Text.{bytes}
use Rattle.texts.specs.Decimal.{decimal}

-- What was asked, of which thread, endpoint or line.
unfoldable pub request : Call → List ℕ
request (CreateThread t p) = bytes "Create thread " ++ decimal t ++ bytes " with priority " ++ decimal p
request (DestroyThread t) = bytes "Destroy thread " ++ decimal t
request (SetPriority t p) = bytes "Set thread " ++ decimal t ++ bytes " to priority " ++ decimal p
request (CreateEndpoint e) = bytes "Create endpoint " ++ decimal e
request (Interrupt l) = bytes "Interrupt on line " ++ decimal l
request Tick = bytes "Tick"
request (Send e b m) =
    bytes "Send message " ++ decimal m ++ bytes " under badge " ++ decimal b ++ bytes " to endpoint " ++ decimal e
request (Receive e) = bytes "Receive at endpoint " ++ decimal e
request Yield = bytes "Yield"
request (Wait l) = bytes "Wait on line " ++ decimal l
request (Delete e a) = bytes "Delete endpoint " ++ decimal e ++ bytes " with allowance " ++ decimal a
request (Abort e a b) =
    bytes "Abort badge " ++ decimal b ++ bytes " at endpoint " ++ decimal e ++ bytes " with allowance " ++ decimal a
request (Grant t e r b) =
    bytes "Grant thread " ++ decimal t ++ bytes " rights " ++ decimal r ++ bytes " at endpoint " ++ decimal e
    ++ bytes " under badge " ++ decimal b

-- Why, of the numbers 16 to 30.
abbrev pub causes : List (List ℕ)
causes =
    bytes ", wrong memory length"
    ∷ bytes ", memory is not sound"
    ∷ bytes ", this is no call"
    ∷ bytes ", number out of range"
    ∷ bytes ", no thread runs"
    ∷ bytes ", no such thread"
    ∷ bytes ", the thread exists"
    ∷ bytes ", no such endpoint"
    ∷ bytes ", the endpoint exists"
    ∷ bytes ", endpoint is closing"
    ∷ bytes ", badge is under abort"
    ∷ bytes ", the line has a waiter"
    ∷ bytes ", buffer too short"
    ∷ bytes ", lacks right or badge"
    ∷ bytes ", too much to bill"
    ∷ []

-- Nothing where the number has no cause.
unfoldable pub cause : ℕ → List ℕ
cause n = get_or (replicate 16 [] ++ causes) n []

-- What came of it.
unfoldable pub outcome : ℕ → List ℕ
outcome zero = bytes "done"
outcome (suc zero) = bytes "blocked"
outcome (suc (suc zero)) = bytes "broken off"
outcome (suc (suc (suc n))) = bytes "refused by " ++ decimal (suc (suc (suc n))) ++ cause (suc (suc (suc n)))

-- A number behind its name, where it is asked for or is not 0.
unfoldable pub detail : Bool → List ℕ → ℕ → List ℕ
detail asked name n = pick (asked || not (eqb n 0)) (name ++ decimal n) []

-- A delete and an abort that were done or broken off always tell their count,
unfoldable pub asks_count : ℕ → ℕ → Bool
asks_count call code = (eqb call 11 || eqb call 12) && (eqb code 0 || eqb code 2)

-- and a receive that was done the badge and the message.
unfoldable pub asks_message : ℕ → ℕ → Bool
asks_message call code = eqb call 8 && eqb code 0

-- Of count, badge and message those that are told, by the call's number.
unfoldable pub details : ℕ → Answer → List ℕ
details call a =
    detail (asks_count call a.code) (bytes ", count ") a.count
    ++ detail (asks_message call a.code) (bytes ", badge ") a.badge
    ++ detail (asks_message call a.code) (bytes ", message ") a.message

-- What was asked and what came of it.
abbrev pub clause : Call → Answer → List ℕ
clause c a = request c ++ bytes ": " ++ outcome a.code ++ details (number_of c) a

-- The line, ended by a newline.
unfoldable pub sentence : Call → Answer → List ℕ
sentence c a = clause c a ++ bytes ".\n"

-- That the journal does not go on, by the reader's number.
abbrev pub stop_clause : ℕ → List ℕ
stop_clause code = bytes "The journal does not go on: " ++ outcome code

-- The line of a word that it does not go on with.
unfoldable pub stop_line : ℕ → List ℕ
stop_line code = stop_clause code ++ bytes ".\n"
