-- A call as six plain numbers: its number, subject, argument, badge, message and rights. Those that it has not are 0.
-- A grant's subject is the thread, its argument the endpoint.
use Rattle.std.specs.Prelude.{ℕ, List, [], ◌∷◌, eqb, get_or}
use Rattle.std.proofs.Math.Option.{Option, some}
use Rattle.calls.specs.declared.Call.{Call}
use Rattle.calls.specs.declared.Call.TheVariants.{CreateThread, DestroyThread, SetPriority, CreateEndpoint}
use Rattle.calls.specs.declared.Call.TheVariants.{Interrupt, Tick, Send, Receive, Yield, Wait, Delete, Abort}
use Rattle.calls.specs.declared.Call.TheVariants.{Grant}
use Rattle.machine.specs.Lists.{pick}
use Rattle.journal.specs.Words.{unused, call_of}

-- each of the six
abbrev pub given_number : List ℕ → ℕ
given_number ns = get_or ns 0 0

abbrev pub given_subject : List ℕ → ℕ
given_subject ns = get_or ns 1 0

abbrev pub given_argument : List ℕ → ℕ
given_argument ns = get_or ns 2 0

abbrev pub given_badge : List ℕ → ℕ
given_badge ns = get_or ns 3 0

abbrev pub given_message : List ℕ → ℕ
given_message ns = get_or ns 4 0

abbrev pub given_rights : List ℕ → ℕ
given_rights ns = get_or ns 5 0

-- the call with neither badge nor message: the one that such a call word alone names in the journal
abbrev pub short : List ℕ → Option Call
short ns =
    unused (given_badge ns)
    (unused (given_message ns) (call_of (given_number ns) (given_subject ns) (given_argument ns) []))

-- the call without rights that the first five name
abbrev pub without_rights : List ℕ → Option Call
without_rights ns =
    pick (eqb (given_number ns) 7)
    (unused (given_argument ns) (some (Send (given_subject ns) (given_badge ns) (given_message ns))))
    (pick (eqb (given_number ns) 12)
    (unused (given_message ns) (some (Abort (given_subject ns) (given_argument ns) (given_badge ns))))
    (short ns))

-- the call that six numbers name, with no bound on a number: the core tries the ranges
unfoldable pub call_in : List ℕ → Option Call
call_in ns =
    pick (eqb (given_number ns) 13)
    (unused (given_message ns) (some (Grant (given_subject ns) (given_argument ns) (given_rights ns) (given_badge ns))))
    (unused (given_rights ns) (without_rights ns))

-- the six numbers of a call
unfoldable pub numbers_of : Call → List ℕ
numbers_of (CreateThread t p) = 1 ∷ t ∷ p ∷ 0 ∷ 0 ∷ 0 ∷ []
numbers_of (DestroyThread t) = 2 ∷ t ∷ 0 ∷ 0 ∷ 0 ∷ 0 ∷ []
numbers_of (SetPriority t p) = 3 ∷ t ∷ p ∷ 0 ∷ 0 ∷ 0 ∷ []
numbers_of (CreateEndpoint e) = 4 ∷ e ∷ 0 ∷ 0 ∷ 0 ∷ 0 ∷ []
numbers_of (Interrupt l) = 5 ∷ l ∷ 0 ∷ 0 ∷ 0 ∷ 0 ∷ []
numbers_of Tick = 6 ∷ 0 ∷ 0 ∷ 0 ∷ 0 ∷ 0 ∷ []
numbers_of (Send e b m) = 7 ∷ e ∷ 0 ∷ b ∷ m ∷ 0 ∷ []
numbers_of (Receive e) = 8 ∷ e ∷ 0 ∷ 0 ∷ 0 ∷ 0 ∷ []
numbers_of Yield = 9 ∷ 0 ∷ 0 ∷ 0 ∷ 0 ∷ 0 ∷ []
numbers_of (Wait l) = 10 ∷ l ∷ 0 ∷ 0 ∷ 0 ∷ 0 ∷ []
numbers_of (Delete e a) = 11 ∷ e ∷ a ∷ 0 ∷ 0 ∷ 0 ∷ []
numbers_of (Abort e a b) = 12 ∷ e ∷ a ∷ b ∷ 0 ∷ 0 ∷ []
numbers_of (Grant t e r b) = 13 ∷ t ∷ e ∷ b ∷ 0 ∷ r ∷ []
