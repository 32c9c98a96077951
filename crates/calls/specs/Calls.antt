-- The thirteen calls: their numbers, and which numbers in them are in range.
use Rattle.std.specs.Prelude.{ℕ, ◌^◌, Bool, true, ◌&&◌, leb, ltb}
use Rattle.calls.specs.declared.Call.{Call}
use Rattle.calls.specs.declared.Call.TheVariants.{CreateThread, DestroyThread, SetPriority, CreateEndpoint}
use Rattle.calls.specs.declared.Call.TheVariants.{Interrupt, Tick, Send, Receive, Yield, Wait, Delete, Abort}
use Rattle.calls.specs.declared.Call.TheVariants.{Grant}

-- The number of a call.
abbrev pub number_of : Call → ℕ
number_of (CreateThread t p) = 1
number_of (DestroyThread t) = 2
number_of (SetPriority t p) = 3
number_of (CreateEndpoint e) = 4
number_of (Interrupt l) = 5
number_of Tick = 6
number_of (Send e b m) = 7
number_of (Receive e) = 8
number_of Yield = 9
number_of (Wait l) = 10
number_of (Delete e a) = 11
number_of (Abort e a b) = 12
number_of (Grant t e r b) = 13

-- The endpoint that a call names; 0 where it names none.
abbrev pub endpoint_of : Call → ℕ
endpoint_of (CreateThread t p) = 0
endpoint_of (DestroyThread t) = 0
endpoint_of (SetPriority t p) = 0
endpoint_of (CreateEndpoint e) = e
endpoint_of (Interrupt l) = 0
endpoint_of Tick = 0
endpoint_of (Send e b m) = e
endpoint_of (Receive e) = e
endpoint_of Yield = 0
endpoint_of (Wait l) = 0
endpoint_of (Delete e a) = e
endpoint_of (Abort e a b) = e
endpoint_of (Grant t e r b) = e

abbrev pub is_thread : ℕ → Bool
is_thread t = leb t 255

abbrev pub is_priority : ℕ → Bool
is_priority p = leb p 255

abbrev pub is_endpoint : ℕ → Bool
is_endpoint e = leb e 63

abbrev pub is_line : ℕ → Bool
is_line l = leb l 31

abbrev pub is_badge : ℕ → Bool
is_badge b = ltb b (2 ^ 28)

abbrev pub is_message : ℕ → Bool
is_message m = ltb m (2 ^ 28)

abbrev pub is_allowance : ℕ → Bool
is_allowance a = leb 1 a && leb a 65535

abbrev pub is_rights : ℕ → Bool
is_rights r = leb r 15

-- Refusal 19 does not apply: every number is in range.
abbrev pub in_range : Call → Bool
in_range (CreateThread t p) = is_thread t && is_priority p
in_range (DestroyThread t) = is_thread t
in_range (SetPriority t p) = is_thread t && is_priority p
in_range (CreateEndpoint e) = is_endpoint e
in_range (Interrupt l) = is_line l
in_range Tick = true
in_range (Send e b m) = is_endpoint e && is_badge b && is_message m
in_range (Receive e) = is_endpoint e
in_range Yield = true
in_range (Wait l) = is_line l
in_range (Delete e a) = is_endpoint e && is_allowance a
in_range (Abort e a b) = is_endpoint e && is_allowance a && is_badge b
in_range (Grant t e r b) = is_thread t && is_endpoint e && is_rights r && is_badge b
