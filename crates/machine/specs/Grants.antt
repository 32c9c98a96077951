-- The grants, lent beside the tables: which thread may do what at which endpoint, and under which badge it sends. Call
-- 13 gives them, calls 7, 8, 11 and 12 need them.
use Rattle.std.specs.Prelude.{ℕ, zero, suc, ◌+◌, ◌*◌, ◌^◌, ◌/◌, ◌%◌, ◌≤◌, ◌<◌, ◌≡◌, ◌⊎◌, Bool, false, ◌&&◌, not, eqb}
use Rattle.std.proofs.Math.Option.{Option, none, some}
use Rattle.calls.specs.declared.Answer.{Answer}
use Rattle.calls.specs.declared.Call.{Call}
use Rattle.calls.specs.declared.Call.TheVariants.{CreateThread, DestroyThread, SetPriority, CreateEndpoint}
use Rattle.calls.specs.declared.Call.TheVariants.{Interrupt, Tick, Send, Receive, Yield, Wait, Delete, Abort}
use Rattle.calls.specs.declared.Call.TheVariants.{Grant}
use Rattle.calls.specs.Calls.{endpoint_of}
use Rattle.machine.specs.Lists.{pick, put}
use Rattle.calls.specs.Answers.{is_accepted}

-- One word for each thread and endpoint: "top four bits the rights (1 send, 2 receive, 4 delete, 8 abort), the low 28
-- bits the badge, and 0 for no grant".
abbrev pub Grants : Type 0
Grants = ℕ → ℕ → ℕ

abbrev pub rights_in : ℕ → ℕ
rights_in w = w / 2 ^ 28

abbrev pub badge_in : ℕ → ℕ
badge_in w = w % 2 ^ 28

-- The word grants this right, which is 1, 2, 4 or 8.
abbrev pub grants? : ℕ → ℕ → Bool
grants? right w = eqb (rights_in w / right % 2) 1

-- "A send needs its right and its granted badge, the other three their right alone." Other calls need none.
unfoldable pub lacks : ℕ → Call → Bool
lacks w (CreateThread t p) = false
lacks w (DestroyThread t) = false
lacks w (SetPriority t p) = false
lacks w (CreateEndpoint e) = false
lacks w (Interrupt l) = false
lacks w Tick = false
lacks w (Send e b m) = not (grants? 1 w && eqb (badge_in w) b)
lacks w (Receive e) = not (grants? 2 w)
lacks w Yield = false
lacks w (Wait l) = false
lacks w (Delete e a) = not (grants? 4 w)
lacks w (Abort e a b) = not (grants? 8 w)
lacks w (Grant t e r b) = false

-- The thread that makes the call lacks what it needs at its endpoint. Where nobody runs that is not asked: such a call
-- is refused by 20.
abbrev pub barred : Option ℕ → Grants → Call → Bool
barred none g c = false
barred (some t) g c = lacks (g t (endpoint_of c)) c

-- The word that call 13 stores: "rights 0 store the word 0".
abbrev pub grant_word : ℕ → ℕ → ℕ
grant_word zero b = 0
grant_word (suc r) b = suc r * 2 ^ 28 + b

-- What an accepted call leaves: call 13 stores one word, "creating a thread or an endpoint" clears "its own": a
-- thread's at every endpoint, an endpoint's for every thread. Other calls leave the grants as they are.
unfoldable pub regranted : Call → Grants → Grants
regranted (CreateThread t p) g = put g t (λ e. 0)
regranted (DestroyThread t) g = g
regranted (SetPriority t p) g = g
regranted (CreateEndpoint e) g = λ t. put (g t) e 0
regranted (Interrupt l) g = g
regranted Tick g = g
regranted (Send e b m) g = g
regranted (Receive e) g = g
regranted Yield g = g
regranted (Wait l) g = g
regranted (Delete e a) g = g
regranted (Abort e a b) g = g
regranted (Grant t e r b) g = put g t (put (g t) e (grant_word r b))

-- "every refusal leaves the grants untouched"
unfoldable pub grants_after : Answer → Call → Grants → Grants
grants_after a c g = pick (is_accepted a) (regranted c g) g

-- Making fresh clears all grants.
abbrev pub fresh_grants : Grants
fresh_grants t e = 0

-- A word is 0 or grants a right, and is a word of 32 bits; past the last thread and endpoint stands 0.
pub record SoundGrants (g : Grants) : Type 0 where
  pub words : (t e : ℕ) → (g t e ≡ 0) ⊎ ((2 ^ 28 ≤ g t e) × (g t e < 2 ^ 32))
  pub unused : (t e : ℕ) → (255 < t) ⊎ (63 < e) → g t e ≡ 0
