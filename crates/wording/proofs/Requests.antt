-- The call can be read off its request.
use Prim.Native.Nat.{ℕ}
use mathlib.Core.Path.{◌≡◌, refl}
use mathlib.Core.List.{List, [], ◌∷◌, ◌++◌}
use lib.ListN.{get_or}
use Rattle.calls.specs.declared.Call.{Call}
use Rattle.calls.specs.declared.Call.TheVariants.{CreateThread, DestroyThread, SetPriority, CreateEndpoint}
use Rattle.calls.specs.declared.Call.TheVariants.{Interrupt, Tick, Send, Receive, Yield, Wait, Delete, Abort}
use Rattle.calls.specs.declared.Call.TheVariants.{Grant}
use Rattle.machine.specs.Lists.{pick}
use Rattle.texts.specs.Text.{bytes}
use Rattle.texts.proofs.Apart.{opens_with, numbers_in, reading}
use Rattle.wording.specs.Sentence.{request}

-- How the requests begin, and the calls that they are, of the numbers in the order that they are said in.
abbrev readings : ℕ → ℕ → ℕ → ℕ → List (List ℕ × Call)
readings x y z u =
    (bytes "Create thread ", CreateThread x y)
    ∷ (bytes "Destroy thread ", DestroyThread x)
    ∷ (bytes "Set thread ", SetPriority x y)
    ∷ (bytes "Create endpoint ", CreateEndpoint x)
    ∷ (bytes "Interrupt on line ", Interrupt x)
    ∷ (bytes "Tick", Tick)
    ∷ (bytes "Send message ", Send z y x)
    ∷ (bytes "Receive at endpoint ", Receive x)
    ∷ (bytes "Yield", Yield)
    ∷ (bytes "Wait on line ", Wait x)
    ∷ (bytes "Delete endpoint ", Delete x y)
    ∷ (bytes "Abort badge ", Abort y z x)
    ∷ (bytes "Grant thread ", Grant x z y u)
    ∷ []

-- The first that the text begins with.
abbrev first_of : List ℕ → List (List ℕ × Call) → Call
first_of l [] = Tick
first_of l (r ∷ rs) = pick (opens_with r.0 l) r.1 (first_of l rs)

abbrev pub call_said : List ℕ → Call
call_said l = first_of l (readings (said 0) (said 1) (said 2) (said 3))
  where
    said : ℕ → ℕ
    said i = get_or (numbers_in l) i 0

-- Reading the request gives the call, whatever follows its colon.
pub call_read : (c : Call) (t : List ℕ) → call_said (request c ++ (bytes ": " ++ t)) ≡ c
unfolding request bytes
call_read (CreateThread x y) t = simp reading
call_read (DestroyThread x) t = simp reading
call_read (SetPriority x y) t = simp reading
call_read (CreateEndpoint x) t = simp reading
call_read (Interrupt x) t = simp reading
call_read Tick t = refl
call_read (Send z y x) t = simp reading
call_read (Receive x) t = simp reading
call_read Yield t = refl
call_read (Wait x) t = simp reading
call_read (Delete x y) t = simp reading
call_read (Abort y z x) t = simp reading
call_read (Grant x z y u) t = simp reading
