-- The numbers of single entries of the state, by the names of the words that hold them.
use Rattle.std.specs.Prelude.{ℕ}
use Rattle.machine.specs.State.{State}
use Rattle.layout.specs.declared.Field.{Field}
use Rattle.layout.specs.declared.Part.{Part}
use Rattle.layout.specs.declared.Slot.{Slot}
use Rattle.layout.specs.Words.{content, thread_word, endpoint_word, line_code, link_of}

-- Of a word that is no link.
abbrev pub slot_in : Slot → State → ℕ
slot_in a s = content s a

-- Of thread t.
abbrev pub thread_in : Field → ℕ → State → ℕ
thread_in f t s = thread_word (s.threads t) f

-- Of endpoint e.
abbrev pub endpoint_in : Part → ℕ → State → ℕ
endpoint_in p e s = endpoint_word (s.endpoints e) p

-- Of line l, and of the state.
abbrev pub line_in : ℕ → State → ℕ
line_in l s = line_code (s.lines l)

abbrev pub running_in : State → ℕ
running_in s = link_of s.runs
