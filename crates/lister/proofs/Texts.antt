-- The text of a journal from a reading on.
use Rattle.std.proofs.Common.{ℕ, List, [], ◌++◌}
use Rattle.calls.specs.declared.Call.{Call}
use Rattle.machine.specs.State.{State}
use Rattle.machine.specs.Grants.{Grants}
use Rattle.machine.specs.Machine.{step}
use Rattle.journal.specs.declared.types.Read.{Read}
use Rattle.forms.specs.declared.Form.{Form}
use Rattle.journal.specs.Course.{course_from}
use Rattle.forms.specs.Forms.{call_text}
use Rattle.lister.specs.Listing.{Text, text_in}

-- A call's text before those of other calls,
abbrev pub before : List ℕ → Text → Text
before text t = record { calls = text ++ t.calls; stop = t.stop }

-- and no call.
abbrev pub stops_with : List ℕ → Text
stops_with text = record { calls = []; stop = text }

-- The text of a call made in a state.
abbrev pub text_for : Form → ℕ → Call → Grants → State → List ℕ
text_for f i c g s = call_text f i s.runs c (step g s c).answer (step g s c).state.runs

abbrev pub text_from : Form → ℕ → ℕ → Read → ℕ → List ℕ → Grants → State → Text
text_from f k n r i journal g s = text_in f k (course_from n r i journal g s)
