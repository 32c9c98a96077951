-- What stands at the buffer's front is what the input has lost, and nothing was complained of.
use Rattle.std.proofs.Common.{length, ◌-◌, ◌≡◌, take, ◌≤◌}
use Rattle.std.specs.Io.KnownBytes.{Consumes}
use Rattle.files.proofs.whole.Given as goal

abbrev pub invariant-loop-done : goal.invariant-loop-done
invariant-loop-done g l = record {
  long : length l.buf ≡ length l.initial.buf;
  within : l.done ≤ length l.buf;
  output : l.s.output ≡ l.initial.s.output;
  quiet : l.s.errors ≡ l.initial.s.errors;
  bytes : Consumes (g.R.Read.remaining l.initial.s.input) (g.R.Read.remaining l.s.input) (take l.done l.buf);
}

abbrev pub decreases-loop-done : goal.decreases-loop-done
decreases-loop-done g l = length l.initial.buf - l.done
