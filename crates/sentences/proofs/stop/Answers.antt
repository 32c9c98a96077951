-- A buffer too short, and the line.
use Rattle.std.proofs.Common.{◌≡◌, ◌∙◌, arith}
use Rattle.texts.specs.Buffer.{Room}
use Rattle.texts.proofs.Writing.{wrote_is}
use Rattle.texts.proofs.Filing.{wrote_files}
use Rattle.wording.specs.Sentence.{stop_line}
use Rattle.wording.proofs.Lengths.{stop_fits}
use Rattle.wording.proofs.Entry.{stop_short_for, stop_line_for}
use Rattle.sentences.proofs.stop.Goals as goal

pub returns-then-out-lt-ROOM-clause-fact : goal.returns-then-out-lt-ROOM-clause-fact
returns-then-out-lt-ROOM-clause-fact c = stop_short_for _ _ c.if-out-lt-ROOM.true

pub returns-clause-fact : goal.returns-clause-fact
returns-clause-fact c =
    let room : Room c.args.out.now 0 (stop_line c.args.code) =
    record { fits = omega (arith, stop_fits c.args.code (omega arith), c.if-out-lt-ROOM.false) } in
    let said : c.say_stop.new.line ≡ stop_line c.args.code = rw c.new-line.ensures at c.say_stop.ensures.said in
    wrote_files room (wrote_is said c.put.ensures) ∙ stop_line_for _ _ c.if-out-lt-ROOM.false
