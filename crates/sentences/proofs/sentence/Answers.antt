-- A buffer too short, a call out of range, and the line.
use Rattle.std.proofs.Common.{◌≡◌, sym, ◌∙◌, arith}
use Rattle.calls.proofs.Answers.{Words}
use Rattle.texts.specs.Buffer.{Room}
use Rattle.texts.proofs.Writing.{wrote_is}
use Rattle.texts.proofs.Filing.{wrote_files}
use Rattle.wording.specs.Sentence.{sentence}
use Rattle.wording.proofs.Lengths.{sentence_fits}
use Rattle.wording.proofs.Entry.{short_for, range_for, line_for}
use Rattle.sentences.proofs.sentence.Goals as goal

pub returns-then-out-lt-ROOM-clause-fact : goal.returns-then-out-lt-ROOM-clause-fact
returns-then-out-lt-ROOM-clause-fact c = short_for _ _ _ c.if-out-lt-ROOM.true

pub returns-then-not-in_range-clause-fact : goal.returns-then-not-in_range-clause-fact
returns-then-not-in_range-clause-fact c =
    range_for _ _ _ c.if-out-lt-ROOM.false (sym c.in_range.ensures ∙ c.if-not-in_range.true)

pub returns-clause-fact : goal.returns-clause-fact
returns-clause-fact c =
    let words : Words c.args.answer =
    record { code = omega arith; count = omega arith; badge = omega arith; message = omega arith } in
    let ranged = sym c.in_range.ensures ∙ c.if-not-in_range.false in
    let room : Room c.args.out.now 0 (sentence c.args.call c.args.answer) =
    record { fits = omega (arith, sentence_fits c.args.call c.args.answer ranged words, c.if-out-lt-ROOM.false) } in
    let said : c.say.new.line ≡ sentence c.args.call c.args.answer = rw c.new-line.ensures at c.say.ensures.said in
    wrote_files room (wrote_is said c.put.ensures) ∙ line_for _ _ _ c.if-out-lt-ROOM.false ranged
