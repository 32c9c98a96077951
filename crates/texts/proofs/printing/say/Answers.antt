-- The text is copied over the part of the buffer that is as long.
use Rattle.std.proofs.Common.{length, refl, ◌-◌, ◌+◌, arith}
use Rattle.texts.proofs.Writing.{copied_over}
use Rattle.texts.proofs.printing.say.Goals as goal

pub returns : goal.returns
returns c =
    let args = c.args in
    copied_over args.out.now args.text.now _ c.copy_from_slice.new.self args.at
    (args.at + length args.text.now - args.at) (omega arith) c.copy_from_slice.ensures.after refl
