-- What is written behind the bytes said so far is said.
use Rattle.std.proofs.Common.{rules, ◌+◌, ◌≤◌, ◌++◌, length, ap, ◌∙◌}
use Rattle.texts.specs.Decimal.{decimal}
use Rattle.texts.proofs.Texts.{take_pasted}
use Rattle.texts.proofs.line.Line.number.Goals as goal

pub returns : goal.returns
returns g c =
    let E = c.number-self-inside.ensures in
    let I = c.self.inside in
    let room : I.len + length (decimal c.args.n) ≤ length I.bytes = search rules in
    rw (E.next, E.bytes)
    (take_pasted I.bytes I.len (decimal c.args.n) room ∙ ap (λ l. l ++ decimal c.args.n) c.self.view_is)
