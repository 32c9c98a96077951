-- Nothing goes on, the byte is held, or it was the last of a call.
use Rattle.std.proofs.Common.{◌+◌, set, refl, sym, ◌∙◌, rules}
use Rattle.rows.specs.Memory.{within}
use Rattle.lister.proofs.Holding.{stays, still_few, one_more_held, not_yet, now_taken}
use Rattle.lister.proofs.Lister.byte.Goals as goal

pub returns-then-not-self-clause-feeds : goal.returns-then-not-self-clause-feeds
returns-then-not-self-clause-feeds c =
    let args = c.args in
    stays args.form args.byte args.self.now (within args.memory.now) args.out.now args.used
    c.if-not-self.true

pub returns-then-whole-clause-feeds : goal.returns-then-whole-clause-feeds
returns-then-whole-clause-feeds c =
    let args = c.args in
    now_taken args.form args.byte args.self.now (within args.memory.now) args.out.now args.used _
    (one_more_held args.self.now.bytes args.self.now.held args.byte (search rules))
    c.if-not-self.false
    (sym c.whole.ensures ∙ c.if-whole.true) _ _ _ _ c.answer.ensures.feeds

pub invariant_of-self : goal.invariant_of-self
invariant_of-self c =
    let l = c.args.self.now in
    record {
      few =
          still_few (set l.bytes l.held c.args.byte) (l.held + 1) (search rules)
          (sym c.whole.ensures ∙ c.if-whole.false);
    }

pub returns-clause-feeds : goal.returns-clause-feeds
returns-clause-feeds c =
    let args = c.args in
    not_yet args.form args.byte args.self.now (within args.memory.now) args.out.now args.used _
    (one_more_held args.self.now.bytes args.self.now.held args.byte (search rules))
    c.if-not-self.false
    (sym c.whole.ensures ∙ c.if-whole.false) _ refl
