use Rattle.std.proofs.Common.{rules, arith}
use Rattle.rows.specs.Memory.{within}
use Rattle.lister.proofs.Holding.{none_fed, one_fed}
use Rattle.lister.proofs.Lister.feed.Goals as goal

pub loop-byte-init : goal.loop-byte-init
loop-byte-init c =
    let args = c.args in
    record {
      room = omega arith;
      same = search rules;
      feeds = none_fed args.form args.self.now (within args.memory.now) args.out.now;
    }

pub loop-byte-preserved : goal.loop-byte-preserved
loop-byte-preserved c =
    let args = c.args in
    let loop = c.loop-byte in
    record {
      room = omega (arith, c.byte-used.ensures.room, loop.invariant.room);
      same = search rules;
      feeds =
          one_fed args.form args.self.now (within args.memory.now) args.out.now args.part.now loop.byte-index
          c.loop-byte-test.true loop.self loop.used _ _ loop.invariant.feeds
          (omega (arith, c.requires, loop.invariant.room, c.loop-byte-test.true)) _ _ _ _ c.byte-used.ensures.feeds;
    }
