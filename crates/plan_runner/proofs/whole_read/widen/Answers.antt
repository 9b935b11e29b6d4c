use Rattle.std.proofs.Common.{subst}
use Rattle.plan_runner.specs.declared.next.Running.{Running}
use Rattle.plan_runner.specs.Runners.{idle}
use Rattle.plan_runner.specs.Sound.{AsksWithin}
use Rattle.plan_runner.proofs.WindowMoves.{range_idle}
use Rattle.plan_runner.proofs.WindowReplies.{widens_asking}
use Rattle.plan_runner.proofs.whole_read.widen.Goals as goal

pub decide-requires-clause-range : goal.decide-requires-clause-range
decide-requires-clause-range c = range_idle c.in-ReadingWhole.grant c.in-ReadingWhole.bound c.in-ReadingWhole.window
    c.args.bytes.now c.args.site.now c.args.facts.now
    (subst (λ (r : Running). AsksWithin c.args.facts.now (idle r c.args.bytes.now c.args.site.now c.args.facts.now))
    c.in-ReadingWhole.is c.requires.range)

pub returns-in-ReadingWhole : goal.returns-in-ReadingWhole
returns-in-ReadingWhole c = let d = c.decide.ensures c.args.bytes.now c.args.site.now in record {
  goes = rw c.in-ReadingWhole.is d.goes;
  left = rw c.in-ReadingWhole.is d.left;
  sound = d.sound;
  pends = rw c.in-ReadingWhole.is d.pends;
  asks = rw c.in-ReadingWhole.is
      (widens_asking c.in-ReadingWhole.grant c.in-ReadingWhole.bound c.in-ReadingWhole.window c.args.place
      c.args.site.now
      c.decide.result d.asks);
  reads = λ on. rw c.in-ReadingWhole.is d.reads;
}
