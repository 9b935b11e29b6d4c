use Rattle.std.proofs.Common.{◌≡◌, rules, [], None}
use Rattle.plan_window.specs.Windows.{first_of}
use Rattle.plan_runner.proofs.WindowMoves.{range_alone, sounds_here, widened_if_ok}
use Rattle.plan_runner.proofs.whole_read.read_on.Goals as goal

pub decide-requires-clause-range : goal.decide-requires-clause-range
decide-requires-clause-range c = (let none : first_of c.args.window.waiting ≡ None = search rules in
    range_alone c.args.grant c.args.bound c.args.window [] c.args.site.now c.args.turn.facts none c.requires.range)

pub returns-in-None : goal.returns-in-None
returns-in-None c bytes = let d = c.decide.ensures bytes c.args.site.now in record {
  goes = (let none : first_of c.args.window.waiting ≡ None = search rules in
      widened_if_ok c.args.grant c.args.bound c.args.window c.args.turn.place bytes c.args.site.now c.args.turn.facts
      c.decide.result none d.goes);
  left = d.left;
  sound = sounds_here bytes c.args.site.now c.args.turn.facts c.decide.result d.sound;
  pends = d.pends;
  asks = d.asks;
  reads = d.reads;
}
