use Rattle.plan_window.proofs.PlainLaws.{moves_are, moves_in_range, plain_within}
use Rattle.plan_window.proofs.window.Window.next_move.Goals as goal

pub plain_move-requires-clause-within : goal.plain_move-requires-clause-within
plain_move-requires-clause-within c = plain_within c.args.bound c.args.self.now c.args.facts.now c.requires.sound
    c.requires.range

pub returns-clause-goes : goal.returns-clause-goes
returns-clause-goes c = moves_are c.args.bound c.args.self.now c.args.facts.now c.plain_move.result c.requires.sound
    c.plain_move.ensures

pub returns-clause-range : goal.returns-clause-range
returns-clause-range c = moves_in_range c.args.bound c.args.self.now c.args.facts.now c.plain_move.result
    c.requires.sound c.requires.range c.plain_move.ensures
