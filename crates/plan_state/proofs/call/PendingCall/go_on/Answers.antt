use Rattle.std.proofs.Common.{rules, ap}
use Rattle.plan_state.specs.declared.stage.Stage.TheVariants.{Came}
use Rattle.plan_state.specs.Calls.{CallValue}
use Rattle.plan_state.specs.Told.{reply_of}
use Rattle.plan_state.proofs.Going.{asks_behind, done_leaves}
use Rattle.plan_state.proofs.call.PendingCall.go_on.Goals as goal

pub returns-in-Ask-clause-went : goal.returns-in-Ask-clause-went
returns-in-Ask-clause-went g c = λ w plan answers known came same.
    c.send.ensures.went w plan answers
    (asks_behind g.M.PlanRunner.meaning w plan answers c.in-Ask.asking c.self.inside.runner c.args.self.now.runner
    c.on.new.self (reply_of c.args.told) (ap (λ (x : CallValue g.row.M.Denot). x.runner) c.self.view_is)
    (c.in-Ask.ensures.follows w answers) known came same)

pub returns-in-Ask-clause-leaves : goal.returns-in-Ask-clause-leaves
returns-in-Ask-clause-leaves g c = c.send.ensures.leaves (Came c.args.told) c.in-Ask.ensures.gives

pub returns-in-Done-clause-leaves : goal.returns-in-Done-clause-leaves
returns-in-Done-clause-leaves g c =
    done_leaves g.M.PlanRunner.meaning c.args.core.now c.args.told _ c.in-Done.value (search rules) (search rules)
    c.requires.came.counted c.in-Done.ensures.gives
