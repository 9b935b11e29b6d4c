use Rattle.std.proofs.Common.{rules, ◌≡◌}
use Rattle.plan_state.specs.declared.stage.Stage.TheVariants.{Came}
use Rattle.plan_state.specs.declared.told.Told.TheVariants as told
use Rattle.plan_state.proofs.OthersKept.{cancels_by}
use Rattle.plan_state.proofs.stage.Stage.cancel.Goals as goal

pub close-requires : goal.close-requires
close-requires c =
    let is : c.args.self ≡ Came (told.Granted c.in-Came-Granted.grant) = search rules in
    c.requires.counted (told.Granted c.in-Came-Granted.grant) is

pub returns-in-Asked : goal.returns-in-Asked
returns-in-Asked c = cancels_by c.args.core.now c.abandon.new.self c.args.self c.requires.ticket c.requires.counted
    (search rules)

pub returns-in-Came-Granted : goal.returns-in-Came-Granted
returns-in-Came-Granted c = cancels_by c.args.core.now c.close.new.core c.args.self c.requires.ticket c.requires.counted
    (search rules)
