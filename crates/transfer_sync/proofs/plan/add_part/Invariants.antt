use Rattle.std.proofs.Common.{◌≡◌, ◌++◌, take}
use Rattle.transfer_sync.specs.PathMaps.{path_set}
use Rattle.transfer_sync.specs.Actions.{actions_of_part}
use Rattle.transfer_sync.proofs.plan.add_part.Given as goal

abbrev pub invariant-loop-entry : goal.invariant-loop-entry
invariant-loop-entry l = l.actions.items ≡ l.initial.actions.items
    ++ actions_of_part l.survey.rules l.part (path_set l.survey.gone) l.target.entries (path_set l.survey.blocked)
    (take l.entry-index l.source)
