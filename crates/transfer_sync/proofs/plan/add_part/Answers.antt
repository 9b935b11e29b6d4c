use Rattle.std.proofs.Common.{◌∙◌, ◌<◌, ap, sym, arith, length}
use Rattle.transfer_sync.proofs.LoopSteps.{choice_with, choice_without}
use Rattle.transfer_sync.specs.PathMaps.{path_set}
use Rattle.transfer_sync.specs.Actions.{action_of, is_in_part}
use Rattle.transfer_sync.proofs.plan.add_part.Goals as goal
use Rattle.transfer_sync.proofs.plan.add_part.Goals.{then-is_in_part+in_ok-action_of+in_ok-push, else-is_in_part}

pub loop-entry-preserved : goal.loop-entry-preserved
loop-entry-preserved c =
    let test = is_in_part c.args.survey.now.rules c.args.part (path_set c.args.survey.now.gone)
    c.args.target.now.entries (path_set c.args.survey.now.blocked) in
    let source = c.args.source.now in
    let i = c.loop-entry.entry-index in
    let within : i < length source = omega arith in
    elim c.if-is_in_part.branch [
      | then-is_in_part+in_ok-action_of+in_ok-push w ↦
          ap (λ v. v.items) w.actions-is
          ∙ (w.in_ok-push.ensures.items
          ∙ choice_with test (action_of c.args.part) source i c.entry-item.result c.args.actions.now.items
          c.loop-entry.actions.items
          w.in_ok-action_of.field-0 within c.entry-item.is (sym c.is_in_part.ensures ∙ w.if-is_in_part.true)
          w.in_ok-action_of.ensures
          c.loop-entry.invariant)
      | else-is_in_part w ↦
          ap (λ v. v.items) w.actions-is
          ∙ choice_without test (action_of c.args.part) source i c.entry-item.result c.args.actions.now.items
          c.loop-entry.actions.items
          within c.entry-item.is (sym c.is_in_part.ensures ∙ w.if-is_in_part.false) c.loop-entry.invariant
    ]
