use Rattle.std.proofs.Common.{◌∙◌, ◌<◌, [], ap, sym, arith, length, rules}
use Rattle.transfer_sync.proofs.LoopSteps.{choice_with, choice_without}
use Rattle.transfer_sync.specs.PathMaps.{path_set}
use Rattle.transfer_sync.specs.Verdicts.{is_conflict}
use Rattle.transfer_sync.specs.declared.entry.Entry.{Entry}
use Rattle.transfer_sync.proofs.plan.find_conflicts.Goals as goal
use Rattle.transfer_sync.proofs.plan.find_conflicts.Goals.{then-is_conflict+in_ok-from_slice+in_ok-push, else-is_conflict}

pub loop-entry-preserved : goal.loop-entry-preserved
loop-entry-preserved c =
    let test = is_conflict (path_set c.args.gone.now) c.args.target.now.entries (path_set c.args.blocked.now) in
    let source = c.args.source.now in
    let i = c.loop-entry.entry-index in
    let within : i < length source = omega arith in
    let path = λ (e : Entry). e.path in
    elim c.if-is_conflict.branch [
      | then-is_conflict+in_ok-from_slice+in_ok-push w ↦
          ap (λ v. v.items) w.conflicts-is
          ∙ (w.in_ok-push.ensures.items
          ∙ choice_with test path source i c.entry-item.result [] c.loop-entry.conflicts.items
          w.new.result within c.entry-item.is (sym c.is_conflict.ensures ∙ w.if-is_conflict.true) (search rules)
          c.loop-entry.invariant)
      | else-is_conflict w ↦
          ap (λ v. v.items) w.conflicts-is
          ∙ choice_without test path source i c.entry-item.result [] c.loop-entry.conflicts.items
          within c.entry-item.is (sym c.is_conflict.ensures ∙ w.if-is_conflict.false) c.loop-entry.invariant
    ]
