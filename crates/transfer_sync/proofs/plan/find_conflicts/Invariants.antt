use Rattle.std.proofs.Common.{◌≡◌, take}
use Rattle.transfer_sync.specs.PathMaps.{path_set}
use Rattle.transfer_sync.specs.Verdicts.{choice_of, is_conflict}
use Rattle.transfer_sync.specs.declared.entry.Entry.{Entry}
use Rattle.transfer_sync.proofs.plan.find_conflicts.Given as goal

abbrev pub invariant-loop-entry : goal.invariant-loop-entry
invariant-loop-entry l = l.conflicts.items
    ≡ choice_of (is_conflict (path_set l.gone) l.target.entries (path_set l.blocked)) (λ (e : Entry). e.path)
    (take l.entry-index l.source)
