use Rattle.std.proofs.Common.{◌≡◌, take}
use Rattle.transfer_sync.specs.PathMaps.{path_set}
use Rattle.transfer_sync.specs.Paths.{no_path}
use Rattle.transfer_sync.specs.Verdicts.{blocked_after_entries}
use Rattle.transfer_sync.proofs.plan.find_blocked.Given as goal

abbrev pub invariant-loop-entry : goal.invariant-loop-entry
invariant-loop-entry l = path_set l.blocked ≡ blocked_after_entries (path_set l.gone) l.target.entries no_path
    (take l.entry-index l.source)
