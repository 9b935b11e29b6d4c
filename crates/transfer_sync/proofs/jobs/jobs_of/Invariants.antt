use Rattle.std.proofs.Common.{◌≡◌, ◌++◌, take}
use Rattle.transfer_sync.specs.Jobs.{jobs_of}
use Rattle.transfer_sync.proofs.jobs.jobs_of.Given as goal

abbrev pub invariant-loop-action : goal.invariant-loop-action
invariant-loop-action l =
    l.jobs.items ≡ l.initial.jobs.items ++ jobs_of l.roots l.source.entries l.phase (take l.action-index l.actions)
